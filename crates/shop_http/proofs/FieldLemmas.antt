-- The fields of a name, one after another, and a number's digits.
use Rattle.std.proofs.Common.{◌≡◌, ℕ, ◌+◌, ◌-◌, ◌*◌, ◌<◌, ◌≤◌, List, [], ◌∷◌, ◌++◌, map, filter, codes, Bool, true, false, ◌||◌, if◌then◌else◌, refl, sym, ap, ◌∙◌, length, take, get_or, arith, min}
use Rattle.std.specs.List.{list_all, list_any}
use Rattle.std.specs.Char.{is_ascii_digit, digit_value}
use Rattle.std.specs.Str.{str_eq_ignore_ascii_case}
use Rattle.std.specs.Str.Parse.{digits_value}
use Rattle.std.specs.Prelude.{nat_le}
use Rattle.std.proofs.lemmas.Bool.{and_parts, leb-true}
use Rattle.std.proofs.lemmas.Str.{digit_value_digit}
use Rattle.std.proofs.lemmas.Int.Digits.{digits_value_more}
use Rattle.std.proofs.lemmas.List.Sums.{AllPass-from_list_all}
use Rattle.std.proofs.lemmas.List.Elements.{filter-append}
use Rattle.std.proofs.lemmas.List.Folds.{list_any-append}
use Rattle.std.proofs.lemmas.List.{append-nil, map-append, map_more}
use Rattle.httparse.specs.declared.spans.HeaderSpan.{HeaderSpan}
use Rattle.httparse.specs.Spans.{header_bytes}
use Rattle.shop_http.specs.declared.fields.Fields.{Fields}
use Rattle.shop_http.specs.Requests.{Field, missing, field_of}
use Rattle.shop_http.specs.Heads.{asks_to_close, is_closing, values, given, named}
use Rattle.shop_http.specs.Words.{AreFields, HasOneMore, once_more}

abbrev Pair : Type 0
Pair = List ℕ × List ℕ

given_push : (vs : List (List ℕ)) (v : List ℕ) → given (vs ++ v ∷ []) ≡ once_more (given vs) v
given_push [] v = refl
given_push (w ∷ []) v = refl
given_push (w ∷ u ∷ vs) v = refl

-- ---- one field more

module _ (name : List ℕ) where
  abbrev has_name : Pair → Bool
  has_name f = str_eq_ignore_ascii_case f.0 name

  values_push : (fs : List Pair) (f : Pair) → values name (fs ++ f ∷ []) ≡ values name fs ++ map (λ (g : Pair). g.1) (filter has_name (f ∷ []))
  unfolding values
  values_push fs f =
      ap (map (λ (g : Pair). g.1)) (filter-append has_name fs (f ∷ [])) ∙ map-append (λ (g : Pair). g.1) (filter has_name fs) (filter has_name (f ∷ []))

  given_more : (vs : List (List ℕ)) (f : Pair) (b : Bool) → given (vs ++ map (λ (g : Pair). g.1) (if b then f ∷ [] else []))
      ≡ (if b then once_more (given vs) f.1 else given vs)
  given_more vs f true = given_push vs f.1
  given_more vs f false = ap given (append-nil vs)

  pub named_push : (fs : List Pair) (f : Pair) → named name (fs ++ f ∷ []) ≡ (if str_eq_ignore_ascii_case f.0 name then once_more (named name fs) f.1 else named name fs)
  unfolding named
  named_push fs f = ap given (values_push fs f) ∙ given_more (values name fs) f (has_name f)

pub named_more : (name region : List ℕ) (hs : List HeaderSpan) (i : ℕ) (d : HeaderSpan) (old new : Field) → i < length hs
    → old ≡ named name (map (header_bytes region) (take i hs))
    → new ≡ (if str_eq_ignore_ascii_case (header_bytes region (get_or hs i d)).0 name then once_more old (header_bytes region (get_or hs i d)).1 else old)
    → new ≡ named name (map (header_bytes region) (take (i + 1) hs))
named_more name region hs i d old new within before after =
    after ∙ ap (λ (o : Field). if str_eq_ignore_ascii_case (header_bytes region (get_or hs i d)).0 name then once_more o (header_bytes region (get_or hs i d)).1 else o) before
    ∙ sym (ap (named name) (map_more (header_bytes region) hs i d within) ∙ named_push name (map (header_bytes region) (take i hs)) (header_bytes region (get_or hs i d)))

named_none : (name : List ℕ) → named name [] ≡ missing
unfolding named values
named_none name = refl

closing_none : asks_to_close [] ≡ false
unfolding asks_to_close
closing_none = refl

or_false : (b : Bool) → (b || false) ≡ b
or_false true = refl
or_false false = refl

closing_push : (fs : List Pair) (f : Pair) → asks_to_close (fs ++ f ∷ []) ≡ (asks_to_close fs || is_closing f)
unfolding asks_to_close
closing_push fs f = list_any-append is_closing fs (f ∷ []) ∙ ap (λ b. list_any is_closing fs || b) (or_false (is_closing f))

-- no field is there yet
pub no_fields : (found : Fields) (fs : List Pair) → fs ≡ [] → field_of found.length ≡ missing → field_of found.coding ≡ missing → field_of found.language ≡ missing → field_of found.version ≡ missing
    → field_of found.inheritance ≡ missing → field_of found.min_front ≡ missing → found.closing ≡ false → AreFields found fs
no_fields found fs e a b c d f g h =
    let none : (name : List ℕ) (x : Field) → x ≡ missing → x ≡ named name fs = λ name x k. k ∙ sym (ap (named name) e ∙ named_none name) in
    record {
      length = none (codes "content-length") (field_of found.length) a;
      coding = none (codes "transfer-encoding") (field_of found.coding) b;
      language = none (codes "x-language-id") (field_of found.language) c;
      version = none (codes "x-version-id") (field_of found.version) d;
      inheritance = none (codes "x-inheritance") (field_of found.inheritance) f;
      min_front = none (codes "x-min-front") (field_of found.min_front) g;
      closing = h ∙ sym (ap asks_to_close e ∙ closing_none);
    }

-- and one field more
pub fields_more : (region : List ℕ) (hs : List HeaderSpan) (i : ℕ) (d : HeaderSpan) (old new : Fields) → i < length hs
    → AreFields old (map (header_bytes region) (take i hs)) → HasOneMore old (header_bytes region (get_or hs i d)) new
    → AreFields new (map (header_bytes region) (take (i + 1) hs))
fields_more region hs i d old new within a h = record {
  length = named_more (codes "content-length") region hs i d (field_of old.length) (field_of new.length) within a.length h.length;
  coding = named_more (codes "transfer-encoding") region hs i d (field_of old.coding) (field_of new.coding) within a.coding h.coding;
  language = named_more (codes "x-language-id") region hs i d (field_of old.language) (field_of new.language) within a.language h.language;
  version = named_more (codes "x-version-id") region hs i d (field_of old.version) (field_of new.version) within a.version h.version;
  inheritance = named_more (codes "x-inheritance") region hs i d (field_of old.inheritance) (field_of new.inheritance) within a.inheritance h.inheritance;
  min_front = named_more (codes "x-min-front") region hs i d (field_of old.min_front) (field_of new.min_front) within a.min_front h.min_front;
  closing = h.closing ∙ ap (λ b. b || is_closing (header_bytes region (get_or hs i d))) a.closing
      ∙ sym (ap asks_to_close (map_more (header_bytes region) hs i d within) ∙ closing_push (map (header_bytes region) (take i hs)) (header_bytes region (get_or hs i d)));
}

-- ---- digits

pub digit_at : (text : List ℕ) (i : ℕ) → list_all is_ascii_digit text ≡ true → i < length text
    → (48 ≤ get_or text i 0) × (get_or text i 0 ≤ 57) × (digit_value (get_or text i 0) + 48 ≡ get_or text i 0)
digit_at text i all within = in_range (get_or text i 0) (AllPass-from_list_all is_ascii_digit text all i 0 within)
  where
    in_range : (c : ℕ) → is_ascii_digit c ≡ true → (48 ≤ c) × (c ≤ 57) × (digit_value c + 48 ≡ c)
    in_range c e =
        let both = and_parts (nat_le 48 c) (nat_le c 57) e in
        let low : 48 ≤ c = leb-true 48 c both.0 in
        let high : c ≤ 57 = leb-true c 57 both.1 in
        (low, high, digit_value_digit c (low, high))

pub number_more : (text : List ℕ) (i n : ℕ) → list_all is_ascii_digit text ≡ true → i < length text
    → n ≡ min (digits_value 10 (take i text)) 1048577
    → min (n * 10 + (get_or text i 0 - 48)) 1048577 ≡ min (digits_value 10 (take (i + 1) text)) 1048577
number_more text i n all within e =
    let d = digit_at text i all within in
    let more : digits_value 10 (take (i + 1) text) ≡ digits_value 10 (take i text) * 10 + digit_value (get_or text i 0) = digits_value_more 10 text i within in
    omega (arith, d.0, d.1, d.2, more)

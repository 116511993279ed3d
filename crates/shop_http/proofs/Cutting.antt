-- Each way in which the cut goes, and that it keeps what a cut has to keep.
use Rattle.std.proofs.Common.{◌≡◌, ℕ, ◌+◌, ◌<◌, ◌≤◌, Bool, false, ◌==◌, ◌||◌, nat_le, List, ◌++◌, length, take, drop, map, if◌then◌else◌, refl, sym, ap, ◌∙◌, subst, inl, inr, arith, length-append, length-drop, length-take, take-append-drop, append-nil, ◌⊎◌, Option, Some, None, Result, Ok, Err, [], ◌∷◌}
use Rattle.std.specs.Prelude.{codes}
use Rattle.std.proofs.lemmas.Bool.{cases_lt, lt-ltb, le-ltb, le-leb, lt-leb}
use Rattle.std.proofs.lemmas.List.{take-append-le, drop-append-le, length-take-le}
use Rattle.httparse.specs.Grammar.{RequestHead}
use Rattle.httparse.specs.Spans.{header_bytes, span_bytes}
use Rattle.httparse.specs.declared.spans.HeaderSpan.{HeaderSpan}
use Rattle.httparse.specs.declared.spans.RequestSpans.{RequestSpans}
use Rattle.shop_http.specs.declared.next.HeadFault.{HeadFault}
use Rattle.shop_http.specs.declared.next.HeadFault.TheVariants.{BadHead, TooLarge}
use Rattle.shop_http.specs.declared.next.Head.{Head}
use Rattle.shop_http.specs.declared.next.Next.{Next}
use Rattle.shop_http.specs.declared.next.Next.TheVariants.{Whole, More, Nothing, Cut, Fatal}
use Rattle.shop_http.specs.declared.region.Begun.{Begun}
use Rattle.shop_http.specs.Requests.{Request, Field, missing, once, twice, Front, whole, part, bad, IsCut, IsNext, IsNextLook, IsSettledAt, request_of, field_of}
use Rattle.shop_http.specs.HeadReader.{head_of}
use Rattle.shop_http.specs.Heads.{head_end, fields_of, named, length_of, size_of, body_size, asks_to_close, request_with, sized, judged, with_body, cut_at, head_cut}
use Rattle.shop_http.specs.Laws.{longest}
use Rattle.shop_http.specs.declared.fields.Fields.{Fields}
use Rattle.shop_http.specs.Words.{AreFields, IsFound, IsJudged, IsUnfinished, front_from}
use Rattle.shop_http.proofs.Ends.{end_within, end_more, end_late}
use Rattle.shop_http.proofs.HeadReading.{heads_are_read}

abbrev Judged : Type 0
Judged = Result (RequestHead × ℕ) HeadFault

-- what is made of the first n bytes
abbrev the_region : ℕ → List ℕ → Judged
the_region n bytes = judged (head_of (take n bytes))

-- ---- each way

cut_is : (bytes : List ℕ) (o : Option ℕ) → head_end bytes ≡ o → head_cut bytes ≡ cut_at o bytes
unfolding head_cut
cut_is bytes o e = ap (λ (p : Option ℕ). cut_at p bytes) e

pub cut_waits : (bytes : List ℕ) → head_end bytes ≡ None → length bytes < 16384 → head_cut bytes ≡ part
cut_waits bytes e less =
    cut_is bytes None e ∙ ap (λ (t : Bool). if t then part else bad BadHead) (lt-ltb (length bytes) 16384 less)

cut_endless : (bytes : List ℕ) → head_end bytes ≡ None → 16384 ≤ length bytes → head_cut bytes ≡ bad BadHead
cut_endless bytes e long =
    cut_is bytes None e ∙ ap (λ (t : Bool). if t then part else bad BadHead) (le-ltb (length bytes) 16384 long)

cut_long : (bytes : List ℕ) (n : ℕ) → head_end bytes ≡ Some n → 16384 < n → head_cut bytes ≡ bad BadHead
cut_long bytes n e long =
    cut_is bytes (Some n) e ∙ ap (λ (t : Bool). if t then with_body (the_region n bytes) n (drop n bytes) else bad BadHead) (lt-leb n 16384 long)

pub cut_head : (bytes : List ℕ) (n : ℕ) (r : Judged) → head_end bytes ≡ Some n → n ≤ 16384 → the_region n bytes ≡ r
    → head_cut bytes ≡ with_body r n (drop n bytes)
cut_head bytes n r e fits j =
    cut_is bytes (Some n) e ∙ ap (λ (t : Bool). if t then with_body (the_region n bytes) n (drop n bytes) else bad BadHead) (le-leb n 16384 fits)
    ∙ ap (λ (s : Judged). with_body s n (drop n bytes)) j

body_there : (p : RequestHead × ℕ) (used : ℕ) (behind : List ℕ) → p.1 ≤ length behind
    → with_body (Ok p) used behind ≡ whole (request_with p.0 (take p.1 behind)) (used + p.1)
body_there p used behind fits =
    ap (λ (t : Bool). if t then whole (request_with p.0 (take p.1 behind)) (used + p.1) else part) (le-leb p.1 (length behind) fits)

body_short : (p : RequestHead × ℕ) (used : ℕ) (behind : List ℕ) → length behind < p.1 → with_body (Ok p) used behind ≡ part
body_short p used behind less =
    ap (λ (t : Bool). if t then whole (request_with p.0 (take p.1 behind)) (used + p.1) else part) (lt-leb p.1 (length behind) less)

data Way (bytes : List ℕ) : Type 0 where
  waits : length bytes < 16384 → head_cut bytes ≡ part → Way bytes
  endless : head_end bytes ≡ None → 16384 ≤ length bytes → head_cut bytes ≡ bad BadHead → Way bytes
  long : (n : ℕ) → head_end bytes ≡ Some n → 16384 < n → head_cut bytes ≡ bad BadHead → Way bytes
  faulty : (n : ℕ) (f : HeadFault) → head_end bytes ≡ Some n → n ≤ 16384 → the_region n bytes ≡ Err f → head_cut bytes ≡ bad f → Way bytes
  begun : (n : ℕ) (p : RequestHead × ℕ) → head_end bytes ≡ Some n → n ≤ 16384 → the_region n bytes ≡ Ok p → length (drop n bytes) < p.1
      → head_cut bytes ≡ part → Way bytes
  complete : (n : ℕ) (p : RequestHead × ℕ) → head_end bytes ≡ Some n → n ≤ 16384 → the_region n bytes ≡ Ok p → p.1 ≤ length (drop n bytes)
      → head_cut bytes ≡ whole (request_with p.0 (take p.1 (drop n bytes))) (n + p.1) → Way bytes

region_way : (bytes : List ℕ) (n : ℕ) → head_end bytes ≡ Some n → n ≤ 16384 → (r : Judged) → the_region n bytes ≡ r → Way bytes
region_way bytes n e fits (Err f) j = faulty n f e fits j (cut_head bytes n (Err f) e fits j)
region_way bytes n e fits (Ok p) j = elim (cases_lt (length (drop n bytes)) p.1) as (λ _. Way bytes) [
  | inl less ↦ begun n p e fits j less (cut_head bytes n (Ok p) e fits j ∙ body_short p n (drop n bytes) less)
  | inr there ↦ complete n p e fits j there (cut_head bytes n (Ok p) e fits j ∙ body_there p n (drop n bytes) there)
]

end_way : (bytes : List ℕ) (o : Option ℕ) → head_end bytes ≡ o → Way bytes
end_way bytes None e = elim (cases_lt (length bytes) 16384) as (λ _. Way bytes) [
  | inl less ↦ waits less (cut_waits bytes e less)
  | inr far ↦ endless e far (cut_endless bytes e far)
]
end_way bytes (Some n) e = elim (cases_lt 16384 n) as (λ _. Way bytes) [
  | inl far ↦ long n e far (cut_long bytes n e far)
  | inr fits ↦ region_way bytes n e fits (the_region n bytes) refl
]

way : (bytes : List ℕ) → Way bytes
way bytes = end_way bytes (head_end bytes) refl

-- ---- no body that is taken is too large

abbrev size_if : ℕ → Bool → Result ℕ HeadFault
size_if n t = if t then Ok n else Err TooLarge

abbrev size_is : ℕ → Result ℕ HeadFault
size_is n = Ok n

size_at_most : (m n : ℕ) → size_is m ≡ size_is n → m ≤ 1048576 → n ≤ 1048576
size_at_most m n same fits = let equal : m ≡ n = cc in omega arith

size_small : (r : Result ℕ HeadFault) (coding : Field) (n : ℕ) → size_of r coding ≡ Ok n → n ≤ 1048576
size_small (Err f) coding n e = absurd (cc)
size_small (Ok m) (once v) n e = absurd (cc)
size_small (Ok m) twice n e = absurd (cc)
size_small (Ok m) missing n e = elim (cases_lt 1048576 m) as (λ _. n ≤ 1048576) [
  | inl large ↦ (let none : size_if m false ≡ size_is n = ap (size_if m) (sym (lt-leb m 1048576 large)) ∙ e in absurd (cc))
  | inr fits ↦ (let some : size_is m ≡ size_is n = ap (size_if m) (sym (le-leb m 1048576 fits)) ∙ e in size_at_most m n some fits)
]

body_small : (fields : List (List ℕ × List ℕ)) (n : ℕ) → body_size fields ≡ Ok n → n ≤ 1048576
unfolding body_size
body_small fields n e = size_small (length_of (named (codes "content-length") fields)) (named (codes "transfer-encoding") fields) n e

sized_small : (h : RequestHead) (r : Result ℕ HeadFault) → ((n : ℕ) → r ≡ Ok n → n ≤ 1048576) → (p : RequestHead × ℕ) → sized h r ≡ Ok p → p.1 ≤ 1048576
sized_small h (Err f) small p e = absurd (cc)
sized_small h (Ok n) small p e = (let same : (h, n) ≡ p = cc in omega (arith, small n refl, ap (λ (q : RequestHead × ℕ). q.1) same))

judged_small : (o : Option RequestHead) (p : RequestHead × ℕ) → judged o ≡ Ok p → p.1 ≤ 1048576
judged_small None p e = absurd (cc)
judged_small (Some h) p e = sized_small h (body_size (fields_of h)) (body_small (fields_of h)) p e

-- ---- what a cut has to keep

whole_used : (r s : Request) (m n : ℕ) (front : Front HeadFault) → front ≡ whole r m → front ≡ whole s n → m ≡ n
whole_used r s m n front f g = cc

takes : (bytes : List ℕ) (r : Request) (used : ℕ) → head_cut bytes ≡ whole r used → (0 < used) × (used ≤ length bytes)
takes bytes r used h = elim (way bytes) as (λ _. (0 < used) × (used ≤ length bytes)) [
  | waits less e ↦ (let no = sym e ∙ h in absurd (cc))
  | endless o far e ↦ (let no = sym e ∙ h in absurd (cc))
  | long n o far e ↦ (let no = sym e ∙ h in absurd (cc))
  | faulty n f o fits j e ↦ (let no = sym e ∙ h in absurd (cc))
  | begun n p o fits j less e ↦ (let no = sym e ∙ h in absurd (cc))
  | complete n p o fits j there e ↦
      (let same : n + p.1 ≡ used = whole_used (request_with p.0 (take p.1 (drop n bytes))) r (n + p.1) used (head_cut bytes) e h in
      let within = end_within bytes n o in
      (omega (arith, same, within.0), omega (arith, same, within.1, length-drop n bytes, there)))
]

-- bytes without an end that are as long as a head may be are no head, whatever follows
pub endless_stays : (front more : List ℕ) → head_end front ≡ None → 16384 ≤ length front → head_cut (front ++ more) ≡ bad BadHead
endless_stays front more none far = by_end (head_end (front ++ more)) refl
  where
    by_end : (o : Option ℕ) → head_end (front ++ more) ≡ o → head_cut (front ++ more) ≡ bad BadHead
    by_end None e = cut_endless (front ++ more) e (omega (arith, length-append front more))
    by_end (Some n) e = cut_long (front ++ more) n e (omega (arith, end_late front more n none e))

-- a head and the bytes behind it, where more follow
region_stays : (bytes more : List ℕ) (n : ℕ) → head_end bytes ≡ Some n → the_region n (bytes ++ more) ≡ the_region n bytes
region_stays bytes more n e = ap (λ (t : List ℕ). judged (head_of t)) (take-append-le n bytes more (end_within bytes n e).1)

settled : (bytes more : List ℕ) → (head_cut bytes ≡ part → ⊥) → head_cut (bytes ++ more) ≡ head_cut bytes
settled bytes more never = elim (way bytes) as (λ _. head_cut (bytes ++ more) ≡ head_cut bytes) [
  | waits less e ↦ absurd (never e)
  | endless o far e ↦ endless_stays bytes more o far ∙ sym e
  | long n o far e ↦ cut_long (bytes ++ more) n (end_more bytes more n o) far ∙ sym e
  | faulty n f o fits j e ↦ cut_head (bytes ++ more) n (Err f) (end_more bytes more n o) fits (region_stays bytes more n o ∙ j) ∙ sym e
  | begun n p o fits j less e ↦ absurd (never e)
  | complete n p o fits j there e ↦
      cut_head (bytes ++ more) n (Ok p) (end_more bytes more n o) fits (region_stays bytes more n o ∙ j)
      ∙ same_body n p (drop-append-le n bytes more (end_within bytes n o).1) there ∙ sym e
]
  where
    same_body : (n : ℕ) (p : RequestHead × ℕ) → drop n (bytes ++ more) ≡ drop n bytes ++ more → p.1 ≤ length (drop n bytes)
        → with_body (Ok p) n (drop n (bytes ++ more)) ≡ whole (request_with p.0 (take p.1 (drop n bytes))) (n + p.1)
    same_body n p later there =
        ap (λ (t : List ℕ). with_body (Ok p) n t) later
        ∙ body_there p n (drop n bytes ++ more) (omega (arith, length-append (drop n bytes) more, there))
        ∙ ap (λ (t : List ℕ). whole (request_with p.0 t) (n + p.1)) (take-append-le p.1 (drop n bytes) more there)

short_part : (bytes : List ℕ) → head_cut bytes ≡ part → length bytes < longest
short_part bytes h = elim (way bytes) as (λ _. length bytes < longest) [
  | waits less e ↦ omega (arith, less)
  | endless o far e ↦ (let no = sym e ∙ h in absurd (cc))
  | long n o far e ↦ (let no = sym e ∙ h in absurd (cc))
  | faulty n f o fits j e ↦ (let no = sym e ∙ h in absurd (cc))
  | begun n p o fits j less e ↦ omega (arith, fits, less, judged_small (head_of (take n bytes)) p j, length-drop n bytes)
  | complete n p o fits j there e ↦ (let no = sym e ∙ h in absurd (cc))
]

pub the_cut : IsCut head_cut longest
the_cut = record { takes = takes; settled = settled; short = short_part }

-- ---- what the code makes of the bytes

-- of the first bytes, as many as a head may take
pub front_end : (bytes : List ℕ) (n : ℕ) → head_end (take 16384 bytes) ≡ Some n → (head_end bytes ≡ Some n) × (n ≤ length bytes) × (n ≤ 16384)
front_end bytes n e =
    let all : head_end bytes ≡ Some n =
    ap head_end (sym (take-append-drop 16384 bytes)) ∙ end_more (take 16384 bytes) (drop 16384 bytes) n e in
    let within = end_within (take 16384 bytes) n e in
    (all, (end_within bytes n all).1, omega (arith, within.1, length-take 16384 bytes))

pub front_endless : (bytes : List ℕ) → head_end (take 16384 bytes) ≡ None → 16384 ≤ length bytes → head_cut bytes ≡ bad BadHead
front_endless bytes e far =
    ap head_cut (sym (take-append-drop 16384 bytes))
    ∙ endless_stays (take 16384 bytes) (drop 16384 bytes) e (omega (arith, length-take-le 16384 bytes far))

judged_body : (b : Begun) (n : ℕ) (behind : List ℕ) (r : Judged) → IsJudged r (Ok b) → with_body r n behind ≡ front_from b n behind
judged_body b n behind (Err f) j = absurd j
judged_body b n behind (Ok p) j =
    ap (λ (k : ℕ). if nat_le k (length behind) then whole (request_with p.0 (take k behind)) (n + k) else part) (sym j.1)
    ∙ ap (λ (r : Request). if nat_le b.size (length behind) then whole r (n + b.size) else part) (sym (j.0 (take b.size behind)))

pub cut_judged : (bytes : List ℕ) (n : ℕ) (b : Begun) → head_end bytes ≡ Some n → n ≤ 16384 → IsJudged (the_region n bytes) (Ok b)
    → head_cut bytes ≡ front_from b n (drop n bytes)
cut_judged bytes n b e fits j = cut_head bytes n (the_region n bytes) e fits refl ∙ judged_body b n (drop n bytes) (the_region n bytes) j

-- the same where more bytes follow
pub judged_more : (bytes : List ℕ) (n : ℕ) (b : Begun) → head_end bytes ≡ Some n → n ≤ 16384 → IsJudged (the_region n bytes) (Ok b)
    → (more : List ℕ) → head_cut (bytes ++ more) ≡ front_from b n (drop n (bytes ++ more))
judged_more bytes n b e fits j more =
    cut_judged (bytes ++ more) n b (end_more bytes more n e) fits (subst (λ (r : Judged). IsJudged r (Ok b)) (sym (region_stays bytes more n e)) j)

judged_fits : (b : Begun) (r : Judged) → ((p : RequestHead × ℕ) → r ≡ Ok p → p.1 ≤ 1048576) → IsJudged r (Ok b) → b.size ≤ 1048576
judged_fits b (Err f) small j = absurd j
judged_fits b (Ok p) small j = omega (arith, j.1, small p refl)

-- no body of a head is larger than a body may be
pub size_fits : (bytes : List ℕ) (n : ℕ) (b : Begun) → IsJudged (the_region n bytes) (Ok b) → b.size ≤ 1048576
size_fits bytes n b j = judged_fits b (the_region n bytes) (judged_small (head_of (take n bytes))) j

judged_fault : (n : ℕ) (behind : List ℕ) (f : HeadFault) (r : Judged) → IsJudged r (Err f) → with_body r n behind ≡ bad f
judged_fault n behind f (Err g) j = ap bad (sym j)
judged_fault n behind f (Ok p) j = absurd j

pub cut_fault : (bytes : List ℕ) (n : ℕ) (f : HeadFault) → head_end bytes ≡ Some n → n ≤ 16384 → IsJudged (the_region n bytes) (Err f)
    → head_cut bytes ≡ bad f
cut_fault bytes n f e fits j = cut_head bytes n (the_region n bytes) e fits refl ∙ judged_fault n (drop n bytes) f (the_region n bytes) j

-- ---- the next look

settled_same : (cut like : List ℕ → Front HeadFault) (bytes : List ℕ) (least : ℕ) → ((more : List ℕ) → cut (bytes ++ more) ≡ like (bytes ++ more))
    → IsSettledAt like bytes least → IsSettledAt cut bytes least
settled_same cut like bytes least same s = λ more far h. s more far (sym (same more) ∙ h)

pub settles_same : (bytes : List ℕ) (n : ℕ) (b : Begun) (least : ℕ) → head_end bytes ≡ Some n → n ≤ 16384 → IsJudged (the_region n bytes) (Ok b)
    → IsSettledAt (λ bs. front_from b n (drop n bs)) bytes least → IsSettledAt head_cut bytes least
settles_same bytes n b least e fits j s = settled_same head_cut (λ bs. front_from b n (drop n bs)) bytes least (judged_more bytes n b e fits j) s

look_same : (cut like : List ℕ → Front HeadFault) (bytes : List ℕ) (least : ℕ) → ((more : List ℕ) → cut (bytes ++ more) ≡ like (bytes ++ more))
    → IsNextLook like bytes least → IsNextLook cut bytes least
look_same cut like bytes least same l = record {
  more = l.more;
  before = λ more less. same more ∙ l.before more less;
  then_new = elim l.then_new as (λ _. (least ≡ length bytes + 1) ⊎ IsSettledAt cut bytes least) [
    | inl e ↦ inl e
    | inr s ↦ inr (settled_same cut like bytes least same s)
  ];
}

pub next_same : {R : Type 0} (cut like : List ℕ → Front HeadFault) (bytes : List ℕ) (ended : Bool) (n : Next HeadFault R)
    → ((more : List ℕ) → cut (bytes ++ more) ≡ like (bytes ++ more)) → IsNext like bytes ended n → IsNext cut bytes ended n
next_same {R = R} cut like bytes ended n same p = by n p
  where
    here : cut bytes ≡ like bytes
    here = ap cut (sym (append-nil bytes)) ∙ same [] ∙ ap like (append-nil bytes)

    by : (m : Next HeadFault R) → IsNext like bytes ended m → IsNext cut bytes ended m
    by (Whole head body m found) p = here ∙ p
    by (More least) p = (here ∙ p.0, p.1, look_same cut like bytes least same p.2)
    by Nothing p = (here ∙ p.0, p.1, p.2)
    by Cut p = (here ∙ p.0, p.1, p.2)
    by (Fatal f) p = here ∙ p

pub next_unfinished : {R : Type 0} (cut : List ℕ → Front HeadFault) (bytes : List ℕ) (least : ℕ) (ended : Bool) (n : Next HeadFault R) → IsUnfinished bytes least ended n
    → cut bytes ≡ part → IsNextLook cut bytes least → IsNext cut bytes ended n
next_unfinished cut bytes least ended (Whole head body m found) p e l = absurd p
next_unfinished cut bytes least ended (More wanted) p e l = (e, p.0, subst (IsNextLook cut bytes) (sym p.1) l)
next_unfinished cut bytes least ended Nothing p e l = (e, p.0, p.1)
next_unfinished cut bytes least ended Cut p e l = (e, p.0, p.1)
next_unfinished cut bytes least ended (Fatal f) p e l = absurd p

pub asks_for : {R : Type 0} (bytes : List ℕ) (least wanted : ℕ) (ended : Bool) (n : Next HeadFault R) → IsUnfinished bytes least ended n → n ≡ More wanted → wanted ≡ least
asks_for bytes least wanted ended (Whole head body m found) p e = absurd p
asks_for bytes least wanted ended (More other) p e = (let same : other ≡ wanted = cc in sym same ∙ p.1)
asks_for bytes least wanted ended Nothing p e = absurd (cc)
asks_for bytes least wanted ended Cut p e = absurd (cc)
asks_for bytes least wanted ended (Fatal f) p e = absurd p

none_in : (xs : List ℕ) → length xs < 1 → xs ≡ []
none_in [] less = refl
none_in (x ∷ xs) less = absurd (omega arith)

-- where the head goes on, one byte more is asked for
pub one_more_look : (bytes : List ℕ) → head_cut bytes ≡ part → IsNextLook head_cut bytes (length bytes + 1)
one_more_look bytes h = record {
  more = omega arith;
  before = λ more less. ap (λ t. head_cut (bytes ++ t)) (none_in more (omega (arith, less, length-append bytes more))) ∙ ap head_cut (append-nil bytes) ∙ h;
  then_new = inl refl;
}

-- behind a head, all of its body
module _ (b : Begun) (n : ℕ) where
  abbrev body_front : List ℕ → Front HeadFault
  body_front bytes = front_from b n (drop n bytes)

  pub front_short : (bytes : List ℕ) → length (drop n bytes) < b.size → body_front bytes ≡ part
  front_short bytes less =
      ap (λ (t : Bool). if t then whole (request_of b.head (take b.size (drop n bytes))) (n + b.size) else part) (lt-leb b.size (length (drop n bytes)) less)

  front_there : (bytes : List ℕ) → b.size ≤ length (drop n bytes) → body_front bytes ≡ part → ⊥
  front_there bytes there h =
      let is_whole : body_front bytes ≡ whole (request_of b.head (take b.size (drop n bytes))) (n + b.size) =
      ap (λ (t : Bool). if t then whole (request_of b.head (take b.size (drop n bytes))) (n + b.size) else part) (le-leb b.size (length (drop n bytes)) there) in
      let no = sym is_whole ∙ h in
      cc

  pub body_settles : (bytes : List ℕ) → IsSettledAt body_front bytes (n + b.size)
  body_settles bytes = λ more far h. front_there (bytes ++ more) (omega (arith, far, length-drop n (bytes ++ more))) h

  pub body_look : (bytes : List ℕ) → n ≤ length bytes → length (drop n bytes) < b.size → IsNextLook body_front bytes (n + b.size)
  body_look bytes within less = record {
    more = omega (arith, less, length-drop n bytes);
    before = λ more few. front_short (bytes ++ more) (omega (arith, few, within, length-drop n (bytes ++ more), length-append bytes more));
    then_new = inr (body_settles bytes);
  }

-- ---- what the code makes of a region

abbrev the_fields : List ℕ → List HeaderSpan → RequestSpans → List (List ℕ × List ℕ)
the_fields region spans found = map (header_bytes region) (take found.headers spans)

found_is : (region : List ℕ) (spans : List HeaderSpan) (found : RequestSpans) → (f : IsFound region spans found)
    → judged (head_of region) ≡ sized f.head (body_size (the_fields region spans found))
found_is region spans found f =
    ap judged ((heads_are_read region f.head).1 f.is_head) ∙ ap (λ (t : List (List ℕ × List ℕ)). sized f.head (body_size t)) (sym f.parts.fields)

pub found_fault : (region : List ℕ) (spans : List HeaderSpan) (found : RequestSpans) (g : HeadFault) → IsFound region spans found
    → body_size (the_fields region spans found) ≡ Err g → IsJudged (judged (head_of region)) (Err g)
found_fault region spans found g f e =
    subst (λ (r : Judged). IsJudged r (Err g)) (sym (found_is region spans found f ∙ ap (sized f.head) e)) refl

-- the size by the fields that were found
pub size_by : (found : Fields) (fields : List (List ℕ × List ℕ)) → AreFields found fields → body_size fields ≡ size_of (length_of (field_of found.length)) (field_of found.coding)
unfolding body_size
size_by found fields f = ap (λ n. size_of (length_of n) (named (codes "transfer-encoding") fields)) (sym f.length) ∙ ap (size_of (length_of (field_of found.length))) (sym f.coding)

-- the head that is made has the parts of the head that was found
pub record HasParts (region : List ℕ) (found : RequestSpans) (fields : List (List ℕ × List ℕ)) (h : Head) : Type 0 where
  pub method : h.method.now ≡ span_bytes region found.method
  pub target : h.target.now ≡ span_bytes region found.path
  pub closing : h.closing ≡ (found.version == 0 || asks_to_close fields)
  pub language : field_of h.language ≡ named (codes "x-language-id") fields
  pub version : field_of h.version ≡ named (codes "x-version-id") fields
  pub inheritance : field_of h.inheritance ≡ named (codes "x-inheritance") fields
  pub min_front : field_of h.min_front ≡ named (codes "x-min-front") fields

request_is : (region : List ℕ) (spans : List HeaderSpan) (found : RequestSpans) (f : IsFound region spans found) (h : Head)
    → HasParts region found (the_fields region spans found) h → (body : List ℕ) → request_of h body ≡ request_with f.head body
unfolding request_with
request_is region spans found f h parts body =
    let named_as : (name : List ℕ) → named name (the_fields region spans found) ≡ named name (fields_of f.head) =
    λ name. ap (named name) f.parts.fields in
    let method : h.method.now ≡ f.head.method = parts.method ∙ f.parts.method in
    let target : h.target.now ≡ f.head.target = parts.target ∙ f.parts.path in
    let closing : h.closing ≡ (f.head.minor == 0 || asks_to_close (fields_of f.head)) =
    parts.closing ∙ ap (λ (v : ℕ). v == 0 || asks_to_close (the_fields region spans found)) f.parts.version
    ∙ ap (λ (t : List (List ℕ × List ℕ)). f.head.minor == 0 || asks_to_close t) f.parts.fields in
    let language = parts.language ∙ named_as (codes "x-language-id") in
    let version = parts.version ∙ named_as (codes "x-version-id") in
    let inheritance = parts.inheritance ∙ named_as (codes "x-inheritance") in
    let min_front = parts.min_front ∙ named_as (codes "x-min-front") in
    λ i. record {
      method = method i;
      target = target i;
      closing = closing i;
      language = language i;
      version = version i;
      inheritance = inheritance i;
      min_front = min_front i;
      body = body;
    }

pub found_begun : (region : List ℕ) (spans : List HeaderSpan) (found : RequestSpans) (b : Begun) → IsFound region spans found
    → body_size (the_fields region spans found) ≡ Ok b.size → HasParts region found (the_fields region spans found) b.head
    → IsJudged (judged (head_of region)) (Ok b)
found_begun region spans found b f e parts =
    subst (λ (r : Judged). IsJudged r (Ok b)) (sym (found_is region spans found f ∙ ap (sized f.head) e))
    (request_is region spans found f b.head parts, refl)

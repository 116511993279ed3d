-- What a router of the whole table answers for a target is the line that the target has.
use Rattle.std.proofs.Common.{◌≡◌, inl, inr, ℕ, zero, suc, ◌<◌, ◌^◌, List, [], ◌∷◌, length, Option, Some, None, Result, Ok, Err, Bool, true, false, cond, refl, sym, ap, ◌∙◌, arith, ◌==◌, ltb, ◌&&◌, get_or, is_some, IsUtf8}
use Rattle.std.proofs.lemmas.Bool.Decides.{nat_tests}
use Rattle.std.proofs.lemmas.Bool.{cases_Bool, and_parts}
use Rattle.std.proofs.lemmas.Slice.Eq.{bytes_eq-Decides}
use Rattle.std.proofs.lemmas.Str.{IsUtf8-from_ascii}
use Rattle.std.specs.Str.{bytes_eq}
use Rattle.matchit.specs.Params.{walk, part_of, AllText}
use Rattle.matchit.specs.Route.{Scan, parse_route}
use Rattle.matchit.specs.Router.{RouteOf, route_from}
use Rattle.matchit.specs.Seek.{first}
use Rattle.matchit.specs.declared.error.InsertError.{InsertError}
use Rattle.matchit.proofs.OnLiterals.{matchit_on_literals}
use Rattle.shop_routes.specs.declared.endpoint.Asked.{Asked}
use Rattle.shop_routes.specs.Filling.{table}
use Rattle.shop_routes.specs.PathParts.{Parts}
use Rattle.shop_routes.specs.Paths.{Line, asked_by, Found, first_on, line_of, lines, name_in, or_found, parts_on, pieces}
use Rattle.shop_routes.proofs.Tokens.{after, are_pieces, before, name_texts, named_by, named_texts, parts_are_taken, taken, tokens}
use Rattle.shop_routes.proofs.Seeking.{fits_found, fits_taken, good_rows, is_good, some_text, taken_found}
use Rattle.shop_routes.proofs.Walking.{AreTexts, params, taken_texts, walked, zipped}
use Rattle.shop_routes.proofs.TableRows.{Among, has_row, router_has}

-- ---- the names of a path

abbrev is_ascii : List ℕ → Bool
is_ascii [] = true
is_ascii (b ∷ rest) = ltb b 128 && is_ascii rest

ascii_at : (bs : List ℕ) → is_ascii bs ≡ true → (i : ℕ) → get_or bs i 0 < 128
ascii_at [] e i = omega arith
ascii_at (b ∷ rest) e zero = let low = (and_parts (ltb b 128) (is_ascii rest) e).0 in grind (arith, nat_tests)
ascii_at (b ∷ rest) e (suc i) = ascii_at rest (and_parts (ltb b 128) (is_ascii rest) e).1 i

abbrev name_agrees : List ℕ → Option (List ℕ) → List (ℕ × ℕ) → (List (ℕ × ℕ) → Bool) → Bool
name_agrees text None places later = later places
name_agrees text (Some name) [] later = false
name_agrees text (Some name) (place ∷ places) later =
    (bytes_eq (part_of text place.0 place.1) name && is_ascii (part_of text place.0 place.1)) && later places

-- the names in braces stand at these places of a text
abbrev names_agree : List ℕ → List (List ℕ) → List (ℕ × ℕ) → Bool
names_agree text [] [] = true
names_agree text [] (place ∷ places) = false
names_agree text (word ∷ path) places = name_agrees text (name_in word) places (names_agree text path)

one_zipped : (text : List ℕ) (name : Option (List ℕ)) (path : List (List ℕ)) (places : List (ℕ × ℕ)) → name_agrees text name places (names_agree text path) ≡ true
    → ((more : List (ℕ × ℕ)) → names_agree text path more ≡ true → (texts : List (List ℕ)) → named_texts path texts ≡ zipped text more texts)
    → (texts : List (List ℕ)) → name_texts name texts (named_texts path) ≡ zipped text places texts
one_zipped text None path places agrees later texts = later places agrees texts
one_zipped text (Some name) path [] agrees later texts = absurd cc
one_zipped text (Some name) path (place ∷ places) agrees later [] = refl
one_zipped text (Some name) path (place ∷ places) agrees later (x ∷ texts) =
    let both = and_parts (bytes_eq (part_of text place.0 place.1) name && is_ascii (part_of text place.0 place.1)) (names_agree text path places) agrees in
    let one = and_parts (bytes_eq (part_of text place.0 place.1) name) (is_ascii (part_of text place.0 place.1)) both.0 in
    let same : part_of text place.0 place.1 ≡ name = (bytes_eq-Decides (part_of text place.0 place.1) name).0 one.0 in
    rw (same, later places both.1 texts) refl

names_zipped : (text : List ℕ) (path : List (List ℕ)) (places : List (ℕ × ℕ)) → names_agree text path places ≡ true → (texts : List (List ℕ))
    → named_texts path texts ≡ zipped text places texts
names_zipped text [] [] agrees texts = refl
names_zipped text [] (place ∷ places) agrees texts = absurd cc
names_zipped text (word ∷ path) places agrees texts = one_zipped text (name_in word) path places agrees (names_zipped text path) texts

one_text : (text : List ℕ) (name : Option (List ℕ)) (path : List (List ℕ)) (places : List (ℕ × ℕ)) → name_agrees text name places (names_agree text path) ≡ true
    → ((more : List (ℕ × ℕ)) → names_agree text path more ≡ true → (texts : List (List ℕ)) → AreTexts texts → AllText (zipped text more texts))
    → (texts : List (List ℕ)) → AreTexts texts → AllText (zipped text places texts)
one_text text None path places agrees later texts are = later places agrees texts are
one_text text (Some name) path [] agrees later texts are = absurd cc
one_text text (Some name) path (place ∷ places) agrees later [] are = tt
one_text text (Some name) path (place ∷ places) agrees later (x ∷ texts) are =
    let both = and_parts (bytes_eq (part_of text place.0 place.1) name && is_ascii (part_of text place.0 place.1)) (names_agree text path places) agrees in
    let one = and_parts (bytes_eq (part_of text place.0 place.1) name) (is_ascii (part_of text place.0 place.1)) both.0 in
    (IsUtf8-from_ascii (part_of text place.0 place.1) (ascii_at (part_of text place.0 place.1) one.1), are.0, later places both.1 texts are.1)

zipped_text : (text : List ℕ) (path : List (List ℕ)) (places : List (ℕ × ℕ)) → names_agree text path places ≡ true → (texts : List (List ℕ)) → AreTexts texts → AllText (zipped text places texts)
zipped_text text [] [] agrees texts are = tt
zipped_text text [] (place ∷ places) agrees texts are = absurd cc
zipped_text text (word ∷ path) places agrees texts are = one_text text (name_in word) path places agrees (zipped_text text path) texts are

-- ---- what holds of each line

abbrev scan_passes : Result Scan InsertError → List (List ℕ) → Bool
scan_passes (Err e) path = false
scan_passes (Ok s) [] = false
scan_passes (Ok s) (word ∷ path) =
    bytes_eq s.pattern (tokens (word ∷ path)) && (is_good s.pattern && (ltb (length s.pattern) 4294967296 && ((params s.pattern == length s.names) && (are_pieces (word ∷ path) && names_agree s.text (word ∷ path) s.names))))

abbrev lines_pass : List Line → Bool
lines_pass [] = true
lines_pass (line ∷ rest) = scan_passes (parse_route line.1) (pieces line.1) && lines_pass rest

all_pass : lines_pass lines ≡ true
unfolding matchit_on_literals
all_pass = refl

rows_good : good_rows table ≡ true
unfolding matchit_on_literals table
rows_good = refl

-- a line as a router reads it
record IsRead (line : Line) (s : Scan) (word : List ℕ) (path : List (List ℕ)) : Type 0 where
  scan : parse_route line.1 ≡ Ok s
  split : pieces line.1 ≡ word ∷ path
  pattern : s.pattern ≡ tokens (word ∷ path)
  good : is_good s.pattern ≡ true
  short : length s.pattern < 2 ^ 32
  count : params s.pattern ≡ length s.names
  clean : are_pieces (word ∷ path) ≡ true
  names : names_agree s.text (word ∷ path) s.names ≡ true

is_read : (line : Line) (scanned : Result Scan InsertError) (split : List (List ℕ)) → parse_route line.1 ≡ scanned → pieces line.1 ≡ split → scan_passes scanned split ≡ true
    → (s : Scan) × (word : List ℕ) × (path : List (List ℕ)) × IsRead line s word path
is_read line (Err e) split is parts passes = absurd cc
is_read line (Ok s) [] is parts passes = absurd cc
is_read line (Ok s) (word ∷ path) is parts passes =
    let a = and_parts _ _ passes in
    let b = and_parts _ _ a.1 in
    let c = and_parts _ _ b.1 in
    let d = and_parts _ _ c.1 in
    let e = and_parts _ _ d.1 in
    let small = c.0 in
    let equal = d.0 in (
      s,
      word,
      path,
      record {
        scan = is;
        split = parts;
        pattern = (bytes_eq-Decides s.pattern (tokens (word ∷ path))).0 a.0;
        good = b.0;
        short = grind (arith, nat_tests);
        count = grind (arith, nat_tests);
        clean = e.0;
        names = e.1;
      },
    )

line_read : (ls : List Line) (line : Line) → lines_pass ls ≡ true → Among line ls → (s : Scan) × (word : List ℕ) × (path : List (List ℕ)) × IsRead line s word path
line_read [] line passes among = absurd among
line_read (l ∷ ls) line passes (inl is) =
    let both = and_parts (scan_passes (parse_route l.1) (pieces l.1)) (lines_pass ls) passes in
    rw is (is_read l (parse_route l.1) (pieces l.1) refl refl both.0)
line_read (l ∷ ls) line passes (inr later) = line_read ls line (and_parts (scan_passes (parse_route l.1) (pieces l.1)) (lines_pass ls) passes).1 later

line_parts : (line : Line) → scan_passes (parse_route line.1) (pieces line.1) ≡ true → (target : List ℕ)
    → parts_on (pieces line.1) (pieces target) ≡ named_by (pieces line.1) (taken (tokens (pieces line.1)) target)
line_parts line passes target =
    let r = is_read line (parse_route line.1) (pieces line.1) refl refl passes in
    rw r.3.split (parts_are_taken r.1 r.2 r.3.clean target)

-- ---- no target fits two lines

abbrev clashes : List ℕ → List ℕ → Bool
clashes [] [] = false
clashes [] (y ∷ u) = true
clashes (x ∷ t) [] = true
clashes (x ∷ t) (y ∷ u) = cond (x == 256) (cond (y == 256) (clashes t u) false) (cond (y == 256) false (cond (x == y) (clashes t u) true))

clash : (t u path : List ℕ) (texts others : List (List ℕ)) → clashes t u ≡ true → taken t path ≡ Some texts → taken u path ≡ Some others → ⊥
clash [] [] path texts others c e f = cc
clash [] (y ∷ u) [] texts others c e f = cc
clash [] (y ∷ u) (b ∷ path) texts others c e f = cc
clash (x ∷ t) [] [] texts others c e f = cc
clash (x ∷ t) [] (b ∷ path) texts others c e f = cc
clash (x ∷ t) (y ∷ u) [] texts others c e f = cc
clash (x ∷ t) (y ∷ u) (b ∷ path) texts others c e f = elim (cases_Bool (x == 256)) [
  | inl wild ↦
      let c2 : cond (y == 256) (clashes t u) false ≡ true = rw wild at c in
      elim (cases_Bool (y == 256)) [
        | inl wild2 ↦
            let s = some_text (before (b ∷ path)) (taken t (after (b ∷ path))) texts (rw wild at e) in
            let o = some_text (before (b ∷ path)) (taken u (after (b ∷ path))) others (rw wild2 at f) in
            clash t u (after (b ∷ path)) s.1.0 o.1.0 (rw wild2 at c2) s.1.1 o.1.1
        | inr byte2 ↦ let none : false ≡ true = rw byte2 at c2 in cc
      ]
  | inr byte ↦
      let c2 : cond (y == 256) false (cond (x == y) (clashes t u) true) ≡ true = rw byte at c in
      let e2 : cond (x == b) (taken t path) None ≡ Some texts = rw byte at e in
      elim (cases_Bool (y == 256)) [
        | inl wild2 ↦ let none : false ≡ true = rw wild2 at c2 in cc
        | inr byte2 ↦
            let c3 : cond (x == y) (clashes t u) true ≡ true = rw byte2 at c2 in
            let f2 : cond (y == b) (taken u path) None ≡ Some others = rw byte2 at f in
            elim (cases_Bool (x == b)) [
              | inr other ↦ let none : None ≡ Some texts = rw other at e2 in cc
              | inl same ↦ elim (cases_Bool (y == b)) [
                | inr other ↦ let none : None ≡ Some others = rw other at f2 in cc
                | inl same2 ↦
                    let equal : (x == y) ≡ true = grind (arith, nat_tests) in
                    clash t u path texts others (rw equal at c3) (rw same at e2) (rw same2 at f2)
              ]
            ]
      ]
]

abbrev is_apart : List ℕ → List Line → Bool
is_apart t [] = true
is_apart t (line ∷ rest) = clashes t (tokens (pieces line.1)) && is_apart t rest

abbrev are_apart : List Line → Bool
are_apart [] = true
are_apart (line ∷ rest) = is_apart (tokens (pieces line.1)) rest && are_apart rest

all_apart : are_apart lines ≡ true
all_apart = refl

apart_at : (t : List ℕ) (ls : List Line) (line : Line) → is_apart t ls ≡ true → Among line ls → clashes t (tokens (pieces line.1)) ≡ true
apart_at t [] line apart among = absurd among
apart_at t (l ∷ ls) line apart (inl is) = rw is (and_parts (clashes t (tokens (pieces l.1))) (is_apart t ls) apart).0
apart_at t (l ∷ ls) line apart (inr later) = apart_at t ls line (and_parts (clashes t (tokens (pieces l.1))) (is_apart t ls) apart).1 later

abbrev found_by : Line → List (List ℕ) → Found
found_by line texts = record { asked = asked_by line; parts = named_texts (pieces line.1) texts }

-- a line that takes a target is the first that the target fits
first_is : (ls : List Line) (line : Line) (target : List ℕ) (texts : List (List ℕ)) → lines_pass ls ≡ true → are_apart ls ≡ true → Among line ls
    → taken (tokens (pieces line.1)) target ≡ Some texts → first_on ls (pieces target) ≡ Some (found_by line texts)
first_is [] line target texts passes apart among takes = absurd among
first_is (l ∷ ls) line target texts passes apart (inl is) takes =
    let pass = (and_parts (scan_passes (parse_route l.1) (pieces l.1)) (lines_pass ls) passes).0 in
    let takes_l : taken (tokens (pieces l.1)) target ≡ Some texts = rw is at takes in
    rw (is, line_parts l pass target, takes_l) refl
first_is (l ∷ ls) line target texts passes apart (inr later) takes =
    let pass = and_parts (scan_passes (parse_route l.1) (pieces l.1)) (lines_pass ls) passes in
    let away = and_parts (is_apart (tokens (pieces l.1)) ls) (are_apart ls) apart in
    let more = first_is ls line target texts pass.1 away.1 later takes in
    rw (line_parts l pass.0 target) (go (taken (tokens (pieces l.1)) target) refl (apart_at (tokens (pieces l.1)) ls line away.0 later) more)
  where
    go : (o : Option (List (List ℕ))) → taken (tokens (pieces l.1)) target ≡ o → clashes (tokens (pieces l.1)) (tokens (pieces line.1)) ≡ true
        → first_on ls (pieces target) ≡ Some (found_by line texts)
        → or_found (named_by (pieces l.1) o) (asked_by l) (first_on ls (pieces target)) ≡ Some (found_by line texts)
    go None e c more = more
    go (Some others) e c more = absurd (clash (tokens (pieces l.1)) (tokens (pieces line.1)) target others texts c e takes)

-- a line that a target fits takes it
first_among : (ls : List Line) (target : List ℕ) (f : Found) → lines_pass ls ≡ true → first_on ls (pieces target) ≡ Some f
    → (line : Line) × (texts : List (List ℕ)) × Among line ls × (taken (tokens (pieces line.1)) target ≡ Some texts)
first_among [] target f passes e = absurd cc
first_among (l ∷ ls) target f passes e =
    let pass = and_parts (scan_passes (parse_route l.1) (pieces l.1)) (lines_pass ls) passes in
    go (taken (tokens (pieces l.1)) target) refl (rw (line_parts l pass.0 target) at e) (first_among ls target f pass.1)
  where
    go : (o : Option (List (List ℕ))) → taken (tokens (pieces l.1)) target ≡ o → or_found (named_by (pieces l.1) o) (asked_by l) (first_on ls (pieces target)) ≡ Some f
        → (first_on ls (pieces target) ≡ Some f → (line : Line) × (texts : List (List ℕ)) × Among line ls × (taken (tokens (pieces line.1)) target ≡ Some texts))
        → (line : Line) × (texts : List (List ℕ)) × Among line (l ∷ ls) × (taken (tokens (pieces line.1)) target ≡ Some texts)
    go None is e later = let m = later e in (m.0, m.1, inr m.2, m.3)
    go (Some texts) is e later = (l, texts, inl refl, is)

-- ---- the router's answer

abbrev row_found : List ℕ → RouteOf Asked → Found
row_found target r = record { asked = r.value; parts = walk r.pattern r.text target r.names 0 0 }

line_takes : (line : Line) (s : Scan) (word : List ℕ) (path : List (List ℕ)) → IsRead line s word path → tokens (pieces line.1) ≡ s.pattern
line_takes line s word path l = ap tokens l.split ∙ sym l.pattern

line_answers : (line : Line) (s : Scan) (word : List ℕ) (path : List (List ℕ)) (target : List ℕ) (texts : List (List ℕ)) → IsRead line s word path → Among line lines → IsUtf8 target
    → taken s.pattern target ≡ Some texts
    → (line_of target ≡ Some (row_found target (route_from s (asked_by line)))) × AllText (walk s.pattern s.text target s.names 0 0)
unfolding line_of
line_answers line s word path target texts l among text takes =
    let is = first_is lines line target texts all_pass all_apart among (ap (λ t. taken t target) (line_takes line s word path l) ∙ takes) in
    let w : walk s.pattern s.text target s.names 0 0 ≡ zipped s.text s.names texts =
    walked s.pattern s.text target l.short s.pattern 0 0 texts s.names l.good l.count refl takes in
    let parts : named_texts (pieces line.1) texts ≡ walk s.pattern s.text target s.names 0 0 =
    ap (λ p. named_texts p texts) l.split ∙ (names_zipped s.text (word ∷ path) s.names l.names texts ∙ sym w) in
    let found : Parts → Option Found = λ ps. Some (record { asked = asked_by line; parts = ps }) in
    (is ∙ ap found parts, rw w (zipped_text s.text (word ∷ path) s.names l.names texts (taken_texts s.pattern target texts l.good text takes)))

one_scan : (s u : Scan) (scanned : Result Scan InsertError) → scanned ≡ Ok s → scanned ≡ Ok u → s ≡ u
one_scan s u scanned e f = cc

-- where the router answers a row, the target has its line, and the parameters are the parts, which are text
pub answered : (target : List ℕ) (r : RouteOf Asked) → IsUtf8 target → ((i : ℕ) → get_or target i 0 < 256) → first table target ≡ Some r
    → (line_of target ≡ Some (row_found target r)) × AllText (walk r.pattern r.text target r.names 0 0)
unfolding table
answered target r text bytes e =
    let m = fits_found target 0 table r e in
    elim (router_has lines [] m.0 r m.1) [
      | inl none ↦ absurd none
      | inr row ↦
          let read = line_read lines row.0 all_pass row.2 in
          let same = one_scan row.1 read.0 (parse_route row.0.1) row.3.scan read.3.scan in
          let pattern : m.0 ≡ read.0.pattern = row.3.pattern ∙ ap (λ (s : Scan). s.pattern) same in
          let route : r ≡ route_from read.0 (asked_by row.0) = row.3.route ∙ ap (λ (s : Scan). route_from s (asked_by row.0)) same in
          let takes = fits_taken read.0.pattern target read.3.good bytes (rw pattern at m.2) in
          rw route (line_answers row.0 read.0 read.1 read.2 target takes.0 read.3 row.2 text takes.1)
    ]

-- where the router answers none, the target has no line
pub unanswered : (target : List ℕ) → first table target ≡ None → line_of target ≡ None
unfolding line_of table
unanswered target e = go (first_on lines (pieces target)) refl
  where
    go : (o : Option Found) → first_on lines (pieces target) ≡ o → first_on lines (pieces target) ≡ None
    go None is = is
    go (Some f) is =
        let m = first_among lines target f all_pass is in
        let read = line_read lines m.0 all_pass m.2 in
        let takes : taken read.0.pattern target ≡ Some m.1 = ap (λ t. taken t target) (sym (line_takes m.0 read.0 read.1 read.2 read.3)) ∙ m.3 in
        let route : RouteOf Asked = route_from read.0 (asked_by m.0) in
        let some = taken_found read.0.pattern target table route m.1 (has_row lines [] m.0 read.0 m.2 read.3.scan) rows_good takes in
        absurd (let no : is_some (first table target) ≡ false = ap is_some e in cc)

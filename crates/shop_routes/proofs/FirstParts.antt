-- The parts of a path stand in it in the order in which they are tried.
use Rattle.std.proofs.Common.{◌≡◌, inl, inr, ℕ, List, [], ◌∷◌, Option, Some, None, map, Bool, true, false, not, cond, refl, sym, ap, ◌∙◌, ◌&&◌, is_some, codes}
use Rattle.std.proofs.lemmas.Bool.{cases_Bool, and_parts}
use Rattle.std.proofs.lemmas.Slice.Eq.{bytes_eq-Decides}
use Rattle.std.specs.Str.{bytes_eq}
use Rattle.matchit.specs.Params.{named}
use Rattle.matchit.specs.Seek.{same_text}
use Rattle.shop_routes.specs.DigitTexts.{page_of}
use Rattle.shop_routes.specs.Laws.{TheFirstIsNamed, checks_in_place, is_well_formed}
use Rattle.shop_routes.specs.PathParts.{Parts, Checks, bad_part, first_bad, id_form, number_in}
use Rattle.shop_routes.specs.Paths.{Found, Line, asked_by, first_on, found, is_plain, line_of, lines, name_in, on_piece, or_found, parts_on, pieces}
use Rattle.shop_routes.proofs.TableRows.{Among}

abbrev pub Name : Type 0
Name = List ℕ

module _ (nil : Bool) where
  abbrev is_good_text : Name → Option (List ℕ) → Bool
  is_good_text name None = true
  is_good_text name (Some text) = is_well_formed nil name text

  -- the parts with these names, each with whether it is well-formed
  abbrev by_name : Parts → List Name → Checks
  by_name parts [] = []
  by_name parts (name ∷ names) = (name, is_good_text name (named name parts)) ∷ by_name parts names

-- names stand in this order
abbrev in_order : List Name → List Name → Bool
in_order [] [] = true
in_order [] (n ∷ names) = false
in_order (o ∷ order) [] = true
in_order (o ∷ order) (n ∷ names) = cond (bytes_eq n o) (in_order order names) (in_order order (n ∷ names))

abbrev lacks : Name → List Name → Bool
lacks o [] = true
lacks o (q ∷ order) = not (bytes_eq q o) && lacks o order

abbrev are_distinct : List Name → Bool
are_distinct [] = true
are_distinct (o ∷ order) = lacks o order && are_distinct order

abbrev pub names_of : Parts → List Name
names_of parts = map (λ p. p.0) parts

not_true : (b : Bool) → not b ≡ true → b ≡ false
not_true true e = cc
not_true false e = refl

same : (a : Name) → bytes_eq a a ≡ true
same a = (bytes_eq-Decides a a).1 refl

-- a name that isn't among the order of these parts has none of them
absent : (o : Name) (order : List Name) (parts : Parts) → in_order order (names_of parts) ≡ true → lacks o order ≡ true → named o parts ≡ None
absent o [] [] e l = refl
absent o [] (p ∷ parts) e l = absurd cc
absent o (q ∷ order) [] e l = refl
absent o (q ∷ order) (p ∷ parts) e l =
    let both = and_parts (not (bytes_eq q o)) (lacks o order) l in
    elim (cases_Bool (bytes_eq p.0 q)) [
      | inl here ↦
          let is : p.0 ≡ q = (bytes_eq-Decides p.0 q).0 here in
          let other : same_text p.0 o ≡ false = rw is (not_true (bytes_eq q o) both.0) in
          rw other (absent o order parts (rw here at e) both.1)
      | inr later ↦ absent o order (p ∷ parts) (rw later at e) both.1
    ]

module _ (nil : Bool) where
  -- a part of another name makes no difference
  skipped : (p : List ℕ × List ℕ) (parts : Parts) (names : List Name) → lacks p.0 names ≡ true → by_name nil (p ∷ parts) names ≡ by_name nil parts names
  skipped p parts [] l = refl
  skipped p parts (n ∷ names) l =
      let both = and_parts (not (bytes_eq n p.0)) (lacks p.0 names) l in
      let other : same_text p.0 n ≡ false = elim (cases_Bool (bytes_eq p.0 n)) [
        | inl equal ↦
            let is : p.0 ≡ n = (bytes_eq-Decides p.0 n).0 equal in
            let differs : bytes_eq n p.0 ≡ false = not_true (bytes_eq n p.0) both.0 in
            absurd (let contrary : true ≡ false = sym ((bytes_eq-Decides n p.0).1 (sym is)) ∙ differs in cc)
        | inr differs ↦ differs
      ] in
      rw (other, skipped p parts names both.1) refl

  none_bad : (order : List Name) → first_bad (by_name nil [] order) ≡ None
  none_bad [] = refl
  none_bad (o ∷ order) = none_bad order

  -- by their names in this order, or in their places: the first malformed part is the same
  by_place : (order : List Name) (parts : Parts) → are_distinct order ≡ true → in_order order (names_of parts) ≡ true
      → first_bad (by_name nil parts order) ≡ first_bad (checks_in_place nil parts)
  by_place [] [] d e = refl
  by_place [] (p ∷ parts) d e = absurd cc
  by_place (o ∷ order) [] d e = none_bad order
  by_place (o ∷ order) (p ∷ parts) d e =
      let both = and_parts (lacks o order) (are_distinct order) d in
      elim (cases_Bool (bytes_eq p.0 o)) [
        | inl here ↦
            let is : p.0 ≡ o = (bytes_eq-Decides p.0 o).0 here in
            let found : named o (p ∷ parts) ≡ Some p.1 = rw here refl in
            let later = by_place order parts both.1 (rw here at e) in
            let skips : by_name nil (p ∷ parts) order ≡ by_name nil parts order = skipped p parts order (rw is both.0) in
            rw (here, skips, later, is) refl
        | inr later ↦
            let none : named o (p ∷ parts) ≡ None = absent o order (p ∷ parts) (rw later at e) both.0 in
            rw none (by_place order (p ∷ parts) both.1 (rw later at e))
      ]

-- ---- the names of the table

abbrev pub name_before : Option Name → List Name → List Name
name_before None names = names
name_before (Some name) names = name ∷ names

abbrev pub path_names : List (List ℕ) → List Name
path_names [] = []
path_names (word ∷ path) = name_before (name_in word) (path_names path)

one_names : (name : Option Name) (word : List ℕ) (names : List Name) (piece : List ℕ) (later : Option Parts) (parts : Parts) → on_piece name word piece later ≡ Some parts
    → ((more : Parts) → later ≡ Some more → names_of more ≡ names) → names_of parts ≡ name_before name names
one_names None word names piece later parts e h = elim (cases_Bool (bytes_eq word piece)) [
  | inl equal ↦ h parts (rw equal at e)
  | inr differs ↦ absurd (let none : None ≡ Some parts = rw differs at e in cc)
]
one_names (Some name) word names [] later parts e h = absurd cc
one_names (Some name) word names (b ∷ rest) None parts e h = absurd cc
one_names (Some name) word names (b ∷ rest) (Some more) parts e h =
    let is : parts ≡ (name, b ∷ rest) ∷ more = cc in
    rw is (ap (λ (ns : List Name). name ∷ ns) (h more refl))

pub part_names : (path target : List (List ℕ)) (parts : Parts) → parts_on path target ≡ Some parts → names_of parts ≡ path_names path
part_names [] [] parts e = let is : parts ≡ [] = cc in rw is refl
part_names [] (piece ∷ more) parts e = absurd cc
part_names (word ∷ path) [] parts e = absurd cc
part_names (word ∷ path) (piece ∷ more) parts e = one_names (name_in word) word (path_names path) piece (parts_on path more) parts e (part_names path more)

pub first_line : (ls : List Line) (target : List (List ℕ)) (f : Found) → first_on ls target ≡ Some f → (line : Line) × Among line ls × (parts_on (pieces line.1) target ≡ Some f.parts) × (f.asked ≡ asked_by line)
first_line [] target f e = absurd cc
first_line (l ∷ ls) target f e = go (parts_on (pieces l.1) target) refl e (first_line ls target f)
  where
    go : (o : Option Parts) → parts_on (pieces l.1) target ≡ o → or_found o (asked_by l) (first_on ls target) ≡ Some f
        → (first_on ls target ≡ Some f → (line : Line) × Among line ls × (parts_on (pieces line.1) target ≡ Some f.parts) × (f.asked ≡ asked_by line))
        → (line : Line) × Among line (l ∷ ls) × (parts_on (pieces line.1) target ≡ Some f.parts) × (f.asked ≡ asked_by line)
    go None is e later = let m = later e in (m.0, inr m.1, m.2, m.3)
    go (Some parts) is e later =
        let made : Found = record { asked = asked_by l; parts = parts } in
        let equal : made ≡ f = cc in
        (l, inl refl, is ∙ ap (λ (g : Found). Some g.parts) equal, sym (ap (λ (g : Found). g.asked) equal))

-- the names, in the order in which they are tried
abbrev order : List Name
order = codes "entity" ∷ codes "version" ∷ codes "id" ∷ codes "second" ∷ codes "page" ∷ []

abbrev are_ordered : List Line → Bool
are_ordered [] = true
are_ordered (line ∷ rest) = in_order order (path_names (pieces line.1)) && are_ordered rest

all_ordered : are_ordered lines ≡ true
all_ordered = refl

ordered_at : (ls : List Line) (line : Line) → are_ordered ls ≡ true → Among line ls → in_order order (path_names (pieces line.1)) ≡ true
ordered_at [] line e among = absurd among
ordered_at (l ∷ ls) line e (inl is) = rw is (and_parts (in_order order (path_names (pieces l.1))) (are_ordered ls) e).0
ordered_at (l ∷ ls) line e (inr later) = ordered_at ls line (and_parts (in_order order (path_names (pieces l.1))) (are_ordered ls) e).1 later

-- ---- the law

module _ (nil : Bool) where
  any_entity : (o : Option (List ℕ)) → is_good_text nil (codes "entity") o ≡ true
  any_entity None = refl
  any_entity (Some text) = refl

  a_version : (o : Option (List ℕ)) → is_some (number_in (id_form nil) o) ≡ is_good_text nil (codes "version") o
  a_version None = refl
  a_version (Some text) = refl

  an_id : (o : Option (List ℕ)) → is_some (number_in (id_form nil) o) ≡ is_good_text nil (codes "id") o
  an_id None = refl
  an_id (Some text) = refl

  a_second : (o : Option (List ℕ)) → is_some (number_in (id_form nil) o) ≡ is_good_text nil (codes "second") o
  a_second None = refl
  a_second (Some text) = refl

  a_page : (o : Option (List ℕ)) → is_some (number_in page_of o) ≡ is_good_text nil (codes "page") o
  a_page None = refl
  a_page (Some text) = refl

  tried : (parts : Parts) → bad_part nil parts ≡ first_bad (by_name nil parts order)
  unfolding bad_part
  tried parts =
      rw (
        any_entity (named (codes "entity") parts),
        a_version (named (codes "version") parts),
        an_id (named (codes "id") parts),
        a_second (named (codes "second") parts),
        a_page (named (codes "page") parts),
      ) refl

pub first_part : TheFirstIsNamed
unfolding found line_of
first_part nil target f e = elim (cases_Bool (is_plain target)) [
  | inr odd ↦ absurd (let none : None ≡ Some f = rw odd at e in cc)
  | inl plain ↦
      let m = first_line lines (pieces target) f (rw plain at e) in
      let names = part_names (pieces m.0.1) (pieces target) f.parts m.2 in
      tried nil f.parts ∙ by_place nil order f.parts refl (rw names (ordered_at lines m.0 all_ordered m.1))
]

-- The row that a reference names, where keys are of their entities' forms.
use Rattle.std.proofs.Common.{◌≡◌, ℕ, Bool, true, false, cond, ◌&&◌, ◌||◌, inl, inr, List, [], ◌∷◌, Option, Some, None, refl, sym, ap, subst, ◌∙◌}
use Rattle.std.specs.Prelude.{not, find, is_some, is_none}
use Rattle.std.specs.List.{list_any, list_all}
use Rattle.std.specs.Option.{option_map_or, option_and_then}
use Rattle.std.specs.Ordering.{is_eq}
use Rattle.std.proofs.lemmas.Bool.{and_from, and_parts, eqb-true, eq-eqb}
use Rattle.closure.specs.Closure.{IsIn}
use Rattle.closure.proofs.Members.{all_at, all_from, of_filter}
use Rattle.shop_defs.specs.declared.entity.Entity.{Entity}
use Rattle.shop_defs.specs.declared.key.Key.{Key}
use Rattle.shop_defs.specs.declared.row.Row.{Row}
use Rattle.shop_defs.specs.declared.table.EntityInfo.{EntityInfo}
use Rattle.shop_defs.specs.declared.table.KeyForm.{KeyForm}
use Rattle.shop_defs.specs.declared.table.KeyForm.TheVariants.{OnePart, TwoParts}
use Rattle.shop_defs.specs.declared.table.Reference.{Reference}
use Rattle.shop_defs.specs.declared.table.TheConstants.{REFERENCES}
use Rattle.shop_defs.specs.Entities.{entity_number}
use Rattle.shop_defs.specs.Fitting.{row_key_fits}
use Rattle.shop_defs.specs.Keys.{key_cmp}
use Rattle.shop_defs.specs.Rows.{row_at, IsInKeyOrder}
use Rattle.shop_defs.specs.Tables.{info_of}
use Rattle.shop_defs.proofs.Keys.{key_cmp_total}
use Rattle.shop_defs.proofs.EachLine.{each_entity}
use Rattle.shop_operations.specs.Parents.{is_parental, parent_id}
use Rattle.shop_operations.specs.References.{is_entity, is_live, is_met, is_one, live, named}
use Rattle.shop_operations.specs.Upserts.{agree_within, is_of_tree}
use Rattle.shop_rows.proofs.Lists.{find-filter}
use Rattle.shop_rows.proofs.Same.{is_equal, itself_equal, key_is}
use Rattle.shop_soundness.proofs.Ones.{one_key}
use Rattle.shop_soundness.proofs.Tables as tables
use Rattle.shop_check.specs.Found.{are_formed, has_one_part, line_has_one_part, name_one_part}
use Rattle.shop_check.proofs.Orders.{at_one_key}

-- ---- keys of one part

-- what the references of the table name has keys of one part
pub references_name_one_part : name_one_part REFERENCES ≡ true
unfolding has_one_part info_of
references_name_one_part = refl

parents_have_one_part : (entity : Entity) → (is_none (find (is_parental entity) REFERENCES) || has_one_part entity) ≡ true
unfolding has_one_part info_of
parents_have_one_part = each_entity (λ entity. is_none (find (is_parental entity) REFERENCES) || has_one_part entity) refl

or_then : (a b : Bool) → (a || b) ≡ true → a ≡ false → b ≡ true
or_then true b h e = cc
or_then false b h e = h

parental_in : (table : List Reference) (row : Row) (id : ℕ) → parent_id table row ≡ Some id → is_none (find (is_parental row.key.entity) table) ≡ false
unfolding parent_id
parental_in table row id e = by (find (is_parental row.key.entity) table) e
  where
    by : (found : Option Reference) → option_and_then (λ reference. named reference row) found ≡ Some id → is_none found ≡ false
    by None f = cc
    by (Some reference) f = refl

-- a row that names a parent is of an entity whose keys have one part
pub parent_has_one_part : (row : Row) (id : ℕ) → parent_id REFERENCES row ≡ Some id → has_one_part row.key.entity ≡ true
parent_has_one_part row id e = or_then _ _ (parents_have_one_part row.key.entity) (parental_in REFERENCES row id e)

same_form : (line : Option EntityInfo) → line_has_one_part line ≡ true → tables.line_has_one_part line ≡ true
same_form None e = cc
same_form (Some info) e = by info.key e
  where
    by : (form : KeyForm) → line_has_one_part (Some (record info { key = form })) ≡ true → tables.line_has_one_part (Some (record info { key = form })) ≡ true
    by OnePart f = refl
    by TwoParts f = cc

has_one : (of : Entity) → has_one_part of ≡ true → tables.has_one_part of ≡ true
unfolding has_one_part
has_one of e = same_form (info_of of) e

-- ---- the row with an id

-- the key of a live row with that id, where keys have one part
abbrev pub id_key : Entity → ℕ → Key
id_key entity id = record { entity = entity; version = 0; id = id; second = 0 }

same_truth : (a b : Bool) → (a ≡ true → b ≡ true) → (b ≡ true → a ≡ true) → a ≡ b
same_truth true b there back = sym (there refl)
same_truth false true there back = back refl
same_truth false false there back = refl

module _ (of : Entity) (one : has_one_part of ≡ true) (id : ℕ) where
  -- a live row with the id stands at the key
  pub key_of_one : (row : Row) → row_key_fits row.key ≡ true → is_live row ≡ true → is_one of id row ≡ true → row.key ≡ id_key of id
  key_of_one row fits live is =
      let k = one_key of id row (has_one of one) fits is in
      let version : row.key.version ≡ 0 = eqb-true row.key.version 0 live in
      λ i. record { entity = sym k.entity i; version = version i; id = sym k.id_is i; second = k.second i }

  one_of_key : (row : Row) → row.key ≡ id_key of id → (is_live row && is_one of id row) ≡ true
  one_of_key row e = and_from _ _ (eq-eqb _ _ (ap (λ (k : Key). k.version) e)) (and_from _ _ (eq-eqb _ _ (ap (λ (k : Key). entity_number k.entity) (sym e))) (eq-eqb _ _ (ap (λ (k : Key). k.id) (sym e))))

  is_at_key : (row : Row) → row_key_fits row.key ≡ true → (is_live row && is_one of id row) ≡ is_eq (key_cmp row.key (id_key of id))
  is_at_key row fits = same_truth (is_live row && is_one of id row) (is_eq (key_cmp row.key (id_key of id))) there back
    where
      there : (is_live row && is_one of id row) ≡ true → is_eq (key_cmp row.key (id_key of id)) ≡ true
      there e =
          let both = and_parts (is_live row) (is_one of id row) e in
          let same = key_of_one row fits both.0 both.1 in
          subst (λ (k : Key). is_eq (key_cmp row.key k) ≡ true) same (ap is_eq (itself_equal key_cmp key_cmp_total row.key))

      back : is_eq (key_cmp row.key (id_key of id)) ≡ true → (is_live row && is_one of id row) ≡ true
      back e = one_of_key row (key_is row.key (id_key of id) (is_equal _ e))

  found_at_key : (rows : List Row) → are_formed rows ≡ true → find (λ row. is_live row && is_one of id row) rows ≡ row_at rows (id_key of id)
  found_at_key [] formed = refl
  found_at_key (row ∷ rows) formed =
      let both = and_parts (row_key_fits row.key) (are_formed rows) formed in
      rw (is_at_key row both.0, found_at_key rows both.1) refl

  -- the live row with the id is the one at the key
  pub one_found : (rows : List Row) → are_formed rows ≡ true → find (is_one of id) (live rows) ≡ row_at rows (id_key of id)
  one_found rows formed = find-filter (is_one of id) is_live rows ∙ found_at_key rows formed

  -- and there is no other
  pub one_alone : (rows : List Row) → are_formed rows ≡ true → IsInKeyOrder rows → (a b : Row) → IsIn a (live rows) → IsIn b (live rows) → is_one of id a ≡ true → is_one of id b ≡ true → a ≡ b
  one_alone rows formed up a b i j p q =
      let s = of_filter is_live rows a i in
      let t = of_filter is_live rows b j in
      let fits : (row : Row) → IsIn row rows → row_key_fits row.key ≡ true = λ row k. all_at (λ (r : Row). row_key_fits r.key) rows row formed k in
      at_one_key rows a b up s.is_in t.is_in (key_of_one a (fits a s.is_in) s.passes p ∙ sym (key_of_one b (fits b t.is_in) t.passes q))

-- ---- what searches find

pub any_is_found : {X : Type 0} (p : X → Bool) (xs : List X) → list_any p xs ≡ is_some (find p xs)
any_is_found p [] = refl
any_is_found {X} p (x ∷ xs) = by (any_is_found p xs) (p x)
  where
    by : list_any p xs ≡ is_some (find p xs) → (b : Bool) → (b || list_any p xs) ≡ is_some (cond b (Some x) (find p xs))
    by more true = refl
    by more false = more

all_of_one : {X : Type 0} (p q : X → Bool) (xs : List X) → ((x : X) → IsIn x xs → p x ≡ true → q x ≡ true) → list_all (λ x. not (p x) || q x) xs ≡ true
all_of_one p q [] h = refl
all_of_one {X} p q (x ∷ xs) h = and_from _ _ (by (p x) refl) (all_of_one p q xs (λ y i. h y (inr i)))
  where
    by : (b : Bool) → p x ≡ b → (not b || q x) ≡ true
    by true e = h x (inl refl) e
    by false e = refl

-- what is asked of all that pass is asked of the one that is found
all_is_found : {X : Type 0} (p q : X → Bool) (xs : List X) → ((a b : X) → IsIn a xs → IsIn b xs → p a ≡ true → p b ≡ true → a ≡ b) → list_all (λ x. not (p x) || q x) xs ≡ option_map_or q (find p xs) true
all_is_found p q [] one = refl
all_is_found {X} p q (x ∷ xs) one = by (all_is_found p q xs (λ a b i j. one a b (inr i) (inr j))) (p x) refl (q x) refl
  where
    by : list_all (λ y. not (p y) || q y) xs ≡ option_map_or q (find p xs) true → (b : Bool) → p x ≡ b → (c : Bool) → q x ≡ c → ((not b || q x) && list_all (λ y. not (p y) || q y) xs) ≡ option_map_or q (cond b (Some x) (find p xs)) true
    by more true e true f = rw f (all_of_one p q xs (λ y i h. subst (λ z. q z ≡ true) (one x y (inl refl) (inr i) e h) f))
    by more true e false f = rw f refl
    by more false e c f = more

-- ---- references

-- what a reference names is there where it is found
pub met_where_found : (reference : Reference) (rows : List Row) (row : Row) (id : ℕ) → named reference row ≡ Some id → is_met reference rows row ≡ is_some (find (is_one reference.of id) rows)
met_where_found reference rows row id e = rw e (any_is_found (is_one reference.of id) rows)

not_tied : (a b : Bool) → (not (a && false) || b) ≡ true
not_tied true b = refl
not_tied false b = refl

-- where nothing is named, no node is of another tree
pub tree_of_none : (reference : Reference) (rows : List Row) (row : Row) → named reference row ≡ None → is_of_tree reference rows row ≡ true
tree_of_none reference rows row e = all_from _ rows (λ other i. rw e (not_tied (is_entity reference.of other.key.entity) _))

-- and else the one that is found is asked
pub tree_of_found : (reference : Reference) (rows : List Row) (row : Row) (id : ℕ) (found : Option Row) → IsInKeyOrder rows → are_formed rows ≡ true → has_one_part reference.of ≡ true → named reference row ≡ Some id
    → found ≡ find (is_one reference.of id) (live rows) → is_of_tree reference (live rows) row ≡ option_map_or (agree_within reference.within row) found true
tree_of_found reference rows row id found up formed one e f =
    rw e (all_is_found (is_one reference.of id) (agree_within reference.within row) (live rows) (one_alone reference.of one id rows formed up))
    ∙ ap (λ (o : Option Row). option_map_or (agree_within reference.within row) o true) (sym f)

-- Rows in the order of keys, cut into parts that stand one behind the other.
use Rattle.std.proofs.Common.{◌≡◌, ℕ, ◌<◌, Bool, true, false, ◌&&◌, ◌||◌, nat_lt, inl, inr, List, [], ◌∷◌, ◌++◌, filter, refl, sym, ap, ◌∙◌, arith}
use Rattle.std.specs.List.{list_any}
use Rattle.std.specs.Ordering.{nat_cmp, ordering_reverse, MatchOrdering}
use Rattle.std.specs.declared.cmp.Ordering.{Ordering}
use Rattle.std.specs.declared.cmp.Ordering.TheVariants.{Less, Equal, Greater}
use Rattle.std.proofs.lemmas.Bool.{and_parts, eqb-true, ltb-true}
use Rattle.std.proofs.lemmas.Cmp.{ranked}
use Rattle.closure.specs.Closure.{IsIn}
use Rattle.shop_defs.specs.declared.key.Key.{Key}
use Rattle.shop_defs.specs.declared.row.Row.{Row}
use Rattle.shop_defs.specs.Entities.{entity_number}
use Rattle.shop_defs.specs.Keys.{key_cmp}
use Rattle.shop_defs.specs.Rows.{IsInKeyOrder}
use Rattle.shop_defs.proofs.Keys.{key_cmp_total}
use Rattle.shop_operations.specs.References.{is_entity}
use Rattle.shop_soundness.proofs.Lists.{each_of, of_each}
use Rattle.shop_drafts.proofs.Orders.{filter_none}
use Rattle.shop_drafts.specs.declared.aggregate.Member.{Member}
use Rattle.shop_write.proofs.InOrder.{itself}
use Rattle.shop_version.specs.Taking.{parts}

less_greater : (a b : Key) → key_cmp a b ≡ Less → key_cmp b a ≡ Greater
less_greater a b e = key_cmp_total.antisymm b a ∙ ap ordering_reverse e

pub less_twice : (a b : Key) → key_cmp a b ≡ Less → key_cmp b a ≡ Less → ⊥
less_twice a b e f = let g = less_greater a b e in let h : Less ≡ Greater = sym f ∙ g in cc

pub less_itself : (a : Key) → key_cmp a a ≡ Less → ⊥
less_itself a e = let h : Less ≡ Equal = sym e ∙ itself key_cmp (λ (key : Key). key) key_cmp_total a in cc

-- where each row of the first kind is below each of the second, the two kinds stand one behind the other
pub cut_in_two : (a b : Row → Bool) (rows : List Row) → IsInKeyOrder rows → ((row other : Row) → IsIn row rows → IsIn other rows → a row ≡ true → b other ≡ true → key_cmp row.key other.key ≡ Less)
    → filter (λ row. a row || b row) rows ≡ filter a rows ++ filter b rows
cut_in_two a b [] up apart = refl
cut_in_two a b (x ∷ xs) up apart = by (cut_in_two a b xs up.1 (λ row other i j. apart row other (inr i) (inr j))) (a x) refl (b x) refl
  where
    none : b x ≡ true → filter a xs ≡ []
    none f = filter_none a xs (each_of (λ y. a y ≡ false) xs (λ y i. test y i (a y) refl))
      where
        test : (y : Row) → IsIn y xs → (p : Bool) → a y ≡ p → p ≡ false
        test y i true e = absurd (less_twice x.key y.key (of_each (λ z. key_cmp x.key z.key ≡ Less) xs y up.0 i) (apart y x (inr i) (inl refl) e f))
        test y i false e = refl

    by : filter (λ row. a row || b row) xs ≡ filter a xs ++ filter b xs → (p : Bool) → a x ≡ p → (q : Bool) → b x ≡ q → filter (λ row. a row || b row) (x ∷ xs) ≡ filter a (x ∷ xs) ++ filter b (x ∷ xs)
    by more true e true f = absurd (less_itself x.key (apart x x (inl refl) (inl refl) e f))
    by more true e false f = rw (e, f) (ap (λ ys. x ∷ ys) more)
    by more false e true f = rw (e, f, none f) (ap (λ ys. x ∷ ys) (more ∙ ap (λ ys. ys ++ filter b xs) (none f)))
    by more false e false f = rw (e, f) more

nat_less : (a b : ℕ) → a < b → nat_cmp a b ≡ Less
nat_less a b h = by (nat_cmp a b) (ranked a b (nat_cmp a b) refl)
  where
    by : (o : Ordering) → MatchOrdering o (a < b) (a ≡ b) (b < a) → o ≡ Less
    by Less m = refl
    by Equal m = absurd (omega arith)
    by Greater m = absurd (omega arith)

-- rows of an earlier entity stand before
pub entity_below : (a b : Key) → entity_number a.entity < entity_number b.entity → key_cmp a b ≡ Less
entity_below a b h = rw (nat_less (entity_number a.entity) (entity_number b.entity) h) refl

-- the entities of the members ascend, and are above that number
abbrev pub rises_from : ℕ → List Member → Bool
rises_from n [] = true
rises_from n (member ∷ members) = nat_lt n (entity_number member.entity) && rises_from (entity_number member.entity) members

module _ (p : Row → Member → Bool) (fits : (row : Row) (member : Member) → p row member ≡ true → is_entity member.entity row.key.entity ≡ true) where
  above : (members : List Member) (n : ℕ) (row : Row) → rises_from n members ≡ true → list_any (p row) members ≡ true → n < entity_number row.key.entity
  above [] n row r e = cc
  above (member ∷ members) n row r e = by (above members (entity_number member.entity) row rest) (p row member) refl
    where
      first : n < entity_number member.entity
      first = ltb-true n (entity_number member.entity) (and_parts (nat_lt n (entity_number member.entity)) (rises_from (entity_number member.entity) members) r).0

      rest : rises_from (entity_number member.entity) members ≡ true
      rest = (and_parts (nat_lt n (entity_number member.entity)) (rises_from (entity_number member.entity) members) r).1

      by : (list_any (p row) members ≡ true → entity_number member.entity < entity_number row.key.entity) → (b : Bool) → p row member ≡ b → n < entity_number row.key.entity
      by more true f = let same : entity_number member.entity ≡ entity_number row.key.entity = eqb-true _ _ (fits row member f) in let low : n < entity_number member.entity = first in omega arith
      by more false f =
          let later : list_any (p row) members ≡ true = sym (ap (λ b. b || list_any (p row) members) f) ∙ e in
          let high : entity_number member.entity < entity_number row.key.entity = more later in
          let low : n < entity_number member.entity = first in omega arith

  pub parts_are : (members : List Member) (n : ℕ) (rows : List Row) → IsInKeyOrder rows → rises_from n members ≡ true → filter (λ row. list_any (p row) members) rows ≡ parts p members rows
  parts_are [] n rows up r = filter_none (λ row. list_any (p row) []) rows (each_of (λ row. list_any (p row) [] ≡ false) rows (λ row i. refl))
  parts_are (member ∷ members) n rows up r =
      cut_in_two (λ row. p row member) (λ row. list_any (p row) members) rows up (λ row other i j e f. apart row other e f)
      ∙ ap (λ ys. filter (λ row. p row member) rows ++ ys) (parts_are members (entity_number member.entity) rows up rest)
    where
      rest : rises_from (entity_number member.entity) members ≡ true
      rest = (and_parts (nat_lt n (entity_number member.entity)) (rises_from (entity_number member.entity) members) r).1

      apart : (row other : Row) → p row member ≡ true → list_any (p other) members ≡ true → key_cmp row.key other.key ≡ Less
      apart row other e f =
          let same : entity_number member.entity ≡ entity_number row.key.entity = eqb-true _ _ (fits row member e) in
          let low : entity_number member.entity < entity_number other.key.entity = above members (entity_number member.entity) other rest f in
          entity_below row.key other.key (omega arith)

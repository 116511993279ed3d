-- The order of places, and how rows at one place are the same.
use Rattle.std.proofs.Common.{◌≡◌, ℕ, true, ◌&&◌, inl, inr, List, [], ◌∷◌, refl, sym, ap, subst, ◌∙◌}
use Rattle.std.specs.Prelude.{◌==◌}
use Rattle.std.specs.List.{list_all}
use Rattle.std.specs.declared.cmp.Ordering.{Ordering}
use Rattle.std.specs.declared.cmp.Ordering.TheVariants.{Less, Equal, Greater}
use Rattle.std.specs.Cmp.{IsTotalOrder}
use Rattle.std.specs.Ordering.{nat_cmp, ordering_then, is_lt}
use Rattle.std.proofs.lemmas.Cmp.{ranked, on_total, then_total, nat_cmp_total, tied_itself}
use Rattle.std.proofs.lemmas.Bool.{true≢false, and_from, and_parts, eqb-true, eq-eqb}
use Rattle.shop_defs.specs.declared.key.Key.{Key}
use Rattle.shop_defs.specs.declared.row.Row.{Row}
use Rattle.shop_defs.specs.Entities.{entity_number}
use Rattle.shop_defs.specs.Fitting.{row_key_fits}
use Rattle.shop_operations.specs.Deletes.{stands_at}
use Rattle.shop_operations.specs.References.{is_entity}
use Rattle.shop_operations.specs.Upserts.{place_cmp}
use Rattle.shop_operations.specs.Views.{IsInPlaceOrder}
use Rattle.closure.specs.Closure.{IsIn}
use Rattle.shop_soundness.proofs.Lists.{of_each}

-- each key is of its entity's form
abbrev pub AreFormed : List Row → Type 0
AreFormed rows = list_all (λ row. row_key_fits row.key) rows ≡ true

pub place_cmp_total : IsTotalOrder place_cmp
place_cmp_total =
    then_total (on_total (λ (k : Key). entity_number k.entity) nat_cmp_total)
    (then_total (on_total (λ (k : Key). k.id) nat_cmp_total) (on_total (λ (k : Key). k.second) nat_cmp_total))

pub same_number : (a b : ℕ) → nat_cmp a b ≡ Equal → a ≡ b
same_number a b e = ranked a b Equal (sym e)

-- two keys at one place
pub record AtOnePlace (a b : Key) : Type 0 where
  pub entity : entity_number a.entity ≡ entity_number b.entity
  pub id : a.id ≡ b.id
  pub second : a.second ≡ b.second

then_equal : (o p : Ordering) → ordering_then o p ≡ Equal → (o ≡ Equal) × (p ≡ Equal)
then_equal Less p e = cc
then_equal Equal p e = (refl, e)
then_equal Greater p e = cc

pub at_one_place : (a b : Key) → place_cmp a b ≡ Equal → AtOnePlace a b
at_one_place a b e =
    let f = then_equal (nat_cmp (entity_number a.entity) (entity_number b.entity)) _ e in
    let h = then_equal (nat_cmp a.id b.id) (nat_cmp a.second b.second) f.1 in
    record { entity = same_number _ _ f.0; id = same_number _ _ h.0; second = same_number _ _ h.1 }

equal_itself : (a b : ℕ) → a ≡ b → nat_cmp a b ≡ Equal
equal_itself a b e = rw e (tied_itself nat_cmp_total b)

pub place_equal : (a b : Key) → AtOnePlace a b → place_cmp a b ≡ Equal
place_equal a b s = rw (equal_itself _ _ s.entity, equal_itself _ _ s.id, equal_itself _ _ s.second) refl

-- the row stands at the key's place
pub stands_place : (key : Key) (row : Row) → stands_at key row ≡ true → AtOnePlace key row.key
stands_place key row e =
    let parts = and_parts (is_entity key.entity row.key.entity && (key.id == row.key.id)) (key.second == row.key.second) e in
    let front = and_parts (is_entity key.entity row.key.entity) (key.id == row.key.id) parts.0 in
    record { entity = eqb-true _ _ front.0; id = eqb-true _ _ front.1; second = eqb-true _ _ parts.1 }

pub place_stands : (key : Key) (row : Row) → AtOnePlace key row.key → stands_at key row ≡ true
place_stands key row s = and_from _ _ (and_from _ _ (eq-eqb _ _ s.entity) (eq-eqb _ _ s.id)) (eq-eqb _ _ s.second)

pub place_back : (a b : Key) → AtOnePlace a b → AtOnePlace b a
place_back a b s = record { entity = sym s.entity; id = sym s.id; second = sym s.second }

pub place_on : (a b c : Key) → AtOnePlace a b → AtOnePlace b c → AtOnePlace a c
place_on a b c s t = record { entity = s.entity ∙ t.entity; id = s.id ∙ t.id; second = s.second ∙ t.second }

not_below : (a b : Key) → AtOnePlace a b → place_cmp a b ≡ Less → ⊥
not_below a b s e = true≢false (ap is_lt (sym e ∙ place_equal a b s))

-- of the rows in the order of places, those at one place are the same
pub same_row : (rows : List Row) (a b : Row) → IsInPlaceOrder rows → IsIn a rows → IsIn b rows → AtOnePlace a.key b.key → a ≡ b
same_row [] a b up i j s = absurd i
same_row (row ∷ rest) a b up (inl e) (inl f) s = sym e ∙ f
same_row (row ∷ rest) a b up (inr i) (inr j) s = same_row rest a b up.1 i j s
same_row (row ∷ rest) a b up (inl e) (inr j) s =
    absurd (not_below row.key b.key (subst (λ (r : Row). AtOnePlace r.key b.key) (sym e) s) (of_each (λ r. place_cmp row.key r.key ≡ Less) rest b up.0 j))
same_row (row ∷ rest) a b up (inr i) (inl f) s =
    absurd (not_below row.key a.key (subst (λ (r : Row). AtOnePlace r.key a.key) (sym f) (place_back a.key b.key s)) (of_each (λ r. place_cmp row.key r.key ≡ Less) rest a up.0 i))

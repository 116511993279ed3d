-- Rows whose keys ascend, and live ones among them.
use Rattle.std.proofs.Common.{◌≡◌, Bool, true, false, cond, inl, inr, List, [], ◌∷◌, Option, Some, refl, sym, ap, subst, ◌∙◌}
use Rattle.std.specs.declared.cmp.Ordering.{Ordering}
use Rattle.std.specs.declared.cmp.Ordering.TheVariants.{Less, Equal, Greater}
use Rattle.std.specs.Ordering.{is_lt}
use Rattle.std.specs.List.{AllByRecursion}
use Rattle.std.proofs.lemmas.Bool.{eqb-true}
use Rattle.closure.specs.Closure.{IsIn}
use Rattle.shop_defs.specs.declared.key.Key.{Key}
use Rattle.shop_defs.specs.declared.row.Row.{Row}
use Rattle.shop_defs.specs.Keys.{key_cmp}
use Rattle.shop_defs.specs.Rows.{row_key, IsInKeyOrder}
use Rattle.shop_defs.proofs.Keys.{key_cmp_total}
use Rattle.shop_operations.specs.References.{is_live, live}
use Rattle.shop_operations.specs.Upserts.{place_cmp}
use Rattle.shop_operations.specs.Views.{IsInPlaceOrder}
use Rattle.shop_rows.proofs.Same.{itself_equal}
use Rattle.shop_soundness.proofs.Lists.{of_each}
use Rattle.shop_check.specs.Damage.{is_above}

pub is_less : (o : Ordering) → is_lt o ≡ true → o ≡ Less
is_less Less e = refl
is_less Equal e = cc
is_less Greater e = cc

-- each key is above the one before
abbrev pub AreAbove : Option Key → List Row → Type 0
AreAbove before [] = Unit {0}
AreAbove before (row ∷ rows) = (is_above before row.key ≡ true) × AreAbove (Some row.key) rows

lowered : (low key : Key) (rows : List Row) → key_cmp low key ≡ Less → AreAbove (Some key) rows → AreAbove (Some low) rows
lowered low key [] less above = tt
lowered low key (row ∷ rows) less above = (ap is_lt (key_cmp_total.trans low key row.key less (is_less _ above.0)), above.1)

all_above : (low : Key) (rows : List Row) → AreAbove (Some low) rows → AllByRecursion (λ row. key_cmp low (row_key row) ≡ Less) rows
all_above low [] above = tt
all_above low (row ∷ rows) above = let less = is_less (key_cmp low row.key) above.0 in (less, all_above low rows (lowered low row.key rows less above.1))

-- then the rows ascend by key
pub in_order : (before : Option Key) (rows : List Row) → AreAbove before rows → IsInKeyOrder rows
in_order before [] above = tt
in_order before (row ∷ rows) above = (all_above row.key rows above.1, in_order (Some row.key) rows above.1)

-- ---- two of them

not_less_itself : (key : Key) → key_cmp key key ≡ Less → ⊥
not_less_itself key e = let same : key_cmp key key ≡ Equal = itself_equal key_cmp key_cmp_total key in cc

-- of rows that ascend by key, those at one key are the same
pub at_one_key : (rows : List Row) (a b : Row) → IsInKeyOrder rows → IsIn a rows → IsIn b rows → a.key ≡ b.key → a ≡ b
at_one_key [] a b up i j e = absurd i
at_one_key (row ∷ rows) a b up (inl f) (inl g) e = sym f ∙ g
at_one_key (row ∷ rows) a b up (inl f) (inr j) e =
    let less : key_cmp row.key b.key ≡ Less = of_each (λ other. key_cmp row.key (row_key other) ≡ Less) rows b up.0 j in
    absurd (not_less_itself b.key (subst (λ (k : Key). key_cmp k b.key ≡ Less) (ap row_key f ∙ e) less))
at_one_key (row ∷ rows) a b up (inr i) (inl g) e =
    let less : key_cmp row.key a.key ≡ Less = of_each (λ other. key_cmp row.key (row_key other) ≡ Less) rows a up.0 i in
    absurd (not_less_itself a.key (subst (λ (k : Key). key_cmp k a.key ≡ Less) (ap row_key g ∙ sym e) less))
at_one_key (row ∷ rows) a b up (inr i) (inr j) e = at_one_key rows a b up.1 i j e

-- ---- live rows

as_places : (a b : Row) → is_live a ≡ true → is_live b ≡ true → key_cmp a.key b.key ≡ place_cmp a.key b.key
as_places a b v w =
    let one : a.key.version ≡ 0 = eqb-true a.key.version 0 v in
    let two : b.key.version ≡ 0 = eqb-true b.key.version 0 w in
    rw (one, two) refl

live_above : (low : Row) (rows : List Row) → is_live low ≡ true → AllByRecursion (λ row. key_cmp low.key (row_key row) ≡ Less) rows → AllByRecursion (λ row. place_cmp low.key (row_key row) ≡ Less) (live rows)
live_above low [] v above = tt
live_above low (row ∷ rows) v above = by (live_above low rows v above.1) (is_live row) refl
  where
    by : AllByRecursion (λ row. place_cmp low.key (row_key row) ≡ Less) (live rows) → (b : Bool) → is_live row ≡ b → AllByRecursion (λ row. place_cmp low.key (row_key row) ≡ Less) (cond b (row ∷ live rows) (live rows))
    by more true e = (sym (as_places low row v e) ∙ above.0, more)
    by more false e = more

-- the live ones of rows that ascend by key stand in the order of places
pub live_in_order : (rows : List Row) → IsInKeyOrder rows → IsInPlaceOrder (live rows)
live_in_order [] up = tt
live_in_order (row ∷ rows) up = by (live_in_order rows up.1) (is_live row) refl
  where
    by : IsInPlaceOrder (live rows) → (b : Bool) → is_live row ≡ b → IsInPlaceOrder (cond b (row ∷ live rows) (live rows))
    by more true e = (live_above row rows e up.0, more)
    by more false e = more

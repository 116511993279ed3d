-- Whether keys ascend, by a test of each key and the next one.
use Rattle.std.proofs.Common.{◌≡◌, ◌<◌, length, arith, Bool, true, false, ◌&&◌, List, [], ◌∷◌, refl, sym, ap, true≢false}
use Rattle.std.specs.declared.cmp.Ordering.{Ordering}
use Rattle.std.specs.declared.cmp.Ordering.TheVariants.{Less, Equal, Greater}
use Rattle.std.specs.Ordering.{is_lt}
use Rattle.std.specs.List.{AllByRecursion}
use Rattle.shop_defs.specs.declared.key.Key.{Key}
use Rattle.shop_defs.specs.Keys.{key_cmp}
use Rattle.shop_defs.proofs.Keys.{key_cmp_total}
use Rattle.keyed.specs.Keyed.{Ascends}
use Rattle.shop_outside.specs.Keeping.{kept_key}
use Rattle.shop_outside.specs.Scanning.{is_below_first, keys_ascend}

both : (a b : Bool) → (a && b) ≡ true → (a ≡ true) × (b ≡ true)
both true b e = (refl, e)
both false b e = absurd (true≢false (sym e))

less : (o : Ordering) → is_lt o ≡ true → o ≡ Less
less Less e = refl
less Equal e = absurd (true≢false (sym e))
less Greater e = absurd (true≢false (sym e))

all_above : {A : Type 0} (a b : Key) (rows : List (Key × A)) → key_cmp a b ≡ Less → AllByRecursion (λ row. key_cmp b (kept_key row) ≡ Less) rows → AllByRecursion (λ row. key_cmp a (kept_key row) ≡ Less) rows
all_above a b [] below all = tt
all_above a b (row ∷ more) below all = (key_cmp_total.trans a b (kept_key row) below all.0, all_above a b more below all.1)

above_first : {A : Type 0} (key : Key) (rows : List (Key × A)) → is_below_first key rows ≡ true → Ascends key_cmp kept_key rows → AllByRecursion (λ row. key_cmp key (kept_key row) ≡ Less) rows
above_first key [] test up = tt
above_first key (row ∷ more) test up = let below : key_cmp key row.0 ≡ Less = less _ test in (below, all_above key row.0 more below up.0)

pub ascends_from_test : {A : Type 0} (rows : List (Key × A)) → keys_ascend rows ≡ true → Ascends key_cmp kept_key rows
ascends_from_test [] test = tt
ascends_from_test (row ∷ more) test = let t = both _ _ test in let up = ascends_from_test more t.1 in (above_first row.0 more t.0 up, up)

first_below : {A : Type 0} (key : Key) (rows : List (Key × A)) → AllByRecursion (λ row. key_cmp key (kept_key row) ≡ Less) rows → is_below_first key rows ≡ true
first_below key [] all = refl
first_below key (row ∷ more) all = ap is_lt all.0

pub test_from_ascends : {A : Type 0} (rows : List (Key × A)) → Ascends key_cmp kept_key rows → keys_ascend rows ≡ true
test_from_ascends [] up = refl
test_from_ascends (row ∷ more) up = rw (first_below row.0 more up.0) (test_from_ascends more up.1)

-- a list of one row, or none
pub short_ascends : {A : Type 0} (rows : List (Key × A)) → length rows < 2 → keys_ascend rows ≡ true
short_ascends [] short = refl
short_ascends (row ∷ []) short = refl
short_ascends (row ∷ next ∷ more) short = absurd (omega (arith, short))

-- How two lists of keys in order become one, step by step.
use Rattle.std.proofs.Common.{◌≡◌, ◌<◌, ◌+◌, ℕ, zero, suc, List, [], ◌∷◌, ◌++◌, length, get_or, drop, drop-cons, add-one, append_assoc, arith, refl, ap, ◌∙◌}
use Rattle.std.specs.List.{AllByRecursion}
use Rattle.std.specs.declared.cmp.Ordering.{Ordering}
use Rattle.std.specs.declared.cmp.Ordering.TheVariants.{Less, Equal, Greater}
use Rattle.std.specs.Ordering.{match_ordering}
use Rattle.keyed.specs.Keyed.{Ascends, put}
use Rattle.shop_defs.specs.declared.key.Key.{Key}
use Rattle.shop_operations.specs.Upserts.{place_cmp}
use Rattle.shop_write.proofs.Standing.{place_cmp_total}
use Rattle.shop_version.specs.Overlays.{places_below, places_above, joined_places}
use Rattle.shop_write.proofs.InOrder.{weaken, head_stays}

abbrev key_of : Key → Key
key_of key = key

-- a put parts the keys
put_parts : (keys : List Key) (key : Key) → put place_cmp key_of keys key ≡ places_below keys key ++ key ∷ places_above keys key
put_parts [] key = refl
put_parts (first ∷ rest) key = by (put_parts rest key) (place_cmp first key) refl
  where
    by : put place_cmp key_of rest key ≡ places_below rest key ++ key ∷ places_above rest key → (o : Ordering) → place_cmp first key ≡ o → put place_cmp key_of (first ∷ rest) key ≡ places_below (first ∷ rest) key ++ key ∷ places_above (first ∷ rest) key
    by more Less e = rw (e, more) refl
    by more Equal e = rw e refl
    by more Greater e = rw e refl

all_below : (keys : List Key) (key : Key) → AllByRecursion (λ first. place_cmp first key ≡ Less) (places_below keys key)
all_below [] key = tt
all_below (first ∷ rest) key = by (all_below rest key) (place_cmp first key) refl
  where
    by : AllByRecursion (λ below. place_cmp below key ≡ Less) (places_below rest key) → (o : Ordering) → place_cmp first key ≡ o → AllByRecursion (λ below. place_cmp below key ≡ Less) (match_ordering o (first ∷ places_below rest key) [] [])
    by more Less e = (e, more)
    by more Equal e = tt
    by more Greater e = tt

-- heads below all that is put stay
heads_stay : (heads keys others : List Key) (key : Key) → AllByRecursion (λ first. place_cmp first key ≡ Less) heads → AllByRecursion (λ other. place_cmp key other ≡ Less) others
    → joined_places (heads ++ key ∷ keys) others ≡ heads ++ key ∷ joined_places keys others
heads_stay [] keys others key below above = head_stays place_cmp key_of place_cmp_total key others keys above
heads_stay (first ∷ heads) keys others key below above =
    head_stays place_cmp key_of place_cmp_total first others (heads ++ key ∷ keys) (weaken (λ other. place_cmp key other ≡ Less) (λ other. place_cmp first other ≡ Less) others (λ other l. place_cmp_total.trans first key other below.0 l) above)
    ∙ ap (λ rest. first ∷ rest) (heads_stay heads keys others key below.1 above)

-- the keys below the first of the others come first, then that one, and then the rest made one
pub joined-cons : (keys others : List Key) (key : Key) → AllByRecursion (λ other. place_cmp key other ≡ Less) others
    → joined_places keys (key ∷ others) ≡ places_below keys key ++ key ∷ joined_places (places_above keys key) others
joined-cons keys others key above =
    ap (λ part. joined_places part others) (put_parts keys key)
    ∙ heads_stay (places_below keys key) (places_above keys key) others key (all_below keys key) above

-- behind a place the keys are above the one there
above_place : (others : List Key) (i : ℕ) (d : Key) → i < length others → Ascends place_cmp key_of others → AllByRecursion (λ other. place_cmp (get_or others i d) other ≡ Less) (drop (suc i) others)
above_place [] i d low up = absurd (omega arith)
above_place (first ∷ rest) zero d low up = up.0
above_place (first ∷ rest) (suc i) d low up = above_place rest i d (omega arith) up.1

-- a step of the joining: the key at a place is put behind those below it
pub joined_step : (joined keys others : List Key) (i : ℕ) (d : Key) → i < length others → Ascends place_cmp key_of others
    → joined ++ joined_places keys (drop i others) ≡ ((joined ++ places_below keys (get_or others i d)) ++ get_or others i d ∷ []) ++ joined_places (places_above keys (get_or others i d)) (drop (i + 1) others)
joined_step joined keys others i d low up =
    let key = get_or others i d in
    let parts = joined-cons keys (drop (suc i) others) key (above_place others i d low up) in
    rw (add-one i, drop-cons others i d, parts) (regroup joined (places_below keys key) key (joined_places (places_above keys key) (drop (suc i) others)))
  where
    regroup : (a b : List Key) (key : Key) (rest : List Key) → a ++ (b ++ key ∷ rest) ≡ ((a ++ b) ++ key ∷ []) ++ rest
    regroup a b key rest = simp append_assoc

-- The rows whose keys don't change stay under changes of other keys.
use Rattle.std.proofs.Common.{◌≡◌, ℕ, false, not, List, [], ◌∷◌, ◌++◌, Option, Some, None, refl, ap, ◌∙◌}
use Rattle.std.specs.declared.cmp.Ordering.{Ordering}
use Rattle.std.specs.declared.cmp.Ordering.TheVariants.{Less, Equal, Greater}
use Rattle.std.specs.Option.{is_some}
use Rattle.std.specs.List.{AllByRecursion}
use Rattle.shop_defs.specs.declared.key.Key.{Key}
use Rattle.shop_defs.specs.Keys.{key_cmp}
use Rattle.shop_defs.proofs.Keys.{key_cmp_total}
use Rattle.shop_outside.specs.Keeping.{Bodies, BodyChanges, kept_key, keeps, kept_rows, body_change, body_changes}
use Rattle.shop_outside.specs.Scanning.{others_of}
use Rattle.shop_outside.proofs.Untouched.{tied_itself, find_tied, filter_others, filter_pushed, filter_without, filter_put}

-- each of these keys changes
abbrev pub AllChange : BodyChanges → BodyChanges → Type 0
AllChange changes some = AllByRecursion (λ change. keeps changes change.0 ≡ false) some

-- one change more
change_more : (first : Key × Option (List ℕ)) (changes : BodyChanges) (some : BodyChanges) → AllChange changes some → AllChange (first ∷ changes) some
change_more first changes [] all = tt
change_more first changes (change ∷ more) all = (by (key_cmp first.0 change.0) refl, change_more first changes more all.1)
  where
    by : (o : Ordering) → key_cmp first.0 change.0 ≡ o → keeps (first ∷ changes) change.0 ≡ false
    by Less e = rw e all.0
    by Equal e = rw e refl
    by Greater e = rw e all.0

-- the changes change their keys
pub all_change : (changes : BodyChanges) → AllChange changes changes
all_change [] = tt
all_change (change ∷ more) = (rw (tied_itself key_cmp key_cmp_total change.0) refl, change_more change more more (all_change more))

-- a key that changes is none of the rows that are kept
drops : (changes : BodyChanges) (key : Key) → keeps changes key ≡ false → (row : Key × List ℕ) → key_cmp row.0 key ≡ Equal → keeps changes row.0 ≡ false
drops changes key e row tied = ap (λ found. not (is_some found)) (find_tied key_cmp kept_key key_cmp_total changes row.0 key tied) ∙ e

-- all rows of a key that changes go
pub kept_others : (changes : BodyChanges) (held : Bodies) (key : Key) → keeps changes key ≡ false → kept_rows changes (others_of held key) ≡ kept_rows changes held
kept_others changes held key e = filter_others key_cmp kept_key (λ row. keeps changes row.0) held key (drops changes key e)

-- a row of such a key comes at the end
pub kept_pushed : (changes : BodyChanges) (held : Bodies) (key : Key) (body : List ℕ) → keeps changes key ≡ false → kept_rows changes (held ++ (key, body) ∷ []) ≡ kept_rows changes held
kept_pushed changes held key body e = filter_pushed key_cmp kept_key (λ row. keeps changes row.0) held (key, body) e

-- a change at its place
kept_change : (changes : BodyChanges) (held : Bodies) (key : Key) (change : Option (List ℕ)) → keeps changes key ≡ false → kept_rows changes (body_change held key change) ≡ kept_rows changes held
kept_change changes held key None e = filter_without key_cmp kept_key (λ row. keeps changes row.0) held key (drops changes key e)
kept_change changes held key (Some body) e = filter_put key_cmp kept_key (λ row. keeps changes row.0) held (key, body) (drops changes key e) e

-- changes at their places
pub kept_changes : (changes some : BodyChanges) (held : Bodies) → AllChange changes some → kept_rows changes (body_changes held some) ≡ kept_rows changes held
kept_changes changes [] held all = refl
kept_changes changes (change ∷ more) held all =
    kept_changes changes more (body_change held change.0 change.1) all.1
    ∙ kept_change changes held change.0 change.1 all.0

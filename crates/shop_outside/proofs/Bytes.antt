-- The bytes at a key after changes.
use Rattle.std.proofs.Common.{◌≡◌, ℕ, Bool, true, false, List, [], ◌∷◌, ◌++◌, Option, Some, None, option_map, if◌then◌else◌, refl, sym, ap, ◌∙◌, true≢false}
use Rattle.std.specs.declared.cmp.Ordering.{Ordering}
use Rattle.std.specs.declared.cmp.Ordering.TheVariants.{Less, Equal, Greater}
use Rattle.std.specs.Option.{option_map_or}
use Rattle.std.specs.Ordering.{is_eq}
use Rattle.shop_defs.specs.declared.key.Key.{Key}
use Rattle.shop_defs.specs.Keys.{key_cmp}
use Rattle.shop_defs.proofs.Keys.{key_cmp_total}
use Rattle.keyed.specs.Keyed.{Ascends, find}
use Rattle.keyed.proofs.Changes.{find_put, find_without, ascends_put, ascends_without}
use Rattle.shop_outside.specs.Keeping.{Bodies, BodyChanges, kept_key, bytes_at, kept_rows, body_change, body_changes, IsChanged}
use Rattle.shop_outside.specs.Scanning.{others_of, keys_ascend, bytes_in_turn}
use Rattle.shop_outside.proofs.Ascending.{test_from_ascends}
use Rattle.shop_outside.proofs.Finding.{none_below, find_others, find_pushed}
use Rattle.shop_outside.proofs.Unchanged.{all_change, kept_changes}

body_if : (test : Bool) (a b : Option (Key × List ℕ)) → option_map (λ row. row.1) (if test then a else b) ≡ (if test then option_map (λ row. row.1) a else option_map (λ row. row.1) b)
body_if true a b = refl
body_if false a b = refl

-- a row with the key taken out
pub bytes_others : (held : Bodies) (key q : Key) → bytes_at (others_of held key) q ≡ (if is_eq (key_cmp key q) then None else bytes_at held q)
bytes_others held key q = ap (λ row. option_map (λ r. r.1) row) (find_others key_cmp kept_key key_cmp_total held key q) ∙ body_if _ None (find key_cmp kept_key held q)

-- and then put at the end
pub bytes_pushed : (held : Bodies) (key : Key) (body : List ℕ) (q : Key) → bytes_at (others_of held key ++ (key, body) ∷ []) q ≡ (if is_eq (key_cmp key q) then Some body else bytes_at held q)
bytes_pushed held key body q = ap (λ row. option_map (λ r. r.1) row) (find_pushed key_cmp kept_key key_cmp_total held (key, body) q) ∙ body_if _ (Some (key, body)) (find key_cmp kept_key held q)

bytes_change : (held : Bodies) (key : Key) (change : Option (List ℕ)) (q : Key) → Ascends key_cmp kept_key held → bytes_at (body_change held key change) q ≡ (if is_eq (key_cmp key q) then change else bytes_at held q)
bytes_change held key None q up = ap (λ row. option_map (λ r. r.1) row) (find_without key_cmp kept_key key_cmp_total held key q up) ∙ body_if _ None (find key_cmp kept_key held q)
bytes_change held key (Some body) q up = ap (λ row. option_map (λ r. r.1) row) (find_put key_cmp kept_key key_cmp_total held (key, body) q) ∙ body_if _ (Some (key, body)) (find key_cmp kept_key held q)

pub ascends_change : (held : Bodies) (key : Key) (change : Option (List ℕ)) → Ascends key_cmp kept_key held → Ascends key_cmp kept_key (body_change held key change)
ascends_change held key None up = ascends_without key_cmp kept_key key_cmp_total held key up
ascends_change held key (Some body) up = ascends_put key_cmp kept_key key_cmp_total held (key, body) up

bytes_changes : (held : Bodies) (changes : BodyChanges) (q : Key) → Ascends key_cmp kept_key held → bytes_at (body_changes held changes) q ≡ bytes_in_turn (bytes_at held q) changes q
bytes_changes held [] q up = refl
bytes_changes held (change ∷ more) q up =
    bytes_changes (body_change held change.0 change.1) more q (ascends_change held change.0 change.1 up)
    ∙ ap (λ bytes. bytes_in_turn bytes more q) (bytes_change held change.0 change.1 q up)

-- where each key changes once, the changes in turn are the change that is found
pub turn_found : (bytes : Option (List ℕ)) (changes : BodyChanges) (q : Key) → Ascends key_cmp kept_key changes → bytes_in_turn bytes changes q ≡ option_map_or (λ change. change.1) (find key_cmp kept_key changes q) bytes
turn_found bytes [] q up = refl
turn_found bytes (change ∷ more) q up = by (key_cmp change.0 q) refl (λ now. turn_found now more q up.1)
  where
    by : (o : Ordering) → key_cmp change.0 q ≡ o → ((now : Option (List ℕ)) → bytes_in_turn now more q ≡ option_map_or (λ c. c.1) (find key_cmp kept_key more q) now) → bytes_in_turn bytes (change ∷ more) q ≡ option_map_or (λ c. c.1) (find key_cmp kept_key (change ∷ more) q) bytes
    by Less e rest = rw e (rest bytes)
    by Equal e rest = rw e (rest change.1 ∙ ap (λ found. option_map_or (λ c. c.1) found change.1) (none_below key_cmp kept_key key_cmp_total more change.0 q up.0 e))
    by Greater e rest = rw e (rest bytes)

-- the changes at their places in a list in order
pub changed_at_place : (held : Bodies) (changes : BodyChanges) (now : Bodies) → Ascends key_cmp kept_key held → Ascends key_cmp kept_key changes → Ascends key_cmp kept_key now → now ≡ body_changes held changes → IsChanged held changes now
changed_at_place held changes now up keys after list = record {
  bytes = λ q. ap (λ rows. bytes_at rows q) list ∙ (bytes_changes held changes q up ∙ turn_found (bytes_at held q) changes q keys);
  others = ap (kept_rows changes) list ∙ kept_changes changes changes held (all_change changes);
  order = λ _. after;
  list = λ _. list;
}

-- the changes in a list out of order
pub changed_by_scan : (held : Bodies) (changes : BodyChanges) (now : Bodies) → keys_ascend held ≡ false → Ascends key_cmp kept_key changes → ((q : Key) → bytes_at now q ≡ bytes_in_turn (bytes_at held q) changes q) → kept_rows changes now ≡ kept_rows changes held → IsChanged held changes now
changed_by_scan held changes now test keys turned others = record {
  bytes = λ q. turned q ∙ turn_found (bytes_at held q) changes q keys;
  others = others;
  order = λ up. absurd (true≢false (sym (test_from_ascends held up) ∙ test));
  list = λ up. absurd (true≢false (sym (test_from_ascends held up) ∙ test));
}

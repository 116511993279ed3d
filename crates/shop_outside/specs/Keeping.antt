-- What a keeper holds, what changes leave of it, and when it may answer that it failed.
use Rattle.std.specs.Prelude.{ℕ, ◌≡◌, ◌≤◌, Bool, not, List, filter}
use Rattle.std.specs.Prelude.{Option, Some, None, Result, Ok, Err, option_map}
use Rattle.std.specs.Option.{option_map_or, is_some}
use Rattle.std.specs.List.{fold}
use Rattle.shop_defs.specs.declared.key.Key.{Key}
use Rattle.shop_defs.specs.Keys.{key_cmp}
use Rattle.keyed.specs.Keyed.{Ascends, find, put, without}
use Rattle.shop_outside.specs.Causes.{Rose}
use Rattle.shop_outside.specs.declared.keeper.Kept.{Kept}
use Rattle.shop_outside.specs.declared.keeper.KeepFault.{KeepFault}
use Rattle.shop_outside.specs.declared.keeper.KeepFault.TheVariants as faults

-- `Failed` comes only where the count of faults rose, and any other answer leaves the count.
abbrev pub KeepCause : {T : Type 0} → ℕ → ℕ → Result T KeepFault → Type 0
KeepCause before now (Ok x) = now ≡ before
KeepCause before now (Err faults.Failed) = (before ≤ now) × Rose before now
KeepCause before now (Err faults.NoMemory) = now ≡ before

-- the key beside which something stands
abbrev pub kept_key : {A : Type 0} → Key × A → Key
kept_key entry = entry.0

-- bytes under their keys
abbrev pub Bodies : Type 0
Bodies = List (Key × List ℕ)

-- for each key that changes its new bytes, or none where it is removed
abbrev pub BodyChanges : Type 0
BodyChanges = List (Key × Option (List ℕ))

-- the bytes at a key
abbrev pub bytes_at : Bodies → Key → Option (List ℕ)
bytes_at held key = option_map (λ row. row.1) (find key_cmp kept_key held key)

-- the bytes at a key after changes: its new ones if it changes, else those that were held
abbrev pub bytes_after : Bodies → BodyChanges → Key → Option (List ℕ)
bytes_after held changes key =
    option_map_or (λ change. change.1) (find key_cmp kept_key changes key) (bytes_at held key)

-- the key isn't among those that change
abbrev pub keeps : BodyChanges → Key → Bool
keeps changes key = not (is_some (find key_cmp kept_key changes key))

-- the rows whose keys don't change, in their order
abbrev pub kept_rows : BodyChanges → Bodies → Bodies
kept_rows changes rows = filter (λ row. keeps changes row.0) rows

-- one change of a list in the order of its keys
abbrev pub body_change : Bodies → Key → Option (List ℕ) → Bodies
body_change held key None = without key_cmp kept_key held key
body_change held key (Some body) = put key_cmp kept_key held (key, body)

-- changes of a list in the order of its keys, in turn
abbrev pub body_changes : Bodies → BodyChanges → Bodies
body_changes held changes =
    fold (λ before change. body_change before change.0 change.1) held changes

-- What changes leave of any held list: each key's bytes, and all rows whose keys don't change, in
-- their order. Where the held keys ascend, they do after, with each change at its place.
pub record IsChanged (held : Bodies) (changes : BodyChanges) (now : Bodies) : Type 0 where
  pub bytes : (key : Key) → bytes_at now key ≡ bytes_after held changes key
  pub others : kept_rows changes now ≡ kept_rows changes held
  pub order : Ascends key_cmp kept_key held → Ascends key_cmp kept_key now
  pub list : Ascends key_cmp kept_key held → now ≡ body_changes held changes

-- What is held after `apply`, where it was told: each change is made, and the number is set.
abbrev pub Applied : Option Kept → Option Kept → BodyChanges → ℕ → Type 0
Applied None now changes number = now ≡ None
Applied (Some held) None changes number = ⊥
Applied (Some held) (Some now) changes number =
    IsChanged held.rows changes now.rows × (now.number ≡ number)

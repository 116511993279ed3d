-- What the edits of a keeper in memory compute.
use Rattle.std.specs.Prelude.{◌≡◌, ℕ, Bool, true, false, not, ◌&&◌, if◌then◌else◌}
use Rattle.std.specs.Prelude.{List, [], ◌∷◌, Option, filter}
use Rattle.std.specs.Ordering.{is_lt, is_eq}
use Rattle.std.specs.List.{fold}
use Rattle.shop_defs.specs.declared.key.Key.{Key}
use Rattle.shop_defs.specs.Keys.{key_cmp}
use Rattle.shop_outside.specs.Keeping.{Bodies, BodyChanges, bytes_at}
use Rattle.shop_outside.specs.Keeping.{keeps, kept_rows}

-- a key is below the first one
abbrev pub is_below_first : {A : Type 0} → Key → List (Key × A) → Bool
is_below_first key [] = true
is_below_first key (row ∷ more) = is_lt (key_cmp key row.0)

-- each key is below the next one
abbrev pub keys_ascend : {A : Type 0} → List (Key × A) → Bool
keys_ascend [] = true
keys_ascend (row ∷ more) = is_below_first row.0 more && keys_ascend more

-- the rows with another key
abbrev pub others_of : Bodies → Key → Bodies
others_of held key = filter (λ row. not (is_eq (key_cmp row.0 key))) held

-- one key's bytes change, and those at all others stay
abbrev pub ChangesAt : Bodies → Key → Option (List ℕ) → Bodies → Type 0
ChangesAt held key change now =
    (q : Key) → bytes_at now q ≡ (if is_eq (key_cmp key q) then change else bytes_at held q)

-- a change at one key leaves the rows of those that don't change, for any changes with that key
abbrev pub OthersStay : Bodies → Key → Bodies → Type 0
OthersStay held key now =
    (changes : BodyChanges) → keeps changes key ≡ false
    → kept_rows changes now ≡ kept_rows changes held

-- the bytes at a key after changes in turn, of which the last one counts
abbrev pub bytes_in_turn : Option (List ℕ) → BodyChanges → Key → Option (List ℕ)
bytes_in_turn held changes key =
    fold (λ before change. if is_eq (key_cmp change.0 key) then change.1 else before) held changes

abbrev pub ChangesInTurn : Bodies → BodyChanges → Bodies → Type 0
ChangesInTurn held changes now =
    (q : Key) → bytes_at now q ≡ bytes_in_turn (bytes_at held q) changes q

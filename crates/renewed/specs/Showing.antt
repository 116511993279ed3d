-- Tables that show what each key means.
use Rattle.std.specs.Prelude.{ℕ, ◌≡◌, ◌==◌, Bool, List, Option, if◌then◌else◌}
use Rattle.std.specs.List.{list_any}
use Rattle.std.specs.Option.{option_map}
use Rattle.std.specs.Ordering.{nat_cmp}
use Rattle.keyed.specs.Keyed.{Ascends, find}
use Rattle.paged.specs.Pairs.{key_of, value_of}

-- the key is among these
abbrev pub has_key : List ℕ → ℕ → Bool
has_key keys key = list_any (λ other. other == key) keys

module _ {V : Type 0} where
  -- the keys ascend, so each key stands once
  abbrev pub InTableOrder : List (ℕ × V) → Type 0
  InTableOrder table = Ascends nat_cmp key_of table

  -- what stands at the key
  abbrev pub value_at : List (ℕ × V) → ℕ → Option V
  value_at table key = option_map value_of (find nat_cmp key_of table key)

  -- the table shows the meaning: at each key stands what it means, and nothing at one that means nothing
  pub record Shows (meaning : ℕ → Option V) (table : List (ℕ × V)) : Type 0 where
    pub order : InTableOrder table
    pub each : (key : ℕ) → value_at table key ≡ meaning key

  -- at these keys the one, and elsewhere the other
  abbrev pub refreshed : (ℕ → Option V) → (ℕ → Option V) → List ℕ → ℕ → Option V
  refreshed now before keys key = if has_key keys key then now key else before key

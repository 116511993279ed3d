-- The names of fields stand in the order of the map that they come from.
use Rattle.std.proofs.Common.{◌≡◌, List, [], ◌∷◌, String, Global, string_bytes, string_cmp, nat_cmp, Less, map}
use Rattle.std.specs.Cmp.Lexicographic.{slice_cmp}
use Rattle.std.specs.List.{AllByRecursion}
use Rattle.std.specs.List.Sorted.{IsStrictlySortedBy}
use Rattle.std.specs.Map.{keys_of}
use Rattle.serde_json.specs.View.{members_view}
use Rattle.serde_json.specs.declared.value.Value.{Value}
use Rattle.body_json.specs.WellFormed.{NamesAscend}
use Rattle.body_json.specs.Shapes.{given}

abbrev Entry : Type 0
Entry = String Global × Value

below_names : (k : String Global) (es : List Entry) → AllByRecursion (λ l. string_cmp k l ≡ Less) (keys_of es)
    → AllByRecursion (λ name. slice_cmp nat_cmp (string_bytes k) name ≡ Less) (map (λ field. field.0) (given (members_view es)))
below_names k [] below = tt
below_names k (e ∷ es) below = (below.0, below_names k es below.1)

pub names_ascend : (es : List Entry) → IsStrictlySortedBy string_cmp (keys_of es) → NamesAscend (given (members_view es))
unfolding IsStrictlySortedBy
names_ascend [] sorted = tt
names_ascend (e ∷ es) sorted = (below_names e.0 es sorted.0, names_ascend es sorted.1)

pub none_ascend : NamesAscend []
unfolding IsStrictlySortedBy
none_ascend = tt

-- One more line of a table, read as an operation gives it.
use Rattle.std.proofs.Common.{◌≡◌, ℕ, ◌+◌, ◌<◌, List, [], ◌∷◌, ◌++◌, length, get_or, take, Option, Some, None, ap, ◌∙◌, add-one, append-nil}
use Rattle.std.specs.List.{filter_map}
use Rattle.std.proofs.lemmas.List.Elements.{filter_map-append}
use Rattle.std.proofs.Math.Seq.{take-suc}
use Rattle.shop_defs.specs.declared.value.Value.{Value}
use Rattle.shop_defs.specs.declared.table.FieldInfo.{FieldInfo}
use Rattle.shop_requests.specs.Operations.{Given, read_field, read_in}

-- the lines up to one more are those before it and that one
one_more : (table : List FieldInfo) (fields : List Given) (i : ℕ) (other : FieldInfo) → i < length table → read_in (take (i + 1) table) fields ≡ read_in (take i table) fields ++ read_in (get_or table i other ∷ []) fields
one_more table fields i other within =
    rw (add-one, take-suc table i other within) (filter_map-append (read_field fields) (take i table) (get_or table i other ∷ []))

-- with a line that is given, its field comes last
pub read_in_given : (table : List FieldInfo) (fields : List Given) (i : ℕ) (other : FieldInfo) (field : ℕ × Option Value) → i < length table → Some field ≡ read_field fields (get_or table i other) → read_in (take (i + 1) table) fields ≡ read_in (take i table) fields ++ field ∷ []
read_in_given table fields i other field within is =
    one_more table fields i other within ∙ ap (λ rest. read_in (take i table) fields ++ rest) (of_one (read_field fields (get_or table i other)) is)
  where
    of_one : (read : Option (ℕ × Option Value)) → Some field ≡ read → filter_map (λ (r : Option (ℕ × Option Value)). r) (read ∷ []) ≡ field ∷ []
    of_one (Some found) e = cc
    of_one None e = cc

-- with a line that isn't given, nothing comes
pub read_in_missing : (table : List FieldInfo) (fields : List Given) (i : ℕ) (other : FieldInfo) → i < length table → None ≡ read_field fields (get_or table i other) → read_in (take (i + 1) table) fields ≡ read_in (take i table) fields
read_in_missing table fields i other within is =
    one_more table fields i other within ∙ rw (← is) (append-nil _)

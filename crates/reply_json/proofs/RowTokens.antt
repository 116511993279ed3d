-- The tokens of rows, part by part.
use Rattle.std.proofs.Common.{◌≡◌, ◌∙◌, ◌<◌, ◌+◌, List, [], ◌∷◌, ◌++◌, length, get_or, drop, Option, Some, None, ℕ, refl, sym, ap, add-one, append_assoc, codes}
use Rattle.std.proofs.Math.Seq.{drop-cons}
use Rattle.std.specs.List.{slice_get}
use Rattle.std.specs.Option.{option_to_list}
use Rattle.json.specs.Token.{Token, begin_object, end_object, key, string}
use Rattle.serde_json.specs.Data.{Members}
use Rattle.shop_defs.specs.declared.row.Row.{Row}
use Rattle.shop_defs.specs.declared.table.FieldInfo.{FieldInfo}
use Rattle.shop_defs.specs.declared.value.Value.{Value}
use Rattle.shop_defs.specs.Rows.{field_of}
use Rattle.reply_json.specs.FieldOrder.{fields_at}
use Rattle.reply_json.specs.KeyTexts.{key_text}
use Rattle.reply_json.specs.RowReplies.{with_field, field_members, value_part, field_tokens, fields_data, shown_tokens, row_data}
use Rattle.reply_json.specs.Tokens.{value_tokens, rest_of_object}

one_value : (field : FieldInfo) (value : Option Value) (rest : Members) → rest_of_object (with_field field value rest) ≡ value_part field value ++ rest_of_object rest
one_value field None rest = refl
one_value field (Some value) rest = refl

-- one field, where the table has it, and the others
pub one_field : (row : Row) (field : Option FieldInfo) (rest : List FieldInfo) → rest_of_object (field_members row (option_to_list field ++ rest)) ≡ field_tokens row field ++ rest_of_object (field_members row rest)
one_field row None rest = refl
one_field row (Some field) rest = one_value field (field_of row field.number) (field_members row rest)

-- the tokens of the fields at these places, with the closing bracket
abbrev rest_at : Row → List FieldInfo → List ℕ → List Token
rest_at row table places = rest_of_object (field_members row (fields_at table places))

-- the field at the next place
pub next_place : (row : Row) (table : List FieldInfo) (places : List ℕ) (i : ℕ) (out next all : List Token) → i < length places
    → next ≡ out ++ field_tokens row (slice_get table (get_or places i 0)) → out ++ rest_at row table (drop i places) ≡ all → next ++ rest_at row table (drop (i + 1) places) ≡ all
next_place row table places i out next all within put kept =
    let place = get_or places i 0 in
    let rest = drop (i + 1) places in
    let parts : drop i places ≡ place ∷ rest = rw (add-one i) (drop-cons places i 0 within) in
    ap (λ front. front ++ rest_at row table rest) put
    ∙ append_assoc out (field_tokens row (slice_get table place)) (rest_at row table rest)
    ∙ ap (λ tokens. out ++ tokens) (sym (one_field row (slice_get table place) (fields_at table rest)))
    ∙ ap (λ left. out ++ rest_at row table left) (sym parts)
    ∙ kept

-- a row's members, one after the other
pub row_whole : (row : Row) (shown : Option (List (List ℕ × Option Value)))
    → value_tokens (row_data row shown) ≡ begin_object ∷ key (codes "fields") ∷ (value_tokens (fields_data row) ++ key (codes "key") ∷ string (key_text row.key) ∷ (shown_tokens shown ++ end_object ∷ []))
row_whole row None = refl
row_whole row (Some shown) = refl

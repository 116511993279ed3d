-- Which streams a change of rows may affect by what they filter.
use Rattle.std.specs.Prelude.{ℕ, ◌≡◌, false, Bool, List, [], ◌∷◌, ◌++◌, ◌⊎◌, Option, Some, None, unwrap_or, if◌then◌else◌}
use Rattle.std.specs.List.{flat_map}
use Rattle.std.specs.Option.{option_map_or, option_and_then, is_some}
use Rattle.shop_defs.specs.declared.entity.Entity.TheVariants as E
use Rattle.shop_defs.specs.declared.key.Key.{Key}
use Rattle.shop_defs.specs.declared.row.Row.{Row}
use Rattle.shop_defs.specs.declared.words.FieldName.TheVariants as N
use Rattle.shop_defs.specs.Joined.{Change}
use Rattle.shop_defs.specs.Rows.{row_at}
use Rattle.row_fields.specs.Fields.{number_of, id_at}
use Rattle.id_sets.specs.Sets.{has, AreAscending}
use Rattle.shop_meanings.specs.Live.{live_row}
use Rattle.product_meanings.specs.Products.{product}
use Rattle.product_meanings.specs.Streams.{is_passed, is_member}
use Rattle.product_rows.specs.Affecting.{is_live_of}

-- the product with that id passes the tree of these filters: not where there is no such live product
abbrev pub picks : List Row → List Row → ℕ → Bool
picks rows nodes id = option_map_or (is_passed rows nodes) (product rows id) false

-- the product with that id is a member of the stream: not where there is no such live product
abbrev pub belongs : List Row → ℕ → ℕ → Bool
belongs rows stream id = option_map_or (is_member rows stream) (product rows id) false

-- the stream that a row of a filter names
abbrev pub stream_ids : Option Row → List ℕ
stream_ids row = option_map_or (λ id. id ∷ []) (option_and_then (λ filter. id_at filter (number_of E.StreamFilter N.Stream)) row) []

-- the stream whose own row stands at the key, or those that a filter there names before and after
abbrev pub streams_at : List Row → List Row → Key → List ℕ
streams_at before after key = if is_live_of E.Stream key then key.id ∷ [] else if is_live_of E.StreamFilter key then stream_ids (row_at before key) ++ stream_ids (row_at after key) else []

abbrev pub streams_of : List Row → List Row → List Change → List ℕ
streams_of before after changes = flat_map (λ change. streams_at before after change.0) changes

-- outside of both lists a membership is the same before and after, and so is whether a stream is there
pub record IsOutside (before after : List Row) (products streams : List ℕ) : Type 0 where
  pub members : (stream id : ℕ) → has streams stream ≡ false → has products id ≡ false → belongs before stream id ≡ belongs after stream id
  pub there : (stream : ℕ) → has streams stream ≡ false → is_some (live_row before E.Stream stream) ≡ is_some (live_row after E.Stream stream)

-- each of the products is among the ids where it is a member, and the others are as before; the ids ascend
pub record IsEdited (rows : List Row) (stream : ℕ) (old products : List ℕ) (edited : Option (List ℕ)) : Type 0 where
  pub members : (id : ℕ) → has (unwrap_or edited old) id ≡ (if has products id then belongs rows stream id else has old id)
  pub ascend : AreAscending (unwrap_or edited old)

-- what stands at a stream is the edited list
pub record IsRenewed (rows : List Row) (stream : ℕ) (old products : List ℕ) (now : Option (List ℕ)) : Type 0 where
  pub edited : Option (List ℕ)
  pub is : IsEdited rows stream old products edited
  pub left : now ≡ Some (unwrap_or edited old)

-- the stream is none of those that changed, and no product is affected or the stream isn't there
pub record IsUntouched (rows : List Row) (products streams : List ℕ) (stream : ℕ) : Type 0 where
  pub unchanged : has streams stream ≡ false
  pub apart : (products ≡ []) ⊎ (live_row rows E.Stream stream ≡ None)

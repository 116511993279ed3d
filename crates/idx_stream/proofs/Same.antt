-- What no change touches is the same stream with the same filters.
use Rattle.std.proofs.Common.{◌≡◌, ℕ, Bool, true, false, ◌==◌, ◌&&◌, ◌||◌, ◌⊎◌, inl, inr, List, [], ◌∷◌, ◌++◌, map, filter, Option, Some, None, is_some, if◌then◌else◌, refl, sym, ap, ◌∙◌, true≢false}
use Rattle.std.specs.List.{list_any}
use Rattle.std.specs.Option.{option_map_or, option_and_then}
use Rattle.std.proofs.lemmas.Bool.{or_parts, eqb-true, eq-eqb, and_parts}
use Rattle.std.proofs.lemmas.List.Folds.{list_any-append}
use Rattle.shop_defs.specs.declared.entity.Entity.{Entity}
use Rattle.shop_defs.specs.declared.entity.Entity.TheVariants as E
use Rattle.shop_defs.specs.declared.key.Key.{Key}
use Rattle.shop_defs.specs.declared.row.Row.{Row}
use Rattle.shop_defs.specs.declared.words.FieldName.TheVariants as N
use Rattle.shop_defs.specs.Joined.{Change}
use Rattle.shop_defs.specs.Rows.{row_at, change_rows}
use Rattle.shop_operations.specs.References.{is_entity, is_live, is_id}
use Rattle.shop_rows.specs.Changing.{StandUnderTheirKeys, HasAscendingKeys}
use Rattle.shop_rows.proofs.Lists.{filter-filter}
use Rattle.shop_rows.proofs.Mentioning.{found_key}
use Rattle.row_fields.specs.Fields.{number_of, id_at}
use Rattle.id_sets.specs.Sets.{has}
use Rattle.shop_meanings.specs.Live.{live_key, live_row, live_rows, AreOrderly}
use Rattle.product_meanings.specs.Products.{product, own_links}
use Rattle.product_meanings.specs.Streams.{filters}
use Rattle.idx_category.proofs.Moves.{IsChanged, changed, has_flat_map, sub_off}
use Rattle.idx_category.proofs.Walks.{or_left, or_right}
use Rattle.product_rows.specs.Affecting.{is_live_of}
use Rattle.product_rows.proofs.Parts.{NonePasses, same_filter, none_passes, first_false, second_false}
use Rattle.idx_stream.specs.Affecting.{stream_ids, streams_at, streams_of}

-- a key of a filter isn't one of a stream
apart : (entity : Entity) → is_entity E.StreamFilter entity ≡ true → is_entity E.Stream entity ≡ false
apart E.StreamFilter f = refl
apart other f = cc

not_stream : (k : Key) → is_live_of E.StreamFilter k ≡ true → is_live_of E.Stream k ≡ false
not_stream k e = second_false (k.version == 0) (is_entity E.Stream k.entity) (apart k.entity (and_parts (k.version == 0) _ e).1)

module _ (before : List Row) (changes : List Change) (was : AreOrderly before) (is : AreOrderly (change_rows before changes)) (own : StandUnderTheirKeys changes) (once : HasAscendingKeys changes) where
  abbrev after : List Row
  after = change_rows before changes

  abbrev Changed : Key → Type 0
  Changed key = IsChanged before changes was is own once key

  -- ---- filters of a stream

  abbrev of_stream : ℕ → Row → Bool
  of_stream stream row = (is_live row && is_entity E.StreamFilter row.key.entity) && is_id (id_at row (number_of E.StreamFilter N.Stream)) stream

  -- a changed filter's stream is among the streams
  stream_has : (key : Key) (stream : ℕ) → Changed key → is_live_of E.StreamFilter key ≡ true → has (stream_ids (row_at before key) ++ stream_ids (row_at after key)) stream ≡ true → has (streams_of before after changes) stream ≡ true
  stream_has key stream c live h =
      has_flat_map (λ change. streams_at before after change.0) changes c.one stream c.found.is_in
      (ap (λ (k : Key). has (streams_at before after k) stream) c.found.same ∙ rw (not_stream key live, live) h)

  pub same_filters : (stream : ℕ) → has (streams_of before after changes) stream ≡ false → filters before stream ≡ filters after stream
  same_filters stream off =
      filter-filter (λ row. is_id (id_at row (number_of E.StreamFilter N.Stream)) stream) (λ row. is_live row && is_entity E.StreamFilter row.key.entity) before
      ∙ (same_filter (of_stream stream) before after was.order is.order at
      ∙ sym (filter-filter (λ row. is_id (id_at row (number_of E.StreamFilter N.Stream)) stream) (λ row. is_live row && is_entity E.StreamFilter row.key.entity) after))
    where
      named : (o : Option ℕ) → has (option_map_or (λ id. id ∷ []) o []) stream ≡ false → is_id o stream ≡ false
      named None e = refl
      named (Some id) e = (or_parts (id == stream) false e).0

      fails : (rows : List Row) (key : Key) → (is_live_of E.StreamFilter key ≡ true → has (stream_ids (row_at rows key)) stream ≡ false) → (row : Row) → row_at rows key ≡ Some row → of_stream stream row ≡ false
      fails rows key none row e = by (is_live_of E.StreamFilter key) refl
        where
          by : (b : Bool) → is_live_of E.StreamFilter key ≡ b → of_stream stream row ≡ false
          by true f = second_false (is_live row && is_entity E.StreamFilter row.key.entity) _ (named (id_at row (number_of E.StreamFilter N.Stream)) (ap (λ (o : Option Row). has (stream_ids o) stream) (sym e) ∙ none f))
          by false f = first_false (is_live row && is_entity E.StreamFilter row.key.entity) _ (ap (is_live_of E.StreamFilter) (found_key rows key row e) ∙ f)

      both : (key : Key) → Changed key → is_live_of E.StreamFilter key ≡ true → (has (stream_ids (row_at before key)) stream ≡ false) × (has (stream_ids (row_at after key)) stream ≡ false)
      both key c live = or_parts _ _ (sym (list_any-append (λ other. other == stream) (stream_ids (row_at before key)) (stream_ids (row_at after key))) ∙ sub_off (stream_has key stream c live) off)

      at : (key : Key) → (row_at before key ≡ row_at after key) ⊎ (NonePasses (of_stream stream) before key × NonePasses (of_stream stream) after key)
      at key = by (changed before changes was is own once key)
        where
          by : (row_at before key ≡ row_at after key) ⊎ Changed key → (row_at before key ≡ row_at after key) ⊎ (NonePasses (of_stream stream) before key × NonePasses (of_stream stream) after key)
          by (inl e) = inl e
          by (inr c) = inr (none_passes (of_stream stream) before key (fails before key (λ f. (both key c f).0)), none_passes (of_stream stream) after key (fails after key (λ f. (both key c f).1)))

  stream_itself : (id : ℕ) → Changed (live_key E.Stream id) → has (streams_of before after changes) id ≡ true
  stream_itself id c =
      has_flat_map (λ change. streams_at before after change.0) changes c.one id c.found.is_in
      (ap (λ (k : Key). has (streams_at before after k) id) c.found.same ∙ or_left _ _ (eq-eqb id id refl))

  pub same_stream : (id : ℕ) → has (streams_of before after changes) id ≡ false → live_row before E.Stream id ≡ live_row after E.Stream id
  same_stream id off = by (changed before changes was is own once (live_key E.Stream id))
    where
      by : (row_at before (live_key E.Stream id) ≡ row_at after (live_key E.Stream id)) ⊎ Changed (live_key E.Stream id) → live_row before E.Stream id ≡ live_row after E.Stream id
      by (inl e) = e
      by (inr c) = absurd (true≢false (sym (stream_itself id c) ∙ off))

-- The members of streams that a change doesn't touch, and of those that are edited.
use Rattle.std.proofs.Common.{◌≡◌, ℕ, Bool, true, false, ◌==◌, ◌⊎◌, inl, inr, List, [], ◌∷◌, ◌++◌, Option, Some, None, is_some, length, arith, if◌then◌else◌, refl, sym, ap, subst, ◌∙◌, true≢false}
use Rattle.std.specs.Prelude.{unwrap_or, is_none}
use Rattle.std.specs.List.{list_any}
use Rattle.std.specs.Option.{option_map, option_map_or}
use Rattle.std.proofs.lemmas.Bool.{or_parts, eqb-true}
use Rattle.std.proofs.lemmas.List.Folds.{list_any-append}
use Rattle.shop_defs.specs.declared.entity.Entity.TheVariants as E
use Rattle.shop_defs.specs.declared.row.Row.{Row}
use Rattle.shop_defs.specs.Joined.{Change}
use Rattle.shop_defs.specs.Rows.{change_rows}
use Rattle.shop_rows.specs.Changing.{StandUnderTheirKeys, HasAscendingKeys}
use Rattle.id_sets.specs.Sets.{has, AreAscending}
use Rattle.id_sets.proofs.Sets.{same_ids}
use Rattle.shop_meanings.specs.Live.{live_row, AreOrderly}
use Rattle.product_meanings.specs.Products.{product, parent_of, categories, picked}
use Rattle.product_meanings.specs.Streams.{filters, passes, is_member, is_passed, members}
use Rattle.product_meanings.proofs.Picked.{picked_ascend, picked_has}
use Rattle.trees.specs.Holding.{tree_holds}
use Rattle.product_rows.specs.Affecting as rows_of
use Rattle.idx_stream.specs.Affecting.{picks, belongs, streams_of, IsOutside, IsEdited, IsRenewed, IsUntouched}
use Rattle.idx_stream.proofs.Same.{same_filters, same_stream}

-- ---- the law of the affected

-- what counts for a product and the filters are the same: so is a membership
same_belongs : (before after : List Row) (products : List ℕ) → rows_of.IsOutside before after products → (stream : ℕ) → filters before stream ≡ filters after stream → (id : ℕ) → has products id ≡ false → belongs before stream id ≡ belongs after stream id
same_belongs before after products law stream nodes id off = ap (λ (o : Option Row). option_map_or (is_member before stream) o false) (law.row id off) ∙ by (product after id) refl
  where
    by : (o : Option Row) → product after id ≡ o → option_map_or (is_member before stream) o false ≡ option_map_or (is_member after stream) o false
    by None e = refl
    by (Some row) e =
        let parent : parent_of before row ≡ parent_of after row = law.parent id row off e in
        let stood : categories before row ≡ categories after row = law.stood_in id row off e in
        λ i. tree_holds (passes row (parent i) (stood i)) (nodes i)

-- outside of both lists a membership is the same
pub outside_both : (before after : List Row) (changes : List Change) (products streams : List ℕ) → AreOrderly before → AreOrderly after → after ≡ change_rows before changes → StandUnderTheirKeys changes → HasAscendingKeys changes → rows_of.IsOutside before after products → ((id : ℕ) → has streams id ≡ has (streams_of before after changes) id) → IsOutside before after products streams
outside_both before after changes products streams was is leads own once law same =
    let lasting : (stream : ℕ) → has (streams_of before after changes) stream ≡ false → filters before stream ≡ filters after stream = subst (λ (rows : List Row). AreOrderly rows → (stream : ℕ) → has (streams_of before rows changes) stream ≡ false → filters before stream ≡ filters rows stream) (sym leads) (λ there. same_filters before changes was there own once) is in
    let staying : (stream : ℕ) → has (streams_of before after changes) stream ≡ false → live_row before E.Stream stream ≡ live_row after E.Stream stream = subst (λ (rows : List Row). AreOrderly rows → (stream : ℕ) → has (streams_of before rows changes) stream ≡ false → live_row before E.Stream stream ≡ live_row rows E.Stream stream) (sym leads) (λ there. same_stream before changes was there own once) is in
    record {
      members = λ stream id off out. same_belongs before after products law stream (lasting stream (sym (same stream) ∙ off)) id out;
      there = λ stream off. ap is_some (staying stream (sym (same stream) ∙ off));
    }

-- ---- members

-- the members where the stream is there
pub members_there : (rows : List Row) (stream : ℕ) → is_some (live_row rows E.Stream stream) ≡ true → members rows stream ≡ Some (picked (is_member rows stream) rows)
members_there rows stream e = by (live_row rows E.Stream stream) e
  where
    by : (o : Option Row) → is_some o ≡ true → option_map (λ _. picked (is_member rows stream) rows) o ≡ Some (picked (is_member rows stream) rows)
    by None f = absurd (cc)
    by (Some row) f = refl

members_gone : (rows : List Row) (stream : ℕ) → is_some (live_row rows E.Stream stream) ≡ false → members rows stream ≡ None
members_gone rows stream e = by (live_row rows E.Stream stream) e
  where
    by : (o : Option Row) → is_some o ≡ false → option_map (λ _. picked (is_member rows stream) rows) o ≡ None
    by None f = refl
    by (Some row) f = absurd (cc)

-- and where it isn't, there are none
there_by : (rows : List Row) (stream : ℕ) (ids : List ℕ) → Some ids ≡ members rows stream → is_some (live_row rows E.Stream stream) ≡ true
there_by rows stream ids e = by (is_some (live_row rows E.Stream stream)) refl
  where
    by : (b : Bool) → is_some (live_row rows E.Stream stream) ≡ b → is_some (live_row rows E.Stream stream) ≡ true
    by true f = f
    by false f = let g = members_gone rows stream f in absurd (cc)

-- the ids that belong to a stream are its members
pub are_members : (rows : List Row) → AreOrderly rows → (stream : ℕ) (ids : List ℕ) → is_some (live_row rows E.Stream stream) ≡ true → AreAscending ids → ((id : ℕ) → has ids id ≡ belongs rows stream id) → Some ids ≡ members rows stream
are_members rows orderly stream ids there up same =
    ap Some (same_ids ids (picked (is_member rows stream) rows) up (picked_ascend rows orderly (is_member rows stream)) (λ id. same id ∙ sym (picked_has rows orderly (is_member rows stream) id)))
    ∙ sym (members_there rows stream there)

-- a stream that nothing touches has the same members
pub untouched : (before after : List Row) (products streams : List ℕ) → AreOrderly before → AreOrderly after → IsOutside before after products streams → (stream : ℕ) → IsUntouched after products streams stream → members before stream ≡ members after stream
untouched before after products streams was is law stream un = by (is_some (live_row after E.Stream stream)) refl un.apart
  where
    same : is_some (live_row before E.Stream stream) ≡ is_some (live_row after E.Stream stream)
    same = law.there stream un.unchanged

    by : (b : Bool) → is_some (live_row after E.Stream stream) ≡ b → (products ≡ []) ⊎ (live_row after E.Stream stream ≡ None) → members before stream ≡ members after stream
    by false e apart = members_gone before stream (same ∙ e) ∙ sym (members_gone after stream e)
    by true e (inr none) = let f : is_some (live_row after E.Stream stream) ≡ false = ap is_some none in absurd (true≢false (sym e ∙ f))
    by true e (inl no_products) =
        members_there before stream (same ∙ e)
        ∙ are_members after is stream (picked (is_member before stream) before) e (picked_ascend before was (is_member before stream))
        (λ id. picked_has before was (is_member before stream) id ∙ law.members stream id un.unchanged (ap (λ (ids : List ℕ). has ids id) no_products))

-- ---- edited members

-- what was there before, or is there already, edited at the affected products, are the members
pub renewed_members : (before after : List Row) (products streams : List ℕ) → AreOrderly before → AreOrderly after → IsOutside before after products streams → (stream : ℕ) → has streams stream ≡ false → (old : List ℕ) (now : Option (List ℕ)) → (Some old ≡ members before stream) ⊎ (Some old ≡ members after stream) → IsRenewed after stream old products now → now ≡ members after stream
renewed_members before after products streams was is law stream off old now which renewed =
    renewed.left ∙ are_members after is stream (unwrap_or renewed.edited old) (there which) renewed.is.ascend (λ id. renewed.is.members id ∙ each id (has products id) refl)
  where
    there : (Some old ≡ members before stream) ⊎ (Some old ≡ members after stream) → is_some (live_row after E.Stream stream) ≡ true
    there (inl e) = sym (law.there stream off) ∙ there_by before stream old e
    there (inr e) = there_by after stream old e

    some_is : (xs ys : List ℕ) → Some xs ≡ Some ys → xs ≡ ys
    some_is xs ys e = cc

    held : (id : ℕ) → has products id ≡ false → (Some old ≡ members before stream) ⊎ (Some old ≡ members after stream) → has old id ≡ belongs after stream id
    held id out (inl e) =
        ap (λ (ids : List ℕ). has ids id) (some_is old (picked (is_member before stream) before) (e ∙ members_there before stream (there_by before stream old e)))
        ∙ (picked_has before was (is_member before stream) id ∙ law.members stream id off out)
    held id out (inr e) =
        ap (λ (ids : List ℕ). has ids id) (some_is old (picked (is_member after stream) after) (e ∙ members_there after stream (there_by after stream old e)))
        ∙ picked_has after is (is_member after stream) id

    each : (id : ℕ) (b : Bool) → has products id ≡ b → (if b then belongs after stream id else has old id) ≡ belongs after stream id
    each id true e = refl
    each id false e = held id e which

-- members that are found among all products
pub found_members : (rows : List Row) → AreOrderly rows → (stream : ℕ) (products : List ℕ) (edited : Option (List ℕ)) → is_none (live_row rows E.Stream stream) ≡ false → ((id : ℕ) → has products id ≡ false → product rows id ≡ None) → IsEdited rows stream [] products edited → Some (unwrap_or edited []) ≡ members rows stream
found_members rows orderly stream products edited there all is =
    are_members rows orderly stream (unwrap_or edited []) (present (live_row rows E.Stream stream) there) is.ascend (λ id. is.members id ∙ each id (has products id) refl)
  where
    present : (o : Option Row) → is_none o ≡ false → is_some o ≡ true
    present None e = absurd (cc)
    present (Some row) e = refl

    each : (id : ℕ) (b : Bool) → has products id ≡ b → (if b then belongs rows stream id else false) ≡ belongs rows stream id
    each id true e = refl
    each id false e = sym (ap (λ (o : Option Row). option_map_or (is_member rows stream) o false) (all id e))

-- the parts of keys that have no such id
pub apart_keys : (streams others : List ℕ) (id : ℕ) → has (streams ++ others) id ≡ false → (has streams id ≡ false) × (has others id ≡ false)
apart_keys streams others id off = or_parts _ _ (sym (list_any-append (λ other. other == id) streams others) ∙ off)

-- an edit by the filters that were read is one by those of the stream
pub edited_is : (rows : List Row) (stream : ℕ) (old products : List ℕ) (nodes : List Row) (edited : Option (List ℕ)) → nodes ≡ filters rows stream → ((id : ℕ) → has (unwrap_or edited old) id ≡ (if has products id then picks rows nodes id else has old id)) → AreAscending (unwrap_or edited old) → IsEdited rows stream old products edited
edited_is rows stream old products nodes edited same f g = record {
  members = λ id. f id ∙ ap (λ (tree : List Row). if has products id then picks rows tree id else has old id) same;
  ascend = g;
}

-- what becomes of the members that stood at the stream
pub renewed_at : (before after : List Row) (products streams : List ℕ) → AreOrderly before → AreOrderly after → IsOutside before after products streams → (stream : ℕ) → has streams stream ≡ false → (held : Option (List ℕ)) (old : List ℕ) → held ≡ Some old → (held ≡ members before stream) ⊎ (held ≡ members after stream) → (now : Option (List ℕ)) → IsRenewed after stream old products now → now ≡ members after stream
renewed_at before after products streams was is law stream off held old e which now renewed = renewed_members before after products streams was is law stream off old now (by which) renewed
  where
    by : (held ≡ members before stream) ⊎ (held ≡ members after stream) → (Some old ≡ members before stream) ⊎ (Some old ≡ members after stream)
    by (inl f) = inl (sym e ∙ f)
    by (inr f) = inr (sym e ∙ f)

-- members that are found among all products, from none on
pub found_from : (rows : List Row) → AreOrderly rows → (stream : ℕ) (products : List ℕ) (edited : Option (List ℕ)) (old : List ℕ) → old ≡ [] → is_none (live_row rows E.Stream stream) ≡ false → ((id : ℕ) → has products id ≡ false → product rows id ≡ None) → IsEdited rows stream old products edited → Some (unwrap_or edited old) ≡ members rows stream
found_from rows orderly stream products edited old e there all is =
    ap (λ (ids : List ℕ). Some (unwrap_or edited ids)) e ∙ found_members rows orderly stream products edited there all (subst (λ (ids : List ℕ). IsEdited rows stream ids products edited) e is)

-- a stream that isn't there has no members
pub members_none : (rows : List Row) (stream : ℕ) → live_row rows E.Stream stream ≡ None → members rows stream ≡ None
members_none rows stream e = ap (λ (o : Option Row). option_map (λ _. picked (is_member rows stream) rows) o) e

pub members_of_none : (rows : List Row) (stream : ℕ) → is_none (live_row rows E.Stream stream) ≡ true → None ≡ members rows stream
members_of_none rows stream e = by (live_row rows E.Stream stream) e
  where
    by : (o : Option Row) → is_none o ≡ true → None ≡ option_map (λ _. picked (is_member rows stream) rows) o
    by None f = refl
    by (Some row) f = absurd (cc)

pub nothing : (ids : List ℕ) → (length ids == 0) ≡ true → ids ≡ []
nothing [] e = refl
nothing (id ∷ ids) e = absurd (omega (arith, eqb-true (length (id ∷ ids)) 0 e))

-- A batch in a draft leaves no more rows of an entity than there may be.
use Rattle.std.proofs.Common.{◌≡◌, ◌≢◌, ℕ, ◌+◌, ◌≤◌, cond, Bool, true, false, not, ◌==◌, inl, inr, List, [], ◌∷◌, length, refl, sym, ap, subst, ◌∙◌, Option, Some, None, arith}
use Rattle.std.specs.Prelude.{count_by, filter}
use Rattle.std.specs.List.{AllByRecursion}
use Rattle.std.specs.Option.{option_and_then}
use Rattle.std.proofs.lemmas.Bool.{eqb-true, ne_eqb, leb-true}
use Rattle.std.proofs.lemmas.List.Sums.{sum_by-cons}
use Rattle.closure.specs.Closure.{IsIn}
use Rattle.closure.proofs.Members.{of_filter}
use Rattle.keyed.specs.Keyed.{put}
use Rattle.keyed.proofs.Changes.{ascends_put}
use Rattle.shop_defs.specs.declared.entity.Entity.{Entity}
use Rattle.shop_defs.specs.declared.entity.Entity.TheVariants as E
use Rattle.shop_defs.specs.declared.key.Key.{Key}
use Rattle.shop_defs.specs.declared.row.Row.{Row}
use Rattle.shop_defs.specs.declared.table.TheConstants.{MOST_ROWS}
use Rattle.shop_defs.specs.Keys.{key_cmp}
use Rattle.shop_defs.specs.Rows.{row_key, row_at, IsInKeyOrder}
use Rattle.shop_defs.proofs.EachLine.{same_entity}
use Rattle.shop_defs.proofs.Keys.{key_cmp_total}
use Rattle.shop_operations.specs.References.{is_entity, of_version}
use Rattle.shop_operations.specs.Upserts.{count_of}
use Rattle.shop_operations.specs.Views.{View}
use Rattle.shop_requests.specs.declared.raw.RawOp.{RawOp}
use Rattle.shop_soundness.proofs.Few.{AreBounded}
use Rattle.shop_soundness.proofs.Lists.{each_of}
use Rattle.shop_drafts.specs.Drafts.{commits, count_unshown, draft_key, draft_view, over, root_of}
use Rattle.shop_drafts.specs.Laws.{Agree}
use Rattle.shop_drafts.specs.Making.{with_rows}
use Rattle.shop_drafts.specs.Soundness.{AreDrafted}
use Rattle.shop_drafts.specs.Writing.{new_commit, read_all, with_commits, without_version, written}
use Rattle.shop_drafts.proofs.Apart.{filter-with}
use Rattle.shop_drafts.proofs.Beside.{StaysBeside, batch_beside, is_beside}
use Rattle.shop_drafts.proofs.Counts.{split}
use Rattle.shop_drafts.proofs.Keys.{found_key}
use Rattle.shop_drafts.proofs.OwnParts.{shown_agrees}
use Rattle.shop_drafts.proofs.Seen.{drafts_are_views}
use Rattle.shop_drafts.proofs.Shown.{found_kept}
use Rattle.shop_write.proofs.Counted.{count_put, weight}
use Rattle.shop_write.proofs.InOrder.{ascends_filter, ascends_puts}
use Rattle.shop_version.specs.Overlays.{Layer, IsLayer, found_layer, layer_rows, layer_view, open_rows}
use Rattle.shop_version.proofs.Layers.{count-all, count-layer, layer_found, of_version-layer, view_found}
use Rattle.shop_version.proofs.StillWritten.{IsAccepted}

-- there are at most as many as before and as are put
count_with : (p : Row → Bool) (others rows : List Row) → IsInKeyOrder rows → count_by p (with_rows rows others) ≤ count_by p rows + count_by p others
count_with p [] rows up = omega arith
count_with p (row ∷ others) rows up =
    let one = count_put key_cmp row_key key_cmp_total p rows row up in
    let more = count_with p others (put key_cmp row_key rows row) (ascends_put key_cmp row_key key_cmp_total rows row up) in
    let first : count_by p (row ∷ others) ≡ weight p (Some row) + count_by p others = sum_by-cons (λ other. cond {A = ℕ} (p other) 1 0) row others in
    omega arith

module _ (rows after : List Row) (version : ℕ) (ops : List RawOp) (is : AreDrafted rows) (not_live : version ≢ 0) (few : (entity : Entity) → count_by (λ row. is_entity entity row.key.entity) rows ≤ MOST_ROWS) (w : IsAccepted rows after version ops) where
  is_layer : IsLayer (found_layer rows version w.root)
  is_layer = layer_found rows version w.root is.in_order not_live

  shows : layer_rows (found_layer rows version w.root) ≡ over rows version w.root
  shows = ap (λ (v : View). v.rows) (view_found rows version w.root)

  own_shown : of_version version (over rows version w.root) ≡ of_version version rows
  own_shown = ap (of_version version) (sym shows) ∙ of_version-layer (found_layer rows version w.root) is_layer

  -- what there is of an entity, shown or not, is what there is of it
  all_counted : (entity : Entity) → count_by (λ row. is_entity entity row.key.entity) (over rows version w.root) + count_unshown rows version w.root entity ≡ count_by (λ row. is_entity entity row.key.entity) rows
  all_counted entity =
      let all = count-all (found_layer rows version w.root) is_layer entity in
      let layer = count-layer (found_layer rows version w.root) is_layer (λ row. is_entity entity row.key.entity) in
      let same : count_by (λ row. is_entity entity row.key.entity) (layer_rows (found_layer rows version w.root)) ≡ count_by (λ row. is_entity entity row.key.entity) (over rows version w.root) = ap (count_by (λ row. is_entity entity row.key.entity)) shows in
      omega arith

  agree : Agree w.root version (over rows version w.root)
  agree = shown_agrees rows version w.root is.passes not_live (ap (option_and_then root_of) w.found ∙ w.rooted)

  stays : StaysBeside (draft_view rows version w.root) w.shown
  stays = batch_beside w.root (draft_view rows version w.root) 1 ops w.shown agree (drafts_are_views.in_order rows version w.root is.in_order)
      (λ entity. let all = all_counted entity in let most = few entity in omega arith) w.batch

  abbrev rest : List Row
  rest = without_version rows version

  abbrev own : List Row
  own = of_version version w.shown

  rest_up : IsInKeyOrder rest
  rest_up = ascends_filter key_cmp row_key key_cmp_total (λ row. not (row.key.version == version)) rows is.in_order

  base_up : IsInKeyOrder (with_rows rest own)
  base_up = ascends_puts key_cmp row_key key_cmp_total own rest rest_up

  -- with the draft's rows anew
  few_base : (entity : Entity) → count_by (λ row. is_entity entity row.key.entity) (with_rows rest own) ≤ MOST_ROWS
  few_base entity =
      let all = all_counted entity in
      let put_in = count_with (λ row. is_entity entity row.key.entity) own rest rest_up in
      let before = split (λ row. is_entity entity row.key.entity) (λ row. row.key.version == version) rows in
      let found = split (λ row. is_entity entity row.key.entity) (λ row. row.key.version == version) (over rows version w.root) in
      let now = split (λ row. is_entity entity row.key.entity) (λ row. row.key.version == version) w.shown in
      let mine : count_by (λ row. is_entity entity row.key.entity) (of_version version (over rows version w.root)) ≡ count_by (λ row. is_entity entity row.key.entity) (of_version version rows) = ap (count_by (λ row. is_entity entity row.key.entity)) own_shown in
      let theirs : count_by (λ row. is_entity entity row.key.entity) (filter (is_beside version) w.shown) ≡ count_by (λ row. is_entity entity row.key.entity) (filter (is_beside version) (over rows version w.root)) = ap (count_by (λ row. is_entity entity row.key.entity)) stays.same in
      let most : count_by (λ row. is_entity entity row.key.entity) w.shown + count_unshown rows version w.root entity ≤ MOST_ROWS = stays.bounded entity in
      omega arith

  key : w.draft.key ≡ draft_key version
  key = found_key rows (draft_key version) w.draft w.found

  -- the draft's row is where it was
  found_before : row_at (with_rows rest own) (draft_key version) ≡ Some w.draft
  found_before =
      sym (found_kept (is_beside version) (with_rows rest own) (draft_key version) other)
      ∙ (ap (λ rows. row_at rows (draft_key version)) (filter-with (is_beside version) (λ a b e. ap (λ (k : Key). not (k.version == version)) e) own rest (each_of (λ row. is_beside version row ≡ false) own (λ row i. ap not (of_filter (λ row. row.key.version == version) w.shown row i).passes)))
      ∙ (found_kept (is_beside version) rest (draft_key version) other
      ∙ (found_kept (is_beside version) rows (draft_key version) other ∙ w.found)))
    where
      other : (row : Row) → row.key ≡ draft_key version → is_beside version row ≡ true
      other row e = ap not (ap (λ (k : Key). k.version == version) e ∙ ne_eqb 0 version (λ z. not_live (sym z)))

  -- with the draft's row, and a commit
  few_put : (d c : Row) (entity : Entity) → d.key ≡ draft_key version → count_by (λ row. is_entity entity row.key.entity) (with_rows (with_rows rest own) (d ∷ c ∷ [])) ≤ MOST_ROWS + weight (λ row. is_entity entity row.key.entity) (Some c)
  few_put d c entity at =
      let base = few_base entity in
      let one = count_put key_cmp row_key key_cmp_total (λ row. is_entity entity row.key.entity) (with_rows rest own) d base_up in
      let two = count_put key_cmp row_key key_cmp_total (λ row. is_entity entity row.key.entity) (put key_cmp row_key (with_rows rest own) d) c (ascends_put key_cmp row_key key_cmp_total (with_rows rest own) d base_up) in
      let found : row_at (with_rows rest own) d.key ≡ Some w.draft = ap (row_at (with_rows rest own)) at ∙ found_before in
      let gone : weight (λ row. is_entity entity row.key.entity) (row_at (with_rows rest own) d.key) ≡ weight (λ row. is_entity entity row.key.entity) (Some w.draft) = ap (weight (λ row. is_entity entity row.key.entity)) found in
      let same : weight (λ row. is_entity entity row.key.entity) (Some w.draft) ≡ weight (λ row. is_entity entity row.key.entity) (Some d) = ap (λ (k : Key). cond {A = ℕ} (is_entity entity k.entity) 1 0) (key ∙ sym at) in
      omega arith

  few_now : (entity : Entity) → is_entity entity E.DraftCommit ≡ false → count_by (λ row. is_entity entity row.key.entity) (written rows version w.draft (read_all ops) w.shown) ≤ MOST_ROWS
  unfolding written
  few_now entity e =
      let number = length (commits rows version) + 1 in
      let most = few_put (with_commits number w.draft) (new_commit version number (read_all ops)) entity key in
      let none : weight (λ row. is_entity entity row.key.entity) (Some (new_commit version number (read_all ops))) ≡ 0 = ap (λ b. cond {A = ℕ} b 1 0) e in
      omega arith

  -- no entity has too many rows, once there aren't too many commits
  pub few_written : AreDrafted after → (entity : Entity) → count_by (λ row. is_entity entity row.key.entity) after ≤ MOST_ROWS
  few_written drafted entity = by (is_entity entity E.DraftCommit) refl
    where
      by : (b : Bool) → is_entity entity E.DraftCommit ≡ b → count_by (λ row. is_entity entity row.key.entity) after ≤ MOST_ROWS
      by false e = subst (λ (now : List Row). count_by (λ row. is_entity entity row.key.entity) now ≤ MOST_ROWS) w.is (few_now entity e)
      by true e = subst (λ (of : Entity). count_by (λ row. is_entity of row.key.entity) after ≤ MOST_ROWS) (sym (is_commit e)) (let most = leb-true (count_of (λ entity. 0) after E.DraftCommit) MOST_ROWS drafted.bounded in omega arith)
        where
          is_commit : is_entity entity E.DraftCommit ≡ true → entity ≡ E.DraftCommit
          is_commit e = same_entity entity E.DraftCommit (eqb-true _ _ e)

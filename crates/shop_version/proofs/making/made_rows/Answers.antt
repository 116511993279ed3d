use Rattle.std.proofs.Common.{List, [], ◌∷◌, ◌++◌, ap, ◌∙◌}
use Rattle.std.specs.Prelude.{map}
use Rattle.shop_defs.specs.declared.row.Row.{Row}
use Rattle.shop_drafts.specs.Making.{at_version, copies}
use Rattle.shop_version.specs.Overlays.{rows_at}
use Rattle.shop_version.proofs.Made.{copied_rows}
use Rattle.shop_version.proofs.making.made_rows.Goals as goal

pub returns : goal.returns
returns c =
    let rows = c.args.rows.now.list in
    c.in_ok-push.ensures.items
    ∙ (ap (λ (made : List Row). made ++ c.in_ok-draft.draft ∷ [])
    (c.in_ok-made.ensures
    ∙ ap (map (at_version c.args.version)) (c.in_ok-parts.ensures ∙ (ap (rows_at rows) c.as_slice.ensures.value ∙ copied_rows rows c.args.root.now c.in_ok-keys.keys.items c.requires.drafted.in_order c.in_ok-keys.ensures)))
    ∙ ap (λ (draft : Row). copies rows c.args.version c.args.root.now ++ draft ∷ []) c.in_ok-draft.ensures)

use Rattle.std.proofs.Common.{List, None, Some, ap, ◌∙◌}
use Rattle.std.specs.Prelude.{find, map}
use Rattle.std.specs.Option.{option_map}
use Rattle.shop_defs.specs.declared.broken.Broken.TheVariants as B
use Rattle.shop_defs.specs.declared.row.Row.{Row}
use Rattle.shop_defs.specs.declared.table.TheConstants.{MOST_ROWS}
use Rattle.shop_version.specs.Taking.{is_crowded}
use Rattle.shop_write.specs.Growth.{put_in}
use Rattle.shop_version.proofs.Made.{breaks_is, makes_crowded}
use Rattle.shop_version.proofs.making.make_there.Goals as goal

pub returns-in-Some : goal.returns-in-Some
returns-in-Some c =
    let rows = c.args.rows.now.list in
    let same = c.as_slice.ensures.value ∙ c.in_ok-made.ensures in
    let is = c.in-Some.ensures ∙ ap (λ (all : List Row). option_map (λ (row : Row). B.TooMany row.key.entity MOST_ROWS) (find (λ (row : Row). is_crowded rows all row.key.entity) all)) same in
    makes_crowded rows c.args.version c.args.root.now c.in-Some.broken c.refused.result (breaks_is rows c.args.version c.args.root.now c.requires.drafted c.requires.not_live c.requires.unbroken (Some c.in-Some.broken) is) c.refused.ensures

pub returns-in_ok-puts-in-None : goal.returns-in_ok-puts-in-None
returns-in_ok-puts-in-None c =
    let rows = c.args.rows.now.list in
    let same = c.as_slice.ensures.value ∙ c.in_ok-made.ensures in
    let is = c.in-None.ensures ∙ ap (λ (all : List Row). option_map (λ (row : Row). B.TooMany row.key.entity MOST_ROWS) (find (λ (row : Row). is_crowded rows all row.key.entity) all)) same in
    (breaks_is rows c.args.version c.args.root.now c.requires.drafted c.requires.not_live c.requires.unbroken None is, c.in_ok-puts-in-None.ensures ∙ ap (map put_in) c.in_ok-made.ensures)

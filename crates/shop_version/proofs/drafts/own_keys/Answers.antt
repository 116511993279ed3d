use Rattle.std.proofs.Common.{map, ap, ◌∙◌}
use Rattle.shop_defs.specs.Rows.{row_key}
use Rattle.shop_version.proofs.Own.{own_parts}
use Rattle.shop_version.proofs.drafts.own_keys.Goals as goal

pub returns : goal.returns
returns c = c.in_ok-keys.ensures ∙ ap (map row_key) (own_parts c.args.rows.now.list c.args.version c.requires.drafted c.requires.not_live)

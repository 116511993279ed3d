use Rattle.std.proofs.Common.{ap, map, filter, ◌∙◌}
use Rattle.shop_drafts.specs.Making.{is_of_draft}
use Rattle.shop_version.specs.Taking.{take_out}
use Rattle.shop_version.proofs.Dropped.{taken_keys}
use Rattle.shop_version.proofs.dropping.losses.Goals as goal

pub returns : goal.returns
returns c = c.in_ok-changes.ensures ∙ (ap (map take_out) (c.as_slice.ensures.value ∙ c.in_ok-keys.ensures) ∙ taken_keys (filter (is_of_draft c.args.version) c.args.rows.now.list))

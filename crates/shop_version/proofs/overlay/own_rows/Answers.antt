use Rattle.std.proofs.Common.{ap, ◌∙◌}
use Rattle.std.proofs.lemmas.Result.{IfOk-weaker}
use Rattle.shop_version.specs.Overlays.{rows_at}
use Rattle.shop_version.proofs.OwnRows.{own_found, own_order}
use Rattle.shop_version.proofs.overlay.own_rows.Goals as goal

pub from_ascending-requires : goal.from_ascending-requires
from_ascending-requires c = own_order c.args.rows.now.list _ c.args.version _ c.requires.drafted.in_order c.in_ok-keys.ensures (c.in_ok-own.ensures ∙ ap (rows_at c.args.rows.now.list) c.as_slice.ensures.value)

pub returns : goal.returns
returns c =
    IfOk-weaker c.from_ascending.result _ _
    (λ found is. is ∙ (c.in_ok-own.ensures ∙ (ap (rows_at c.args.rows.now.list) c.as_slice.ensures.value ∙ own_found c.args.rows.now.list c.args.version _ c.requires.drafted.in_order c.in_ok-keys.ensures)))
    c.from_ascending.ensures

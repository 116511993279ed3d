use Rattle.std.proofs.Common.{sym, ap, ◌∙◌}
use Rattle.shop_requests.specs.Operations.{read}
use Rattle.shop_requests.specs.Places.{written_by}
use Rattle.shop_requests.proofs.LeastPlaces.{names_first, keeps_rules}
use Rattle.shop_requests.proofs.ReadFits.{read_fits, read_key_fits, read_is_writable}
use Rattle.shop_requests.proofs.Ascending.{read_ascends}
use Rattle.shop_requests.proofs.reading.read_op.Goals as goal

pub returns-in-Ok-clause-ascends : goal.returns-in-Ok-clause-ascends
returns-in-Ok-clause-ascends c = rw c.in-Ok.ensures (read_ascends c.in-Some.info c.args.op.now)

pub returns-in-Ok-clause-writable : goal.returns-in-Ok-clause-writable
unfolding read
returns-in-Ok-clause-writable c =
    rw c.in-Ok.ensures (read_is_writable c.as_bytes.result.now c.in-Some.info (sym c.in-Some.ensures))

pub returns-in-Ok-clause-fits : goal.returns-in-Ok-clause-fits
unfolding read
returns-in-Ok-clause-fits c =
    rw c.in-Ok.ensures (read_fits c.in-Some.info c.args.op.now (sym c.in-Ok-None.ensures ∙ c.in-Ok-None.field-0-is))

pub returns-in-Ok-clause-key : goal.returns-in-Ok-clause-key
unfolding read
returns-in-Ok-clause-key c = λ there.
    rw c.in-Ok.ensures (read_key_fits c.as_bytes.result.now c.in-Some.info c.args.op.now (sym c.in-Some.ensures) (sym c.in-Ok-None.ensures ∙ c.in-Ok-None.field-0-is) there)

pub returns-in-Ok-Some-clause-first : goal.returns-in-Ok-Some-clause-first
returns-in-Ok-Some-clause-first c =
    names_first c.in-Some.info c.args.op.now c.in-Ok-Some.broken c.refused-in-Ok-Some.result
    (ap written_by (sym c.as_bytes.ensures) ∙ sym c.in-Some.ensures) (sym c.in-Ok-Some.ensures ∙ c.in-Ok-Some.field-0-is) c.refused-in-Ok-Some.ensures

pub returns-in-Ok-clause-kept : goal.returns-in-Ok-clause-kept
returns-in-Ok-clause-kept c =
    keeps_rules c.in-Some.info c.args.op.now
    (ap written_by (sym c.as_bytes.ensures) ∙ sym c.in-Some.ensures) (sym c.in-Ok-None.ensures ∙ c.in-Ok-None.field-0-is)

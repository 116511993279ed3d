use Rattle.std.proofs.Common.{sym, ◌∙◌}
use Rattle.shop_operations.proofs.FieldPlaces.{remove_takes, none_takes}
use Rattle.shop_operations.proofs.given.take_out.Goals as goal

pub returns-in-Some : goal.returns-in-Some
returns-in-Some c =
    c.remove.ensures.items ∙ sym (remove_takes c.args.fields.now.items c.args.number c.in-Some.at (rw c.as_slice.ensures.value at (sym c.in-Some.ensures.place)))

pub returns-in_default : goal.returns-in_default
returns-in_default c =
    sym (none_takes c.args.fields.now.items c.args.number (rw c.as_slice.ensures.value at (sym c.in_default.ensures.place)))

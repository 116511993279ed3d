use Rattle.id_sets.proofs.Cutting.{sliced_at, sliced_gap}
use Rattle.id_sets.proofs.edit.take_turned.Goals as goal

pub returns-in_ok-extend_from_slice-in-Ok : goal.returns-in_ok-extend_from_slice-in-Ok
returns-in_ok-extend_from_slice-in-Ok c = sliced_at c.args.ids.now.items c.extend_from_slice.new.self.items c.args.left.now c.args.id c.in-Ok.at c.requires c.in-Ok.ensures.found c.in_ok-extend_from_slice-in-Ok.ensures.items

pub returns-in_ok-push-in-Err : goal.returns-in_ok-push-in-Err
returns-in_ok-push-in-Err c = sliced_gap c.args.ids.now.items c.extend_from_slice-in-Err.new.self.items c.push.new.self.items c.args.left.now c.args.id c.in-Err.at c.requires c.in-Err.ensures.absent c.in_ok-extend_from_slice-in-Err.ensures.items c.in_ok-push-in-Err.ensures.items

use Rattle.std.proofs.Common.{FitsSigned, w64}
use Rattle.std.proofs.lemmas.Int.{to_z-of_z}
use Rattle.shop_core.proofs.Publishes.{commits_ready, commits_short}
use Rattle.shop_core.proofs.state.ShopState.commit.Goals as goal

pub returns-in-Ok-clause-commits : goal.returns-in-Ok-clause-commits
returns-in-Ok-clause-commits g c =
    let fits : FitsSigned w64 c.args.moment = c.ranges.moment in
    commits_ready c.args.self.now c.make_room.new.self c.carry_out.new.self c.args.command.now c.args.moment c.carry_out.result c.in-Ok.ensures.ok (simp to_z-of_z at c.carry_out.ensures.carries)

pub returns-in-Err-clause-commits : goal.returns-in-Err-clause-commits
returns-in-Err-clause-commits g c = commits_short c.args.self.now c.make_room.new.self c.args.command.now c.args.moment c.in-Err.ensures.err

use Rattle.idx_stream.proofs.Belonging.{untouched}
use Rattle.idx_stream.proofs.index.MembersMeaning.touched.Goals as goal

pub returns-clause-outside : goal.returns-clause-outside
returns-clause-outside c = λ key off. untouched c.args.before.now.list c.args.after.now.list c.in_ok-affected.affected.products c.in_ok-affected.affected.streams c.requires.was_fit c.requires.fit c.in_ok-affected.ensures key (c.in_ok-keys.ensures key off)

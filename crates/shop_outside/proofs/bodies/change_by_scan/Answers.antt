use Rattle.std.proofs.Common.{◌∙◌}
use Rattle.shop_outside.proofs.Bytes.{bytes_others, bytes_pushed}
use Rattle.shop_outside.proofs.Unchanged.{kept_others, kept_pushed}
use Rattle.shop_outside.specs.Scanning.{others_of}
use Rattle.shop_outside.proofs.bodies.change_by_scan.Goals as goal

pub returns-in-Some-clause-bytes : goal.returns-in-Some-clause-bytes
returns-in-Some-clause-bytes c = λ q. rw (c.push_in_room.ensures.items, c.remove_each.ensures.items, c.in-Some.is) (bytes_pushed c.args.rows.now.items c.args.key c.in-Some.body q)

pub returns-in-None-clause-bytes : goal.returns-in-None-clause-bytes
returns-in-None-clause-bytes c = λ q. rw (c.remove_each.ensures.items, c.in-None.is) (bytes_others c.args.rows.now.items c.args.key q)

pub returns-in-Some-clause-others : goal.returns-in-Some-clause-others
returns-in-Some-clause-others c = λ changes e. rw (c.push_in_room.ensures.items, c.remove_each.ensures.items) (kept_pushed changes (others_of c.args.rows.now.items c.args.key) c.args.key c.in-Some.body e ∙ kept_others changes c.args.rows.now.items c.args.key e)

pub returns-in-None-clause-others : goal.returns-in-None-clause-others
returns-in-None-clause-others c = λ changes e. rw c.remove_each.ensures.items (kept_others changes c.args.rows.now.items c.args.key e)

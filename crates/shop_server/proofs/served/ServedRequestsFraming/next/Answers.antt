use Rattle.std.proofs.Common.{◌∙◌, ap, sym}
use Rattle.shop_http.specs.Requests.{bad}
use Rattle.shop_server.specs.Lawful.{bad_served, look_served, part_served, whole_served}
use Rattle.shop_server.proofs.served.ServedRequestsFraming.next.Goals as goal

pub returns-in-Whole-clause-next : goal.returns-in-Whole-clause-next
returns-in-Whole-clause-next c =
    (whole_served c.args.bytes.now c.args.ended c.in-Whole.head c.in-Whole.body.now c.in-Whole.used c.served.result c.in-Whole.ensures.next c.served.ensures).0

pub returns-in-Whole-clause-looked_up : goal.returns-in-Whole-clause-looked_up
returns-in-Whole-clause-looked_up c =
    (whole_served c.args.bytes.now c.args.ended c.in-Whole.head c.in-Whole.body.now c.in-Whole.used c.served.result c.in-Whole.ensures.next c.served.ensures).1

pub returns-in-More-clause-next : goal.returns-in-More-clause-next
returns-in-More-clause-next c =
    let n = c.in-More.ensures.next in
    (part_served c.args.bytes.now n.0, n.1, look_served c.args.bytes.now c.in-More.least n.2)

pub returns-in-Nothing-clause-next : goal.returns-in-Nothing-clause-next
returns-in-Nothing-clause-next c =
    let n = c.in-Nothing.ensures.next in
    (part_served c.args.bytes.now n.0, n.1, n.2)

pub returns-in-Cut-clause-next : goal.returns-in-Cut-clause-next
returns-in-Cut-clause-next c =
    let n = c.in-Cut.ensures.next in
    (part_served c.args.bytes.now n.0, n.1, n.2)

pub returns-in-Fatal-clause-next : goal.returns-in-Fatal-clause-next
returns-in-Fatal-clause-next c =
    bad_served c.args.bytes.now c.in-Fatal.fault c.in-Fatal.ensures.next ∙ ap bad (sym c.of_head.ensures)

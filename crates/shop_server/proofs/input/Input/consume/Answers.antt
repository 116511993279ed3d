use Rattle.std.proofs.Common.{ℕ, ◌∙◌, ap, arith, drop, length, length-take, length-drop}
use Rattle.shop_server.proofs.Buffers.{begins_later}
use Rattle.shop_server.proofs.input.Input.consume.Goals as goal

pub returns : goal.returns
returns c =
    begins_later c.self.inside.bytes.items c.self.inside.start c.self.inside.end c.args.used c.self.invariant.0 (omega (arith, ap length c.self.view_is, length-take {A = ℕ}, length-drop {A = ℕ}))
    ∙ ap (drop c.args.used) (c.self.view_is)

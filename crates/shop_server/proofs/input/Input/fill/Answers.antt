use Rattle.std.proofs.Common.{◌+◌, ◌++◌, ◌∙◌, [], length, refl, sym, ap, arith, append-nil}
use Rattle.std.proofs.KnownBytes.{Consumes-nil}
use Rattle.shop_server.proofs.Buffers.{ends_later, stays_between}
use Rattle.shop_server.proofs.input.Input.fill.Goals as goal

pub returns-then-is_err-clause-read : goal.returns-then-is_err-clause-read
returns-then-is_err-clause-read g c =
    let i = c.self.inside in (
      [],
      Consumes-nil _,
      stays_between i.bytes.items c.grow.new.bytes.items i.start i.end c.self.invariant.0 (c.grow.ensures.front i.end c.self.invariant.1)
          ∙ c.self.view_is ∙ c.compact.ensures ∙ sym (append-nil c.args.self.now),
      refl,
    )

pub returns-in-Ok-clause-read : goal.returns-in-Ok-clause-read
returns-in-Ok-clause-read g c =
    let i = c.self.inside in
    let r = c.in-Ok.ensures.read in (
      r.0,
      r.1,
      ends_later i.bytes.items c.read_at.new.bytes.items r.0 i.start i.end _ c.self.invariant.0 c.self.invariant.1 (ap (λ n. i.end + n) (sym r.3.0))
          (r.2 ∙ ap (λ l. l ++ r.0) (c.grow.ensures.front i.end c.self.invariant.1))
          ∙ ap (λ l. l ++ r.0) (c.self.view_is ∙ c.compact.ensures),
      r.3,
    )

pub returns-in-Err-clause-read : goal.returns-in-Err-clause-read
returns-in-Err-clause-read g c =
    let i = c.self.inside in
    let r = c.in-Err.ensures.read in (
      r.0,
      r.1,
      ends_later i.bytes.items c.read_at.new.bytes.items r.0 i.start i.end i.end c.self.invariant.0 c.self.invariant.1 (omega (arith, ap length r.3))
          (r.2 ∙ ap (λ l. l ++ r.0) (c.grow.ensures.front i.end c.self.invariant.1))
          ∙ ap (λ l. l ++ r.0) (c.self.view_is ∙ c.compact.ensures),
      r.3,
    )

use Rattle.std.proofs.Common.{◌++◌, ◌∙◌, ap, subst, rules}
use Rattle.std.specs.Io.KnownBytes.{Appends}
use Rattle.std.proofs.KnownBytes.{Appends-trans}
use Rattle.shop_server.specs.Session.{IsFront}
use Rattle.shop_server.proofs.Lines.{front_more, front_behind, on_ok}
use Rattle.shop_server.proofs.session.write_due.Goals as goal

pub returns-in_err-write_all-clause-wrote : goal.returns-in_err-write_all-clause-wrote
returns-in_err-write_all-clause-wrote g c =
    let w = c.in_err-write_all.ensures.wrote in
    (w.0, front_more w.0 c.args.due.now.items c.args.more.now (subst (λ l. IsFront w.0 l) c.as_slice.ensures.value w.1), w.2, search rules)

pub returns-clause-wrote : goal.returns-clause-wrote
returns-clause-wrote g c =
    let due = c.args.due.now.items in
    let a = c.in_ok-write_all.ensures.wrote in
    let b = c.write_all-2.ensures.wrote in
    let whole = a.3 ∙ c.as_slice.ensures.value in (
      due ++ b.0,
      front_behind b.0 due c.args.more.now b.1,
      Appends-trans _ (g.L.Sink.written c.write_all.new.link) _ due b.0 (subst (λ l. Appends (g.L.Sink.written c.args.link.now) (g.L.Sink.written c.write_all.new.link) l) whole a.2) b.2,
      on_ok c.write_all-2.result (λ e. (ap (λ l. due ++ l) e, c.clear.ensures.items)) b.3,
    )

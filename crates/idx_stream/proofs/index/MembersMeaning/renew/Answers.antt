use Rattle.std.proofs.Common.{◌≡◌, ◌∙◌, sym, ap, Some}
use Rattle.std.specs.Option.{option_copied}
use Rattle.renewed.specs.Renewing.{left}
use Rattle.product_meanings.specs.Streams.{members}
use Rattle.idx_category.proofs.Steps.{if_ok}
use Rattle.idx_stream.specs.Affecting.{IsRenewed}
use Rattle.idx_stream.proofs.Belonging.{renewed_at}
use Rattle.idx_stream.proofs.index.MembersMeaning.renew.Goals as goal

pub returns-in-Some : goal.returns-in-Some
returns-in-Some c =
    let e : option_copied c.args.old ≡ Some c.in-Some.old.now = ap option_copied c.in-Some.is in
    if_ok (λ r. IsRenewed c.args.after.now.list c.args.key c.in-Some.old.now c.args.touched.now.affected.products (left r (Some c.in-Some.old.now))) (λ r. left r (option_copied c.args.old) ≡ members c.args.after.now.list c.args.key) c.renew_members.result
    (λ r renewed.
    ap (left r) e
    ∙ renewed_at c.args.arg2.now.list c.args.after.now.list c.args.touched.now.affected.products c.args.touched.now.affected.streams c.requires.was_fit c.requires.fit c.requires.touched c.args.key (sym c.if-not-has.ensures) (option_copied c.args.old) c.in-Some.old.now e c.requires.old (left r (Some c.in-Some.old.now)) renewed)
    c.renew_members.ensures

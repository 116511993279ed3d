use Rattle.std.proofs.Common.{◌≡◌, ◌∙◌, sym, ap, Some}
use Rattle.std.specs.Option.{option_copied}
use Rattle.renewed.specs.Renewing.{left}
use Rattle.product_meanings.specs.Listings.{listed}
use Rattle.idx_category.proofs.Steps.{if_ok}
use Rattle.idx_listing.specs.Relisting.{IsRenewed}
use Rattle.idx_listing.proofs.Relisted.{renewed_list}
use Rattle.idx_listing.proofs.index.ListsMeaning.renew.Goals as goal

pub returns-in-Some : goal.returns-in-Some
returns-in-Some c =
    let e : option_copied c.args.old ≡ Some c.in-Some.old.now = ap option_copied c.in-Some.is in
    if_ok (λ r. IsRenewed c.args.after.now.list c.args.key c.in-Some.old.now c.args.touched.now.products (left r (Some c.in-Some.old.now))) (λ r. left r (option_copied c.args.old) ≡ listed c.args.after.now.list c.args.key) c.renew_list.result
    (λ r renewed.
    ap (left r) e
    ∙ renewed_list c.args.arg2.now.list c.args.after.now.list c.args.touched.now.products c.args.touched.now.categories c.requires.was_fit c.requires.fit c.requires.touched c.args.key (sym c.if-not-is_missing.ensures) (option_copied c.args.old) c.in-Some.old.now e c.requires.old (left r (Some c.in-Some.old.now)) renewed)
    c.renew_list.ensures

use Rattle.std.proofs.Common.{◌≡◌, ℕ, ◌∙◌, ap, List}
use Rattle.id_sets.specs.Sets.{has}
use Rattle.product_rows.proofs.Outside.{outside_by}
use Rattle.product_rows.proofs.affected.affected_products.Goals as goal

pub returns : goal.returns
returns c =
    outside_by c.args.before.now.list c.args.after.now.list c.args.delta.now.changes c.from_vec.result
    c.requires.was_orderly c.requires.orderly c.requires.leads c.requires.keys c.requires.once
    (λ id. c.from_vec.ensures.same id ∙ ap (λ (ids : List ℕ). has ids id) c.in_ok-ids.ensures)

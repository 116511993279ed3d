use Rattle.std.proofs.Common.{◌∙◌, ℕ, List, sym, ap}
use Rattle.renewed.specs.Showing.{has_key}
use Rattle.idx_listing.proofs.Relisted.{listed_none}
use Rattle.idx_listing.proofs.index.ListsMeaning.keys.Goals as goal

pub returns : goal.returns
returns c = λ key off. listed_none c.args.over.now.list key (c.in_ok-ids.ensures key (ap (λ (ids : List ℕ). has_key ids key) (sym c.from_vec.ensures) ∙ off))

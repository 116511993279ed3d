use Rattle.std.proofs.Common.{◌∙◌, ℕ, List, sym, ap}
use Rattle.renewed.specs.Showing.{has_key}
use Rattle.idx_listing.proofs.Counts.{price_none}
use Rattle.idx_listing.proofs.index.PricesMeaning.keys.Goals as goal

pub returns : goal.returns
returns c = λ key off. price_none c.args.over.now.list key (c.in_ok-ids.ensures key (ap (λ (ids : List ℕ). has_key ids key) (sym (c.from_vec.ensures ∙ (c.in_ok-list.ensures.items ∙ c.as_slice.ensures.ids))) ∙ off))

use Rattle.std.proofs.Common.{◌≡◌, ◌∙◌, ℕ, List, sym, ap}
use Rattle.renewed.specs.Showing.{has_key}
use Rattle.idx_stream.proofs.Belonging.{members_none}
use Rattle.idx_stream.proofs.index.MembersMeaning.keys.Goals as goal

pub returns : goal.returns
returns c = λ key off. members_none c.args.over.now.list key (c.in_ok-ids.ensures key (ap (λ (ids : List ℕ). has_key ids key) (sym c.from_vec.ensures) ∙ off))

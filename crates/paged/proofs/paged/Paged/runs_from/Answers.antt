use Rattle.std.proofs.Common.{sym, ap, ◌∙◌}
use Rattle.paged.specs.Parts.{parts}
use Rattle.paged.specs.Paged.{all_pairs}
use Rattle.paged.specs.Walk.{from}
use Rattle.paged.proofs.Looking.{all_pages}
use Rattle.paged.proofs.paged.Paged.runs_from.Goals as goal

pub returns : goal.returns
returns g c =
    c.in_chunks.ensures
    ∙ ap (λ (l : _). from g.K.Ord.cmp l c.args.key.now) (ap (λ (t : _). parts (parts t)) c.entries.ensures ∙ (sym (all_pages g.K.Ord.cmp g.met.K.Ord.total (parts c.self.inside.chunks)) ∙ ap (λ (p : _). all_pairs p) c.self.view_is))

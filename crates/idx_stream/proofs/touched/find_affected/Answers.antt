use Rattle.std.proofs.Common.{◌≡◌, ℕ, ◌∙◌, ap, List}
use Rattle.id_sets.specs.Sets.{has}
use Rattle.idx_stream.specs.Affecting.{streams_of}
use Rattle.idx_stream.proofs.Belonging.{outside_both}
use Rattle.idx_stream.proofs.touched.find_affected.Goals as goal

pub returns : goal.returns
returns c =
    outside_both c.args.before.now.list c.args.after.now.list c.args.delta.now.changes c.in_ok-products.products c.from_vec.result
    c.requires.was_orderly c.requires.orderly c.requires.leads c.requires.keys c.requires.once c.in_ok-products.ensures
    (λ id. c.from_vec.ensures.same id ∙ ap (λ (ids : List ℕ). has ids id) (c.in_ok-streams.ensures ∙ ap (streams_of c.args.before.now.list c.args.after.now.list) c.as_slice.ensures))

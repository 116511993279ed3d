use Rattle.std.proofs.Common.{◌≡◌, ◌∙◌, ◌⊎◌, inl, inr, sym, ℕ, List, false, None, []}
use Rattle.shop_defs.specs.declared.entity.Entity.TheVariants as E
use Rattle.id_sets.specs.Sets.{has}
use Rattle.shop_meanings.specs.Live.{live_row}
use Rattle.idx_stream.proofs.Belonging.{nothing}
use Rattle.idx_stream.proofs.touched.all_streams.Goals as goal

pub returns-then-is_empty : goal.returns-then-is_empty
returns-then-is_empty c = λ id off. inl (sym c.as_slice.ensures.ids ∙ nothing c.as_slice.result.now (sym c.if-is_empty.ensures))

pub returns : goal.returns
returns c = λ id off. inr (c.in_ok-ids.ensures id off)

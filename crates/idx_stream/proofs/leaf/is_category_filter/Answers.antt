use Rattle.std.proofs.Common.{◌∙◌, ℕ, List, sym, ap}
use Rattle.std.specs.Prelude.{codes}
use Rattle.row_fields.specs.Fields.{is_text_at}
use Rattle.idx_stream.proofs.FieldNumbers.{filter_kind}
use Rattle.idx_stream.proofs.leaf.is_category_filter.Goals as goal

pub returns : goal.returns
returns c =
    c.is_text_at.ensures
    ∙ (ap (λ (text : List ℕ). is_text_at c.args.node.now 3 text) c.as_bytes.ensures.value
    ∙ sym (ap (λ (n : ℕ). is_text_at c.args.node.now n (codes "in_category")) filter_kind))

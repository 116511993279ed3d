use Rattle.std.proofs.Common.{FitsSigned, w64, refl, ◌∙◌}
use Rattle.std.proofs.lemmas.Int.{to_z-of_z}
use Rattle.shop_json.proofs.DoneText.{response_put}
use Rattle.shop_json.proofs.done.put_done.Goals as goal

pub returns : goal.returns
returns c =
    let fits : FitsSigned w64 c.args.value = c.ranges.value in
    response_put _ _ _ _ _ _ _ c.format-front.result.now c.format-value.result.now _ c.args.front c.args.value c.args.closing
    c.format-front.ensures.text (simp to_z-of_z at c.format-value.ensures.text) refl
    c.put_head.ensures.items c.put.ensures.items (c.put-2.ensures.items ∙ refl) c.put-3.ensures.items (c.put-4.ensures.items ∙ refl) c.put-5.ensures.items
    c.as_bytes.ensures.value c.as_bytes-2.ensures.value

use Rattle.std.proofs.Common.{◌∙◌, ◌==◌, ◌||◌, Err, ap, sym, subst, refl}
use Rattle.std.proofs.lemmas.Result.{err_from_is_err_and}
use Rattle.shop_http.specs.declared.next.HeadFault.TheVariants.{BadHead}
use Rattle.shop_http.specs.Words.{IsJudged}
use Rattle.shop_http.specs.Heads.{judged}
use Rattle.shop_http.proofs.HeadReading.{no_head}
use Rattle.shop_http.proofs.Cutting.{found_fault, found_begun, size_by}
use Rattle.shop_http.proofs.region.read_region.Goals as goal

pub returns-in_default : goal.returns-in_default
returns-in_default c =
    subst (λ o. IsJudged (judged o) (Err BadHead)) (sym (no_head c.args.region.now (c.find_head.ensures.none c.in_default.is))) refl

pub returns-in_err-size : goal.returns-in_err-size
returns-in_err-size c =
    let p = err_from_is_err_and c.from_residual.result c.from_residual.ensures.1 in
    rw (p.1, p.2)
    (found_fault c.args.region.now c.find_head.new.spans c.in-Some.found c.in_err-size.field-0.0 c.in-Some.ensures.some
    (size_by c.look_up-fields.result _ c.look_up-fields.ensures ∙ sym c.body_size.ensures ∙ c.in_err-size.was))

pub returns : goal.returns
returns c =
    let f = c.look_up-fields.ensures in
    found_begun c.args.region.now c.find_head.new.spans c.in-Some.found (record { head = c.make_head.result; size = c.in_ok-size.size }) c.in-Some.ensures.some
    (size_by c.look_up-fields.result _ f ∙ sym c.body_size.ensures ∙ c.in_ok-size.was)
    (record {
      method = c.make_head.ensures.method;
      target = c.make_head.ensures.target;
      closing = c.make_head.ensures.closing ∙ ap (λ b. c.in-Some.found.version == 0 || b) f.closing;
      language = c.make_head.ensures.language ∙ f.language;
      version = c.make_head.ensures.version ∙ f.version;
      inheritance = c.make_head.ensures.inheritance ∙ f.inheritance;
      min_front = c.make_head.ensures.min_front ∙ f.min_front;
    })

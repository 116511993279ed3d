use Rattle.std.proofs.Common.{◌∙◌, ◌+◌, ◌≤◌, ◌<◌, ℕ, Some, None, sym, ap, subst, drop, option_map}
use Rattle.std.proofs.lemmas.List.{take_rest}
use Rattle.memchr.specs.Find.{IsFirstByte, is_byte}
use Rattle.shop_http.specs.Heads.{empty_line}
use Rattle.shop_http.proofs.Ends.{ends_at, passed_at, end_nowhere}
use Rattle.shop_http.proofs.region.head_end.Goals as goal

pub returns-then-empty-gt0 : goal.returns-then-empty-gt0
returns-then-empty-gt0 c =
    let bytes = c.args.bytes.now in
    let next : ℕ = c.loop-line.at + (c.in-Some.line + 1) in
    let empty = c.empty_line-empty.ensures.value ∙ ap empty_line (take_rest bytes next) in
    ap (λ n. Some (next + n)) empty
    ∙ ends_at bytes c.loop-line.at c.in-Some.line c.loop-line.invariant.0 c.loop-line.invariant.1
    (subst (λ t. IsFirstByte (is_byte 10) t (Some c.in-Some.line)) (take_rest bytes c.loop-line.at) c.in-Some.ensures)
    (subst (λ n. 0 < n) empty c.if-empty-gt0.true)

pub loop-line-preserved : goal.loop-line-preserved
loop-line-preserved c =
    let bytes = c.args.bytes.now in
    let next : ℕ = c.loop-line.at + (c.in-Some.line + 1) in
    let empty = c.empty_line-empty.ensures.value ∙ ap empty_line (take_rest bytes next) in
    passed_at bytes c.loop-line.at c.in-Some.line c.loop-line.invariant.0 c.loop-line.invariant.1
    (subst (λ t. IsFirstByte (is_byte 10) t (Some c.in-Some.line)) (take_rest bytes c.loop-line.at) c.in-Some.ensures)
    (subst (λ n. n ≤ 0) empty c.if-empty-gt0.false)

pub returns : goal.returns
returns c =
    let bytes = c.args.bytes.now in
    let none = end_nowhere (drop c.loop-line.at bytes)
    (subst (λ t. IsFirstByte (is_byte 10) t None) (take_rest bytes c.loop-line.at) c.in_default.ensures) in
    sym (c.loop-line.invariant.1 ∙ ap (option_map (λ n. c.loop-line.at + n)) none)

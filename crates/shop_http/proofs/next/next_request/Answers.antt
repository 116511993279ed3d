use Rattle.std.proofs.Common.{◌≡◌, ◌∙◌, ℕ, ◌+◌, Option, Some, None, IsSome, sym, ap, subst, List, length, take, arith}
use Rattle.std.proofs.lemmas.List.{take_all}
use Rattle.shop_http.specs.Heads.{head_cut, head_end}
use Rattle.shop_http.proofs.Cutting.{cut_waits, front_end, front_endless, next_unfinished, one_more_look}
use Rattle.shop_http.proofs.next.next_request.Goals as goal

none_is : IsSome {T = ℕ} None → ⊥
none_is some = absurd cc

-- what was found in the front
found : (bytes front : List ℕ) (r o : Option ℕ) → r ≡ o → r ≡ head_end front → front ≡ take 16384 bytes → head_end (take 16384 bytes) ≡ o
found bytes front r o is ensures e = ap head_end (sym e) ∙ sym ensures ∙ is

pub with_head-requires-clause-ends : goal.with_head-requires-clause-ends
with_head-requires-clause-ends c =
    (front_end c.args.bytes.now c.in-Some.end (found c.args.bytes.now c.front.result.now c.head_end.result (Some c.in-Some.end) c.in-Some.is c.head_end.ensures c.front.ensures)).0

pub with_head-requires-clause-within : goal.with_head-requires-clause-within
with_head-requires-clause-within c =
    (front_end c.args.bytes.now c.in-Some.end (found c.args.bytes.now c.front.result.now c.head_end.result (Some c.in-Some.end) c.in-Some.is c.head_end.ensures c.front.ensures)).1

pub with_head-requires-clause-fits : goal.with_head-requires-clause-fits
with_head-requires-clause-fits c =
    (front_end c.args.bytes.now c.in-Some.end (found c.args.bytes.now c.front.result.now c.head_end.result (Some c.in-Some.end) c.in-Some.is c.head_end.ensures c.front.ensures)).2

pub returns-in-None-clause-next : goal.returns-in-None-clause-next
returns-in-None-clause-next c =
    let none = found c.args.bytes.now c.front.result.now c.head_end.result None c.in-None.is c.head_end.ensures c.front.ensures in
    let all : take 16384 c.args.bytes.now ≡ c.args.bytes.now = take_all 16384 c.args.bytes.now (omega (arith, c.if-bytes-lt-LONGEST_HEAD.true)) in
    let waits = cut_waits c.args.bytes.now (ap head_end (sym all) ∙ none) c.if-bytes-lt-LONGEST_HEAD.true in
    next_unfinished head_cut c.args.bytes.now (length c.args.bytes.now + 1) c.args.ended c.unfinished.result c.unfinished.ensures waits (one_more_look c.args.bytes.now waits)

pub returns-in-None-clause-read_twice : goal.returns-in-None-clause-read_twice
returns-in-None-clause-read_twice c = λ least is some.
    let none = found c.args.bytes.now c.front.result.now c.head_end.result None c.in-None.is c.head_end.ensures c.front.ensures in
    let all : take 16384 c.args.bytes.now ≡ c.args.bytes.now = take_all 16384 c.args.bytes.now (omega (arith, c.if-bytes-lt-LONGEST_HEAD.true)) in
    absurd (none_is (subst IsSome (ap head_end (sym all) ∙ none) some))

pub returns-in-None-2-clause-next : goal.returns-in-None-2-clause-next
returns-in-None-2-clause-next c =
    front_endless c.args.bytes.now
    (found c.args.bytes.now c.front.result.now c.head_end.result None c.in-None-2.is c.head_end.ensures c.front.ensures) c.if-bytes-lt-LONGEST_HEAD.false

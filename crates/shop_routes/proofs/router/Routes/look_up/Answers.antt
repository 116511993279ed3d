use Rattle.std.proofs.Common.{◌≡◌, ◌∙◌, Bool, true, false, not, sym, refl}
use Rattle.shop_routes.specs.Routing.{routed}
use Rattle.shop_routes.proofs.router.Routes.look_up.Goals as goal

not_true : (b : Bool) → not b ≡ true → b ≡ false
not_true true e = cc
not_true false e = refl

not_false : (b : Bool) → not b ≡ false → b ≡ true
not_false true e = refl
not_false false e = cc

pub returns-in-None : goal.returns-in-None
unfolding routed
returns-in-None c = λ body. rw c.in-None.ensures refl

pub returns-in-Some : goal.returns-in-Some
unfolding routed
returns-in-Some c =
    let differs = not_true _ (sym c.ne.ensures ∙ c.if-ne.true) in
    λ body. rw (c.in-Some.ensures.0, rw c.method_text.ensures at differs) refl

pub returns-in-Some-2 : goal.returns-in-Some-2
unfolding routed
returns-in-Some-2 c =
    let same = not_false _ (sym c.ne.ensures ∙ c.if-ne.false) in
    let text = rw c.method_text.ensures at same in
    λ body. rw (c.in-Some.ensures.0, text) (c.look_at.ensures body)

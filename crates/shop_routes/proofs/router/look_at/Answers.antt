use Rattle.shop_routes.proofs.router.look_at.Goals as goal

pub returns-in-Ok : goal.returns-in-Ok
returns-in-Ok c = λ body. rw (← c.allows_nil.ensures, c.in-Ok.ensures.ok.0) (c.look_with.ensures body)

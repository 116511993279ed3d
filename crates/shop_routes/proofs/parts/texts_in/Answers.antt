use Rattle.std.proofs.Common.{◌≡◌, List, ℕ, [], Option, Some, None, refl, sym, ◌∙◌}
use Rattle.shop_routes.specs.Gathered.{AreFoundAmong, AreTextsOf, text_or}
use Rattle.shop_routes.specs.PathParts.{Parts}
use Rattle.shop_routes.specs.Seen.{parts_seen}
use Rattle.shop_routes.specs.declared.parts.Texts.{Texts}
use Rattle.shop_routes.proofs.parts.texts_in.Goals as goal

as_found : (o : Option (List ℕ)) → o ≡ text_or o None
as_found None = refl
as_found (Some text) = refl

all_found : (texts : Texts) (all : Parts) → AreFoundAmong texts [] all → AreTextsOf texts all
all_found texts all h = (as_found _ ∙ h.0, as_found _ ∙ h.1, as_found _ ∙ h.2, as_found _ ∙ h.3)

pub loop-name-init : goal.loop-name-init
loop-name-init c = rw c.iter-rest.ensures.value (c.requires, (refl, refl, refl, refl))

pub loop-name-preserved : goal.loop-name-preserved
loop-name-preserved c =
    let s = c.in-Some.ensures.steps in
    let inv = rw s.1 at c.loop-name.invariant in
    let name = s.2 inv.0.0 in
    let text = s.3 inv.0.1 in
    (inv.0.2, c.with_text-texts.ensures c.next.new.self (parts_seen c.args.params.now) (rw (name, text) inv.1))

pub returns : goal.returns
returns c =
    let e = c.in_default.ensures.steps in
    all_found c.loop-name.texts (parts_seen c.args.params.now) (rw e at c.loop-name.invariant).1

use Rattle.std.proofs.Common.{◌≡◌, ◌++◌, ℕ, List, sym, ap, ◌∙◌, append_assoc}
use Rattle.shop_http.specs.Responses.{content_lines}
use Rattle.shop_http.proofs.respond.put_content_fields.Goals as goal

steps : (a b c d x y z number : List ℕ) → b ≡ a ++ x → c ≡ b ++ y → d ≡ c ++ z → y ≡ number → d ≡ a ++ (x ++ number ++ z)
steps a b c d x y z number p q r s =
    r ∙ ap (λ t. t ++ z) q ∙ ap (λ t. t ++ y ++ z) p ∙ ap (λ t. a ++ x ++ t ++ z) s
    ∙ append_assoc (a ++ x) number z ∙ append_assoc a x (number ++ z) ∙ ap (λ t. a ++ t) (sym (append_assoc x number z))

pub returns-clause-items : goal.returns-clause-items
unfolding content_lines
returns-clause-items c = steps _ _ _ _ _ _ _ _ c.put.ensures.items c.put-2.ensures.items c.put-3.ensures.items (c.as_bytes.ensures.value ∙ c.format.ensures.text)

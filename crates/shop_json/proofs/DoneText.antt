-- The text of the reply to a write that is accepted.
use Rattle.std.proofs.Common.{◌≡◌, ℕ, ℤ, pos, negsuc, ◌+◌, ◌++◌, ◌∙◌, Bool, List, None, codes, length, length-append, append_assoc, refl, sym, ap, arith, decimal}
use Rattle.shop_http.specs.Responses.{head_text, response_text}
use Rattle.std.specs.Fmt.{signed_decimal}
use Rattle.json.specs.Print.{escape_byte}
use Rattle.shop_json.specs.Replying.{done_body, reply_body}

pub done_is : (front : ℕ) (value : ℤ) → done_body front value ≡ codes "{\"front\":" ++ (decimal front ++ (codes ",\"value\":" ++ (signed_decimal value ++ codes "}")))
unfolding reply_body escape_byte
done_is front (pos n) = refl
done_is front (negsuc n) = refl

texts_length : (f v : List ℕ) → length (codes "{\"front\":" ++ (f ++ (codes ",\"value\":" ++ (v ++ codes "}")))) ≡ 19 + length f + length v
texts_length f v = omega (arith, length-append f (codes ",\"value\":" ++ (v ++ codes "}")), length-append v (codes "}"))

-- five pieces, one after the other
five : (head a b c d e A f B v C : List ℕ) → a ≡ head ++ A → b ≡ a ++ f → c ≡ b ++ B → d ≡ c ++ v → e ≡ d ++ C → e ≡ head ++ (A ++ (f ++ (B ++ (v ++ C))))
five head a b c d e A f B v C p q r s t =
    t ∙ ap (λ l. l ++ C) (s ∙ ap (λ l. l ++ v) (r ∙ ap (λ l. l ++ B) (q ∙ ap (λ l. l ++ f) p)))
    ∙ append_assoc ((((head ++ A) ++ f) ++ B)) v C ∙ append_assoc ((head ++ A) ++ f) B (v ++ C) ∙ append_assoc (head ++ A) f (B ++ (v ++ C)) ∙ append_assoc head A (f ++ (B ++ (v ++ C)))

-- the head and the pieces of the body are the response
pub response_put : (old head a b c d e f v : List ℕ) (size front : ℕ) (value : ℤ) (closing : Bool) → f ≡ decimal front → v ≡ signed_decimal value → size ≡ 19 + length f + length v
    → head ≡ old ++ head_text 200 size None closing → a ≡ head ++ codes "{\"front\":" → {g w : List ℕ} → b ≡ a ++ g → c ≡ b ++ codes ",\"value\":" → d ≡ c ++ w → e ≡ d ++ codes "}"
    → g ≡ f → w ≡ v → e ≡ old ++ response_text 200 (done_body front value) None closing
unfolding response_text
response_put old head a b c d e f v size front value closing is_front is_value sizes heads p {g} {w} q r s t as_front as_value =
    let body : List ℕ = codes "{\"front\":" ++ (f ++ (codes ",\"value\":" ++ (v ++ codes "}"))) in
    let is_body : body ≡ done_body front value =
    ap (λ x. codes "{\"front\":" ++ (x ++ (codes ",\"value\":" ++ (v ++ codes "}")))) is_front ∙ ap (λ x. codes "{\"front\":" ++ (decimal front ++ (codes ",\"value\":" ++ (x ++ codes "}")))) is_value ∙ sym (done_is front value) in
    let pieces : e ≡ head ++ body = five head a b c d e (codes "{\"front\":") f (codes ",\"value\":") v (codes "}") p (q ∙ ap (λ x. a ++ x) as_front) r (s ∙ ap (λ x. c ++ x) as_value) t in
    pieces ∙ ap (λ h. h ++ body) (heads ∙ ap (λ n. old ++ head_text 200 n None closing) (sizes ∙ sym (texts_length f v)))
    ∙ append_assoc old (head_text 200 (length body) None closing) body
    ∙ ap (λ x. old ++ (head_text 200 (length x) None closing ++ x)) is_body

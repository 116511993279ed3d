-- Tokens that are put one after the other.
use Rattle.std.proofs.Common.{◌≡◌, ◌∙◌, List, ◌++◌, ap, append_assoc}
use Rattle.json.specs.Token.{Token}

-- what is put and then the rest
pub then : (out put now rest : List Token) → now ≡ out ++ put → now ++ rest ≡ out ++ (put ++ rest)
then out put now rest is = ap (λ front. front ++ rest) is ∙ append_assoc out put rest

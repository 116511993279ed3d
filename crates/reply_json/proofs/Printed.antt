-- The text that is printed for a value's tokens.
use Rattle.std.proofs.Common.{◌≡◌, ◌∙◌, ℕ, List, [], ◌++◌, ap}
use Rattle.json.specs.Token.{Token}
use Rattle.json.specs.Print.{print}
use Rattle.serde_json.specs.Data.{Data}
use Rattle.serde_json.specs.Written.{compact_text}
use Rattle.serde_json.proofs.Texts.{print-outline}
use Rattle.reply_json.specs.Tokens.{value_tokens}

-- a body that begins empty and has the tokens of a value put is the text of that value
pub printed : (value : Data) (body : List ℕ) (start tokens : List Token) → start ≡ [] → tokens ≡ start ++ value_tokens value → body ≡ print tokens → body ≡ compact_text value
printed value body start tokens empty put is = is ∙ ap print (put ∙ ap (λ front. front ++ value_tokens value) empty) ∙ print-outline value

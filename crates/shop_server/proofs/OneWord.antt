-- The one word of a command line.
use Rattle.std.proofs.Common.{◌≡◌, ℕ, Bool, true, false, List, [], ◌∷◌, codes, refl, ap, Some, None}
use Rattle.std.specs.Prelude.{if◌then◌else◌}
use Rattle.std.proofs.lemmas.Slice.Eq.{bytes_eq-Decides}
use Rattle.std.specs.Str.{bytes_eq}
use Rattle.shop_server.specs.declared.words.Verb.TheVariants.{Run, Check}
use Rattle.shop_server.specs.Words.{verb_in}

second : (b : Bool) → (if b then Some Check else None) ≡ Some Check → b ≡ true
second true e = refl
second false e = absurd cc

named_check : (a b : Bool) → (if a then Some Run else (if b then Some Check else None)) ≡ Some Check → b ≡ true
named_check true b e = absurd cc
named_check false b e = second b e

pub check_word : (words : List (List ℕ)) → verb_in words ≡ Some Check → words ≡ codes "check" ∷ []
check_word [] e = absurd cc
check_word (word ∷ []) e = ap (λ w. w ∷ []) ((bytes_eq-Decides word (codes "check")).0 (named_check (bytes_eq word (codes "run")) (bytes_eq word (codes "check")) e))
check_word (word ∷ other ∷ more) e = absurd cc

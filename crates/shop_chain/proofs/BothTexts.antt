-- Two texts that are looked for together, language by language.
use Rattle.std.proofs.Common.{◌≡◌, ◌+◌, ◌<◌, ℕ, List, [], ◌∷◌, length, get_or, drop, Option, Some, None, refl, ap, sym, ◌∙◌}
use Rattle.std.proofs.lemmas.List.{drop_more}
use Rattle.std.specs.Option.{option_or}
use Rattle.shop_defs.specs.declared.value.Value.{Value}
use Rattle.shop_chain.specs.Translations.{first_of, as_value}

-- a value or nothing is that value, or nothing
pub or_none : {X : Type 0} (value : Option X) → option_or value None ≡ value
or_none None = refl
or_none (Some value) = refl

or_or : {X : Type 0} (a b c : Option X) → option_or (option_or a b) c ≡ option_or a (option_or b c)
or_or None b c = refl
or_or (Some a) b c = refl

-- a text or another, as values
as_value-or : (a b : Option (List ℕ)) → as_value (option_or a b) ≡ option_or (as_value a) (as_value b)
as_value-or None b = refl
as_value-or (Some a) b = refl

-- what was found before a language, in it and behind it
pub next_language : (find : ℕ → Option (List ℕ)) (language : ℕ) (rest : List ℕ) (whole before here both : Option Value) → whole ≡ option_or before (as_value (first_of find (language ∷ rest)))
    → here ≡ as_value (find language) → both ≡ option_or before here → whole ≡ option_or both (as_value (first_of find rest))
next_language find language rest whole before here both is here_is both_is =
    is ∙ ap (option_or before) (as_value-or (find language) (first_of find rest)) ∙ sym (or_or before (as_value (find language)) (as_value (first_of find rest)))
    ∙ ap (λ (found : Option Value). option_or (option_or before found) (as_value (first_of find rest))) (sym here_is) ∙ ap (λ (found : Option Value). option_or found (as_value (first_of find rest))) (sym both_is)

-- the same by the language's place
pub next_place : (find : ℕ → Option (List ℕ)) (languages : List ℕ) (at : ℕ) (whole before here both : Option Value) → at < length languages
    → whole ≡ option_or before (as_value (first_of find (drop at languages))) → here ≡ as_value (find (get_or languages at 0)) → both ≡ option_or before here
    → whole ≡ option_or both (as_value (first_of find (drop (at + 1) languages)))
next_place find languages at whole before here both less is here_is both_is =
    next_language find (get_or languages at 0) (drop (at + 1) languages) whole before here both (is ∙ ap (λ (rest : List ℕ). option_or before (as_value (first_of find rest))) (drop_more languages at 0 less)) here_is both_is

-- of an id without a parent
pub of_own : (find : ℕ → Option (List ℕ)) (id : ℕ) (own : Option Value) → own ≡ as_value (find id) → own ≡ as_value (first_of find (id ∷ []))
of_own find id own is = is ∙ ap as_value (sym (or_none (find id)))

pub ruleset both = (of_own, or_none)

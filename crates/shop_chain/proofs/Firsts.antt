-- What is found in one language after another, in words.
use Rattle.std.proofs.Common.{◌≡◌, ℕ, List, [], ◌∷◌, Option, Some, None, ◌⊎◌, refl, ap, sym, ◌∙◌, subst, inl, inr}
use Rattle.std.specs.Prelude.{option_and_then}
use Rattle.std.specs.Option.{option_or, option_to_list}
use Rattle.shop_defs.specs.declared.entity.Entity.TheVariants as E
use Rattle.shop_defs.specs.declared.key.Key.{Key}
use Rattle.shop_defs.specs.declared.row.Row.{Row}
use Rattle.shop_defs.specs.declared.value.Value.{Value}
use Rattle.shop_chain.specs.Translations.{first_of, text, as_value, text_at, in_language, text_of, category_text, IsFirstIfAny, IsProductText, IsCategoryText}

-- where a language has no text, what is found is found in the rest
later : (own parents : ℕ → Option (List ℕ)) (language : ℕ) (rest : List ℕ) → own language ≡ None → parents language ≡ None → (text : Option (List ℕ)) → IsFirstIfAny own parents rest text → IsFirstIfAny own parents (language ∷ rest) text
later own parents language rest no_own no_parents None finds = ((no_own, no_parents), finds)
later own parents language rest no_own no_parents (Some text) finds = record {
  before = language ∷ finds.before;
  language = finds.language;
  after = finds.after;
  place = ap (λ ids. language ∷ ids) finds.place;
  none_before = ((no_own, no_parents), finds.none_before);
  here = finds.here;
}

-- the first text of languages of which each has the own one, and else the parent's
pub is_first : (own parents find : ℕ → Option (List ℕ)) → ((language : ℕ) → find language ≡ option_or (own language) (parents language)) → (languages : List ℕ) → IsFirstIfAny own parents languages (first_of find languages)
is_first own parents find is [] = tt
is_first own parents find is (language ∷ rest) =
    rw (is language) (by (is_first own parents find is rest) (own language) refl (parents language) refl)
  where
    stands : (text : List ℕ) → (own language ≡ Some text) ⊎ ((own language ≡ None) × (parents language ≡ Some text)) → IsFirstIfAny own parents (language ∷ rest) (Some text)
    stands text here = record { before = []; language = language; after = rest; place = refl; none_before = tt; here = here }

    by : IsFirstIfAny own parents rest (first_of find rest) → (mine : Option (List ℕ)) → own language ≡ mine → (theirs : Option (List ℕ)) → parents language ≡ theirs → IsFirstIfAny own parents (language ∷ rest) (option_or (option_or mine theirs) (first_of find rest))
    by more (Some text) mine_is theirs theirs_is = stands text (inl mine_is)
    by more None mine_is (Some text) theirs_is = stands text (inr (mine_is, theirs_is))
    by more None mine_is None theirs_is = later own parents language rest mine_is theirs_is (first_of find rest) more

-- a text or nothing is that text, or nothing
or_none : (text : Option (List ℕ)) → option_or text None ≡ text
or_none None = refl
or_none (Some text) = refl

-- a product's text is the first in words
pub product_words : (look : Key → Option Row) (version product : ℕ) (parent : Option ℕ) (field : ℕ) (languages : List ℕ) → IsProductText look version product parent field languages (text_of look version product parent field languages)
product_words look version product parent field languages =
    is_first (λ language. at language product) (λ language. option_and_then (at language) parent) (in_language look E.ProductTranslation version (product ∷ option_to_list parent) field) (λ language. ap (option_or (at language product)) (asked (at language) parent)) languages
  where
    at : ℕ → ℕ → Option (List ℕ)
    at language id = text_at look E.ProductTranslation version field language id

    asked : (find : ℕ → Option (List ℕ)) (parent : Option ℕ) → first_of find (option_to_list parent) ≡ option_and_then find parent
    asked find None = refl
    asked find (Some id) = or_none (find id)

-- a category's text is the first in words
pub category_words : (look : Key → Option Row) (version category field : ℕ) (languages : List ℕ) → IsCategoryText look version category field languages (category_text look version category field languages)
category_words look version category field languages =
    is_first (λ language. at language) (λ language. None) (in_language look E.CategoryTranslation version (category ∷ []) field) (λ language. refl) languages
  where
    at : ℕ → Option (List ℕ)
    at language = text_at look E.CategoryTranslation version field language category

-- a text as a value is that text
text-as_value : (found : Option (List ℕ)) → text (as_value found) ≡ found
text-as_value None = refl
text-as_value (Some bytes) = refl

-- what holds of the text over any languages holds of the bytes of the value that is found over these
pub of_bytes : (P : List ℕ → Option (List ℕ) → Type 0) (over : List ℕ → Option (List ℕ)) → ((languages : List ℕ) → P languages (over languages)) → (slice languages : List ℕ) (value : Option Value) (bytes : Option (List ℕ)) → slice ≡ languages → value ≡ as_value (over slice) → bytes ≡ text value → P languages bytes
of_bytes P over holds slice languages value bytes slice_is value_is bytes_is =
    let is : bytes ≡ over languages =
    bytes_is ∙ (ap text value_is ∙ (text-as_value (over slice) ∙ ap over slice_is)) in
    subst (λ found. P languages found) (sym is) (holds languages)

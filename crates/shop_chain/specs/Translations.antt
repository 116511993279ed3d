-- Texts of products and categories, in the first language that has one.
use Rattle.std.specs.Prelude.{◌≡◌, ◌⊎◌, ℕ, List, [], ◌∷◌, ◌++◌, Option, Some, None, option_and_then}
use Rattle.std.specs.List.{AllByRecursion}
use Rattle.std.specs.Option.{option_map, option_or, option_to_list}
use Rattle.shop_defs.specs.declared.entity.Entity.{Entity}
use Rattle.shop_defs.specs.declared.entity.Entity.TheVariants as E
use Rattle.shop_defs.specs.declared.key.Key.{Key}
use Rattle.shop_defs.specs.declared.row.Row.{Row}
use Rattle.shop_defs.specs.declared.value.Value.{Value}
use Rattle.shop_defs.specs.declared.value.Value.TheVariants as V
use Rattle.shop_defs.specs.Rows.{field_of}

-- what is found for the first of the elements for which something is found
abbrev pub first_of : {X Y : Type 0} → (X → Option Y) → List X → Option Y
first_of find [] = None
first_of find (x ∷ rest) = option_or (find x) (first_of find rest)

-- the text that a value is
abbrev pub text_in : Value → Option (List ℕ)
text_in (V.Text bytes) = Some bytes
text_in value = None

-- the text that a field holds: none where it is empty
abbrev pub text : Option Value → Option (List ℕ)
text value = option_and_then text_in value

-- the key of a translation
abbrev pub translation_key : Entity → ℕ → ℕ → ℕ → Key
translation_key entity version id language = record { entity = entity; version = version; id = id; second = language }

-- the text of a field in the translation of that id to that language
abbrev pub text_at : (Key → Option Row) → Entity → ℕ → ℕ → ℕ → ℕ → Option (List ℕ)
text_at look entity version field language id =
    option_and_then (λ row. text (field_of row field)) (look (translation_key entity version id language))

-- the text in one language: of the first of the ids that has one
abbrev pub in_language : (Key → Option Row) → Entity → ℕ → List ℕ → ℕ → ℕ → Option (List ℕ)
in_language look entity version ids field language = first_of (text_at look entity version field language) ids

-- the text in the first of the languages in which one of the ids has one
abbrev pub translated : (Key → Option Row) → Entity → ℕ → List ℕ → ℕ → List ℕ → Option (List ℕ)
translated look entity version ids field languages = first_of (in_language look entity version ids field) languages

-- a product's text: language by language, first its own and then its parent's, where a parent is asked
abbrev pub text_of : (Key → Option Row) → ℕ → ℕ → Option ℕ → ℕ → List ℕ → Option (List ℕ)
text_of look version product parent field languages =
    translated look E.ProductTranslation version (product ∷ option_to_list parent) field languages

-- a category's text
abbrev pub category_text : (Key → Option Row) → ℕ → ℕ → ℕ → List ℕ → Option (List ℕ)
category_text look version category field languages =
    translated look E.CategoryTranslation version (category ∷ []) field languages

-- a text, as a value of a field
abbrev pub as_value : Option (List ℕ) → Option Value
as_value text = option_map (λ bytes. V.Text bytes) text

-- ---- the same in words

-- A text of two that there may be in each language: in some language it is the own one or, where there is no own one, the parent's; and no language before has either.
pub record IsFirstText (own parents : ℕ → Option (List ℕ)) (languages : List ℕ) (bytes : List ℕ) : Type 0 where
  pub before : List ℕ
  pub language : ℕ
  pub after : List ℕ
  pub place : languages ≡ before ++ language ∷ after
  pub none_before : AllByRecursion (λ earlier. (own earlier ≡ None) × (parents earlier ≡ None)) before
  pub here : (own language ≡ Some bytes) ⊎ ((own language ≡ None) × (parents language ≡ Some bytes))

-- it is the first text, or there is none, since no language has either
abbrev pub IsFirstIfAny : (ℕ → Option (List ℕ)) → (ℕ → Option (List ℕ)) → List ℕ → Option (List ℕ) → Type 0
IsFirstIfAny own parents languages None = AllByRecursion (λ language. (own language ≡ None) × (parents language ≡ None)) languages
IsFirstIfAny own parents languages (Some bytes) = IsFirstText own parents languages bytes

-- a product's text: the own one of a language is the product's, the parent's that of the parent, where one is asked
abbrev pub IsProductText : (Key → Option Row) → ℕ → ℕ → Option ℕ → ℕ → List ℕ → Option (List ℕ) → Type 0
IsProductText look version product parent field languages found =
    let text_of_id = λ (id language : ℕ). text_at look E.ProductTranslation version field language id in
    IsFirstIfAny (text_of_id product) (λ language. option_and_then (λ id. text_of_id id language) parent) languages found

-- a category's text: no parent is asked
abbrev pub IsCategoryText : (Key → Option Row) → ℕ → ℕ → ℕ → List ℕ → Option (List ℕ) → Type 0
IsCategoryText look version category field languages found =
    IsFirstIfAny (λ language. text_at look E.CategoryTranslation version field language category) (λ language. None) languages found

-- The languages that a text is looked for in, in their order.
use Rattle.std.specs.Prelude.{◌≡◌, ◌≢◌, ◌⊎◌, IsTrue, nat_eq, ℕ, zero, suc, ◌==◌, not, List, [], ◌∷◌, ◌++◌, Option, Some, None, if◌then◌else◌, filter, option_and_then, unwrap_or}
use Rattle.std.specs.List.{list_any, AllByRecursion, IsDistinct}
use Rattle.std.specs.Option.{option_map_or}
use Rattle.shop_defs.specs.declared.entity.Entity.{Entity}
use Rattle.shop_defs.specs.declared.entity.Entity.TheVariants as E
use Rattle.shop_defs.specs.declared.key.Key.{Key}
use Rattle.shop_defs.specs.declared.row.Row.{Row}
use Rattle.shop_defs.specs.declared.value.Value.{Value}
use Rattle.shop_defs.specs.declared.value.Value.TheVariants as V
use Rattle.shop_defs.specs.declared.words.FieldName.{FieldName}
use Rattle.shop_defs.specs.declared.words.FieldName.TheVariants as N
use Rattle.shop_defs.specs.Rows.{field_of}
use Rattle.shop_defs.specs.Tables.{field_named}
use Rattle.shop_defs.specs.Texts.{field_text}
use Rattle.shop_chain.specs.declared.languages.TheConstants.{SYSTEM_LANGUAGE}

-- the number of the entity's field of that name in the table: 0, which is no field's, where it has none
unfoldable pub number_of : Entity → FieldName → ℕ
number_of entity name = unwrap_or (field_named entity (field_text name)) 0

-- the id that a value is
abbrev pub ident : Value → Option ℕ
ident (V.Ident id) = Some id
ident value = None

-- the id that the row's own field holds
abbrev pub id_in : Row → ℕ → Option ℕ
id_in row field = option_and_then ident (field_of row field)

-- the language that a language's row names as its parent
abbrev pub parent_of : Row → Option ℕ
parent_of row = id_in row (number_of E.Language N.Parent)

-- the key of a language: languages have no versions
abbrev pub language_key : ℕ → Key
language_key language = record { entity = E.Language; version = 0; id = language; second = 0 }

-- how many languages are walked above the first at most: its parent
abbrev pub most_ancestors : ℕ
most_ancestors = 1

-- a language, its parent, that one's parent and so on, as far as parents are named: with so many above the first at most
abbrev pub walk : (ℕ → Option ℕ) → ℕ → ℕ → List ℕ
walk parent zero language = language ∷ []
walk parent (suc more) language = language ∷ option_map_or (walk parent more) (parent language) []

-- the ids, each at its first place only
abbrev pub each_once : List ℕ → List ℕ
each_once [] = []
each_once (id ∷ rest) = id ∷ filter (λ other. not (id == other)) (each_once rest)

-- the walk up from a language, and then the system language, each at its first place only
abbrev pub chain_by : (ℕ → Option ℕ) → ℕ → List ℕ
chain_by parent language = each_once (walk parent most_ancestors language ++ SYSTEM_LANGUAGE ∷ [])

-- the chain of a language whose row is given
abbrev pub chain : ℕ → Option Row → List ℕ
chain language row = chain_by (λ _. option_and_then parent_of row) language

-- the chain of a language over the rows: the parent of each is the one that its row names
abbrev pub chain_of : (Key → Option Row) → ℕ → List ℕ
chain_of look language = chain_by (λ above. option_and_then parent_of (look (language_key above))) language

-- the id is the language, its parent or the system language
abbrev pub IsOfChain : ℕ → Option ℕ → ℕ → Type 0
IsOfChain language parent id = (id ≡ language) ⊎ (parent ≡ Some id) ⊎ (id ≡ SYSTEM_LANGUAGE)

-- A chain in words: it begins with the language that is asked for; the parent of that one, where it has another, stands second; no
-- language stands twice; the system language is among them; and there is no other.
pub record IsChain (language : ℕ) (parent : Option ℕ) (languages : List ℕ) : Type 0 where
  pub begins : (rest : List ℕ) × (languages ≡ language ∷ rest)
  pub second : (above : ℕ) → parent ≡ Some above → above ≢ language → (rest : List ℕ) × (languages ≡ language ∷ above ∷ rest)
  pub once : IsDistinct nat_eq languages
  pub system : IsTrue (list_any (λ id. id == SYSTEM_LANGUAGE) languages)
  pub no_other : AllByRecursion (IsOfChain language parent) languages

-- the ids with one more at the end, unless it is among them. No public contract cites this.
abbrev pub with_language : List ℕ → ℕ → List ℕ
with_language ids id = if list_any (λ other. other == id) ids then ids else ids ++ id ∷ []

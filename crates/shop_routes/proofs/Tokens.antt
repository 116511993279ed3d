-- What a path takes of a target, token by token, and that this is what it takes piece by piece.
use Rattle.std.proofs.Common.{◌≡◌, ◌≢◌, ℕ, ◌<◌, List, [], ◌∷◌, ◌++◌, Option, Some, None, option_map, Bool, true, false, cond, refl, sym, arith, ◌==◌, ◌&&◌, if◌then◌else◌, not, ltb, inl, inr}
use Rattle.std.proofs.lemmas.Bool.Decides.{nat_tests}
use Rattle.std.proofs.lemmas.Bool.{cases_Bool, and_parts}
use Rattle.std.specs.Str.{bytes_eq}
use Rattle.std.proofs.lemmas.List.{append-nil}
use Rattle.shop_routes.specs.PathParts.{Parts}
use Rattle.shop_routes.specs.Paths.{pieces, name_in, with_part, on_piece, parts_on}

-- the text up to the first slash, and from it on
abbrev pub before : List ℕ → List ℕ
before [] = []
before (b ∷ rest) = cond (b == 47) [] (b ∷ before rest)

abbrev pub after : List ℕ → List ℕ
after [] = []
after (b ∷ rest) = cond (b == 47) (b ∷ rest) (after rest)

-- a text that isn't empty in front of others
abbrev pub with_text : List ℕ → Option (List (List ℕ)) → Option (List (List ℕ))
with_text [] texts = None
with_text (b ∷ rest) texts = option_map (λ more. (b ∷ rest) ∷ more) texts

-- the texts that the parameters of these tokens take of a target
abbrev pub taken : List ℕ → List ℕ → Option (List (List ℕ))
taken [] [] = Some []
taken [] (b ∷ rest) = None
taken (x ∷ t) [] = None
taken (x ∷ t) (b ∷ rest) =
    cond (x == 256) (with_text (before (b ∷ rest)) (taken t (after (b ∷ rest)))) (cond (x == b) (taken t rest) None)

-- ---- the tokens of a path

abbrev pub piece_tokens : Option (List ℕ) → List ℕ → List ℕ
piece_tokens None word = word
piece_tokens (Some name) word = 256 ∷ []

abbrev pub tokens : List (List ℕ) → List ℕ
tokens [] = []
tokens (word ∷ []) = piece_tokens (name_in word) word
tokens (word ∷ more ∷ path) = piece_tokens (name_in word) word ++ 47 ∷ tokens (more ∷ path)

-- each name with the text that it took
abbrev pub name_texts : Option (List ℕ) → List (List ℕ) → (List (List ℕ) → Parts) → Parts
name_texts None texts later = later texts
name_texts (Some name) [] later = []
name_texts (Some name) (text ∷ texts) later = (name, text) ∷ later texts

abbrev pub named_texts : List (List ℕ) → List (List ℕ) → Parts
named_texts [] texts = []
named_texts (word ∷ path) texts = name_texts (name_in word) texts (named_texts path)

-- ---- the pieces of a target

abbrev pub pieces_after : List ℕ → List (List ℕ)
pieces_after [] = []
pieces_after (b ∷ rest) = pieces rest

pieces_split : (target : List ℕ) → pieces target ≡ before target ∷ pieces_after (after target)
pieces_split [] = refl
pieces_split (b ∷ rest) = elim (cases_Bool (b == 47)) [
  | inl slash ↦ rw slash refl
  | inr other ↦ rw (other, pieces_split rest) refl
]

-- ---- a word

-- a word of a path: no slash, and no parameter
abbrev pub is_word : List ℕ → Bool
is_word [] = true
is_word (b ∷ rest) = (ltb b 128 && not (b == 47)) && is_word rest

-- behind a piece of a path: the end, or a slash
abbrev pub Joins : List ℕ → Type 0
Joins [] = Unit {0}
Joins (x ∷ t) = x ≡ 47

taken_nothing : (t target : List ℕ) → Joins t → taken t target ≡ cond (bytes_eq [] (before target)) (taken t (after target)) None
taken_nothing [] [] j = refl
taken_nothing [] (b ∷ rest) j = elim (cases_Bool (b == 47)) [ inl slash ↦ rw slash refl | inr other ↦ rw other refl ]
taken_nothing (x ∷ t) [] j = refl
taken_nothing (x ∷ t) (b ∷ rest) j = elim (cases_Bool (b == 47)) [
  | inl slash ↦ let param : (x == 256) ≡ false = grind (arith, nat_tests) in rw (slash, param) refl
  | inr other ↦
      let param : (x == 256) ≡ false = grind (arith, nat_tests) in
      let no : (x == b) ≡ false = grind (arith, nat_tests) in
      rw (other, param, no) refl
]

word_front : (c : ℕ) (word : List ℕ) → is_word (c ∷ word) ≡ true → (c < 128) × (c ≢ 47) × (is_word word ≡ true)
word_front c word w =
    let both = and_parts (ltb c 128 && not (c == 47)) (is_word word) w in
    let two = and_parts (ltb c 128) (not (c == 47)) both.0 in
    (grind (arith, nat_tests), grind (arith, nat_tests), both.1)

-- a word is taken where it is the target's first piece
taken_word : (word t target : List ℕ) → is_word word ≡ true → Joins t
    → taken (word ++ t) target ≡ cond (bytes_eq word (before target)) (taken t (after target)) None
taken_word [] t target w j = taken_nothing t target j
taken_word (c ∷ word) t [] w j = refl
taken_word (c ∷ word) t (b ∷ rest) w j =
    let front = word_front c word w in
    let low : c < 128 = front.0 in
    let apart : c ≢ 47 = front.1 in
    let param : (c == 256) ≡ false = grind (arith, nat_tests) in
    elim (cases_Bool (b == 47)) [
      | inl slash ↦ let no : (c == b) ≡ false = grind (arith, nat_tests) in rw (slash, param, no) refl
      | inr other ↦ elim (cases_Bool (c == b)) [
        | inl same ↦ rw (other, param, same) (taken_word word t rest front.2 j)
        | inr differs ↦ rw (other, param, differs) refl
      ]
    ]

-- ---- a path

abbrev pub named_by : List (List ℕ) → Option (List (List ℕ)) → Option Parts
named_by path None = None
named_by path (Some texts) = Some (named_texts path texts)

-- each piece of a path is a word or a name
abbrev pub is_piece : Option (List ℕ) → List ℕ → Bool
is_piece None word = is_word word
is_piece (Some name) word = true

abbrev pub are_pieces : List (List ℕ) → Bool
are_pieces [] = true
are_pieces (word ∷ path) = is_piece (name_in word) word && are_pieces path

-- what stands behind a piece
abbrev pub behind : List (List ℕ) → List ℕ
behind [] = []
behind (word ∷ path) = 47 ∷ tokens (word ∷ path)

tokens_split : (word : List ℕ) (path : List (List ℕ)) → tokens (word ∷ path) ≡ piece_tokens (name_in word) word ++ behind path
tokens_split word [] = sym (append-nil (piece_tokens (name_in word) word))
tokens_split word (more ∷ path) = refl

behind_joins : (path : List (List ℕ)) → Joins (behind path)
behind_joins [] = tt
behind_joins (word ∷ path) = refl

-- a parameter takes the target's first piece, unless it is empty
taken_param : (t target : List ℕ) → taken (256 ∷ t) target ≡ with_text (before target) (taken t (after target))
taken_param t [] = refl
taken_param t (b ∷ rest) = refl

-- one piece of a path
on_one : (name : Option (List ℕ)) (word : List ℕ) (path : List (List ℕ)) (piece t target : List ℕ) → name ≡ name_in word → is_piece name word ≡ true → Joins t
    → piece ≡ before target
    → (parts : Option Parts) → parts ≡ named_by path (taken t (after target))
    → on_piece name word piece parts ≡ named_by (word ∷ path) (taken (piece_tokens name word ++ t) target)
on_one None word path piece t target name good j first parts later =
    rw (taken_word word t target good j, first, later) (only (bytes_eq word (before target)) (taken t (after target)))
  where
    only : (same : Bool) (texts : Option (List (List ℕ))) → (if same then named_by path texts else None) ≡ named_by (word ∷ path) (cond same texts None)
    only true None = refl
    only true (Some texts) = rw (← name) refl
    only false texts = refl
on_one (Some n) word path piece t target name good j first parts later =
    rw (taken_param t target, first, later) (only (before target) (taken t (after target)))
  where
    only : (text : List ℕ) (texts : Option (List (List ℕ))) → with_part n text (named_by path texts) ≡ named_by (word ∷ path) (with_text text texts)
    only [] texts = refl
    only (b ∷ rest) None = refl
    only (b ∷ rest) (Some texts) = rw (← name) refl

pub after_joins : (target : List ℕ) → Joins (after target)
after_joins [] = tt
after_joins (b ∷ rest) = elim (cases_Bool (b == 47)) [
  | inl slash ↦ rw slash (let is : b ≡ 47 = grind (arith, nat_tests) in is)
  | inr other ↦ rw other (after_joins rest)
]

-- a target on a path, where what stands behind its first piece fits what stands behind that of the path
on_both : (word : List ℕ) (path : List (List ℕ)) → are_pieces (word ∷ path) ≡ true → (target : List ℕ)
    → parts_on path (pieces_after (after target)) ≡ named_by path (taken (behind path) (after target))
    → parts_on (word ∷ path) (pieces target) ≡ named_by (word ∷ path) (taken (tokens (word ∷ path)) target)
on_both word path good target later =
    rw (pieces_split target, tokens_split word path) (
    on_one (name_in word) word path (before target) (behind path) target refl (and_parts (is_piece (name_in word) word) (are_pieces path) good).0
    (behind_joins path) refl (parts_on path (pieces_after (after target))) later
    )

-- what stands behind a piece of a target, on what stands behind a piece of a path
parts_behind : (path : List (List ℕ)) → are_pieces path ≡ true → (rest : List ℕ) → Joins rest → parts_on path (pieces_after rest) ≡ named_by path (taken (behind path) rest)
parts_behind [] good [] j = refl
parts_behind [] good (b ∷ rest) j = rw (pieces_split rest) refl
parts_behind (word ∷ path) good [] j = refl
parts_behind (word ∷ path) good (b ∷ rest) j =
    rw j (
    on_both word path good rest (
    parts_behind path (and_parts (is_piece (name_in word) word) (are_pieces path) good).1 (after rest) (after_joins rest)
    )
    )

-- a target fits a path piece by piece as it does token by token
pub parts_are_taken : (word : List ℕ) (path : List (List ℕ)) → are_pieces (word ∷ path) ≡ true → (target : List ℕ)
    → parts_on (word ∷ path) (pieces target) ≡ named_by (word ∷ path) (taken (tokens (word ∷ path)) target)
parts_are_taken word path good target =
    on_both word path good target (
    parts_behind path (and_parts (is_piece (name_in word) word) (are_pieces path) good).1 (after target) (after_joins target)
    )

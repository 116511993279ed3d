-- The words behind the program's name.
use Rattle.std.specs.Prelude.{ℕ, ◌≡◌, List, [], ◌∷◌, map, codes, string_bytes, if◌then◌else◌, Option, Some, None}
use Rattle.std.specs.Str.{bytes_eq}
use Rattle.std.specs.declared.string.String.{String}
use Rattle.std.specs.declared.alloc.Global.{Global}
use Rattle.shop_server.specs.declared.words.Verb.{Verb}
use Rattle.shop_server.specs.declared.words.Verb.TheVariants.{Run, Check}

abbrev pub verb_named : List ℕ → Option Verb
verb_named word = if bytes_eq word (codes "run") then Some Run else (if bytes_eq word (codes "check") then Some Check else None)

-- the one word of a command line
abbrev pub verb_in : List (List ℕ) → Option Verb
verb_in [] = None
verb_in (word ∷ []) = verb_named word
verb_in (word ∷ other ∷ more) = None

abbrev pub verb_of : List (String Global) → Option Verb
verb_of words = verb_in (map string_bytes words)

-- the words ask for that: they are the one word `run`, or `check`
abbrev pub IsRun : List (String Global) → Type 0
IsRun words = map string_bytes words ≡ codes "run" ∷ []

abbrev pub IsCheck : List (String Global) → Type 0
IsCheck words = map string_bytes words ≡ codes "check" ∷ []

-- the words are no command line of the program
abbrev pub IsNoLine : List (String Global) → Type 0
IsNoLine words = (IsRun words → ⊥) × (IsCheck words → ⊥)

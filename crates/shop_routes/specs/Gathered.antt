-- The texts of a path that are found in one pass over its parts (no public contract cites these).
use Rattle.std.specs.Prelude.{ℕ, ◌≡◌, List, Option, Some, None, codes}
use Rattle.std.specs.Option.{option_copied}
use Rattle.matchit.specs.Params.{named}
use Rattle.shop_routes.specs.PathParts.{Parts}
use Rattle.shop_routes.specs.declared.parts.Texts.{Texts}

-- the text that was found, or else a later one
abbrev pub text_or : Option (List ℕ) → Option (List ℕ) → Option (List ℕ)
text_or None later = later
text_or (Some text) later = Some text

-- of each name the text is that of the first part with the name
abbrev pub AreTextsOf : Texts → Parts → Type 0
AreTextsOf texts parts =
    (option_copied texts.version ≡ named (codes "version") parts)
    × (option_copied texts.id ≡ named (codes "id") parts)
    × (option_copied texts.second ≡ named (codes "second") parts)
    × (option_copied texts.page ≡ named (codes "page") parts)

-- the same once the rest is looked at too
abbrev pub AreFoundAmong : Texts → Parts → Parts → Type 0
AreFoundAmong texts rest all =
    (text_or (option_copied texts.version) (named (codes "version") rest) ≡ named (codes "version") all)
    × (text_or (option_copied texts.id) (named (codes "id") rest) ≡ named (codes "id") all)
    × (text_or (option_copied texts.second) (named (codes "second") rest) ≡ named (codes "second") all)
    × (text_or (option_copied texts.page) (named (codes "page") rest) ≡ named (codes "page") all)

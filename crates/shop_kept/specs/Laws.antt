-- Spelling and reading belong together.
use Rattle.std.specs.Prelude.{◌≡◌, ◌<◌, ℕ, List, Some}
use Rattle.std.specs.List.{AllByRecursion}
use Rattle.shop_defs.specs.declared.key.Key.{Key}
use Rattle.shop_defs.specs.declared.row.Row.{Row}
use Rattle.shop_kept.specs.Spelling.{kept_row, IsKeptRow}
use Rattle.shop_kept.specs.Reading.{read_kept}

-- two rows of one key with the same bytes are the same row
abbrev pub SpellingsDiffer : Type 0
SpellingsDiffer = (one other : Row) → IsKeptRow one → IsKeptRow other → one.key ≡ other.key → kept_row one ≡ kept_row other → one ≡ other

-- the spelling of a row gives that row
abbrev pub SpellingsAreRead : Type 0
SpellingsAreRead = (row : Row) → IsKeptRow row → read_kept row.key (kept_row row) ≡ Some row

-- bytes that give a row are its spelling
abbrev pub NothingElseIsRead : Type 0
NothingElseIsRead = (key : Key) (bytes : List ℕ) (row : Row) → AllByRecursion (λ byte. byte < 256) bytes → read_kept key bytes ≡ Some row → (row.key ≡ key) × IsKeptRow row × (kept_row row ≡ bytes)

-- What holds of the cut.
use Rattle.std.specs.Prelude.{ℕ, suc, ◌≡◌, ◌+◌, ◌<◌, ◌≤◌, ◌↔◌, List, [], length, drop, slice_index_or, Some}
use Rattle.httparse.specs.Grammar.{RequestHead, ReadsRequest}
use Rattle.shop_http.specs.Requests.{IsCut}
use Rattle.shop_http.specs.HeadReader.{head_of}
use Rattle.shop_http.specs.Heads.{empty_line, head_cut, head_end}

-- the region is, as a whole, this head of the grammar, with at most 64 fields
pub record IsHeadOf (region : List ℕ) (h : RequestHead) : Type 0 where
  pub reads : ReadsRequest region h []
  pub room : length h.fields ≤ 64

-- what is read of a region is its head, and a region that is a head is read
abbrev pub HeadsAreRead : Type 0
HeadsAreRead = (region : List ℕ) (h : RequestHead) → (head_of region ≡ Some h) ↔ IsHeadOf region h

-- no bytes that are waited on are as long as that
abbrev pub longest : ℕ
longest = 16384 + 1048576

-- the cut keeps what a way to cut has to keep
abbrev pub TheCutIsLawful : Type 0
TheCutIsLawful = IsCut head_cut longest

-- of the first n bytes, the last are an empty line behind a line end
pub record EndsAt (bytes : List ℕ) (n : ℕ) : Type 0 where
  pub line : ℕ
  pub within : line < length bytes
  pub ends : slice_index_or bytes line 0 ≡ 10
  pub empty : 0 < empty_line (drop (suc line) bytes)
  pub is_end : n ≡ suc line + empty_line (drop (suc line) bytes)

-- a head ends at the least such place
abbrev pub TheEndIsTheLeast : Type 0
TheEndIsTheLeast = (bytes : List ℕ) (n : ℕ) → (head_end bytes ≡ Some n) ↔ (EndsAt bytes n × ((m : ℕ) → EndsAt bytes m → n ≤ m))

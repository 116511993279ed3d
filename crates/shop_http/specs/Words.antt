-- Words on the code that cuts requests off.
use Rattle.std.specs.Prelude.{ℕ, ◌+◌, ◌≡◌, ◌<◌, ◌||◌, Bool, true, false, List, [], codes, length, take, nat_le, Result, Ok, Err, min, if◌then◌else◌}
use Rattle.std.specs.Str.{str_eq_ignore_ascii_case}
use Rattle.httparse.specs.Grammar.{RequestHead}
use Rattle.httparse.specs.Spans.{IsRequestWithin, IsRequestAt}
use Rattle.httparse.specs.declared.spans.HeaderSpan.{HeaderSpan}
use Rattle.httparse.specs.declared.spans.RequestSpans.{RequestSpans}
use Rattle.shop_http.specs.declared.next.HeadFault.{HeadFault}
use Rattle.shop_http.specs.declared.next.Next.{Next}
use Rattle.shop_http.specs.declared.next.Next.TheVariants.{Whole, More, Nothing, Cut, Fatal}
use Rattle.shop_http.specs.declared.region.Begun.{Begun}
use Rattle.shop_http.specs.declared.fields.Fields.{Fields}
use Rattle.shop_http.specs.Requests.{Field, missing, once, twice, Front, whole, part, field_of, request_of}
use Rattle.shop_http.specs.Heads.{asks_to_close, is_closing, named, request_with}
use Rattle.shop_http.specs.Laws.{IsHeadOf}

-- a field that is there once more
abbrev pub once_more : Field → List ℕ → Field
once_more missing v = once v
once_more (once w) v = twice
once_more twice v = twice

-- the same number, or one that is too large too
abbrev pub capped : Result ℕ HeadFault → Result ℕ HeadFault
capped (Ok n) = Ok (min n 1048577)
capped (Err f) = Err f

-- the spans are those of the head that the region is
pub record IsFound (region : List ℕ) (spans : List HeaderSpan) (found : RequestSpans) : Type 0 where
  pub within : IsRequestWithin region spans found
  pub head : RequestHead
  pub is_head : IsHeadOf region head
  pub parts : IsRequestAt region spans found head

-- the head, and the size of its body, or the fault
abbrev pub IsJudged : Result (RequestHead × ℕ) HeadFault → Result Begun HeadFault → Type 0
IsJudged (Ok p) (Ok b) = ((body : List ℕ) → request_of b.head body ≡ request_with p.0 body) × (b.size ≡ p.1)
IsJudged (Ok p) (Err g) = ⊥
IsJudged (Err f) (Ok b) = ⊥
IsJudged (Err f) (Err g) = g ≡ f

-- the front of bytes that begin with this head of so many bytes
abbrev pub front_from : Begun → ℕ → List ℕ → Front HeadFault
front_from b used behind =
    if nat_le b.size (length behind) then whole (request_of b.head (take b.size behind)) (used + b.size) else part

-- no whole request, and what that means where no more bytes come; of the others `least` are asked for
abbrev pub IsUnfinished : {F R : Type 0} → List ℕ → ℕ → Bool → Next F R → Type 0
IsUnfinished bytes least ended (Whole head body n found) = ⊥
IsUnfinished bytes least ended (More wanted) = (ended ≡ false) × (wanted ≡ least)
IsUnfinished bytes least ended Nothing = (ended ≡ true) × (bytes ≡ [])
IsUnfinished bytes least ended Cut = (ended ≡ true) × (0 < length bytes)
IsUnfinished bytes least ended (Fatal f) = ⊥

-- these are what the fields of a head say
pub record AreFields (found : Fields) (fields : List (List ℕ × List ℕ)) : Type 0 where
  pub length : field_of found.length ≡ named (codes "content-length") fields
  pub coding : field_of found.coding ≡ named (codes "transfer-encoding") fields
  pub language : field_of found.language ≡ named (codes "x-language-id") fields
  pub version : field_of found.version ≡ named (codes "x-version-id") fields
  pub inheritance : field_of found.inheritance ≡ named (codes "x-inheritance") fields
  pub min_front : field_of found.min_front ≡ named (codes "x-min-front") fields
  pub closing : found.closing ≡ asks_to_close fields

-- what a field of a name is given by one field more
abbrev pub more_of : Field → List ℕ → List ℕ × List ℕ → Field
more_of so_far name f = if str_eq_ignore_ascii_case f.0 name then once_more so_far f.1 else so_far

-- the same with one field more
pub record HasOneMore (old : Fields) (f : List ℕ × List ℕ) (new : Fields) : Type 0 where
  pub length : field_of new.length ≡ more_of (field_of old.length) (codes "content-length") f
  pub coding : field_of new.coding ≡ more_of (field_of old.coding) (codes "transfer-encoding") f
  pub language : field_of new.language ≡ more_of (field_of old.language) (codes "x-language-id") f
  pub version : field_of new.version ≡ more_of (field_of old.version) (codes "x-version-id") f
  pub inheritance : field_of new.inheritance ≡ more_of (field_of old.inheritance) (codes "x-inheritance") f
  pub min_front : field_of new.min_front ≡ more_of (field_of old.min_front) (codes "x-min-front") f
  pub closing : new.closing ≡ (old.closing || is_closing f)

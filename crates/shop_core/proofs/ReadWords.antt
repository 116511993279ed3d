-- What is said of a read in words holds of its definition.
use Rattle.std.proofs.Common.{◌≡◌, ℕ, inl, inr, Bool, true, false, ◌||◌, nat_eq, List, Option, Some, None, is_some, if◌then◌else◌, Result, Ok, Err, refl, sym, subst}
use Rattle.std.specs.Prelude.{IfErr, IsSome, OnOk}
use Rattle.std.specs.Option.{option_map}
use Rattle.std.proofs.lemmas.Bool.{eqb-true, eq-eqb}
use Rattle.shop_defs.specs.declared.broken.Broken.{Broken}
use Rattle.shop_defs.specs.declared.broken.Broken.TheVariants as B
use Rattle.shop_defs.specs.declared.row.Row.{Row}
use Rattle.shop_defs.specs.declared.table.EntityInfo.{EntityInfo}
use Rattle.shop_requests.specs.declared.query.RowRead.{RowRead}
use Rattle.shop_defs.specs.Rows.{row_at}
use Rattle.shop_defs.specs.Tables.{info_named}
use Rattle.shop_requests.specs.Operations.{or_else, wrong_second}
use Rattle.idx_copy.specs.declared.answer.AskFault.{AskFault}
use Rattle.idx_copy.specs.declared.answer.AskFault.TheVariants as asking
use Rattle.shop_core.specs.declared.answers.RowReply.{RowReply}
use Rattle.shop_core.specs.declared.answers.RowSeen.{RowSeen}
use Rattle.shop_core.specs.Requests.{Shows, asked_key, draft_key, is_known, read_in, reading, row_with, unless_broken, unknown_version}
use Rattle.shop_core.specs.Seeing.{Sees}
use Rattle.shop_core.specs.FirstBroken.{HasForm, IsKnown, IsUnknown, IsFirstBroken, IsUnbroken, NamesFirst, KeepsRules}

-- what a reading says in words
abbrev InWords : List Row → RowRead → Option EntityInfo → Result RowReply Broken → Type 0
InWords rows read line (Ok reply) = IsUnbroken rows read line
InWords rows read line (Err broken) = IsFirstBroken rows read line broken

known : (rows : List Row) (version : ℕ) → is_known rows version ≡ true → IsKnown rows version
known rows version e = by (nat_eq version 0) refl (row_at rows (draft_key version)) refl e
  where
    by : (live : Bool) → nat_eq version 0 ≡ live → (draft : Option Row) → row_at rows (draft_key version) ≡ draft → (live || is_some draft) ≡ true → IsKnown rows version
    by true is draft d e = inl (eqb-true version 0 is)
    by false is (Some row) d e = inr (subst (λ (found : Option Row). IsSome found) (sym d) refl)
    by false is None d e = absurd cc

unknown : (rows : List Row) (version : ℕ) → is_known rows version ≡ false → IsUnknown rows version
unknown rows version e = by (nat_eq version 0) refl (row_at rows (draft_key version)) refl e
  where
    by : (live : Bool) → nat_eq version 0 ≡ live → (draft : Option Row) → row_at rows (draft_key version) ≡ draft → (live || is_some draft) ≡ false → IsUnknown rows version
    by true is draft d e = absurd cc
    by false is (Some row) d e = absurd cc
    by false is None d e = ((λ live. absurd (let same = eq-eqb version 0 live in cc)), d)

in_words : (rows : List Row) (read : RowRead) (line : Option EntityInfo) → InWords rows read line (read_in rows read line)
in_words rows read None = tt
in_words rows read (Some info) = form (wrong_second info.key read.second) refl
  where
    row : HasForm info read → IsKnown rows read.version → (found : Option Row) → row_at rows (asked_key info.entity read) ≡ found → InWords rows read (Some info) (row_with rows read (asked_key info.entity read) found)
    row has is (Some found) e = (has, is, subst (λ (there : Option Row). IsSome there) (sym e) refl)
    row has is None e = (has, is, refl, e)

    version : HasForm info read → (is : Bool) → is_known rows read.version ≡ is → InWords rows read (Some info) (unless_broken (if is then None else Some (B.NoSuchVersion read.version)) (row_with rows read (asked_key info.entity read) (row_at rows (asked_key info.entity read))))
    version has true e = row has (known rows read.version e) (row_at rows (asked_key info.entity read)) refl
    version has false e = (has, refl, unknown rows read.version e)

    form : (name : Option (List ℕ)) → wrong_second info.key read.second ≡ name
        → InWords rows read (Some info) (unless_broken (or_else (option_map B.WrongKind name) (unknown_version rows read)) (row_with rows read (asked_key info.entity read) (row_at rows (asked_key info.entity read))))
    form (Some name) e = e
    form None e = version e (is_known rows read.version) refl

reading_words : (rows : List Row) (read : RowRead) → InWords rows read (info_named read.entity) (reading rows read)
unfolding reading
reading_words rows read = in_words rows read (info_named read.entity)

module _ (rows : List Row) (read : RowRead) where
  abbrev Words : Result RowReply Broken → Type 0
  Words shown = InWords rows read (info_named read.entity) shown

  -- of an answer that is a copy
  pub shown_first : (result : Result RowReply AskFault) → Shows result (reading rows read) → IfErr result (NamesFirst rows read)
  shown_first (Ok reply) is = tt
  shown_first (Err (asking.Refused broken)) is = subst Words is (reading_words rows read)
  shown_first (Err asking.NoMemory) is = tt

  pub shown_kept : (result : Result RowReply AskFault) → Shows result (reading rows read) → OnOk result (KeepsRules rows read)
  shown_kept (Ok reply) is = subst Words is (reading_words rows read)
  shown_kept (Err fault) is = tt

  -- of an answer that lends
  pub seen_first : (result : Result RowSeen AskFault) → Sees result (reading rows read) → IfErr result (NamesFirst rows read)
  seen_first (Ok seen) is = tt
  seen_first (Err (asking.Refused broken)) is = subst Words is (reading_words rows read)
  seen_first (Err asking.NoMemory) is = tt

  pub seen_kept : (result : Result RowSeen AskFault) → Sees result (reading rows read) → OnOk result (KeepsRules rows read)
  seen_kept (Ok seen) is = subst Words is (reading_words rows read)
  seen_kept (Err fault) is = tt

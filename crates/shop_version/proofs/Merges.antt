-- Steps of a replay.
use Rattle.std.proofs.Common.{◌≡◌, ◌<◌, ℕ, suc, ◌+◌, true, List, [], ◌∷◌, length, get_or, drop, drop-cons, add-one, flat_map, length-append, refl, sym, ap, ◌∙◌, Result, Ok, Err}
use Rattle.shop_defs.specs.declared.broken.Broken.{Broken}
use Rattle.shop_defs.specs.declared.op.Op.{Op}
use Rattle.shop_defs.specs.declared.row.Row.{Row}
use Rattle.shop_operations.specs.Operations.{operated}
use Rattle.shop_operations.specs.Views.{View, live_view}
use Rattle.shop_drafts.specs.Laws.{and_then}
use Rattle.shop_drafts.specs.Merging.{Logged, logged, logged_from, replayed, named_by, merge_broken}
use Rattle.shop_drafts.proofs.Replays.{in_turn}
use Rattle.shop_write.specs.Growth.{Growth, grown, grown_view}

-- the operation at a place is the next of those that are left
pub left_at : (commit number : ℕ) (ops : List Op) (i : ℕ) (op : Op) → i < length ops → op ≡ get_or ops i op
    → logged_from commit number (drop i ops) ≡ record { commit = commit; number = number; op = op } ∷ logged_from commit (suc number) (drop (i + 1) ops)
left_at commit number ops i op l e = rw (drop-cons ops i op l, add-one i, ← e) refl

-- one operation more
pub step_replay : (growth next : Growth) (entry : Logged) (rest : List Logged) → next.base ≡ growth.base → operated (grown_view growth) entry.op true ≡ Ok (grown next) → replayed (grown_view growth) (entry ∷ rest) ≡ replayed (grown_view next) rest
step_replay growth next entry rest b e =
    ap (λ (r : Result (List Row) Broken). named_by entry r (λ rows. replayed (record (grown_view growth) { rows = rows }) rest)) e
    ∙ ap (λ base. replayed (record (live_view base) { rows = grown next }) rest) (sym b)

-- one that is refused
pub fault_replay : (view : View) (entry : Logged) (rest : List Logged) (broken : Broken) → operated view entry.op true ≡ Err broken → replayed view (entry ∷ rest) ≡ Err (merge_broken entry broken)
fault_replay view entry rest broken e = ap (λ (r : Result (List Row) Broken). named_by entry r (λ rows. replayed (record view { rows = rows }) rest)) e

-- one commit more
pub step_commit : (growth next : Growth) (commit : Row) (rest : List Row) → next.base ≡ growth.base → replayed (grown_view growth) (logged commit) ≡ Ok (grown next) → replayed (grown_view growth) (flat_map logged (commit ∷ rest)) ≡ replayed (grown_view next) (flat_map logged rest)
step_commit growth next commit rest b e =
    in_turn (grown_view growth) (logged commit) (flat_map logged rest)
    ∙ (ap (λ (r : Result (List Row) Broken). and_then r (λ rows. replayed (record (grown_view growth) { rows = rows }) (flat_map logged rest))) e
    ∙ ap (λ base. replayed (record (live_view base) { rows = grown next }) (flat_map logged rest)) (sym b))

-- one with an operation that is refused
pub fault_commit : (view : View) (commit : Row) (rest : List Row) (broken : Broken) → replayed view (logged commit) ≡ Err broken → replayed view (flat_map logged (commit ∷ rest)) ≡ Err broken
fault_commit view commit rest broken e =
    in_turn view (logged commit) (flat_map logged rest)
    ∙ ap (λ (r : Result (List Row) Broken). and_then r (λ rows. replayed (record view { rows = rows }) (flat_map logged rest))) e

logged_length : (commit number : ℕ) (ops : List Op) → length (logged_from commit number ops) ≡ length ops
logged_length commit number [] = refl
logged_length commit number (op ∷ ops) = ap suc (logged_length commit (suc number) ops)

pub counted : (commit : Row) (rest : List Row) → length (flat_map logged (commit ∷ rest)) ≡ length commit.ops + length (flat_map logged rest)
counted commit rest = length-append (logged commit) (flat_map logged rest) ∙ ap (λ n. n + length (flat_map logged rest)) (logged_length commit.key.second 1 commit.ops)

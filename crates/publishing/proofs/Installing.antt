-- Deltas that come one after the other: their first ones, the rest, and one more.
use Rattle.std.proofs.Common.{◌≡◌, ℕ, zero, suc, ◌+◌, ◌-◌, ◌≤◌, ◌<◌, ◌^◌, List, [], ◌∷◌, ◌++◌, length, take, drop, refl, sym, ap, subst, ◌∙◌, arith}
use Rattle.std.proofs.lemmas.List.{length-append, length-take, length-drop}
use Rattle.std.specs.List.{AllByRecursion}
use Rattle.std.proofs.lemmas.List.Sums.{fold-append}
use Rattle.shop_defs.specs.declared.row.Row.{Row}
use Rattle.shop_defs.specs.Joined.{Change}
use Rattle.shop_defs.specs.Rows.{change_rows}
use Rattle.shop_rows.specs.Changing.{StandUnderTheirKeys}
use Rattle.shop_check.specs.Soundness.{AreSound}
use Rattle.idx_copy.specs.Copies.{CopyView, IsCopy}
use Rattle.idx_copy.specs.Fronts.{rows_after}
use Rattle.publishing.specs.Queues.{QueueView, AreSoundAfterEach, IsQueue, IsInstalled}

both_parts : {X : Type 0} (n : ℕ) (xs : List X) → take n xs ++ drop n xs ≡ xs
both_parts zero xs = refl
both_parts (suc n) [] = refl
both_parts (suc n) (x ∷ xs) = ap (λ ys. x ∷ ys) (both_parts n xs)

-- the rest leads from the copy's rows to where all led
pub rest_leads : (rows now : List Row) (pending : List (List Change)) (n : ℕ) → now ≡ rows_after rows (take n pending) → rows_after now (drop n pending) ≡ rows_after rows pending
rest_leads rows now pending n e = ap (λ (r : List Row). rows_after r (drop n pending)) e ∙ (sym (fold-append change_rows rows (take n pending) (drop n pending)) ∙ ap (rows_after rows) (both_parts n pending))

-- ---- what holds of each

pub all_first : {X : Type 0} (P : X → Type 0) (n : ℕ) (xs : List X) → AllByRecursion P xs → AllByRecursion P (take n xs)
all_first P zero xs all = tt
all_first P (suc n) [] all = tt
all_first P (suc n) (x ∷ xs) all = (all.0, all_first P n xs all.1)

pub all_rest : {X : Type 0} (P : X → Type 0) (n : ℕ) (xs : List X) → AllByRecursion P xs → AllByRecursion P (drop n xs)
all_rest P zero xs all = all
all_rest P (suc n) [] all = tt
all_rest P (suc n) (x ∷ xs) all = all_rest P n xs all.1

pub all_more : {X : Type 0} (P : X → Type 0) (xs : List X) (x : X) → AllByRecursion P xs → P x → AllByRecursion P (xs ++ x ∷ [])
all_more P [] x all one = (one, tt)
all_more P (y ∷ xs) x all one = (all.0, all_more P xs x all.1 one)

-- ---- sound rows

pub sound_first : (n : ℕ) (rows : List Row) (pending : List (List Change)) → AreSoundAfterEach rows pending → AreSoundAfterEach rows (take n pending)
sound_first zero rows pending all = tt
sound_first (suc n) rows [] all = tt
sound_first (suc n) rows (changes ∷ rest) all = (all.0, sound_first n (change_rows rows changes) rest all.1)

pub sound_rest : (n : ℕ) (rows : List Row) (pending : List (List Change)) → AreSoundAfterEach rows pending → AreSoundAfterEach (rows_after rows (take n pending)) (drop n pending)
sound_rest zero rows pending all = all
sound_rest (suc n) rows [] all = tt
sound_rest (suc n) rows (changes ∷ rest) all = sound_rest n (change_rows rows changes) rest all.1

pub sound_more : (rows : List Row) (pending : List (List Change)) (changes : List Change) → AreSoundAfterEach rows pending → AreSound (change_rows (rows_after rows pending) changes) → AreSoundAfterEach rows (pending ++ changes ∷ [])
sound_more rows [] changes all one = (one, tt)
sound_more rows (first ∷ rest) changes all one = (all.0, sound_more (change_rows rows first) rest changes all.1 one)

pub sound_end : (rows : List Row) (pending : List (List Change)) → AreSound rows → AreSoundAfterEach rows pending → AreSound (rows_after rows pending)
sound_end rows [] now all = now
sound_end rows (changes ∷ rest) now all = sound_end (change_rows rows changes) rest all.0 all.1

-- ---- what always holds of a queue

-- with one delta more
pub queue_more : (seen was : QueueView) (changes : List Change) (now : List (List Change)) → seen ≡ was → IsQueue seen.copy seen.pending → StandUnderTheirKeys changes → AreSound (change_rows (rows_after was.copy.rows was.pending) changes) → was.copy.front + length was.pending + 1 < 2 ^ 63 → now ≡ seen.pending ++ changes ∷ [] → IsQueue seen.copy now
queue_more seen was changes now same is keys sound front e =
    let one_sound = subst (λ (v : QueueView). AreSound (change_rows (rows_after v.copy.rows v.pending) changes)) (sym same) sound in
    let below : seen.copy.front + length seen.pending + 1 < 2 ^ 63 = subst (λ (v : QueueView). v.copy.front + length v.pending + 1 < 2 ^ 63) (sym same) front in
    let count : length (seen.pending ++ changes ∷ []) ≡ length seen.pending + 1 = length-append seen.pending (changes ∷ []) in
    subst (λ (pending : List (List Change)). IsQueue seen.copy pending) (sym e) (record {
      copy_is = is.copy_is;
      keys = all_more StandUnderTheirKeys seen.pending changes is.keys keys;
      sound = sound_more seen.copy.rows seen.pending changes is.sound one_sound;
      front = omega (arith, below, count);
    })

-- all rows that a queue leads to are sound
pub sound_at_end : (copy now : CopyView) (pending deltas : List (List Change)) → IsQueue copy pending → now ≡ copy → deltas ≡ pending → AreSound (rows_after now.rows deltas)
sound_at_end copy now pending deltas is e f =
    subst (λ (ds : List (List Change)). AreSound (rows_after now.rows ds)) (sym f) (subst (λ (v : CopyView). AreSound (rows_after v.rows pending)) (sym e) (sound_end copy.rows pending is.copy_is.sound is.sound))

-- with its first deltas alone
pub queue_first : (copy : CopyView) (pending : List (List Change)) (n : ℕ) → IsQueue copy pending → IsQueue copy (take n pending)
queue_first copy pending n is =
    let count = length-take n pending in
    record {
      copy_is = is.copy_is;
      keys = all_first StandUnderTheirKeys n pending is.keys;
      sound = sound_first n copy.rows pending is.sound;
      front = omega (arith, is.front, count);
    }

-- with the copy after its first deltas, and the others
pub queue_rest : (copy built : CopyView) (pending : List (List Change)) (n : ℕ) → IsQueue copy pending → IsCopy built → built.front ≡ copy.front + n → n ≤ length pending → built.rows ≡ rows_after copy.rows (take n pending) → IsQueue built (drop n pending)
queue_rest copy built pending n is built_is front within rows =
    let count = length-drop n pending in
    record {
      copy_is = built_is;
      keys = all_rest StandUnderTheirKeys n pending is.keys;
      sound = subst (λ (r : List Row). AreSoundAfterEach r (drop n pending)) (sym rows) (sound_rest n copy.rows pending is.sound);
      front = omega (arith, is.front, front, within, count);
    }

-- ---- what an install leaves

-- a queue again
pub built_leads : (old : QueueView) (built : CopyView) (n : ℕ) (left : List (List Change)) → IsQueue old.copy old.pending → IsCopy built → old.copy.front < built.front → built.front ≤ old.copy.front + length old.pending → (old.copy.front < built.front → built.rows ≡ rows_after old.copy.rows (take (built.front - old.copy.front) old.pending)) → n ≡ built.front - old.copy.front → left ≡ drop n old.pending → IsQueue built left
built_leads old built n left is built_is above within rows count rest =
    subst (λ (pending : List (List Change)). IsQueue built pending) (sym (rest ∙ ap (λ (k : ℕ). drop k old.pending) count))
    (queue_rest old.copy built old.pending (built.front - old.copy.front) is built_is (omega (arith, above)) (omega (arith, above, within)) (rows above))

-- and the same rows at the end
pub installed : (old new : QueueView) (built : CopyView) (n : ℕ) → old.copy.front < built.front → (old.copy.front < built.front → built.rows ≡ rows_after old.copy.rows (take (built.front - old.copy.front) old.pending)) → n ≡ built.front - old.copy.front → new.copy ≡ built → new.pending ≡ drop n old.pending → IsInstalled old built new
installed old new built n above rows count same rest =
    let left : new.pending ≡ drop (built.front - old.copy.front) old.pending = rest ∙ ap (λ (k : ℕ). drop k old.pending) count in
    record {
      above = above;
      copy = same;
      pending = left;
      leads = ap (λ (v : CopyView). rows_after v.rows new.pending) same ∙ (ap (λ (p : List (List Change)). rows_after built.rows p) left ∙ rest_leads old.copy.rows built.rows old.pending (built.front - old.copy.front) (rows above));
    }

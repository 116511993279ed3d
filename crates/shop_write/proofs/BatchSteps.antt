-- A batch on the growing rows, operation by operation.
use Rattle.std.proofs.Common.{◌≡◌, ◌≢◌, ◌<◌, ◌+◌, inl, inr, ℕ, zero, suc, List, [], ◌∷◌, length, get_or, drop, drop-cons, add-one, arith, refl, sym, ap, subst, ◌∙◌, Result, Ok, Err}
use Rattle.std.specs.Prelude.{map}
use Rattle.std.specs.List.{AllByRecursion}
use Rattle.closure.specs.Closure.{IsIn}
use Rattle.shop_defs.specs.declared.broken.Broken.{Broken}
use Rattle.shop_defs.specs.declared.key.Key.{Key}
use Rattle.shop_requests.specs.declared.raw.RawOp.{RawOp}
use Rattle.shop_defs.specs.declared.refused.PlanFault.{PlanFault}
use Rattle.shop_defs.specs.declared.refused.PlanFault.TheVariants as F
use Rattle.shop_defs.specs.declared.refused.Refused.{Refused}
use Rattle.shop_defs.specs.declared.row.Row.{Row}
use Rattle.shop_defs.specs.Joined.{Change}
use Rattle.shop_defs.specs.Rows.{row_key, change_rows}
use Rattle.shop_soundness.specs.Batches.{batch, live_batch, done}
use Rattle.shop_operations.specs.References.{live}
use Rattle.shop_operations.specs.Soundness.{IsCoherent}
use Rattle.shop_operations.specs.Views.{View, live_view, drafted}
use Rattle.shop_soundness.proofs.Sound.{batches_keep_coherence}
use Rattle.shop_rows.specs.Changing.{StandUnderTheirKeys, HasAscendingKeys}
use Rattle.shop_write.specs.BatchPlans.{HaveIds, IsBatchPlan, IsBatchFault, IsNumberedFault}
use Rattle.shop_write.specs.Growth.{AreLive, Growth, changes_so_far, grown, grown_view}
use Rattle.shop_write.specs.Planning.{IsOfView}
use Rattle.shop_write.proofs.LivePlaces.{AllLive, all_live}

-- the keys of live rows are live
key_live : (rows : List Row) (key : Key) → AllLive rows → IsIn key (map row_key rows) → key.version ≡ 0
key_live [] key all i = absurd i
key_live (row ∷ rows) key all (inl e) = ap (λ (k : Key). k.version) (sym e) ∙ all.0
key_live (row ∷ rows) key all (inr i) = key_live rows key all.1 i

grown_live : (growth : Growth) → AllLive (grown growth)
unfolding grown
grown_live growth = all_live (change_rows growth.base (changes_so_far growth))

-- changes at keys of the view are of live keys
pub keys_live : (growth : Growth) (changes : List Change) → AllByRecursion (λ change. IsOfView (grown_view growth) change.0) changes → AreLive changes
keys_live growth [] all = tt
keys_live growth (change ∷ changes) all = (by change.0 all.0, keys_live growth changes all.1)
  where
    by : (key : Key) → IsOfView (grown_view growth) key → key.version ≡ 0
    by key (inl v) = v
    by key (inr i) = key_live (grown growth) key (grown_live growth) i

-- an operation at a place has an id
pub id_at : (ops : List RawOp) (i : ℕ) (op : RawOp) → HaveIds ops → i < length ops → op ≡ get_or ops i op → op.id ≢ 0
id_at [] i op all low at = absurd (omega arith)
id_at (first ∷ rest) zero op all low at = subst (λ (o : RawOp). o.id ≢ 0) (sym at) all.0
id_at (first ∷ rest) (suc i) op all low at = id_at rest i op all.1 (omega arith) at

-- the rows before anything is changed
pub grown_first : (rows : List Row) → grown (record { base = rows; lost = []; over = [] }) ≡ live rows
unfolding grown
grown_first rows = refl

pub view_first : (rows : List Row) → grown_view (record { base = rows; lost = []; over = [] }) ≡ live_view rows
view_first rows = ap (λ shown. record (live_view rows) { rows = shown }) (grown_first rows)

-- the rest of the operations at a place
parts : (ops : List RawOp) (i : ℕ) (op : RawOp) → i < length ops → op ≡ get_or ops i op → drop i ops ≡ op ∷ drop (i + 1) ops
parts ops i op low at = drop-cons ops i op low ∙ (ap (λ first. first ∷ drop (suc i) ops) (sym at) ∙ ap (λ n. op ∷ drop n ops) (sym (add-one i)))

-- an operation that is done leaves the rest to be done
step_on : (growth next : Growth) (number : ℕ) (op : RawOp) (rest : List RawOp) → next.base ≡ growth.base → done (grown_view growth) op ≡ Ok (grown next)
    → batch (grown_view growth) number (op ∷ rest) ≡ batch (grown_view next) (suc number) rest
step_on growth next number op rest b e = rw e (ap (λ base. batch (record (live_view base) { rows = grown next }) (suc number) rest) (sym b))

pub step_at : (growth next : Growth) (ops : List RawOp) (i : ℕ) (op : RawOp) → i < length ops → op ≡ get_or ops i op → next.base ≡ growth.base → done (grown_view growth) op ≡ Ok (grown next)
    → batch (grown_view growth) (i + 1) (drop i ops) ≡ batch (grown_view next) (i + 1 + 1) (drop (i + 1) ops)
step_at growth next ops i op low at b e =
    ap (batch (grown_view growth) (i + 1)) (parts ops i op low at)
    ∙ (step_on growth next (i + 1) op (drop (i + 1) ops) b e ∙ ap (λ n. batch (grown_view next) n (drop (i + 1) ops)) (sym (add-one (i + 1))))

-- an operation that is done leaves rows that fit one another
pub coherent_next : (growth next : Growth) (op : RawOp) → next.base ≡ growth.base → op.id ≢ 0 → done (grown_view growth) op ≡ Ok (grown next) → IsCoherent (grown_view growth) → IsCoherent (grown_view next)
coherent_next growth next op b id e coherent =
    let one : batch (grown_view growth) 1 (op ∷ []) ≡ Ok (grown next) = rw e refl in
    let kept = batches_keep_coherence (grown_view growth) 1 (op ∷ []) (grown next) coherent (id, tt) one in
    subst (λ base. IsCoherent (record (live_view base) { rows = grown next })) (sym b) kept

-- an operation that is refused refuses the batch
refused_on : (view : View) (number : ℕ) (op : RawOp) (rest : List RawOp) (broken : Broken) → done view op ≡ Err broken → batch view number (op ∷ rest) ≡ Err (record { op = number; broken = broken })
refused_on view number op rest broken e = rw e refl

pub fault_at : (growth : Growth) (rows : List Row) (ops : List RawOp) (i : ℕ) (op : RawOp) (fault : PlanFault) → i < length ops → op ≡ get_or ops i op
    → batch (grown_view growth) (i + 1) (drop i ops) ≡ live_batch rows ops → IsNumberedFault (grown_view growth) (i + 1) op fault → IsBatchFault rows ops fault
fault_at growth rows ops i op F.NoMemory low at so_far is = tt
fault_at growth rows ops i op (F.Refused refused) low at so_far is =
    sym so_far
    ∙ (ap (batch (grown_view growth) (i + 1)) (parts ops i op low at)
    ∙ (refused_on (grown_view growth) (i + 1) op (drop (i + 1) ops) refused.broken is.1
    ∙ ap by (sym is.0)))
  where
    by : ℕ → Result (List Row) Refused
    by number = Err (record { op = number; broken = refused.broken })

-- once all are done, the changes in all are the plan
pub plan_is : (growth : Growth) (rows : List Row) (ops rest : List RawOp) (number : ℕ) (changes : List Change) → growth.base ≡ rows → rest ≡ []
    → batch (grown_view growth) number rest ≡ live_batch rows ops → changes ≡ changes_so_far growth → drafted (change_rows growth.base changes) ≡ drafted growth.base
    → HasAscendingKeys changes → StandUnderTheirKeys changes → AreLive changes → IsBatchPlan rows ops changes
unfolding grown
plan_is growth rows ops rest number changes b none so_far is drafts ascends stand are_live = record {
  batch = sym so_far ∙ (ap (batch (grown_view growth) number) none ∙ ap by (rw (is, ← b) refl));
  drafts = subst (λ base. drafted (change_rows base changes) ≡ drafted base) b drafts;
  ascends = ascends;
  stand = stand;
  are_live = are_live;
}
  where
    by : List Row → Result (List Row) Refused
    by left = Ok left

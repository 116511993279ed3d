-- What is kept of sound rows is undamaged, and undamaged entries are kept of sound rows.
use Rattle.std.proofs.Common.{◌≡◌, true, List, [], ◌∷◌, Option, Some, None, Result, Ok, Err, IfOk, IfErr, MatchResult, refl, sym, ap, subst, ◌∙◌}
use Rattle.std.specs.List.{AllByRecursion}
use Rattle.closure.specs.Closure.{IsIn}
use Rattle.closure.proofs.Members.{all_at}
use Rattle.shop_defs.specs.declared.row.Row.{Row}
use Rattle.shop_defs.specs.Rows.{IsInKeyOrder}
use Rattle.shop_operations.specs.References.{is_live}
use Rattle.shop_soundness.proofs.Lists.{of_each, each_of}
use Rattle.shop_check.specs.declared.fault.CheckFault.{CheckFault}
use Rattle.shop_check.specs.declared.fault.CheckFault.TheVariants as F
use Rattle.shop_check.specs.Damage.{Damage, seen, first_damage, KeptRowsAreUndamaged, UndamagedAreKept, HoldBytes, Tells, TellsFault, FaultInWords, IsWantOfMemory}
use Rattle.shop_check.specs.Found.{own_damage, tried_from, first_among, earlier_or}
use Rattle.shop_check.specs.Kinds.{passes_kind}
use Rattle.shop_check.specs.Soundness.{Entry, kept, IsSoundRow, AreSound}
use Rattle.shop_check.specs.Standing.{rule_failed_among}
use Rattle.shop_check.proofs.Coherence.{fits_among, among_fits}
use Rattle.shop_check.proofs.Entries.{first_is, no_rule, seen_is_tried, tried_rows, tried_in_order, seen_of_kind, seen_formed, kind_live, passes_kept, kept_once, damage_among, damage_earlier, tells_same, in_words}

-- nothing is damaged in what is kept of sound rows
pub undamaged : KeptRowsAreUndamaged
undamaged rows sound =
    passes_kept rows sound.order sound.each
    (each_of (λ row. rule_failed_among rows row ≡ None) rows (λ row i. fits_among rows (λ other j. kind_live other (of_each IsSoundRow rows other sound.each j).kind) sound.coherent row i))

earlier_none : (earlier later : Option Damage) → earlier_or earlier later ≡ None → (earlier ≡ None) × (later ≡ None)
earlier_none None later e = (refl, e)
earlier_none (Some damage) later e = absurd cc

none_among : (all rows : List Row) → first_among all rows ≡ None → AllByRecursion (λ row. rule_failed_among all row ≡ None) rows
none_among all [] e = tt
none_among all (row ∷ rows) e = let n = no_rule row.key (rule_failed_among all row) (first_among all rows) e in (n.0, none_among all rows n.1)

-- entries of which none is damaged are kept of sound rows
pub undamaged_are_kept : UndamagedAreKept
unfolding first_damage
undamaged_are_kept entries hold none =
    let both = earlier_none _ _ (sym (first_is (seen entries) None entries) ∙ none) in
    let same : seen entries ≡ tried_from None entries = seen_is_tried None entries both.1 in
    let own = tried_rows None entries hold both.1 in
    let order : IsInKeyOrder (seen entries) = subst (λ (rows : List Row). IsInKeyOrder rows) (sym same) (tried_in_order None entries) in
    let each : AllByRecursion IsSoundRow (seen entries) = subst (λ (rows : List Row). AllByRecursion IsSoundRow rows) (sym same) own.sound in
    let among : AllByRecursion (λ row. rule_failed_among (seen entries) row ≡ None) (seen entries) =
    subst (λ (rows : List Row). AllByRecursion (λ row. rule_failed_among (seen entries) row ≡ None) rows) (sym same) (none_among (seen entries) (tried_from None entries) both.0) in
    let alive : (row : Row) → IsIn row (seen entries) → is_live row ≡ true = λ row i. kind_live row (all_at passes_kind (seen entries) row (seen_of_kind None entries) i) in
    record {
      sound = record { order = order; each = each; coherent = among_fits (seen entries) order (seen_formed entries) alive (λ row i. of_each (λ r. rule_failed_among (seen entries) r ≡ None) (seen entries) row among i) };
      bytes = ap kept same ∙ own.bytes;
    }

-- what is kept of sound rows has no damage that a fault could tell
pub only_memory : (fault : CheckFault) (entries : List Entry) (rows : List Row) → TellsFault fault (first_damage entries) → AreSound rows → kept rows ≡ entries → IsWantOfMemory fault
only_memory F.NoMemory entries rows tells sound split = tt
only_memory (F.Damaged key rule) entries rows tells sound split = let none : first_damage entries ≡ None = ap first_damage (sym split) ∙ undamaged rows sound in absurd cc

-- ---- what the check answers where no entry fails a rule of its own

-- what holds of an answer, which gives a list of rows
pub record IsAnswer {X : Type 0} (list : X → List Row) (entries : List Entry) (answer : Result X CheckFault) : Type 0 where
  pub exact : Tells answer (first_damage entries)
  pub found : IfOk answer (λ x. AreSound (list x))
  pub bytes : IfOk answer (λ x. kept (list x) ≡ entries)
  pub first : IfErr answer (FaultInWords entries)
  pub sound : (rows : List Row) → AreSound rows → kept rows ≡ entries → MatchResult answer (λ x. list x ≡ rows) IsWantOfMemory

pub answers : {X : Type 0} (list : X → List Row) (entries : List Entry) (rows : List Row) (answer : Result X CheckFault) → rows ≡ tried_from None entries → own_damage None entries ≡ None → HoldBytes entries
    → Tells answer (first_among rows rows) → IfOk answer (λ x. list x ≡ rows) → IsAnswer list entries answer
answers list entries rows (Ok x) tried own hold tells same =
    let among : first_among rows rows ≡ first_damage entries = ap (λ (all : List Row). first_among all all) tried ∙ damage_among entries own in
    let none : first_damage entries ≡ None = sym among ∙ tells in
    let law = undamaged_are_kept entries hold none in
    let seen_same : seen entries ≡ list x = seen_is_tried None entries own ∙ (sym tried ∙ sym same) in
    let sound : AreSound (list x) = subst (λ (all : List Row). AreSound all) seen_same law.sound in
    let bytes : kept (list x) ≡ entries = ap kept (sym seen_same) ∙ law.bytes in
    record {
      exact = none;
      found = sound;
      bytes = bytes;
      first = tt;
      sound = λ others more split. kept_once (list x) others sound.each more.each (bytes ∙ sym split);
    }
answers list entries rows (Err fault) tried own hold tells same =
    let among : first_among rows rows ≡ first_damage entries = ap (λ (all : List Row). first_among all all) tried ∙ damage_among entries own in
    let told : TellsFault fault (first_damage entries) = tells_same (first_among rows rows) (first_damage entries) among fault tells in
    record { exact = told; found = tt; bytes = tt; first = in_words entries fault told; sound = λ others more split. only_memory fault entries others told more split }

-- where one does, a row that is tried before it is damaged, or it is
pub told_earlier : (entries : List Entry) (tried : List Row) (found : Option Damage) (later damage : Damage) → tried ≡ tried_from None entries → found ≡ own_damage None entries → found ≡ Some later
    → Some damage ≡ earlier_or (first_among (seen entries) tried) (Some later) → first_damage entries ≡ Some damage
told_earlier entries tried found later damage same own fails told =
    sym (told ∙ (ap (λ (rows : List Row). earlier_or (first_among (seen entries) rows) (Some later)) same ∙ damage_earlier entries later (sym own ∙ fails)))

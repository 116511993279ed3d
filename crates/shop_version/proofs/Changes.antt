-- The operations of a commit, by their places.
use Rattle.std.proofs.Common.{◌≡◌, ◌<◌, ℕ, zero, suc, true, List, [], ◌∷◌, length, get_or, arith, sym, ap, subst, ◌∙◌, Ok}
use Rattle.std.specs.List.{list_all}
use Rattle.std.proofs.lemmas.Bool.{and_parts}
use Rattle.shop_defs.specs.declared.op.Op.{Op}
use Rattle.shop_operations.specs.Operations.{operated}
use Rattle.shop_operations.specs.Soundness.{IsCoherent}
use Rattle.shop_operations.specs.Views.{live_view}
use Rattle.shop_soundness.proofs.Sound.{operations_keep_coherence}
use Rattle.shop_drafts.proofs.HeldOps.{fit_for}
use Rattle.shop_drafts.specs.Soundness.{is_change}
use Rattle.shop_write.specs.Growth.{Growth, grown, grown_view}

pub coherent_next : (growth next : Growth) (op : Op) → is_change op ≡ true → next.base ≡ growth.base → operated (grown_view growth) op true ≡ Ok (grown next) → IsCoherent (grown_view growth) → IsCoherent (grown_view next)
coherent_next growth next op is b e coherent =
    subst (λ base. IsCoherent (record (live_view base) { rows = grown next })) (sym b)
    (operations_keep_coherence (grown_view growth) op true (grown next) coherent (fit_for op is) e)

pub op_at : (ops : List Op) (i : ℕ) (op : Op) → list_all is_change ops ≡ true → i < length ops → op ≡ get_or ops i op → is_change op ≡ true
op_at [] i op all l e = absurd (omega arith)
op_at (x ∷ ops) zero op all l e = ap is_change e ∙ (and_parts (is_change x) (list_all is_change ops) all).0
op_at (x ∷ ops) (suc i) op all l e = op_at ops i op (and_parts (is_change x) (list_all is_change ops) all).1 (omega arith) e

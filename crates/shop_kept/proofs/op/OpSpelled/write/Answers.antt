use Rattle.std.proofs.Common.{◌≡◌, ℕ, List, [], ◌∷◌, ◌++◌, append_assoc, ap, ◌∙◌}
use Rattle.std.specs.Int.{w128, to_be_bytes}
use Rattle.shop_defs.specs.Entities.{entity_number}
use Rattle.shop_kept.specs.Spelling.{kind_number, kept_fields, kept_given}
use Rattle.shop_kept.proofs.op.OpSpelled.write.Goals as goal

five : (o a b c d e o1 o2 o3 o4 o5 : List ℕ) → o1 ≡ o ++ a → o2 ≡ o1 ++ b → o3 ≡ o2 ++ c → o4 ≡ o3 ++ d → o5 ≡ o4 ++ e → o5 ≡ o ++ (a ++ (b ++ (c ++ (d ++ e))))
five o a b c d e o1 o2 o3 o4 o5 e1 e2 e3 e4 e5 = rw (e5, e4, e3, e2, e1) (simp append_assoc)

pub returns-clause-bytes : goal.returns-clause-bytes
returns-clause-bytes c =
    five c.args.out.now.items (kind_number c.args.self.now.kind ∷ []) (entity_number c.args.self.now.entity ∷ []) (to_be_bytes w128 c.args.self.now.id) (to_be_bytes w128 c.args.self.now.second) (kept_fields kept_given c.args.self.now.fields)
    c.push.new.self.items c.push-2.new.self.items c.extend_from_slice.new.self.items c.extend_from_slice-2.new.self.items c.write_fields.new.out.items
    (c.in_ok-push.ensures.items ∙ ap (λ (k : ℕ). c.args.out.now.items ++ k ∷ []) c.kind_byte.ensures)
    (c.in_ok-push-2.ensures.items ∙ ap (λ (k : ℕ). c.push.new.self.items ++ k ∷ []) c.number.ensures)
    (c.in_ok-extend_from_slice.ensures.items ∙ ap (λ (t : List ℕ). c.push-2.new.self.items ++ t) c.to_be_bytes.ensures)
    (c.in_ok-extend_from_slice-2.ensures.items ∙ ap (λ (t : List ℕ). c.extend_from_slice.new.self.items ++ t) c.to_be_bytes-2.ensures)
    (rw c.as_slice.ensures at c.in_ok-write_fields.ensures.bytes)

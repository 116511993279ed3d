use Rattle.std.proofs.Common.{ℕ, sym, ap, ◌∙◌}
use Rattle.shop_defs.specs.declared.value.Value.{Value}
use Rattle.shop_operations.proofs.FieldPlaces.{set_puts, insert_puts, push_puts}
use Rattle.shop_operations.proofs.given.put_field.Goals as goal

pub returns-in-Some : goal.returns-in-Some
returns-in-Some c =
    let field : ℕ × Value = (c.args.number, c.args.value) in
    let here = ap (λ (f : ℕ × Value). f.0) (sym c.index.ensures) ∙ c.if-index-number.true in
    sym (set_puts c.args.fields.now.items field c.index.result.now c.in-Some.at (rw c.as_slice.ensures.value at (sym c.in-Some.ensures.place)) here)

pub returns-in_ok-insert-in-Some-2 : goal.returns-in_ok-insert-in-Some-2
returns-in_ok-insert-in-Some-2 c =
    let field : ℕ × Value = (c.args.number, c.args.value) in
    let read = ap (λ (f : ℕ × Value). f.0) c.index.ensures in
    c.in_ok-insert-in-Some-2.ensures.items ∙ sym (insert_puts c.args.fields.now.items field c.index.result.now c.in-Some.at (rw c.as_slice.ensures.value at (sym c.in-Some.ensures.place)) (λ same. c.if-index-number.false (read ∙ same)))

pub returns-in_ok-push-in-None : goal.returns-in_ok-push-in-None
returns-in_ok-push-in-None c =
    let field : ℕ × Value = (c.args.number, c.args.value) in
    c.in_ok-push-in-None.ensures.items ∙ sym (push_puts c.args.fields.now.items field (rw c.as_slice.ensures.value at (sym c.in-None.ensures.place)))

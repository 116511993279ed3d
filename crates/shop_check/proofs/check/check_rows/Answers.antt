use Rattle.std.proofs.Common.{◌≡◌, true, List, None, sym, subst, ◌∙◌}
use Rattle.shop_defs.specs.declared.row.Row.{Row}
use Rattle.shop_defs.specs.Rows.{IsInKeyOrder}
use Rattle.shop_check.specs.declared.fault.CheckFault.TheVariants as F
use Rattle.shop_check.specs.Found.{are_formed}
use Rattle.shop_check.proofs.Entries.{tried_in_order, tried_formed, in_words}
use Rattle.shop_check.proofs.Laws.{answers, told_earlier, only_memory}
use Rattle.shop_check.proofs.check.check_rows.Goals as goal

pub check_all-requires-clause-order : goal.check_all-requires-clause-order
check_all-requires-clause-order c = subst (λ (rows : List Row). IsInKeyOrder rows) (sym c.in_ok-front.ensures.rows) (tried_in_order None c.args.kept.now)

pub check_all-requires-clause-formed : goal.check_all-requires-clause-formed
check_all-requires-clause-formed c =
    subst (λ (rows : List Row). are_formed rows ≡ true) (sym c.in_ok-front.ensures.rows) (tried_formed c.args.kept.now (sym c.in_ok-front.ensures.damage ∙ c.in-None.is))

pub returns-in-None : goal.returns-in-None
returns-in-None c =
    let a = answers (λ rows. rows.list) c.args.kept.now c.in_ok-front.front.rows.items c.check_all.result c.in_ok-front.ensures.rows (sym c.in_ok-front.ensures.damage ∙ c.in-None.is) (c.in_ok-front.ensures.bytes c.in-None.is) c.check_all.ensures.exact c.check_all.ensures.same in
    record { exact = a.exact; found = a.found; bytes = a.bytes; first = a.first; sound = a.sound }

pub returns-in_ok-key-in-Some-clause-exact : goal.returns-in_ok-key-in-Some-clause-exact
returns-in_ok-key-in-Some-clause-exact c =
    told_earlier c.args.kept.now c.as_slice.result.now c.in_ok-front.front.damage c.in-Some.later (c.in_ok-key-in-Some.key, c.in_ok-key-in-Some.rule) (c.as_slice.ensures.value ∙ c.in_ok-front.ensures.rows) c.in_ok-front.ensures.damage c.in-Some.is c.in_ok-key-in-Some.ensures

pub returns-in_ok-key-in-Some-clause-first : goal.returns-in_ok-key-in-Some-clause-first
returns-in_ok-key-in-Some-clause-first c = in_words c.args.kept.now (F.Damaged c.in_ok-key-in-Some.key c.in_ok-key-in-Some.rule) (returns-in_ok-key-in-Some-clause-exact c)

pub returns-in_ok-key-in-Some-clause-sound : goal.returns-in_ok-key-in-Some-clause-sound
returns-in_ok-key-in-Some-clause-sound c = λ rows sound split. only_memory (F.Damaged c.in_ok-key-in-Some.key c.in_ok-key-in-Some.rule) c.args.kept.now rows (returns-in_ok-key-in-Some-clause-exact c) sound split

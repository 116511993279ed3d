use Rattle.std.proofs.Common.{Option, Some, refl, sym, ap, ◌∙◌}
use Rattle.keyed.specs.Keyed.{put}
use Rattle.shop_defs.specs.declared.row.Row.{Row}
use Rattle.shop_defs.specs.declared.table.TheConstants.{REFERENCES}
use Rattle.shop_defs.specs.Joined.{change_key}
use Rattle.shop_defs.specs.Keys.{key_cmp}
use Rattle.shop_write.specs.Deleting.{changed, same}
use Rattle.shop_write.proofs.Puts.{rest_gone, rest_left, rest_same}
use Rattle.shop_write.proofs.delete.put_change.Goals as goal

pub returns-then-has : goal.returns-then-has
returns-then-has c =
    changed (c.in_ok-put.ensures.ok ∙ ap (λ (rest : Option Row). put key_cmp change_key c.args.changes.now.list (c.args.row.now.key, rest)) (sym (rest_gone REFERENCES c.args.lost.now c.args.row.now (sym c.has.ensures ∙ c.if-has.true))))

pub returns-then-not-loses : goal.returns-then-not-loses
returns-then-not-loses c = same (rest_same REFERENCES c.args.lost.now c.args.row.now (sym c.has.ensures ∙ c.if-has.false) (sym c.loses.ensures ∙ c.if-not-loses.true)) refl

pub returns : goal.returns
returns c =
    changed (c.in_ok-put-2.ensures.ok ∙ ap (λ (rest : Option Row). put key_cmp change_key c.args.changes.now.list (c.args.row.now.key, rest))
    (ap Some c.in_ok-rest.ensures ∙ sym (rest_left REFERENCES c.args.lost.now c.args.row.now (sym c.has.ensures ∙ c.if-has.false))))

use Rattle.std.proofs.Common.{◌≡◌, ap, subst, ◌∙◌}
use Rattle.std.specs.Prelude.{map}
use Rattle.shop_defs.specs.Rows.{row_key, change_rows}
use Rattle.shop_defs.specs.Keys.{key_cmp}
use Rattle.shop_defs.proofs.Keys.{key_cmp_total}
use Rattle.shop_operations.specs.Views.{drafted}
use Rattle.shop_write.specs.Growth.{Growth, changes_so_far, changes_of, change_by, joined_keys}
use Rattle.shop_write.proofs.InOrder.{ascends_map}
use Rattle.shop_write.proofs.Taking.{changes_by_key, delta_laws}
use Rattle.shop_write.proofs.growing.Growing.delta.Goals as goal

pub joined_keys-requires : goal.joined_keys-requires
joined_keys-requires c =
    let keys = c.as_slice-2.ensures.value ∙ (c.in_ok-over.ensures ∙ ap (map row_key) c.iter-2.ensures.rows) in
    rw keys (ascends_map key_cmp row_key key_cmp_total c.self.inside.over.list c.self.invariant.over_order)

-- the changes are those of the batch
changes_is : (c : goal.After-drop-lost-2) → c.in_ok-changes.changes ≡ changes_of c.self.inside.lost.list c.self.inside.over.list
changes_is c =
    let lost = c.as_slice.ensures.value ∙ (c.in_ok-lost.ensures ∙ ap (map row_key) c.iter.ensures.rows) in
    let over = c.as_slice-2.ensures.value ∙ (c.in_ok-over.ensures ∙ ap (map row_key) c.iter-2.ensures.rows) in
    c.in_ok-changes.ensures
    ∙ (ap (map (change_by c.self.inside.over.list)) (c.as_slice-3.ensures.value ∙ (c.in_ok-keys.ensures ∙ (ap (λ keys. joined_keys keys c.as_slice-2.result.now) lost ∙ ap (joined_keys (map row_key c.self.inside.lost.list)) over)))
    ∙ changes_by_key c.self.inside.lost.list c.self.inside.over.list c.self.invariant.lost_order c.self.invariant.over_order)

pub returns-clause-changes : goal.returns-clause-changes
returns-clause-changes c = changes_is c ∙ ap changes_so_far c.self.view_is

pub returns-clause-ascend : goal.returns-clause-ascend
returns-clause-ascend c = rw (changes_is c) (delta_laws _ c.self.invariant).ascends

pub returns-clause-stand : goal.returns-clause-stand
returns-clause-stand c = rw (changes_is c) (delta_laws _ c.self.invariant).stand

pub returns-clause-live : goal.returns-clause-live
returns-clause-live c = rw (changes_is c) (delta_laws _ c.self.invariant).are_live

pub returns-clause-drafts : goal.returns-clause-drafts
returns-clause-drafts c = rw (changes_is c) (subst (λ (growth : Growth). drafted (change_rows growth.base (changes_of c.self.inside.lost.list c.self.inside.over.list)) ≡ drafted growth.base) c.self.view_is (delta_laws _ c.self.invariant).drafts)

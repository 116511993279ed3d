-- The operations that commits may hold.
use Rattle.std.proofs.Common.{◌≡◌, Bool, true, not, ◌&&◌, ◌||◌, refl, sym, ap, ◌∙◌}
use Rattle.std.specs.List.{list_all}
use Rattle.std.proofs.lemmas.Bool.{and_parts}
use Rattle.shop_defs.specs.declared.entity.Entity.{Entity}
use Rattle.shop_defs.specs.declared.op.Op.{Op}
use Rattle.shop_defs.specs.declared.op.OpKind.{OpKind}
use Rattle.shop_defs.specs.declared.op.OpKind.TheVariants.{Upsert, Delete}
use Rattle.shop_defs.specs.Fitting.{op_fits, parts_fit, given_fits, is_writable}
use Rattle.shop_defs.specs.Tables.{info_of}
use Rattle.shop_defs.proofs.EachLine.{each_entity}
use Rattle.shop_soundness.specs.Coherence.{IsFitFor}
use Rattle.shop_drafts.specs.Aggregates.{has_versions}
use Rattle.shop_drafts.specs.Soundness.{is_change}

versions_are_written : (entity : Entity) → (not (has_versions entity) || is_writable entity) ≡ true
unfolding info_of
versions_are_written entity = each_entity (λ entity. not (has_versions entity) || is_writable entity) refl entity

pub change_written : (op : Op) → is_change op ≡ true → is_writable op.entity ≡ true
change_written op e = sym (ap (λ b. not b || is_writable op.entity) (and_parts (has_versions op.entity) (op_fits op) e).0) ∙ versions_are_written op.entity

pub change_fits : (op : Op) → is_change op ≡ true → op_fits op ≡ true
change_fits op e = (and_parts (has_versions op.entity) (op_fits op) e).1

pub fit_for : (op : Op) → is_change op ≡ true → IsFitFor op.kind op
fit_for op is = by op.kind
  where
    by : (kind : OpKind) → IsFitFor kind op
    by Upsert = (and_parts (parts_fit op.entity op.id op.second) (list_all (given_fits op.entity) op.fields) (change_fits op is)).0
    by Delete = change_written op is

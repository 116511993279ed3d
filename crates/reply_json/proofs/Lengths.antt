-- The longest names of entities.
use Rattle.std.proofs.Common.{◌≤◌, length, refl}
use Rattle.std.specs.Prelude.{nat_le}
use Rattle.std.proofs.lemmas.Bool.{leb-true}
use Rattle.shop_defs.specs.declared.entity.Entity.{Entity}
use Rattle.shop_defs.specs.Texts.{entity_text}
use Rattle.shop_defs.proofs.EachLine.{each_entity}

pub name_short : (entity : Entity) → length (entity_text entity) ≤ 20
name_short entity = leb-true _ _ (each_entity (λ of. nat_le (length (entity_text of)) 20) refl entity)

-- What is part of what a draft edits.
use Rattle.std.proofs.Common.{◌≡◌, Bool, true, false, refl, ap}
use Rattle.std.specs.Prelude.{◌==◌, ◌&&◌, ◌||◌}
use Rattle.shop_defs.specs.declared.entity.Entity.TheVariants as E
use Rattle.shop_defs.specs.Rows.{field_of}
use Rattle.shop_operations.specs.References.{is_entity, is_id, ident}
use Rattle.shop_drafts.specs.Aggregates.{is_part_by}
use Rattle.shop_drafts.specs.Laws.{PartsAreThese}

or_false : (b : Bool) → (b || false) ≡ b
or_false true = refl
or_false false = refl

pub parts_are_these : PartsAreThese
unfolding is_part_by
parts_are_these = record {
  of_product = λ id row.
      ap (λ last. (is_entity E.Product row.key.entity && (row.key.id == id))
      || ((is_entity E.ProductTranslation row.key.entity && (row.key.id == id))
      || ((is_entity E.ProductCategory row.key.entity && (row.key.id == id)) || last)))
      (or_false (is_entity E.ProductPrice row.key.entity && is_id (ident (field_of row 1)) id));
  of_category = λ id row.
      ap (λ last. (is_entity E.Category row.key.entity && (row.key.id == id)) || last)
      (or_false (is_entity E.CategoryTranslation row.key.entity && (row.key.id == id)));
  roots = λ entity. by (is_entity E.Category entity) (is_entity E.Product entity);
}
  where
    by : (c p : Bool) → (c || (c || (p || (p || (p || (p || false)))))) ≡ (c || p)
    by true p = refl
    by false true = refl
    by false false = refl

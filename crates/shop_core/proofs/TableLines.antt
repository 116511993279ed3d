-- A line of the table of entities that is found by its name is its entity's line.
use Rattle.std.proofs.Common.{◌≡◌, ℕ, List, Option, Some, None, refl, sym, ap, ◌∙◌}
use Rattle.std.specs.Option.{option_map}
use Rattle.std.specs.Str.{bytes_eq}
use Rattle.shop_defs.specs.declared.entity.Entity.{Entity}
use Rattle.shop_defs.specs.declared.table.EntityInfo.{EntityInfo}
use Rattle.shop_defs.specs.declared.table.TheConstants.{ENTITIES}
use Rattle.shop_defs.specs.Texts.{entity_text}
use Rattle.shop_defs.specs.Tables.{info_of, info_named, entity_named}
use Rattle.shop_defs.proofs.EachLine.{of_found}
use Rattle.shop_defs.proofs.EachLine.{named_line as each_line}

line_of_named : (name : List ℕ) (line : EntityInfo) → info_named name ≡ Some line → info_of line.entity ≡ Some line
unfolding info_named
line_of_named name line found = of_found (λ line. info_of line.entity ≡ Some line) (λ line. bytes_eq (entity_text line.entity) name) ENTITIES line each_line found

-- the line of the entity that has the name is the line with the name
pub named_line : (name : List ℕ) (entity : Entity) (line : EntityInfo) → Some entity ≡ entity_named name → info_of entity ≡ Some line → Some line ≡ info_named name
named_line name entity line named is = by (info_named name) refl named
  where
    by : (found : Option EntityInfo) → info_named name ≡ found → Some entity ≡ option_map (λ info. info.entity) found → Some line ≡ info_named name
    by None e f = absurd (cc)
    by (Some other) e f =
        let same : entity ≡ other.entity = cc in
        sym is ∙ (ap info_of same ∙ (line_of_named name other e ∙ sym e))

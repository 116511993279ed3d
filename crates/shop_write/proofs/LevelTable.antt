-- What the tables of references and levels say of parents.
use Rattle.std.proofs.Common.{◌≡◌, ℕ, Bool, true, false, cond, ◌&&◌, ◌||◌, if◌then◌else◌, List, [], ◌∷◌, refl, ap, ◌∙◌, Option, Some, None}
use Rattle.std.specs.Prelude.{◌==◌, find, is_some, is_none, nat_le, not}
use Rattle.std.specs.List.{list_any}
use Rattle.std.specs.Option.{option_map, option_map_or, option_and_then}
use Rattle.shop_defs.specs.declared.entity.Entity.{Entity}
use Rattle.shop_defs.specs.declared.row.Row.{Row}
use Rattle.shop_defs.specs.declared.table.Reference.{Reference}
use Rattle.shop_defs.specs.declared.table.LevelLimit.{LevelLimit}
use Rattle.shop_defs.specs.declared.table.TheConstants.{REFERENCES, LEVEL_LIMITS}
use Rattle.shop_defs.specs.Entities.{entity_number}
use Rattle.shop_defs.specs.Tables.{info_of}
use Rattle.shop_defs.proofs.EachLine.{each_entity}
use Rattle.shop_operations.specs.Parents.{is_parental, parent_id, is_past, is_deep}
use Rattle.shop_operations.specs.References.{is_entity, named}
use Rattle.shop_write.specs.Writes.{has_one_part, limit_of}

one_part_by : (entity : Entity) → (is_none (find (is_parental entity) REFERENCES) || has_one_part entity) ≡ true
unfolding has_one_part info_of
one_part_by = each_entity (λ entity. is_none (find (is_parental entity) REFERENCES) || has_one_part entity) refl

limited_by : (entity : Entity) → (is_none (find (is_parental entity) REFERENCES) || is_some (limit_of entity)) ≡ true
unfolding limit_of
limited_by = each_entity (λ entity. is_none (find (is_parental entity) REFERENCES) || is_some (limit_of entity)) refl

limited_one_part : (entity : Entity) → (is_none (limit_of entity) || has_one_part entity) ≡ true
unfolding has_one_part info_of limit_of
limited_one_part = each_entity (λ entity. is_none (limit_of entity) || has_one_part entity) refl

pub few_levels : (entity : Entity) → option_map_or (λ most. nat_le most 32) (limit_of entity) true ≡ true
unfolding limit_of
few_levels = each_entity (λ entity. option_map_or (λ most. nat_le most 32) (limit_of entity) true) refl

or_false : (b : Bool) → (b || false) ≡ b
or_false true = refl
or_false false = refl

abbrev is_for : Entity → LevelLimit → Bool
is_for entity limit = is_entity limit.entity entity

-- no limit passes a test on those of an entity that has none
none_for : (entity : Entity) (past : ℕ → Bool) (limits : List LevelLimit) → list_any (is_for entity) limits ≡ false → list_any (λ limit. is_for entity limit && past limit.most) limits ≡ false
none_for entity past [] none = refl
none_for entity past (limit ∷ rest) none = by (is_for entity limit) (none_for entity past rest) none
  where
    by : (own : Bool) → (list_any (is_for entity) rest ≡ false → list_any (λ limit. is_for entity limit && past limit.most) rest ≡ false) → (own || list_any (is_for entity) rest) ≡ false
        → ((own && past limit.most) || list_any (λ limit. is_for entity limit && past limit.most) rest) ≡ false
    by true more none = absurd cc
    by false more none = more none

-- each entity has one limit at most
abbrev is_once : Entity → List LevelLimit → Bool
is_once entity [] = true
is_once entity (limit ∷ rest) = if is_for entity limit then not (list_any (is_for entity) rest) else is_once entity rest

limits_once : (entity : Entity) → is_once entity LEVEL_LIMITS ≡ true
limits_once = each_entity (λ entity. is_once entity LEVEL_LIMITS) refl

is_false : (b : Bool) → not b ≡ true → b ≡ false
is_false true e = absurd cc
is_false false e = refl

deep_in : (entity : Entity) (past : ℕ → Bool) (limits : List LevelLimit) → is_once entity limits ≡ true
    → list_any (λ limit. is_for entity limit && past limit.most) limits ≡ option_map_or past (option_map (λ limit. limit.most) (find (is_for entity) limits)) false
deep_in entity past [] once = refl
deep_in entity past (limit ∷ rest) once = by (is_for entity limit) (deep_in entity past rest) (none_for entity past rest) once
  where
    by : (own : Bool)
        → (is_once entity rest ≡ true → list_any (λ limit. is_for entity limit && past limit.most) rest ≡ option_map_or past (option_map (λ limit. limit.most) (find (is_for entity) rest)) false)
        → (list_any (is_for entity) rest ≡ false → list_any (λ limit. is_for entity limit && past limit.most) rest ≡ false)
        → (if own then not (list_any (is_for entity) rest) else is_once entity rest) ≡ true
        → ((own && past limit.most) || list_any (λ limit. is_for entity limit && past limit.most) rest) ≡ option_map_or past (option_map (λ limit. limit.most) (cond own (Some limit) (find (is_for entity) rest))) false
    by true more none once = ap (λ others. past limit.most || others) (none (is_false (list_any (is_for entity) rest) once)) ∙ or_false (past limit.most)
    by false more none once = more once

deep_by : (entity : Entity) (past : ℕ → Bool) → list_any (λ limit. is_entity limit.entity entity && past limit.most) LEVEL_LIMITS ≡ option_map_or past (limit_of entity) false
unfolding limit_of
deep_by entity past = deep_in entity past LEVEL_LIMITS (limits_once entity)

parental_in : (table : List Reference) (row : Row) (id : ℕ) → parent_id table row ≡ Some id → is_none (find (is_parental row.key.entity) table) ≡ false
unfolding parent_id
parental_in table row id e = by (find (is_parental row.key.entity) table) e
  where
    by : (found : Option Reference) → option_and_then (λ reference. named reference row) found ≡ Some id → is_none found ≡ false
    by None f = cc
    by (Some reference) f = refl

or_then : (a b : Bool) → (a || b) ≡ true → a ≡ false → b ≡ true
or_then true b h e = cc
or_then false b h e = h

-- a row that names a parent is of an entity whose keys have one part
pub parent_one_part : (row : Row) (id : ℕ) → parent_id REFERENCES row ≡ Some id → has_one_part row.key.entity ≡ true
parent_one_part row id e = or_then _ _ (one_part_by row.key.entity) (parental_in REFERENCES row id e)

-- and of one that has a greatest level
pub parent_limited : (row : Row) (id : ℕ) → parent_id REFERENCES row ≡ Some id → is_some (limit_of row.key.entity) ≡ true
parent_limited row id e = or_then _ _ (limited_by row.key.entity) (parental_in REFERENCES row id e)

pub limit_one_part : (entity : Entity) (most : ℕ) → limit_of entity ≡ Some most → has_one_part entity ≡ true
limit_one_part entity most e = or_then _ _ (limited_one_part entity) (ap is_none e)

-- a row stands too low where it stands lower than the greatest level
pub deep_is : (rows : List Row) (row : Row) → is_deep REFERENCES LEVEL_LIMITS rows row ≡ option_map_or (λ most. is_past REFERENCES rows most row) (limit_of row.key.entity) false
unfolding is_deep
deep_is rows row = deep_by row.key.entity (λ most. is_past REFERENCES rows most row)

-- the greatest level depends on the entity's number alone
pub same_limit : (a b : Entity) → entity_number a ≡ entity_number b → limit_of a ≡ limit_of b
unfolding limit_of
same_limit a b e = ap (λ (n : ℕ). option_map (λ (limit : LevelLimit). limit.most) (find (λ (limit : LevelLimit). entity_number limit.entity == n) LEVEL_LIMITS)) e

-- There aren't too many rows of an entity or of an owner after an accepted operation.
use Rattle.std.proofs.Common.{◌≡◌, ℕ, ◌+◌, ◌≤◌, Bool, true, false, ◌⊎◌, inl, inr, List, refl, sym, ap, subst, ◌∙◌, Option, Some, None, arith}
use Rattle.std.specs.Prelude.{not, nat_lt, find, count_by, is_some, IsNone, if◌then◌else◌}
use Rattle.std.specs.List.{list_any, list_all}
use Rattle.std.specs.Option.{option_map}
use Rattle.std.proofs.lemmas.Bool.{and_from, and_parts, both_ways, eqb-true, eq-eqb, false_from_ne_true, not-true, ltb-false, lt-ltb, ltb-true}
use Rattle.shop_defs.specs.declared.broken.Broken.TheVariants as B
use Rattle.shop_defs.specs.declared.entity.Entity.{Entity}
use Rattle.shop_defs.specs.declared.key.Key.{Key}
use Rattle.shop_defs.specs.declared.row.Row.{Row}
use Rattle.shop_defs.specs.declared.table.OwnerLimit.{OwnerLimit}
use Rattle.shop_defs.specs.declared.table.TheConstants.{REFERENCES, OWNER_LIMITS, MOST_ROWS}
use Rattle.shop_defs.specs.Rows.{row_key}
use Rattle.shop_defs.proofs.EachLine.{same_entity}
use Rattle.shop_operations.specs.References.{is_entity, part_of}
use Rattle.shop_operations.specs.Deletes.{goes, gone, kept, emptied, deleted}
use Rattle.shop_operations.specs.Upserts.{place_cmp, with_row, same_id, is_of_owner, count_of, owner_is_full, too_many}
use Rattle.closure.specs.Closure.{IsIn}
use Rattle.closure.proofs.Members.{Found, any_is, any_of, all_at, all_from, none_passes}
use Rattle.shop_soundness.proofs.Accepted.{map_none}
use Rattle.shop_soundness.proofs.Emptied.{part_then, IsLeft, of_deleted, id_of_tie}
use Rattle.shop_soundness.proofs.Lists.{put_of, put_count, count_under, count_filter, count_map}

-- ---- of an entity

-- what the limit on all rows and that on the owners' say
record AreFew (hidden : Entity → ℕ) (rows : List Row) (row : Row) : Type 0 where
  all : count_of hidden rows row.key.entity ≤ MOST_ROWS
  owned : IsNone (find (owner_is_full rows row) OWNER_LIMITS)

are_few : (hidden : Entity → ℕ) (rows : List Row) (row : Row) → too_many hidden rows row ≡ None → AreFew hidden rows row
are_few hidden rows row e = by (nat_lt MOST_ROWS (count_of hidden rows row.key.entity)) refl e
  where
    by : (b : Bool) → nat_lt MOST_ROWS (count_of hidden rows row.key.entity) ≡ b → (if b then Some (B.TooMany row.key.entity MOST_ROWS) else option_map (λ limit. B.TooMany row.key.entity limit.most) (find (owner_is_full rows row) OWNER_LIMITS)) ≡ None → AreFew hidden rows row
    by true f g = cc
    by false f g = record { all = ltb-false MOST_ROWS (count_of hidden rows row.key.entity) f; owned = ap is_some (map_none _ _ g) }

-- no entity has more rows than there may be
abbrev pub AreBounded : (Entity → ℕ) → List Row → Type 0
AreBounded hidden rows = (entity : Entity) → count_of hidden rows entity ≤ MOST_ROWS

pub upsert_bounded : (hidden : Entity → ℕ) (rows : List Row) (new : Row) → AreBounded hidden rows → too_many hidden (with_row rows new) new ≡ None → AreBounded hidden (with_row rows new)
upsert_bounded hidden rows new bounded checked entity = by (is_entity entity new.key.entity) refl
  where
    by : (b : Bool) → is_entity entity new.key.entity ≡ b → count_of hidden (with_row rows new) entity ≤ MOST_ROWS
    by true e = subst (λ (e : Entity). count_of hidden (with_row rows new) e ≤ MOST_ROWS) (sym (same_entity entity new.key.entity (eqb-true _ _ e))) (are_few hidden (with_row rows new) new checked).all
    by false e =
        let less : count_by (λ row. is_entity entity row.key.entity) (with_row rows new) ≤ count_by (λ row. is_entity entity row.key.entity) rows = put_count place_cmp row_key (λ row. is_entity entity row.key.entity) rows new e in
        let before : count_by (λ row. is_entity entity row.key.entity) rows + hidden entity ≤ MOST_ROWS = bounded entity in
        omega arith

pub delete_bounded : (hidden : Entity → ℕ) (rows : List Row) (key : Key) → AreBounded hidden rows → AreBounded hidden (deleted REFERENCES rows key)
delete_bounded hidden rows key bounded entity =
    let same : count_by (λ row. is_entity entity row.key.entity) (deleted REFERENCES rows key) ≡ count_by (λ row. is_entity entity row.key.entity) (kept REFERENCES rows key) = count_map (emptied REFERENCES (gone REFERENCES rows key)) (λ row. is_entity entity row.key.entity) (kept REFERENCES rows key) in
    let less : count_by (λ row. is_entity entity row.key.entity) (kept REFERENCES rows key) ≤ count_by (λ row. is_entity entity row.key.entity) rows = count_filter (λ row. is_entity entity row.key.entity) (λ row. not (goes REFERENCES rows key row)) rows in
    let before : count_by (λ row. is_entity entity row.key.entity) rows + hidden entity ≤ MOST_ROWS = bounded entity in
    omega arith

-- ---- of an owner

-- no owner has more rows than it may have
abbrev pub AreFewOfOwners : List Row → Type 0
AreFewOfOwners rows = list_all (λ row. not (list_any (owner_is_full rows row) OWNER_LIMITS)) rows ≡ true

not_full : (rows : List Row) (row : Row) (limit : OwnerLimit) → AreFewOfOwners rows → IsIn row rows → IsIn limit OWNER_LIMITS → owner_is_full rows row limit ≡ true → ⊥
not_full rows row limit few i j full = both_ways (list_any (owner_is_full rows row) OWNER_LIMITS) (not-true _ (all_at (λ r. not (list_any (owner_is_full rows r) OWNER_LIMITS)) rows row few i)) (any_is (owner_is_full rows row) OWNER_LIMITS limit j full)

all_few : (rows : List Row) → ((row : Row) (limit : OwnerLimit) → IsIn row rows → IsIn limit OWNER_LIMITS → owner_is_full rows row limit ≡ true → ⊥) → AreFewOfOwners rows
all_few rows none = all_from (λ row. not (list_any (owner_is_full rows row) OWNER_LIMITS)) rows (λ row i. ap not (false_from_ne_true (list_any (owner_is_full rows row) OWNER_LIMITS) (λ e. by row i (any_of (owner_is_full rows row) OWNER_LIMITS e))))
  where
    by : (row : Row) → IsIn row rows → Found (owner_is_full rows row) OWNER_LIMITS → ⊥
    by row i f = none row f.one i f.is_in f.passes

-- a full owner stays full where as many rows are of it
full_then : (rows others : List Row) (row other : Row) (limit : OwnerLimit) → is_entity limit.entity other.key.entity ≡ true → count_by (is_of_owner limit row) rows ≤ count_by (is_of_owner limit other) others → owner_is_full rows row limit ≡ true → owner_is_full others other limit ≡ true
full_then rows others row other limit entity more full =
    let parts = and_parts (is_entity limit.entity row.key.entity) (nat_lt limit.most (count_by (is_of_owner limit row) rows)) full in
    let over = ltb-true limit.most (count_by (is_of_owner limit row) rows) parts.1 in
    and_from _ _ entity (lt-ltb limit.most (count_by (is_of_owner limit other) others) (omega (arith, over, more)))

-- two rows that belong to the same owner
record HaveOwner (limit : OwnerLimit) (row other : Row) : Type 0 where
  entity : is_entity limit.entity other.key.entity ≡ true
  id : ℕ
  one : part_of limit.owner row ≡ Some id
  two : part_of limit.owner other ≡ Some id

same_ids : (a b : Option ℕ) → same_id a b ≡ true → record { id : ℕ; one : a ≡ Some id; two : b ≡ Some id }
same_ids None b e = cc
same_ids (Some id) b e = record { id = id; one = refl; two = id_of_tie b id e }

have_owner : (limit : OwnerLimit) (row other : Row) → is_of_owner limit row other ≡ true → HaveOwner limit row other
have_owner limit row other e =
    let parts = and_parts (is_entity limit.entity other.key.entity) (same_id (part_of limit.owner row) (part_of limit.owner other)) e in
    let ids = same_ids (part_of limit.owner row) (part_of limit.owner other) parts.1 in
    record { entity = parts.0; id = ids.id; one = ids.one; two = ids.two }

of_owner : (limit : OwnerLimit) (row other : Row) (id : ℕ) → is_entity limit.entity other.key.entity ≡ true → part_of limit.owner row ≡ Some id → part_of limit.owner other ≡ Some id → is_of_owner limit row other ≡ true
of_owner limit row other id entity one two = and_from _ _ entity (rw (one, two) (eq-eqb id id refl))

-- what is of the one's owner is of the other's
of_other : (limit : OwnerLimit) (row new other : Row) → is_of_owner limit row new ≡ true → is_of_owner limit row other ≡ true → is_of_owner limit new other ≡ true
of_other limit row new other e f =
    let one = have_owner limit row new e in
    let two = have_owner limit row other f in
    let same : Some one.id ≡ Some two.id = sym one.one ∙ two.one in
    of_owner limit new other two.id two.entity (one.two ∙ same) two.two

pub upsert_few : (hidden : Entity → ℕ) (rows : List Row) (new : Row) → AreFewOfOwners rows → too_many hidden (with_row rows new) new ≡ None → AreFewOfOwners (with_row rows new)
upsert_few hidden rows new few checked = all_few (with_row rows new) (λ row limit i j full. by row limit j full (put_of place_cmp row_key rows new row i))
  where
    not_new : (limit : OwnerLimit) → IsIn limit OWNER_LIMITS → owner_is_full (with_row rows new) new limit ≡ true → ⊥
    not_new limit j full = both_ways (owner_is_full (with_row rows new) new limit) (none_passes (owner_is_full (with_row rows new) new) OWNER_LIMITS limit (are_few hidden (with_row rows new) new checked).owned j) full

    by_owner : (row : Row) (limit : OwnerLimit) → IsIn row rows → IsIn limit OWNER_LIMITS → owner_is_full (with_row rows new) row limit ≡ true → (b : Bool) → is_of_owner limit row new ≡ b → ⊥
    by_owner row limit i j full true e =
        not_new limit j (full_then (with_row rows new) (with_row rows new) row new limit (have_owner limit row new e).entity (count_under (is_of_owner limit row) (is_of_owner limit new) (with_row rows new) (λ other k f. of_other limit row new other e f)) full)
    by_owner row limit i j full false e =
        let entity = (and_parts (is_entity limit.entity row.key.entity) (nat_lt limit.most (count_by (is_of_owner limit row) (with_row rows new))) full).0 in
        not_full rows row limit few i j (full_then (with_row rows new) rows row row limit entity (put_count place_cmp row_key (is_of_owner limit row) rows new e) full)

    by : (row : Row) (limit : OwnerLimit) → IsIn limit OWNER_LIMITS → owner_is_full (with_row rows new) row limit ≡ true → (new ≡ row) ⊎ IsIn row rows → ⊥
    by row limit j full (inl e) = not_new limit j (subst (λ (r : Row). owner_is_full (with_row rows new) r limit ≡ true) (sym e) full)
    by row limit j full (inr i) = by_owner row limit i j full (is_of_owner limit row new) refl

-- rows that belong to one owner after a delete did before
owner_then : (limit : OwnerLimit) (lost : List Row) (row other : Row) → is_of_owner limit (emptied REFERENCES lost row) (emptied REFERENCES lost other) ≡ true → is_of_owner limit row other ≡ true
owner_then limit lost row other e =
    let own = have_owner limit (emptied REFERENCES lost row) (emptied REFERENCES lost other) e in
    of_owner limit row other own.id own.entity (part_then REFERENCES lost row limit.owner own.id own.one) (part_then REFERENCES lost other limit.owner own.id own.two)

pub delete_few : (rows : List Row) (key : Key) → AreFewOfOwners rows → AreFewOfOwners (deleted REFERENCES rows key)
delete_few rows key few = all_few (deleted REFERENCES rows key) (λ row limit i j full. by row limit j full (of_deleted REFERENCES rows key row i))
  where
    fewer : (row : Row) (limit : OwnerLimit) → count_by (is_of_owner limit (emptied REFERENCES (gone REFERENCES rows key) row)) (deleted REFERENCES rows key) ≤ count_by (is_of_owner limit row) rows
    fewer row limit =
        let after : Row → Row = emptied REFERENCES (gone REFERENCES rows key) in
        let same : count_by (is_of_owner limit (after row)) (deleted REFERENCES rows key) ≡ count_by (λ other. is_of_owner limit (after row) (after other)) (kept REFERENCES rows key) = count_map after (is_of_owner limit (after row)) (kept REFERENCES rows key) in
        let under : count_by (λ other. is_of_owner limit (after row) (after other)) (kept REFERENCES rows key) ≤ count_by (is_of_owner limit row) (kept REFERENCES rows key) = count_under (λ other. is_of_owner limit (after row) (after other)) (is_of_owner limit row) (kept REFERENCES rows key) (λ other k e. owner_then limit (gone REFERENCES rows key) row other e) in
        let less : count_by (is_of_owner limit row) (kept REFERENCES rows key) ≤ count_by (is_of_owner limit row) rows = count_filter (is_of_owner limit row) (λ other. not (goes REFERENCES rows key other)) rows in
        omega (arith, same, under, less)

    by : (row : Row) (limit : OwnerLimit) → IsIn limit OWNER_LIMITS → owner_is_full (deleted REFERENCES rows key) row limit ≡ true → IsLeft REFERENCES rows key row → ⊥
    by row limit j full was =
        let image : owner_is_full (deleted REFERENCES rows key) (emptied REFERENCES (gone REFERENCES rows key) was.one) limit ≡ true = subst (λ (r : Row). owner_is_full (deleted REFERENCES rows key) r limit ≡ true) (sym was.image) full in
        let entity = (and_parts (is_entity limit.entity was.one.key.entity) (nat_lt limit.most (count_by (is_of_owner limit (emptied REFERENCES (gone REFERENCES rows key) was.one)) (deleted REFERENCES rows key))) image).0 in
        not_full rows was.one limit few was.is_in j (full_then (deleted REFERENCES rows key) rows (emptied REFERENCES (gone REFERENCES rows key) was.one) was.one limit entity (fewer was.one limit) image)

-- An accepted upsert breaks none of the rules.
use Rattle.std.proofs.Common.{◌≡◌, ℕ, Bool, true, false, ◌&&◌, List, [], ◌∷◌, refl, ap, Option, Some, None}
use Rattle.std.specs.Prelude.{not, filter, is_some, if◌then◌else◌, Ok}
use Rattle.std.specs.List.{fold}
use Rattle.std.specs.Option.{option_map}
use Rattle.std.specs.Ordering.{nat_cmp, is_lt}
use Rattle.std.specs.Cmp.Lexicographic.{slice_cmp}
use Rattle.std.proofs.lemmas.Bool.{both_ways, and_from, and_parts, false_from_ne_true, true_from_ne_false}
use Rattle.shop_defs.specs.declared.broken.Broken.{Broken}
use Rattle.shop_defs.specs.declared.row.Row.{Row}
use Rattle.shop_defs.specs.declared.op.Op.{Op}
use Rattle.shop_defs.specs.declared.table.FieldInfo.{FieldInfo}
use Rattle.shop_defs.specs.declared.table.Reference.{Reference}
use Rattle.shop_defs.specs.declared.table.TheConstants.{REFERENCES}
use Rattle.shop_defs.specs.Tables.{fields_of}
use Rattle.shop_operations.specs.References.{is_entity, is_met}
use Rattle.shop_operations.specs.Upserts.{lesser, least, field_name, row_in, with_row, left, gives_part, is_of_tree, agree_in, reference_name, is_missing, fixed_field, missing_required, missing_reference, duplicate, parent_cycle, parent_too_deep, too_many}
use Rattle.shop_operations.specs.Operations.{place, first, broken_by, unless, upserted}
use Rattle.shop_operations.specs.Views.{View}
use Rattle.closure.specs.Closure.{IsIn}
use Rattle.closure.proofs.Members.{in_filter}

least_some : {X : Type 0} (name : X → List ℕ) (xs : List X) (y : X) → is_some (fold (lesser name) (Some y) xs) ≡ true
least_some name [] y = refl
least_some {X} name (x ∷ xs) y = by (λ z. least_some name xs z) (is_lt (slice_cmp nat_cmp (name x) (name y)))
  where
    by : ((z : X) → is_some (fold (lesser name) (Some z) xs) ≡ true) → (b : Bool) → is_some (fold (lesser name) (if b then Some x else Some y) xs) ≡ true
    by more true = more x
    by more false = more y

-- where there is no least there is none at all
least_none : {X : Type 0} (name : X → List ℕ) (xs : List X) (x : X) → is_some (least name xs) ≡ false → IsIn x xs → ⊥
least_none name [] x h i = i
least_none name (y ∷ xs) x h i = both_ways (is_some (fold (lesser name) (Some y) xs)) h (least_some name xs y)

pub map_none : {A B : Type 0} (f : A → B) (o : Option A) → option_map f o ≡ None → o ≡ None
map_none f None h = refl
map_none f (Some x) h = cc

-- of what has no least, nothing passes the test
pub none_least : {X : Type 0} (name : X → List ℕ) (p : X → Bool) (xs : List X) (x : X) → least name (filter p xs) ≡ None → IsIn x xs → p x ≡ false
none_least name p xs x h i = false_from_ne_true (p x) (λ e. least_none name (filter p xs) x (ap is_some h) (in_filter p xs x i e))

-- a row that breaks none of the rules
pub record IsUnbroken (view : View) (op : Op) (row : Row) : Type 0 where
  pub fixed : fixed_field (row_in view.rows (place view op)) row ≡ None
  pub required : missing_required row ≡ None
  pub referring : missing_reference (with_row view.rows row) op row ≡ None
  pub single : duplicate (with_row view.rows row) row ≡ None
  pub acyclic : parent_cycle (with_row view.rows row) op row ≡ None
  pub shallow : parent_too_deep (with_row view.rows row) op row ≡ None
  pub few : too_many view.hidden (with_row view.rows row) row ≡ None

first_none : (o : Option Broken) (rest : List (Option Broken)) → first (o ∷ rest) ≡ None → (o ≡ None) × (first rest ≡ None)
first_none None rest h = (refl, h)
first_none (Some r) rest h = cc

seven_none : (a b c d e f g : Option Broken) → first (a ∷ b ∷ c ∷ d ∷ e ∷ f ∷ g ∷ []) ≡ None → (a ≡ None) × (b ≡ None) × (c ≡ None) × (d ≡ None) × (e ≡ None) × (f ≡ None) × (g ≡ None)
seven_none a b c d e f g h =
    let one = first_none a (b ∷ c ∷ d ∷ e ∷ f ∷ g ∷ []) h in
    let two = first_none b (c ∷ d ∷ e ∷ f ∷ g ∷ []) one.1 in
    let three = first_none c (d ∷ e ∷ f ∷ g ∷ []) two.1 in
    let four = first_none d (e ∷ f ∷ g ∷ []) three.1 in
    let five = first_none e (f ∷ g ∷ []) four.1 in
    let six = first_none f (g ∷ []) five.1 in
    let seven = first_none g [] six.1 in
    (one.0, two.0, three.0, four.0, five.0, six.0, seven.0)

pub unbroken : (view : View) (op : Op) (row : Row) → broken_by view op row ≡ None → IsUnbroken view op row
unbroken view op row h =
    let rows = with_row view.rows row in
    let all = seven_none (fixed_field (row_in view.rows (place view op)) row) (missing_required row) (missing_reference rows op row) (duplicate rows row) (parent_cycle rows op row) (parent_too_deep rows op row) (too_many view.hidden rows row) h in
    record { fixed = all.0; required = all.1; referring = all.2; single = all.3; acyclic = all.4; shallow = all.5; few = all.6 }

pub same_rows : (a b : List Row) (rule : Option Broken) → unless a rule ≡ Ok b → (rule ≡ None) × (a ≡ b)
same_rows a b None e = (refl, cc)
same_rows a b (Some broken) e = cc

-- the row that is left breaks no rule, and the rows are those with it
pub record IsUpserted (view : View) (op : Op) (rows : List Row) : Type 0 where
  pub unbroken : IsUnbroken view op (left view.rows (place view op) op)
  pub rows_are : with_row view.rows (left view.rows (place view op) op) ≡ rows

pub accepted : (view : View) (op : Op) (rows : List Row) → upserted view op ≡ Ok rows → IsUpserted view op rows
accepted view op rows e =
    let row = left view.rows (place view op) op in
    let same = same_rows (with_row view.rows row) rows (broken_by view op row) e in
    record { unbroken = unbroken view op row same.0; rows_are = same.1 }

-- ---- what some of the rules say

-- a fixed field is as it was
pub fixed_agrees : (before row : Row) (field : FieldInfo) → fixed_field (Some before) row ≡ None → IsIn field (fields_of row.key.entity) → field.marks.fixed ≡ true → agree_in field.number before row ≡ true
fixed_agrees before row field h i f = by (agree_in field.number before row) refl
  where
    none : (field.marks.fixed && not (agree_in field.number before row)) ≡ false
    none = none_least field_name (λ other. other.marks.fixed && not (agree_in other.number before row)) (fields_of row.key.entity) field (map_none _ _ h) i

    by : (b : Bool) → agree_in field.number before row ≡ b → b ≡ true
    by true e = refl
    by false e = absurd (both_ways _ none (and_from _ _ f (ap not e)))

-- what is given names a row, of the same tree
pub record IsMetInTree (reference : Reference) (rows : List Row) (row : Row) : Type 0 where
  pub met : is_met reference rows row ≡ true
  pub of_tree : is_of_tree reference rows row ≡ true

pub given_met : (rows : List Row) (op : Op) (row : Row) (reference : Reference) → missing_reference rows op row ≡ None → IsIn reference REFERENCES → is_entity reference.entity row.key.entity ≡ true → gives_part op reference.part ≡ true → IsMetInTree reference rows row
given_met rows op row reference h i k given =
    let none : is_missing rows op row reference ≡ false = none_least reference_name (is_missing rows op row) REFERENCES reference (map_none _ _ h) i in
    let both : (is_met reference rows row && is_of_tree reference rows row) ≡ true = true_from_ne_false (is_met reference rows row && is_of_tree reference rows row) (λ e. both_ways (is_missing rows op row reference) none (and_from _ _ (and_from _ _ k given) (ap not e))) in
    let parts = and_parts (is_met reference rows row) (is_of_tree reference rows row) both in
    record { met = parts.0; of_tree = parts.1 }

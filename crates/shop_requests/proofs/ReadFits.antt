-- What an operation that is read gives fits: the fields their kinds, and the key its entity's form.
use Rattle.std.proofs.Common.{◌≡◌, ◌≢◌, ℕ, ℤ, true, false, Bool, List, [], ◌∷◌, Option, Some, None, if◌then◌else◌, refl, arith}
use Rattle.std.specs.List.{fold, list_all, AllByRecursion}
use Rattle.std.specs.Option.{option_map}
use Rattle.std.specs.Str.{bytes_eq}
use Rattle.std.proofs.lemmas.Bool.Decides.{nat_tests}
use Rattle.std.proofs.lemmas.Slice.Eq.{bytes_eq-Decides}
use Rattle.shop_defs.specs.declared.entity.Entity.{Entity}
use Rattle.shop_requests.specs.declared.raw.Raw.{Raw}
use Rattle.shop_requests.specs.declared.raw.RawOp.{RawOp}
use Rattle.shop_defs.specs.declared.broken.Broken.{Broken}
use Rattle.shop_defs.specs.declared.table.EntityInfo.{EntityInfo}
use Rattle.shop_defs.specs.declared.table.FieldInfo.{FieldInfo}
use Rattle.shop_defs.specs.declared.table.KeyForm.{KeyForm}
use Rattle.shop_defs.specs.declared.table.KeyForm.TheVariants.{OnePart, TwoParts}
use Rattle.shop_defs.specs.declared.table.TheConstants.{ENTITIES}
use Rattle.shop_requests.specs.declared.check.ValueFault.{ValueFault}
use Rattle.shop_requests.specs.declared.check.ValueFault.TheVariants.{WrongKind, OutOfRange}
use Rattle.shop_defs.specs.Texts.{entity_text, field_text}
use Rattle.shop_defs.specs.Tables.{fields_of, field_with_name, info_of, info_named}
use Rattle.shop_requests.specs.Checks.{fault_in}
use Rattle.shop_defs.specs.Fitting.{given_fits, key_fits, parts_fit, is_writable}
use Rattle.shop_requests.specs.Operations.{Given, lesser, least_name, lesser_beyond, fault_for, fault_at, is_kind, value_beyond, is_wrong, wrong_second, or_else, refusal, given, read_in, read, if_writable}
use Rattle.shop_defs.proofs.EachLine.{IsLineOf, each_line, of_found, named_line}
use Rattle.shop_requests.proofs.KeptFits.{kept_fits}

-- a name is chosen where there are any
lesser-some : (best : Option (List ℕ)) (name : List ℕ) → lesser best name ≡ None → ⊥
lesser-some None name none = cc
lesser-some (Some other) name none = grind arith

-- where no name is chosen, there is no first name and no field breaks the rule
pub least_none : (breaks : Given → Bool) (first : Option (List ℕ)) (fields : List Given) → least_name breaks first fields ≡ None → (first ≡ None) × AllByRecursion (λ field. breaks field ≡ false) fields
least_none breaks first [] none = (none, tt)
least_none breaks first (field ∷ rest) none = by (breaks field) refl (least_none breaks (if breaks field then lesser first field.0 else first) rest none)
  where
    by : (broken : Bool) → breaks field ≡ broken → ((if breaks field then lesser first field.0 else first) ≡ None) × AllByRecursion (λ other. breaks other ≡ false) rest → (first ≡ None) × AllByRecursion (λ other. breaks other ≡ false) (field ∷ rest)
    by true is more = absurd (lesser-some first field.0 (rw is at more.0))
    by false is more = (rw is at more.0, (is, more.1))

lesser_beyond-some : (best : Option (List ℕ × ℤ)) (name : List ℕ) (value : ℤ) → lesser_beyond best name (Some value) ≡ None → ⊥
lesser_beyond-some None name value none = cc
lesser_beyond-some (Some other) name value none = grind arith

-- where no place out of range is chosen, no field is out of range
pub beyond_none : (entity : Entity) (best : Option (List ℕ × ℤ)) (fields : List Given) → fold (λ best field. lesser_beyond best field.0 (value_beyond (fault_at entity field))) best fields ≡ None → (best ≡ None) × AllByRecursion (λ field. value_beyond (fault_at entity field) ≡ None) fields
beyond_none entity best [] none = (none, tt)
beyond_none entity best (field ∷ rest) none = by (value_beyond (fault_at entity field)) refl (beyond_none entity (lesser_beyond best field.0 (value_beyond (fault_at entity field))) rest none)
  where
    by : (beyond : Option ℤ) → value_beyond (fault_at entity field) ≡ beyond → (lesser_beyond best field.0 (value_beyond (fault_at entity field)) ≡ None) × AllByRecursion (λ other. value_beyond (fault_at entity other) ≡ None) rest → (best ≡ None) × AllByRecursion (λ other. value_beyond (fault_at entity other) ≡ None) (field ∷ rest)
    by (Some value) is more = absurd (lesser_beyond-some best field.0 value (rw is at more.0))
    by None is more = (rw is at more.0, (is, more.1))

-- a fault is one of the two
no_fault : (fault : Option ValueFault) → is_kind fault ≡ false → value_beyond fault ≡ None → fault ≡ None
no_fault None kind beyond = refl
no_fault (Some WrongKind) kind beyond = cc
no_fault (Some (OutOfRange value)) kind beyond = cc

no_faults : (entity : Entity) (fields : List Given) → AllByRecursion (λ field. is_wrong entity field ≡ false) fields → AllByRecursion (λ field. value_beyond (fault_at entity field) ≡ None) fields → AllByRecursion (λ field. fault_at entity field ≡ None) fields
no_faults entity [] kinds ranges = tt
no_faults entity (field ∷ rest) kinds ranges =
    (no_fault (fault_at entity field) kinds.0 ranges.0, no_faults entity rest kinds.1 ranges.1)

-- what is given for a name has no fault, where no field has
given_from : (entity : Entity) (name : List ℕ) (found : Option Raw) (fields : List Given) (raw : Raw) → AllByRecursion (λ field. fault_at entity field ≡ None) fields → ((other : Raw) → found ≡ Some other → fault_for (field_with_name entity name) other ≡ None) → fold (λ found field. if bytes_eq field.0 name then Some field.1 else found) found fields ≡ Some raw → fault_for (field_with_name entity name) raw ≡ None
given_from entity name found [] raw none start is = start raw is
given_from entity name found (field ∷ rest) raw none start is =
    given_from entity name (if bytes_eq field.0 name then Some field.1 else found) rest raw none.1 (by (bytes_eq field.0 name) refl) is
  where
    by : (same : Bool) → bytes_eq field.0 name ≡ same → (other : Raw) → (if same then Some field.1 else found) ≡ Some other → fault_for (field_with_name entity name) other ≡ None
    by false equal other chosen = start other chosen
    by true equal other chosen =
        let names : field.0 ≡ name = (bytes_eq-Decides field.0 name).0 equal in
        let values : field.1 ≡ other = cc in
        rw (← names, ← values) none.0

-- what is read of a line of the table fits
lines_fit : (entity : Entity) (table : List FieldInfo) (fields : List Given) → AllByRecursion (IsLineOf entity) table → AllByRecursion (λ field. fault_at entity field ≡ None) fields → list_all (given_fits entity) (read_in table fields) ≡ true
lines_fit entity [] fields lines none = refl
lines_fit entity (line ∷ rest) fields lines none = by (given fields (field_text line.name)) refl (lines_fit entity rest fields lines.1 none)
  where
    by : (raw : Option Raw) → given fields (field_text line.name) ≡ raw → list_all (given_fits entity) (read_in rest fields) ≡ true → list_all (given_fits entity) (read_in (line ∷ rest) fields) ≡ true
    by None is more = rw is more
    by (Some raw) is more =
        let faultless = given_from entity (field_text line.name) None fields raw none (λ other chosen. cc) is in
        let in_kind : fault_in line.kind raw ≡ None = rw lines.0.by_name at faultless in
        rw (is, lines.0.by_number, kept_fits line.kind raw in_kind) more

-- a list of rules of which none is broken
pub none_of : (first second third : Option Broken) → or_else first (or_else second third) ≡ None → (first ≡ None) × (second ≡ None) × (third ≡ None)
none_of None None None none = (refl, refl, refl)
none_of first second third none = cc

pub unmapped : {X : Type 0} (name : X → Broken) (found : Option X) → option_map name found ≡ None → found ≡ None
unmapped name None none = refl
unmapped name (Some found) none = cc

-- each field of an operation that breaks no rule fits
pub read_fits : (info : EntityInfo) (op : RawOp) → refusal info op ≡ None → list_all (given_fits info.entity) (read info op).fields ≡ true
unfolding refusal read
read_fits info op none =
    let rules = none_of _ _ _ none in
    let kinds = least_none (is_wrong info.entity) (wrong_second info.key op.second) op.fields (unmapped _ _ rules.1) in
    let ranges = beyond_none info.entity None op.fields (unmapped _ _ rules.2) in
    lines_fit info.entity (fields_of info.entity) op.fields (each_line info.entity) (no_faults info.entity op.fields kinds.1 ranges.1)

second_fits : (form : KeyForm) (id second : ℕ) → id ≢ 0 → wrong_second form second ≡ None → key_fits form id second ≡ true
second_fits OnePart id second there right = grind (arith, nat_tests)
second_fits TwoParts id second there right = grind (arith, nat_tests)

-- what an operation that breaks no rule is on: the entity's line in the table
line_named : (name : List ℕ) (info : EntityInfo) → info_named name ≡ Some info → info_of info.entity ≡ Some info
unfolding info_named
line_named name info found = of_found (λ line. info_of line.entity ≡ Some line) (λ line. bytes_eq (entity_text line.entity) name) ENTITIES info named_line found

writable_named : (line : Option EntityInfo) (info : EntityInfo) → if_writable line ≡ Some info → (line ≡ Some info) × (info.is_writable ≡ true)
writable_named None info is = cc
writable_named (Some line) info is = by line.is_writable refl is
  where
    by : (writable : Bool) → line.is_writable ≡ writable → (if writable then Some line else None) ≡ Some info → (Some line ≡ Some info) × (info.is_writable ≡ true)
    by true same is = (is, let equal : line ≡ info = cc in rw (← equal) same)
    by false same is = cc

-- its key fits, if its id is one
pub read_key_fits : (name : List ℕ) (info : EntityInfo) (op : RawOp) → if_writable (info_named name) ≡ Some info → refusal info op ≡ None → op.id ≢ 0 → parts_fit info.entity op.id op.second ≡ true
unfolding refusal
read_key_fits name info op named none there =
    let line = line_named name info (writable_named (info_named name) info named).0 in
    let rules = none_of _ _ _ none in
    let kinds = least_none (is_wrong info.entity) (wrong_second info.key op.second) op.fields (unmapped _ _ rules.1) in
    rw line (second_fits info.key op.id op.second there kinds.0)

-- its entity is one that operations may write
pub read_is_writable : (name : List ℕ) (info : EntityInfo) → if_writable (info_named name) ≡ Some info → is_writable info.entity ≡ true
read_is_writable name info named =
    let parts = writable_named (info_named name) info named in
    rw (line_named name info parts.0) parts.1

-- The place that is chosen among all given fields breaks its rule, and none with a lesser name does.
use Rattle.std.proofs.Common.{◌≡◌, ℕ, ℤ, zero, suc, true, false, Bool, List, [], ◌∷◌, Option, Some, None, if◌then◌else◌, ◌⊎◌, inl, inr, refl, sym, ap, subst, ◌∙◌, arith}
use Rattle.std.specs.Prelude.{Contains, is_some, is_none}
use Rattle.std.specs.List.{fold, AllByRecursion}
use Rattle.std.specs.Option.{option_map}
use Rattle.std.specs.Cmp.{IsStrictWeakOrder}
use Rattle.std.specs.Ordering.{nat_cmp, is_lt}
use Rattle.std.specs.Cmp.Lexicographic.{slice_cmp}
use Rattle.std.proofs.lemmas.Cmp.{nat_list_cmp_total}
use Rattle.std.proofs.lemmas.List.MinMax.{ranks_by}
use Rattle.shop_defs.specs.declared.entity.Entity.{Entity}
use Rattle.shop_requests.specs.declared.raw.Raw.{Raw}
use Rattle.shop_requests.specs.declared.raw.RawOp.{RawOp}
use Rattle.shop_defs.specs.declared.broken.Broken.{Broken}
use Rattle.shop_defs.specs.declared.broken.Broken.TheVariants as B
use Rattle.shop_defs.specs.declared.refused.PlanFault.{PlanFault}
use Rattle.shop_defs.specs.declared.refused.PlanFault.TheVariants as F
use Rattle.shop_defs.specs.declared.table.EntityInfo.{EntityInfo}
use Rattle.shop_defs.specs.declared.table.FieldInfo.{FieldInfo}
use Rattle.shop_requests.specs.declared.check.ValueFault.{ValueFault}
use Rattle.shop_requests.specs.declared.check.ValueFault.TheVariants.{WrongKind, OutOfRange}
use Rattle.shop_requests.specs.Operations.{Given, lesser, least_name, lesser_beyond, least_beyond, fault_at, is_kind, value_beyond, is_unknown, is_wrong, wrong_second, unknown_field, wrong_kind, out_of_range, or_else, refusal}
use Rattle.shop_requests.specs.Places.{IsUnknownPlace, IsWrongPlace, IsBeyondPlace, IsOutOfRange, IsLeastPlace, IsKept, IsFirstBroken, IsUnbroken, NamesFirst, KeepsRules, written_by}
use Rattle.shop_requests.proofs.ReadFits.{least_none, beyond_none, none_of, unmapped}

-- ---- elements

stands_here : (field : Given) (rest : List Given) → Contains (field ∷ rest) field
stands_here field rest = (0, omega arith, refl)

stands_later : (field other : Given) (rest : List Given) → Contains rest other → Contains (field ∷ rest) other
stands_later field other rest (k, within, is) = (suc k, omega arith, is)

stands_where : (field other : Given) (rest : List Given) → Contains (field ∷ rest) other → (field ≡ other) ⊎ Contains rest other
stands_where field other rest (zero, within, is) = inl is
stands_where field other rest (suc k, within, is) = inr (k, omega arith, is)

-- what holds of each given field holds of one that is given
of_given : (P : Given → Type 0) (fields : List Given) (other : Given) → AllByRecursion P fields → Contains fields other → P other
of_given P [] other all (k, within, is) = absurd (omega arith)
of_given P (field ∷ rest) other all there =
    elim (stands_where field other rest there) [ inl same ↦ subst P same all.0 | inr later ↦ of_given P rest other all.1 later ]

-- ---- the order of names

abbrev below : List ℕ → List ℕ → Bool
below name other = is_lt (slice_cmp nat_cmp name other)

ranked : IsStrictWeakOrder below
ranked = ranks_by nat_list_cmp_total (λ (name : List ℕ). name)

-- no name is below itself
not_itself : (name : List ℕ) → below name name ≡ false
not_itself name = by (below name name) refl
  where
    by : (is : Bool) → below name name ≡ is → is ≡ false
    by false is = refl
    by true is = let back = ranked.one_way name name is in cc

-- ---- the least name

record IsChosen (breaks : Given → Bool) (first : Option (List ℕ)) (fields : List Given) (name : List ℕ) : Type 0 where
  from : (first ≡ Some name) ⊎ ((raw : Raw) × Contains fields (name, raw) × (breaks (name, raw) ≡ true))
  first_least : (other : List ℕ) → first ≡ Some other → below other name ≡ false
  fields_least : AllByRecursion (λ field. breaks field ≡ true → below field.0 name ≡ false) fields

-- a field that keeps the rule changes nothing
passed : (breaks : Given → Bool) (first : Option (List ℕ)) (field : Given) (rest : List Given) (name : List ℕ) → breaks field ≡ false → IsChosen breaks first rest name → IsChosen breaks first (field ∷ rest) name
passed breaks first field rest name kept more = record {
  from = elim more.from [ inl is ↦ inl is | inr (raw, there, broken) ↦ inr (raw, stands_later field (name, raw) rest there, broken) ];
  first_least = more.first_least;
  fields_least = ((λ broken. cc), more.fields_least);
}

-- one that breaks it counts by its name
counted : (breaks : Given → Bool) (first : Option (List ℕ)) (field : Given) (rest : List Given) (name : List ℕ) (best : List ℕ) → breaks field ≡ true → IsChosen breaks (Some best) rest name → ((best ≡ field.0) ⊎ (first ≡ Some best)) → ((other : List ℕ) → first ≡ Some other → below other best ≡ false) → below field.0 best ≡ false → IsChosen breaks first (field ∷ rest) name
counted breaks first field rest name best broken more is first_over field_over = record {
  from = elim more.from [ inl same ↦ here same | inr (raw, there, other) ↦ inr (raw, stands_later field (name, raw) rest there, other) ];
  first_least = λ other same. ranked.chain other best name (first_over other same) (more.first_least best refl);
  fields_least = ((λ _. ranked.chain field.0 best name field_over (more.first_least best refl)), more.fields_least);
}
  where
    here : Some best ≡ Some name → (first ≡ Some name) ⊎ ((raw : Raw) × Contains (field ∷ rest) (name, raw) × (breaks (name, raw) ≡ true))
    here same = elim is [
      | inl own ↦
          let equal : field.0 ≡ name = cc in
          let whole : field ≡ (name, field.1) = ap (λ n. (n, field.1)) equal in
          inr (field.1, (0, omega arith, whole), subst (λ other. breaks other ≡ true) whole broken)
      | inr earlier ↦ inl (earlier ∙ same)
    ]

taken : (breaks : Given → Bool) (first : Option (List ℕ)) (field : Given) (rest : List Given) (name : List ℕ) → breaks field ≡ true → IsChosen breaks (lesser first field.0) rest name → IsChosen breaks first (field ∷ rest) name
taken breaks None field rest name broken more =
    counted breaks None field rest name field.0 broken more (inl refl) (λ other same. cc) (not_itself field.0)
taken breaks (Some first) field rest name broken more = by (below field.0 first) refl more
  where
    by : (lower : Bool) → below field.0 first ≡ lower → IsChosen breaks (if lower then Some field.0 else Some first) rest name → IsChosen breaks (Some first) (field ∷ rest) name
    by true is other = counted breaks (Some first) field rest name field.0 broken other (inl refl) (λ earlier same. let equal : first ≡ earlier = cc in subst (λ n. below n field.0 ≡ false) equal (ranked.one_way field.0 first is)) (not_itself field.0)
    by false is other = counted breaks (Some first) field rest name first broken other (inr refl) (λ earlier same. let equal : first ≡ earlier = cc in subst (λ n. below n first ≡ false) equal (not_itself first)) is

chosen : (breaks : Given → Bool) (first : Option (List ℕ)) (fields : List Given) (name : List ℕ) → least_name breaks first fields ≡ Some name → IsChosen breaks first fields name
chosen breaks first [] name is = record {
  from = inl is;
  first_least = λ other same. let equal : name ≡ other = cc in subst (λ n. below n name ≡ false) equal (not_itself name);
  fields_least = tt;
}
chosen breaks first (field ∷ rest) name is =
    by (breaks field) refl (chosen breaks (if breaks field then lesser first field.0 else first) rest name is)
  where
    by : (broken : Bool) → breaks field ≡ broken → IsChosen breaks (if breaks field then lesser first field.0 else first) rest name → IsChosen breaks first (field ∷ rest) name
    by false kept more = passed breaks first field rest name kept (rw kept at more)
    by true broken more = taken breaks first field rest name broken (rw broken at more)

-- ---- the least place out of range

-- whether a field is out of range
abbrev is_beyond : Entity → Given → Bool
is_beyond entity field = is_some (value_beyond (fault_at entity field))

abbrev name_of : Option (List ℕ × ℤ) → Option (List ℕ)
name_of place = option_map (λ (p : List ℕ × ℤ). p.0) place

name_of-lesser : (best : Option (List ℕ × ℤ)) (name : List ℕ) (beyond : Option ℤ) → name_of (lesser_beyond best name beyond) ≡ (if is_some beyond then lesser (name_of best) name else name_of best)
name_of-lesser best name None = refl
name_of-lesser None name (Some value) = refl
name_of-lesser (Some other) name (Some value) = by (below name other.0)
  where
    by : (lower : Bool) → name_of (if lower then Some (name, value) else Some other) ≡ (if lower then Some name else Some other.0)
    by true = refl
    by false = refl

-- its name is the least of those out of range
name_of-least : (entity : Entity) (best : Option (List ℕ × ℤ)) (fields : List Given) → name_of (fold (λ best field. lesser_beyond best field.0 (value_beyond (fault_at entity field))) best fields) ≡ least_name (is_beyond entity) (name_of best) fields
name_of-least entity best [] = refl
name_of-least entity best (field ∷ rest) =
    name_of-least entity (lesser_beyond best field.0 (value_beyond (fault_at entity field))) rest
    ∙ ap (λ first. least_name (is_beyond entity) first rest) (name_of-lesser best field.0 (value_beyond (fault_at entity field)))

-- a place is the one before, or is given here
of_lesser : (best : Option (List ℕ × ℤ)) (name : List ℕ) (beyond : Option ℤ) (place : List ℕ × ℤ) → lesser_beyond best name beyond ≡ Some place → (best ≡ Some place) ⊎ ((name ≡ place.0) × (beyond ≡ Some place.1))
of_lesser best name None place is = inl is
of_lesser None name (Some value) place is = inr (cc, cc)
of_lesser (Some other) name (Some value) place is = by (below name other.0) is
  where
    by : (lower : Bool) → (if lower then Some (name, value) else Some other) ≡ Some place → (Some other ≡ Some place) ⊎ ((name ≡ place.0) × (Some value ≡ Some place.1))
    by true same = let whole : (name, value) ≡ place = cc in inr (ap (λ (p : List ℕ × ℤ). p.0) whole, ap (λ (p : List ℕ × ℤ). Some p.1) whole)
    by false same = inl same

-- it is given with that value
beyond_given : (entity : Entity) (best : Option (List ℕ × ℤ)) (fields : List Given) (place : List ℕ × ℤ) → fold (λ best field. lesser_beyond best field.0 (value_beyond (fault_at entity field))) best fields ≡ Some place → (best ≡ Some place) ⊎ ((raw : Raw) × Contains fields (place.0, raw) × (value_beyond (fault_at entity (place.0, raw)) ≡ Some place.1))
beyond_given entity best [] place is = inl is
beyond_given entity best (field ∷ rest) place is =
    elim (beyond_given entity (lesser_beyond best field.0 (value_beyond (fault_at entity field))) rest place is) [
      | inr (raw, there, beyond) ↦ inr (raw, stands_later field (place.0, raw) rest there, beyond)
      | inl before ↦ elim (of_lesser best field.0 (value_beyond (fault_at entity field)) place before) [
        | inl same ↦ inl same
        | inr (name, value) ↦
            let whole : field ≡ (place.0, field.1) = ap (λ n. (n, field.1)) name in
            inr (field.1, (0, omega arith, whole), subst (λ other. value_beyond (fault_at entity other) ≡ Some place.1) whole value)
      ]
    ]

-- ---- in words

none_is : (field : Option FieldInfo) → is_none field ≡ true → field ≡ None
none_is None is = refl
none_is (Some field) is = cc

kind_is : (fault : Option ValueFault) → is_kind fault ≡ true → fault ≡ Some WrongKind
kind_is None is = cc
kind_is (Some WrongKind) is = refl
kind_is (Some (OutOfRange value)) is = cc

beyond_is : (fault : Option ValueFault) (value : ℤ) → value_beyond fault ≡ Some value → fault ≡ Some (OutOfRange value)
beyond_is None value is = cc
beyond_is (Some WrongKind) value is = cc
beyond_is (Some (OutOfRange other)) value is = let same : other ≡ value = cc in ap (λ v. Some (OutOfRange v)) same

unknown_kept : (info : EntityInfo) (op : RawOp) → least_name (is_unknown info.entity) None op.fields ≡ None → IsKept (IsUnknownPlace info op)
unknown_kept info op none name (raw, given, missing) =
    let known = of_given (λ field. is_unknown info.entity field ≡ false) op.fields (name, raw) (least_none (is_unknown info.entity) None op.fields none).1 given in
    let unknown : is_unknown info.entity (name, raw) ≡ true = ap is_none missing in
    cc

wrong_kept : (info : EntityInfo) (op : RawOp) → least_name (is_wrong info.entity) (wrong_second info.key op.second) op.fields ≡ None → IsKept (IsWrongPlace info op)
wrong_kept info op none name (inl (raw, given, fault)) =
    let right = of_given (λ field. is_wrong info.entity field ≡ false) op.fields (name, raw) (least_none (is_wrong info.entity) (wrong_second info.key op.second) op.fields none).1 given in
    let wrong : is_wrong info.entity (name, raw) ≡ true = ap is_kind fault in
    cc
wrong_kept info op none name (inr second) =
    let right = (least_none (is_wrong info.entity) (wrong_second info.key op.second) op.fields none).0 in cc

range_kept : (info : EntityInfo) (op : RawOp) → least_beyond info.entity op.fields ≡ None → IsKept (IsOutOfRange info op)
range_kept info op none name (value, (raw, given, fault)) =
    let within = of_given (λ field. value_beyond (fault_at info.entity field) ≡ None) op.fields (name, raw) (beyond_none info.entity None op.fields none).1 given in
    let beyond : value_beyond (fault_at info.entity (name, raw)) ≡ Some value = ap value_beyond fault in
    cc

least_unknown : (info : EntityInfo) (op : RawOp) (name : List ℕ) → least_name (is_unknown info.entity) None op.fields ≡ Some name → IsLeastPlace (IsUnknownPlace info op) name
least_unknown info op name is =
    let all = chosen (is_unknown info.entity) None op.fields name is in
    record {
      breaks = elim all.from [ inl first ↦ cc | inr (raw, given, broken) ↦ (raw, given, none_is _ broken) ];
      least = λ other (raw, given, missing) lower.
          let over = of_given (λ field. is_unknown info.entity field ≡ true → below field.0 name ≡ false) op.fields (other, raw) all.fields_least given (ap is_none missing) in
          cc;
    }

least_wrong : (info : EntityInfo) (op : RawOp) (name : List ℕ) → least_name (is_wrong info.entity) (wrong_second info.key op.second) op.fields ≡ Some name → IsLeastPlace (IsWrongPlace info op) name
least_wrong info op name is =
    let all = chosen (is_wrong info.entity) (wrong_second info.key op.second) op.fields name is in
    record {
      breaks = elim all.from [ inl first ↦ inr first | inr (raw, given, broken) ↦ inl (raw, given, kind_is _ broken) ];
      least = λ other place lower. elim place [
        | inl (raw, given, fault) ↦
            let over = of_given (λ field. is_wrong info.entity field ≡ true → below field.0 name ≡ false) op.fields (other, raw) all.fields_least given (ap is_kind fault) in
            cc
        | inr second ↦ let over = all.first_least other second in cc
      ];
    }

least_out : (info : EntityInfo) (op : RawOp) (place : List ℕ × ℤ) → least_beyond info.entity op.fields ≡ Some place → IsLeastPlace (IsOutOfRange info op) place.0 × IsBeyondPlace info op place.0 place.1
least_out info op place is =
    let name : least_name (is_beyond info.entity) None op.fields ≡ Some place.0 = sym (name_of-least info.entity None op.fields) ∙ ap name_of is in
    let all = chosen (is_beyond info.entity) None op.fields place.0 name in
    let here : IsBeyondPlace info op place.0 place.1 = elim (beyond_given info.entity None op.fields place is) [ inl first ↦ cc | inr (raw, given, beyond) ↦ (raw, given, beyond_is _ _ beyond) ] in (
      record {
        breaks = (place.1, here);
        least = λ other (value, (raw, given, fault)) lower.
            let over = of_given (λ field. is_beyond info.entity field ≡ true → below field.0 place.0 ≡ false) op.fields (other, raw) all.fields_least given (ap (λ found. is_some (value_beyond found)) fault) in
            cc;
      },
      here,
    )

-- ---- the first broken rule

mapped : {X : Type 0} (rule : X → Broken) (found : Option X) (broken : Broken) → option_map rule found ≡ Some broken → (x : X) × (found ≡ Some x) × (rule x ≡ broken)
mapped rule None broken is = cc
mapped rule (Some x) broken is = (x, refl, cc)

first_of : (first second third : Option Broken) (broken : Broken) → or_else first (or_else second third) ≡ Some broken → (first ≡ Some broken) ⊎ (((first ≡ None) × (second ≡ Some broken)) ⊎ ((first ≡ None) × (second ≡ None) × (third ≡ Some broken)))
first_of (Some first) second third broken is = inl is
first_of None (Some second) third broken is = inr (inl (refl, is))
first_of None None third broken is = inr (inr (refl, refl, is))

refused_first : (info : EntityInfo) (op : RawOp) (broken : Broken) → refusal info op ≡ Some broken → IsFirstBroken (Some info) op broken
unfolding refusal
refused_first info op broken is =
    elim (first_of (unknown_field info.entity op.fields) (wrong_kind info op.second op.fields) (out_of_range info.entity op.fields) broken is) [
      | inl unknown ↦
          let (name, found, same) = mapped B.UnknownField _ broken unknown in
          subst (IsFirstBroken (Some info) op) same (least_unknown info op name found)
      | inr (inl (unknown, wrong)) ↦
          let (name, found, same) = mapped B.WrongKind _ broken wrong in
          subst (IsFirstBroken (Some info) op) same (unknown_kept info op (unmapped B.UnknownField _ unknown), least_wrong info op name found)
      | inr (inr (unknown, wrong, beyond)) ↦
          let (place, found, same) = mapped (λ (p : List ℕ × ℤ). B.OutOfRange p.0 p.1) _ broken beyond in
          let least = least_out info op place found in
          subst (IsFirstBroken (Some info) op) same (unknown_kept info op (unmapped B.UnknownField _ unknown), wrong_kept info op (unmapped B.WrongKind _ wrong), least.0, least.1)
    ]

rules_kept : (info : EntityInfo) (op : RawOp) → refusal info op ≡ None → IsUnbroken (Some info) op
unfolding refusal
rules_kept info op none =
    let rules = none_of _ _ _ none in
    (unknown_kept info op (unmapped B.UnknownField _ rules.0), wrong_kept info op (unmapped B.WrongKind _ rules.1), range_kept info op (unmapped (λ (p : List ℕ × ℤ). B.OutOfRange p.0 p.1) _ rules.2))

-- an operation on what operations may write keeps each rule, where no rule refuses it
pub keeps_rules : (info : EntityInfo) (op : RawOp) → written_by op.entity ≡ Some info → refusal info op ≡ None → KeepsRules op
keeps_rules info op line none = subst (λ of. IsUnbroken of op) (sym line) (rules_kept info op none)

-- and otherwise the refusal is by the first that it breaks
pub names_first : (info : EntityInfo) (op : RawOp) (broken : Broken) (fault : PlanFault) → written_by op.entity ≡ Some info → refusal info op ≡ Some broken → fault ≡ F.Refused (record { op = 0; broken = broken }) → NamesFirst op fault
names_first info op broken fault line is same =
    subst (NamesFirst op) (sym same) (subst (λ of. IsFirstBroken of op broken) (sym line) (refused_first info op broken is))

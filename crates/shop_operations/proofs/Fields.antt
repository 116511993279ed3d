-- What a row's fields are after one is put, taken out, given or filled.
use Rattle.std.proofs.Common.{◌≡◌, ℕ, ◌+◌, ◌<◌, Bool, true, false, List, [], ◌∷◌, refl, sym, ap, subst, ◌∙◌, Option, Some, None, if◌then◌else◌, cond, nat_eq, arith}
use Rattle.std.specs.Prelude.{◌==◌, is_some}
use Rattle.std.specs.List.{fold, list_any, AllByRecursion}
use Rattle.std.specs.Option.{option_and_then, option_or}
use Rattle.std.specs.declared.cmp.Ordering.{Ordering}
use Rattle.std.specs.declared.cmp.Ordering.TheVariants.{Less, Equal, Greater}
use Rattle.std.specs.Ordering.{nat_cmp, match_ordering, is_eq}
use Rattle.std.proofs.lemmas.Cmp.{ranked, nat_cmp_total}
use Rattle.std.proofs.lemmas.Bool.{and_parts, or_parts, eqb-true, eq-eqb, false≢true}
use Rattle.keyed.specs.Keyed.{Ascends, put, without}
use Rattle.keyed.proofs.Changes.{ascends_put, ascends_without}
use Rattle.shop_defs.specs.declared.table.FieldInfo.{FieldInfo}
use Rattle.shop_defs.specs.declared.value.Value.{Value}
use Rattle.shop_defs.specs.Presets.{preset_of}
use Rattle.shop_defs.specs.Rows.{field_in}
use Rattle.shop_defs.specs.Tables.{fields_of, number_in}
use Rattle.shop_defs.proofs.TableLaws.{counts_from}
use Rattle.shop_defs.proofs.EachLine.{numbered}
use Rattle.shop_operations.specs.Outcomes.{later, given_for, preset_at, HasFieldsOnce, RowsTakeWhatIsGiven}
use Rattle.shop_operations.specs.Upserts.{field_number, give, fill, given_to}

same_number : (a b : ℕ) → nat_cmp a b ≡ Equal → a ≡ b
same_number a b e = ranked a b Equal (sym e)

no_some : {A : Type 0} (x : A) → None ≡ Some x → ⊥
no_some x e = false≢true (ap is_some e)

-- ---- a field that is put or taken out

pub put_other : (fields : List (ℕ × Value)) (number at : ℕ) (value : Value) → nat_eq at number ≡ false → field_in (put nat_cmp field_number fields (at, value)) number ≡ field_in fields number
put_other [] number at value e = rw e refl
put_other (x ∷ xs) number at value e = by (put_other xs number at value e) (nat_cmp x.0 at) refl
  where
    by : field_in (put nat_cmp field_number xs (at, value)) number ≡ field_in xs number → (o : Ordering) → nat_cmp x.0 at ≡ o → field_in (match_ordering o (x ∷ put nat_cmp field_number xs (at, value)) ((at, value) ∷ xs) ((at, value) ∷ x ∷ xs)) number ≡ field_in (x ∷ xs) number
    by more Less f = rw more refl
    by more Equal f = rw (e, same_number x.0 at f, e) refl
    by more Greater f = rw e refl

pub put_same : (fields : List (ℕ × Value)) (at : ℕ) (value : Value) → field_in (put nat_cmp field_number fields (at, value)) at ≡ Some value
put_same [] at value = rw (eq-eqb at at refl) refl
put_same (x ∷ xs) at value = by (put_same xs at value) (nat_cmp x.0 at) refl
  where
    own : nat_eq at at ≡ true
    own = eq-eqb at at refl

    by : field_in (put nat_cmp field_number xs (at, value)) at ≡ Some value → (o : Ordering) → nat_cmp x.0 at ≡ o → field_in (match_ordering o (x ∷ put nat_cmp field_number xs (at, value)) ((at, value) ∷ xs) ((at, value) ∷ x ∷ xs)) at ≡ Some value
    by more Less f = other (nat_eq x.0 at) refl
      where
        other : (b : Bool) → nat_eq x.0 at ≡ b → (if b then Some x.1 else field_in (put nat_cmp field_number xs (at, value)) at) ≡ Some value
        other true e = absurd (omega (arith, eqb-true x.0 at e, ranked x.0 at Less (sym f)))
        other false e = more
    by more Equal f = rw own refl
    by more Greater f = rw own refl

pub without_other : (fields : List (ℕ × Value)) (number at : ℕ) → nat_eq at number ≡ false → field_in (without nat_cmp field_number fields at) number ≡ field_in fields number
without_other [] number at e = refl
without_other (x ∷ xs) number at e = by (without_other xs number at e) (nat_cmp x.0 at) refl
  where
    by : field_in (without nat_cmp field_number xs at) number ≡ field_in xs number → (o : Ordering) → nat_cmp x.0 at ≡ o → field_in (if is_eq o then xs else x ∷ without nat_cmp field_number xs at) number ≡ field_in (x ∷ xs) number
    by more Less f = rw more refl
    by more Equal f = rw (same_number x.0 at f, e) refl
    by more Greater f = rw more refl

-- what isn't there isn't there when another is taken out
pub without_none : (fields : List (ℕ × Value)) (number at : ℕ) → field_in fields number ≡ None → field_in (without nat_cmp field_number fields at) number ≡ None
without_none [] number at e = refl
without_none (x ∷ xs) number at e = by (without_none xs number at) (nat_eq x.0 number) refl (is_eq (nat_cmp x.0 at)) e
  where
    by : (field_in xs number ≡ None → field_in (without nat_cmp field_number xs at) number ≡ None) → (b : Bool) → nat_eq x.0 number ≡ b → (c : Bool) → (if b then Some x.1 else field_in xs number) ≡ None → field_in (if c then xs else x ∷ without nat_cmp field_number xs at) number ≡ None
    by more true f c g = absurd (no_some x.1 (sym g))
    by more false f true g = g
    by more false f false g = rw f (more g)

-- what stands above a number doesn't have it
none_above : (fields : List (ℕ × Value)) (at : ℕ) → AllByRecursion (λ field. nat_cmp at (field_number field) ≡ Less) fields → field_in fields at ≡ None
none_above [] at all = refl
none_above (x ∷ xs) at all = by (none_above xs at all.1) (nat_eq x.0 at) refl
  where
    by : field_in xs at ≡ None → (b : Bool) → nat_eq x.0 at ≡ b → (if b then Some x.1 else field_in xs at) ≡ None
    by more true e = absurd (omega (arith, eqb-true x.0 at e, ranked at x.0 Less (sym all.0)))
    by more false e = more

-- a field that stands once is gone when it is taken out
without_same : (fields : List (ℕ × Value)) (at : ℕ) → Ascends nat_cmp field_number fields → field_in (without nat_cmp field_number fields at) at ≡ None
without_same [] at up = refl
without_same (x ∷ xs) at up = by (without_same xs at up.1) (nat_cmp x.0 at) refl
  where
    by : field_in (without nat_cmp field_number xs at) at ≡ None → (o : Ordering) → nat_cmp x.0 at ≡ o → field_in (if is_eq o then xs else x ∷ without nat_cmp field_number xs at) at ≡ None
    by more Less f = other (nat_eq x.0 at) refl
      where
        other : (b : Bool) → nat_eq x.0 at ≡ b → (if b then Some x.1 else field_in (without nat_cmp field_number xs at) at) ≡ None
        other true e = absurd (omega (arith, eqb-true x.0 at e, ranked x.0 at Less (sym f)))
        other false e = more
    by more Equal f = subst (λ n. field_in xs n ≡ None) (same_number x.0 at f) (none_above xs x.0 up.0)
    by more Greater f = other (nat_eq x.0 at) refl
      where
        other : (b : Bool) → nat_eq x.0 at ≡ b → (if b then Some x.1 else field_in (without nat_cmp field_number xs at) at) ≡ None
        other true e = absurd (omega (arith, eqb-true x.0 at e, ranked x.0 at Greater (sym f)))
        other false e = more

-- ---- a field that is given

pub give_other : (fields : List (ℕ × Value)) (number at : ℕ) (value : Option Value) → nat_eq at number ≡ false → field_in (give fields (at, value)) number ≡ field_in fields number
give_other fields number at None e = without_other fields number at e
give_other fields number at (Some value) e = put_other fields number at value e

-- a field that isn't given is as it was
pub given_other : (entries : List (ℕ × Option Value)) (fields : List (ℕ × Value)) (number : ℕ) → list_any (λ entry. entry.0 == number) entries ≡ false → field_in (fold give fields entries) number ≡ field_in fields number
given_other [] fields number e = refl
given_other (entry ∷ rest) fields number e =
    let parts = or_parts (entry.0 == number) (list_any (λ x. x.0 == number) rest) e in
    given_other rest (give fields entry) number parts.1 ∙ give_other fields number entry.0 entry.1 parts.0

-- fields that stand once, by rising numbers, do so afterwards
give_rises : (fields : List (ℕ × Value)) (at : ℕ) (value : Option Value) → Ascends nat_cmp field_number fields → Ascends nat_cmp field_number (give fields (at, value))
give_rises fields at None up = ascends_without nat_cmp field_number nat_cmp_total fields at up
give_rises fields at (Some value) up = ascends_put nat_cmp field_number nat_cmp_total fields (at, value) up

pub given_rise : (entries : List (ℕ × Option Value)) (fields : List (ℕ × Value)) → Ascends nat_cmp field_number fields → Ascends nat_cmp field_number (fold give fields entries)
given_rise [] fields up = up
given_rise ((at, value) ∷ rest) fields up = given_rise rest (give fields (at, value)) (give_rises fields at value up)

fill_rises : (fields : List (ℕ × Value)) (info : FieldInfo) → Ascends nat_cmp field_number fields → Ascends nat_cmp field_number (fill fields info)
fill_rises fields info up = by (is_some (field_in fields info.number))
  where
    by : (b : Bool) → Ascends nat_cmp field_number (if b then fields else give fields (info.number, preset_of info))
    by true = up
    by false = give_rises fields info.number (preset_of info) up

pub filled_rise : (table : List FieldInfo) (fields : List (ℕ × Value)) → Ascends nat_cmp field_number fields → Ascends nat_cmp field_number (fold fill fields table)
filled_rise [] fields up = up
filled_rise (info ∷ rest) fields up = filled_rise rest (fill fields info) (fill_rises fields info up)

-- what a field holds after what was given for it, where it held `before` before; of null only where each field stands once
abbrev Holds : Type 0 → Option Value → Option (Option Value) → Option Value → Type 0
Holds Once before None now = now ≡ before
Holds Once before (Some None) now = Once → now ≡ None
Holds Once before (Some (Some value)) now = now ≡ Some value

given_holds : (Once : Type 0) (before : Option Value) (number : ℕ) (entries : List (ℕ × Option Value)) (fields : List (ℕ × Value)) (found : Option (Option Value)) → (Once → Ascends nat_cmp field_number fields)
    → Holds Once before found (field_in fields number) → Holds Once before (fold (later number) found entries) (field_in (fold give fields entries) number)
given_holds Once before number [] fields found up holds = holds
given_holds Once before number ((at, value) ∷ rest) fields found up holds =
    given_holds Once before number rest (give fields (at, value)) (later number found (at, value)) (λ once. give_rises fields at value (up once)) (by (nat_eq at number) refl)
  where
    own : (value : Option Value) → at ≡ number → Holds Once before (Some value) (field_in (give fields (at, value)) number)
    own None same = λ once. subst (λ n. field_in (give fields (at, None)) n ≡ None) same (without_same fields at (up once))
    own (Some given) same = subst (λ n. field_in (give fields (at, Some given)) n ≡ Some given) same (put_same fields at given)

    by : (b : Bool) → nat_eq at number ≡ b → Holds Once before (if b then Some value else found) (field_in (give fields (at, value)) number)
    by true e = own value (eqb-true at number e)
    by false e = subst (λ now. Holds Once before found now) (sym (give_other fields number at value e)) holds

-- ---- presets

none_later : (first number : ℕ) (table : List FieldInfo) → number < first → counts_from first table ≡ true → number_in table number ≡ None
none_later first number [] less counts = refl
none_later first number (info ∷ rest) less counts = by (none_later (first + 1) number rest (omega arith) (and_parts (info.number == first) _ counts).1) (nat_eq info.number number) refl
  where
    parts : (info.number == first) ≡ true
    parts = (and_parts _ _ counts).0

    by : number_in rest number ≡ None → (b : Bool) → nat_eq info.number number ≡ b → cond b (Some info) (number_in rest number) ≡ None
    by more true e = absurd (omega (arith, eqb-true info.number number e, eqb-true info.number first parts))
    by more false e = more

fill_other : (fields : List (ℕ × Value)) (info : FieldInfo) (number : ℕ) → nat_eq info.number number ≡ false → field_in (fill fields info) number ≡ field_in fields number
fill_other fields info number e = by (is_some (field_in fields info.number))
  where
    by : (b : Bool) → field_in (if b then fields else give fields (info.number, preset_of info)) number ≡ field_in fields number
    by true = refl
    by false = give_other fields number info.number (preset_of info) e

give_none : (fields : List (ℕ × Value)) (at : ℕ) (value : Option Value) → field_in fields at ≡ None → field_in (give fields (at, value)) at ≡ value
give_none fields at None none = without_none fields at at none
give_none fields at (Some value) none = put_same fields at value

fill_same : (fields : List (ℕ × Value)) (info : FieldInfo) → field_in (fill fields info) info.number ≡ option_or (field_in fields info.number) (preset_of info)
fill_same fields info = by (field_in fields info.number) refl
  where
    by : (now : Option Value) → field_in fields info.number ≡ now → field_in (if is_some now then fields else give fields (info.number, preset_of info)) info.number ≡ option_or now (preset_of info)
    by None e = give_none fields info.number (preset_of info) e
    by (Some value) e = e

or_none : (value : Option Value) → option_or value None ≡ value
or_none None = refl
or_none (Some value) = refl

-- a field that is null after all is given has its preset
filled : (first number : ℕ) (table : List FieldInfo) (fields : List (ℕ × Value)) → counts_from first table ≡ true → field_in (fold fill fields table) number ≡ option_or (field_in fields number) (option_and_then preset_of (number_in table number))
filled first number [] fields counts = sym (or_none (field_in fields number))
filled first number (info ∷ rest) fields counts = filled (first + 1) number rest (fill fields info) parts.1 ∙ by (nat_eq info.number number) refl
  where
    parts : ((info.number == first) ≡ true) × (counts_from (first + 1) rest ≡ true)
    parts = and_parts (info.number == first) (counts_from (first + 1) rest) counts

    by : (b : Bool) → nat_eq info.number number ≡ b → option_or (field_in (fill fields info) number) (option_and_then preset_of (number_in rest number)) ≡ option_or (field_in fields number) (option_and_then preset_of (cond b (Some info) (number_in rest number)))
    by true e =
        let same : info.number ≡ number = eqb-true info.number number e in
        let none : number_in rest number ≡ None = none_later (first + 1) number rest (omega (arith, same, eqb-true info.number first parts.0)) parts.1 in
        ap (λ (line : Option FieldInfo). option_or (field_in (fill fields info) number) (option_and_then preset_of line)) none
        ∙ (or_none (field_in (fill fields info) number) ∙ subst (λ n. field_in (fill fields info) n ≡ option_or (field_in fields n) (preset_of info)) same (fill_same fields info))
    by false e = ap (λ now. option_or now (option_and_then preset_of (number_in rest number))) (fill_other fields info number e)

-- ---- the row that an upsert leaves

pub rows_take_what_is_given : RowsTakeWhatIsGiven
rows_take_what_is_given op row = record { value = has_value; null = has_null; other = has_other; once = has_once; key = refl; ops = refl }
  where
    given : List (ℕ × Value)
    given = fold give row.fields op.fields

    after : (number : ℕ) → field_in (fold fill (fold give row.fields op.fields) (fields_of row.key.entity)) number ≡ option_or (field_in (fold give row.fields op.fields) number) (preset_at row.key.entity number)
    after number = filled 1 number (fields_of row.key.entity) (fold give row.fields op.fields) (numbered row.key.entity)

    holds : (number : ℕ) (found : Option (Option Value)) → given_for op number ≡ found → Holds (HasFieldsOnce row) (field_in row.fields number) found (field_in (fold give row.fields op.fields) number)
    holds number found e = subst (λ f. Holds (HasFieldsOnce row) (field_in row.fields number) f (field_in (fold give row.fields op.fields) number)) e (given_holds (HasFieldsOnce row) (field_in row.fields number) number op.fields row.fields None (λ once. once) refl)

    has_value : (number : ℕ) (value : Value) → given_for op number ≡ Some (Some value) → field_in (given_to row op).fields number ≡ Some value
    has_value number value e = after number ∙ ap (λ now. option_or now (preset_at row.key.entity number)) (holds number (Some (Some value)) e)

    has_null : HasFieldsOnce row → (number : ℕ) → given_for op number ≡ Some None → field_in (given_to row op).fields number ≡ preset_at row.key.entity number
    has_null once number e = after number ∙ ap (λ now. option_or now (preset_at row.key.entity number)) (holds number (Some None) e once)

    has_other : (number : ℕ) → given_for op number ≡ None → field_in (given_to row op).fields number ≡ option_or (field_in row.fields number) (preset_at row.key.entity number)
    has_other number e = after number ∙ ap (λ now. option_or now (preset_at row.key.entity number)) (holds number None e)

    has_once : HasFieldsOnce row → HasFieldsOnce (given_to row op)
    has_once once = filled_rise (fields_of row.key.entity) (fold give row.fields op.fields) (given_rise op.fields row.fields once)

-- The fields of an operation that is read ascend by their numbers.
use Rattle.std.proofs.Common.{◌≡◌, ℕ, ◌+◌, ◌<◌, true, false, Bool, List, [], ◌∷◌, Option, Some, None, refl, sym, arith}
use Rattle.std.specs.Prelude.{◌&&◌, ◌==◌}
use Rattle.std.specs.List.{AllByRecursion}
use Rattle.std.specs.Ordering.{nat_cmp}
use Rattle.std.specs.Cmp.{nat_cmp_is}
use Rattle.std.specs.declared.cmp.Ordering.TheVariants.{Less}
use Rattle.std.proofs.lemmas.Bool.{eqb-true}
use Rattle.keyed.specs.Keyed.{Ascends}
use Rattle.shop_defs.specs.declared.value.Value.{Value}
use Rattle.shop_requests.specs.declared.raw.Raw.{Raw}
use Rattle.shop_requests.specs.declared.raw.RawOp.{RawOp}
use Rattle.shop_defs.specs.declared.table.EntityInfo.{EntityInfo}
use Rattle.shop_defs.specs.declared.table.FieldInfo.{FieldInfo}
use Rattle.shop_defs.specs.Texts.{field_text}
use Rattle.shop_defs.specs.Tables.{fields_of}
use Rattle.shop_requests.specs.Operations.{Given, given, read_in, read}
use Rattle.shop_defs.proofs.TableLaws.{counts_from}
use Rattle.shop_defs.proofs.EachLine.{numbered}

-- a field by its number
abbrev pub number_of : ℕ × Option Value → ℕ
number_of field = field.0

-- both of two tests hold
both : (a b : Bool) → (a && b) ≡ true → (a ≡ true) × (b ≡ true)
both true b h = (refl, h)
both false b h = cc

-- what is read of a table that counts from a number above k has numbers above k
above : (k first : ℕ) (table : List FieldInfo) (fields : List Given) → k < first → counts_from first table ≡ true → AllByRecursion (λ field. nat_cmp k (number_of field) ≡ Less) (read_in table fields)
above k first [] fields over counts = tt
above k first (line ∷ rest) fields over counts =
    let parts = both (line.number == first) (counts_from (first + 1) rest) counts in
    let more_over : k < first + 1 = omega arith in
    by (above k (first + 1) rest fields more_over parts.1) (eqb-true line.number first parts.0) (given fields (field_text line.name)) refl
  where
    by : AllByRecursion (λ field. nat_cmp k (number_of field) ≡ Less) (read_in rest fields) → line.number ≡ first → (raw : Option Raw) → given fields (field_text line.name) ≡ raw → AllByRecursion (λ field. nat_cmp k (number_of field) ≡ Less) (read_in (line ∷ rest) fields)
    by more is None e = rw e more
    by more is (Some raw) e =
        let over_line : k < line.number = rw is over in
        rw e (sym (nat_cmp_is k line.number Less over_line), more)

-- what is read of a table that counts up ascends
counted : (first : ℕ) (table : List FieldInfo) (fields : List Given) → counts_from first table ≡ true → Ascends nat_cmp number_of (read_in table fields)
counted first [] fields counts = tt
counted first (line ∷ rest) fields counts =
    let parts = both (line.number == first) (counts_from (first + 1) rest) counts in
    let is = eqb-true line.number first parts.0 in
    let over : line.number < first + 1 = omega arith in
    by (counted (first + 1) rest fields parts.1) (above line.number (first + 1) rest fields over parts.1) (given fields (field_text line.name)) refl
  where
    by : Ascends nat_cmp number_of (read_in rest fields) → AllByRecursion (λ field. nat_cmp line.number (number_of field) ≡ Less) (read_in rest fields) → (raw : Option Raw) → given fields (field_text line.name) ≡ raw → Ascends nat_cmp number_of (read_in (line ∷ rest) fields)
    by more below None e = rw e more
    by more below (Some raw) e = rw e (below, more)

-- the fields of an operation that is read ascend
pub read_ascends : (info : EntityInfo) (op : RawOp) → Ascends nat_cmp number_of (read info op).fields
unfolding read
read_ascends info op = counted 1 (fields_of info.entity) op.fields (numbered info.entity)

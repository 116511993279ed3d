-- Entries, one after the other: which fail a rule of their own, and which rows they give.
use Rattle.std.proofs.Common.{◌≡◌, ℕ, Bool, true, false, List, [], ◌∷◌, ◌++◌, Option, Some, None, refl, sym, ap, subst, ◌∙◌}
use Rattle.std.specs.Prelude.{◌&&◌}
use Rattle.std.specs.declared.cmp.Ordering.TheVariants.{Less}
use Rattle.std.specs.Ordering.{is_lt}
use Rattle.std.specs.List.{list_all, AllByRecursion}
use Rattle.std.proofs.lemmas.Bool.{and_parts}
use Rattle.closure.proofs.Members.{all_at, all_from}
use Rattle.shop_defs.specs.declared.key.Key.{Key}
use Rattle.shop_defs.specs.declared.op.Op.{Op}
use Rattle.shop_defs.specs.declared.row.Row.{Row}
use Rattle.shop_defs.specs.declared.value.Value.{Value}
use Rattle.shop_defs.specs.Fitting.{field_fits, has_needed, is_writable, row_key_fits}
use Rattle.shop_defs.specs.Keys.{key_cmp}
use Rattle.shop_defs.specs.Rows.{row_key, IsInKeyOrder}
use Rattle.shop_kept.specs.Readers.{◌>>=◌}
use Rattle.shop_kept.specs.Reading.{read_kept, row_parts}
use Rattle.shop_kept.specs.Spelling.{kept_row}
use Rattle.shop_kept.proofs.Rows.{nothing_else_is_read, spellings_are_read}
use Rattle.shop_operations.specs.References.{is_live}
use Rattle.shop_check.specs.declared.fault.Rule.{Rule}
use Rattle.shop_check.specs.declared.fault.CheckFault.{CheckFault}
use Rattle.shop_check.specs.declared.fault.CheckFault.TheVariants as F
use Rattle.shop_check.specs.Damage.{Damage, is_above, seen_from, seen, failed_rule, damage_or, first_damage_from, first_damage, last_key_from, AreUndamaged, TellsFault, FaultInWords, HoldBytes}
use Rattle.shop_check.specs.Found.{own_failed, own_damage, tried_from, first_among, earlier_or, are_formed}
use Rattle.shop_check.specs.Kinds.{passes_kind, is_of_its_kind, is_served, ops_fit}
use Rattle.shop_check.specs.Soundness.{Entry, kept, IsSoundRow}
use Rattle.shop_check.specs.Standing.{rule_failed_among}
use Rattle.shop_check.proofs.Orders.{AreAbove, in_order}

pub some_is : {X : Type 0} (x y : X) → Some x ≡ Some y → x ≡ y
some_is x y e = cc

-- what is read of an entry has its key
key_read : (key : Key) (bytes : List ℕ) (row : Row) → read_kept key bytes ≡ Some row → row.key ≡ key
key_read key bytes row e = by (row_parts bytes) e
  where
    by : (parts : Option (List (ℕ × Value) × List Op)) → (parts >>= λ p. Some (record { key = key; fields = p.0; ops = p.1 })) ≡ Some row → row.key ≡ key
    by None f = cc
    by (Some p) f = let same : record { key = key; fields = p.0; ops = p.1 } ≡ row = some_is _ _ f in sym (ap row_key same)

-- ---- the first damage

joined : (all tried : List Row) (at key : Key) (failed : Option Rule) (own whole : Option Damage) → key ≡ at → whole ≡ earlier_or (first_among all tried) own
    → damage_or at failed whole ≡ earlier_or (damage_or key failed (first_among all tried)) own
joined all tried at key (Some rule) own whole same rest = ap (λ (k : Key). Some (k, rule)) (sym same)
joined all tried at key None own whole same rest = rest

-- the first damage is that of a row that is tried, or else that of an entry by itself
pub first_is : (all : List Row) (before : Option Key) (entries : List Entry) → first_damage_from all before entries ≡ earlier_or (first_among all (tried_from before entries)) (own_damage before entries)
first_is all before [] = refl
first_is all before (entry ∷ entries) = by (first_is all (Some entry.0) entries) (is_above before entry.0) refl (read_kept entry.0 entry.1) refl
  where
    of_row : first_damage_from all (Some entry.0) entries ≡ earlier_or (first_among all (tried_from (Some entry.0) entries)) (own_damage (Some entry.0) entries) → is_above before entry.0 ≡ true → (row : Row) → read_kept entry.0 entry.1 ≡ Some row → (kind : Bool) → passes_kind row ≡ kind → (needed : Bool) → has_needed row ≡ needed
        → first_damage_from all before (entry ∷ entries) ≡ earlier_or (first_among all (tried_from before (entry ∷ entries))) (own_damage before (entry ∷ entries))
    of_row rest above row read false k needed n = rw (above, read, k) refl
    of_row rest above row read true k false n = rw (above, read, k, n) refl
    of_row rest above row read true k true n =
        rw (above, read, k, n)
        (joined all (tried_from (Some entry.0) entries) entry.0 row.key (rule_failed_among all row) (own_damage (Some entry.0) entries) (first_damage_from all (Some entry.0) entries) (key_read entry.0 entry.1 row read) rest)

    by : first_damage_from all (Some entry.0) entries ≡ earlier_or (first_among all (tried_from (Some entry.0) entries)) (own_damage (Some entry.0) entries) → (above : Bool) → is_above before entry.0 ≡ above → (read : Option Row) → read_kept entry.0 entry.1 ≡ read
        → first_damage_from all before (entry ∷ entries) ≡ earlier_or (first_among all (tried_from before (entry ∷ entries))) (own_damage before (entry ∷ entries))
    by rest false e read f = rw e refl
    by rest true e None f = rw (e, f) refl
    by rest true e (Some row) f = of_row rest e row f (passes_kind row) refl (has_needed row) refl

-- ---- entries of which none fails a rule of its own

-- an entry that fails no rule of its own
pub record IsOwnRow (before : Option Key) (entry : Entry) (row : Row) : Type 0 where
  pub above : is_above before entry.0 ≡ true
  pub read : read_kept entry.0 entry.1 ≡ Some row
  pub kind : passes_kind row ≡ true
  pub needed : has_needed row ≡ true

pub own_row : (before : Option Key) (entry : Entry) → own_failed before entry ≡ None → record { row : Row; is : IsOwnRow before entry row }
own_row before entry passes = by (is_above before entry.0) refl (read_kept entry.0 entry.1) refl
  where
    of_row : is_above before entry.0 ≡ true → (row : Row) → read_kept entry.0 entry.1 ≡ Some row → (kind : Bool) → passes_kind row ≡ kind → (needed : Bool) → has_needed row ≡ needed → record { row : Row; is : IsOwnRow before entry row }
    of_row above row read false k needed n = absurd (let e = rw (above, read, k) at passes in cc)
    of_row above row read true k false n = absurd (let e = rw (above, read, k, n) at passes in cc)
    of_row above row read true k true n = record { row = row; is = record { above = above; read = read; kind = k; needed = n } }

    by : (above : Bool) → is_above before entry.0 ≡ above → (read : Option Row) → read_kept entry.0 entry.1 ≡ read → record { row : Row; is : IsOwnRow before entry row }
    by false e read f = absurd (let g = rw e at passes in cc)
    by true e None f = absurd (let g = rw (e, f) at passes in cc)
    by true e (Some row) f = of_row e row f (passes_kind row) refl (has_needed row) refl

pub no_rule : (key : Key) (rule : Option Rule) (later : Option Damage) → damage_or key rule later ≡ None → (rule ≡ None) × (later ≡ None)
no_rule key None later e = (refl, e)
no_rule key (Some rule) later e = absurd cc

-- then the rows that rules see are those that are tried
pub seen_is_tried : (before : Option Key) (entries : List Entry) → own_damage before entries ≡ None → seen_from before entries ≡ tried_from before entries
seen_is_tried before [] none = refl
seen_is_tried before (entry ∷ entries) none =
    let n = no_rule entry.0 (own_failed before entry) (own_damage (Some entry.0) entries) none in
    let o = own_row before entry n.0 in
    rw (o.is.above, o.is.read, o.is.kind, o.is.needed) (ap (λ (rows : List Row). o.row ∷ rows) (seen_is_tried (Some entry.0) entries n.1))

-- and the entries are kept of them
pub record AreOwnRows (rows : List Row) (entries : List Entry) : Type 0 where
  pub sound : AllByRecursion IsSoundRow rows
  pub bytes : kept rows ≡ entries

pub tried_rows : (before : Option Key) (entries : List Entry) → HoldBytes entries → own_damage before entries ≡ None → AreOwnRows (tried_from before entries) entries
tried_rows before [] hold none = record { sound = tt; bytes = refl }
tried_rows before ((key, bytes) ∷ entries) hold none =
    let n = no_rule key (own_failed before (key, bytes)) (own_damage (Some key) entries) none in
    let o = own_row before (key, bytes) n.0 in
    let read = nothing_else_is_read key bytes o.row hold.0 o.is.read in
    let more = tried_rows (Some key) entries hold.1 n.1 in
    let same : (o.row.key, kept_row o.row) ≡ (key, bytes) = λ i. (read.0 i, read.2 i) in
    rw (o.is.above, o.is.read, o.is.kind, o.is.needed) (record {
      sound = (record { encoding = read.1; kind = o.is.kind; required = o.is.needed }, more.sound);
      bytes = λ i. same i ∷ more.bytes i;
    })

-- ---- the rows that are tried, and those that are seen

tried_above : (before : Option Key) (entries : List Entry) → AreAbove before (tried_from before entries)
tried_above before [] = tt
tried_above before (entry ∷ entries) = by (tried_above (Some entry.0) entries) (own_failed before entry) refl (read_kept entry.0 entry.1) refl
  where
    by : AreAbove (Some entry.0) (tried_from (Some entry.0) entries) → (failed : Option Rule) → own_failed before entry ≡ failed → (read : Option Row) → read_kept entry.0 entry.1 ≡ read → AreAbove before (tried_from before (entry ∷ entries))
    by more (Some rule) e read f = rw e tt
    by more None e None f = rw (e, f) tt
    by more None e (Some row) f =
        let key = key_read entry.0 entry.1 row f in
        let o = own_row before entry e in
        rw (e, f) (subst (λ (k : Key). is_above before k ≡ true) (sym key) o.is.above, subst (λ (k : Key). AreAbove (Some k) (tried_from (Some entry.0) entries)) (sym key) more)

-- the rows that are tried ascend by key
pub tried_in_order : (before : Option Key) (entries : List Entry) → IsInKeyOrder (tried_from before entries)
tried_in_order before entries = in_order before (tried_from before entries) (tried_above before entries)

-- the rows that rules see pass the rule `kind`
pub seen_of_kind : (before : Option Key) (entries : List Entry) → list_all passes_kind (seen_from before entries) ≡ true
seen_of_kind before [] = refl
seen_of_kind before (entry ∷ entries) = by (seen_of_kind (Some entry.0) entries) (is_above before entry.0) refl (read_kept entry.0 entry.1) refl
  where
    of_row : list_all passes_kind (seen_from (Some entry.0) entries) ≡ true → is_above before entry.0 ≡ true → (row : Row) → read_kept entry.0 entry.1 ≡ Some row → (kind : Bool) → passes_kind row ≡ kind → list_all passes_kind (seen_from before (entry ∷ entries)) ≡ true
    of_row more above row read false k = rw (above, read, k) more
    of_row more above row read true k = rw (above, read, k, k) more

    by : list_all passes_kind (seen_from (Some entry.0) entries) ≡ true → (above : Bool) → is_above before entry.0 ≡ above → (read : Option Row) → read_kept entry.0 entry.1 ≡ read → list_all passes_kind (seen_from before (entry ∷ entries)) ≡ true
    by more false e read f = rw e more
    by more true e None f = rw (e, f) more
    by more true e (Some row) f = of_row more e row f (passes_kind row) refl

-- a row that passes it has a key of its entity's form
pub kind_formed : (row : Row) → passes_kind row ≡ true → row_key_fits row.key ≡ true
kind_formed row kind = (and_parts (row_key_fits row.key) (list_all (field_fits row.key.entity) row.fields && ops_fit row) (and_parts (is_of_its_kind row) (is_served row) kind).0).0

-- and is live
pub kind_live : (row : Row) → passes_kind row ≡ true → is_live row ≡ true
kind_live row kind = (and_parts (is_live row) (is_writable row.key.entity) (and_parts (is_of_its_kind row) (is_served row) kind).1).0

pub rows_formed : (rows : List Row) → list_all passes_kind rows ≡ true → are_formed rows ≡ true
rows_formed rows kinds = all_from (λ row. row_key_fits row.key) rows (λ row i. kind_formed row (all_at passes_kind rows row kinds i))

pub seen_formed : (entries : List Entry) → are_formed (seen entries) ≡ true
seen_formed entries = rows_formed (seen entries) (seen_of_kind None entries)

pub tried_formed : (entries : List Entry) → own_damage None entries ≡ None → are_formed (tried_from None entries) ≡ true
tried_formed entries none = subst (λ (rows : List Row). are_formed rows ≡ true) (seen_is_tried None entries none) (seen_formed entries)

-- ---- what the check finds

earlier_or_none : (damage : Option Damage) → earlier_or damage None ≡ damage
earlier_or_none None = refl
earlier_or_none (Some damage) = refl

-- where no entry fails a rule of its own, the first damage is that of a row among all
pub damage_among : (entries : List Entry) → own_damage None entries ≡ None → first_among (tried_from None entries) (tried_from None entries) ≡ first_damage entries
unfolding first_damage
damage_among entries none =
    sym (
    first_is (seen entries) None entries
    ∙ (ap (earlier_or (first_among (seen entries) (tried_from None entries))) none
    ∙ (earlier_or_none _ ∙ ap (λ (all : List Row). first_among all (tried_from None entries)) (seen_is_tried None entries none)))
    )

-- and else that of a row that is tried before, or of that entry
pub damage_earlier : (entries : List Entry) (later : Damage) → own_damage None entries ≡ Some later → earlier_or (first_among (seen entries) (tried_from None entries)) (Some later) ≡ first_damage entries
unfolding first_damage
damage_earlier entries later fails = sym (first_is (seen entries) None entries ∙ ap (earlier_or (first_among (seen entries) (tried_from None entries))) fails)

pub tells_same : (answer other : Option Damage) → answer ≡ other → (fault : CheckFault) → TellsFault fault answer → TellsFault fault other
tells_same answer other same fault tells = subst (λ (damage : Option Damage). TellsFault fault damage) same tells

-- ---- the first damage, in words

-- an entry fails the rule, and those before it fail none
record IsFirstFrom (all : List Row) (before : Option Key) (entries : List Entry) (key : Key) (rule : Rule) : Type 0 where
  front : List Entry
  bytes : List ℕ
  rest : List Entry
  split : entries ≡ front ++ ((key, bytes) ∷ rest)
  undamaged : AreUndamaged all before front
  fails : failed_rule all (last_key_from before front) (key, bytes) ≡ Some rule

first_from : (all : List Row) (before : Option Key) (entries : List Entry) (key : Key) (rule : Rule) → first_damage_from all before entries ≡ Some (key, rule) → IsFirstFrom all before entries key rule
first_from all before [] key rule e = absurd cc
first_from all before ((at, bytes) ∷ entries) key rule e = by (first_from all (Some at) entries key rule) (failed_rule all before (at, bytes)) refl e
  where
    by : (first_damage_from all (Some at) entries ≡ Some (key, rule) → IsFirstFrom all (Some at) entries key rule) → (failed : Option Rule) → failed_rule all before (at, bytes) ≡ failed → damage_or at failed (first_damage_from all (Some at) entries) ≡ Some (key, rule)
        → IsFirstFrom all before ((at, bytes) ∷ entries) key rule
    by more None f e =
        let m = more e in
        record { front = (at, bytes) ∷ m.front; bytes = m.bytes; rest = m.rest; split = ap (λ (es : List Entry). (at, bytes) ∷ es) m.split; undamaged = (f, m.undamaged); fails = m.fails }
    by more (Some found) f e =
        let same : (at, found) ≡ (key, rule) = some_is (at, found) (key, rule) e in
        let key_same : at ≡ key = ap (λ (damage : Damage). damage.0) same in
        let rule_same : found ≡ rule = ap (λ (damage : Damage). damage.1) same in
        record {
          front = [];
          bytes = bytes;
          rest = entries;
          split = ap (λ (k : Key). (k, bytes) ∷ entries) key_same;
          undamaged = tt;
          fails = subst (λ (k : Key). failed_rule all before (k, bytes) ≡ Some rule) key_same (f ∙ ap Some rule_same);
        }

-- what a fault tells, it says in words
pub in_words : (entries : List Entry) (fault : CheckFault) → TellsFault fault (first_damage entries) → FaultInWords entries fault
unfolding first_damage
in_words entries F.NoMemory tells = tt
in_words entries (F.Damaged key rule) tells =
    let f = first_from (seen entries) None entries key rule tells in
    record { front = f.front; bytes = f.bytes; rest = f.rest; split = f.split; undamaged = f.undamaged; fails = f.fails }

-- ---- what is kept of sound rows

above_of : (key : Key) (rows : List Row) → AllByRecursion (λ row. key_cmp key (row_key row) ≡ Less) rows → AllByRecursion (λ row. is_above (Some key) row.key ≡ true) rows
above_of key [] all = tt
above_of key (row ∷ rows) all = (ap is_lt all.0, above_of key rows all.1)

above_none : (rows : List Row) → AllByRecursion (λ row. is_above None row.key ≡ true) rows
above_none [] = tt
above_none (row ∷ rows) = (refl, above_none rows)

seen_of_kept : (before : Option Key) (rows : List Row) → AllByRecursion (λ row. is_above before row.key ≡ true) rows → IsInKeyOrder rows → AllByRecursion IsSoundRow rows → seen_from before (kept rows) ≡ rows
seen_of_kept before [] above order sound = refl
seen_of_kept before (row ∷ rows) above order sound =
    rw (above.0, spellings_are_read row sound.0.encoding, sound.0.kind) (ap (λ (others : List Row). row ∷ others) (seen_of_kept (Some row.key) rows (above_of row.key rows order.0) order.1 sound.1))

-- the rows that rules see are those of which they are kept
pub seen_kept : (rows : List Row) → IsInKeyOrder rows → AllByRecursion IsSoundRow rows → seen (kept rows) ≡ rows
seen_kept rows order sound = seen_of_kept None rows (above_none rows) order sound

passes_from : (all : List Row) (before : Option Key) (rows : List Row) → AllByRecursion (λ row. is_above before row.key ≡ true) rows → IsInKeyOrder rows → AllByRecursion IsSoundRow rows → AllByRecursion (λ row. rule_failed_among all row ≡ None) rows
    → first_damage_from all before (kept rows) ≡ None
passes_from all before [] above order sound among = refl
passes_from all before (row ∷ rows) above order sound among =
    let none : failed_rule all before (row.key, kept_row row) ≡ None = rw (above.0, spellings_are_read row sound.0.encoding, sound.0.kind, sound.0.required) among.0 in
    rw none (passes_from all (Some row.key) rows (above_of row.key rows order.0) order.1 sound.1 among.1)

-- where no row fails a rule among them, nothing is damaged
pub passes_kept : (rows : List Row) → IsInKeyOrder rows → AllByRecursion IsSoundRow rows → AllByRecursion (λ row. rule_failed_among rows row ≡ None) rows → first_damage (kept rows) ≡ None
unfolding first_damage
passes_kept rows order sound among = rw (seen_kept rows order sound) (passes_from rows None rows (above_none rows) order sound among)

same_head : {X : Type 0} (x y : X) (xs ys : List X) → (x ∷ xs) ≡ (y ∷ ys) → x ≡ y
same_head x y xs ys e = cc

same_tail : {X : Type 0} (x y : X) (xs ys : List X) → (x ∷ xs) ≡ (y ∷ ys) → xs ≡ ys
same_tail x y xs ys e = cc

-- rows of which the same is kept are the same
pub kept_once : (rows others : List Row) → AllByRecursion IsSoundRow rows → AllByRecursion IsSoundRow others → kept rows ≡ kept others → rows ≡ others
kept_once [] [] sound more same = refl
kept_once [] (other ∷ others) sound more same = absurd cc
kept_once (row ∷ rows) [] sound more same = absurd cc
kept_once (row ∷ rows) (other ∷ others) sound more same =
    let heads : (row.key, kept_row row) ≡ (other.key, kept_row other) = same_head _ _ _ _ same in
    let first : read_kept row.key (kept_row row) ≡ read_kept other.key (kept_row other) = ap (λ (entry : Entry). read_kept entry.0 entry.1) heads in
    let is_same : row ≡ other = some_is row other (sym (spellings_are_read row sound.0.encoding) ∙ (first ∙ spellings_are_read other more.0.encoding)) in
    let are_same : rows ≡ others = kept_once rows others sound.1 more.1 (same_tail _ _ _ _ same) in
    λ i. is_same i ∷ are_same i

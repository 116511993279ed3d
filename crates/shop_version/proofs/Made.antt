-- What is put where a draft is made: its order, its changes, and how many rows there are then.
use Rattle.std.proofs.Common.{◌≡◌, ◌≢◌, ℕ, ◌+◌, ◌<◌, Bool, true, cond, nat_lt, List, [], ◌∷◌, ◌++◌, length, refl, sym, ap, subst, ◌∙◌, Option, Some, None, Result, Ok, Err, arith}
use Rattle.std.specs.Prelude.{filter, map, find, count_by, is_some, is_none, if◌then◌else◌}
use Rattle.std.specs.List.{AllByRecursion}
use Rattle.std.specs.Option.{option_and_then, option_map}
use Rattle.std.specs.Ordering.{nat_cmp, ordering_then, MatchOrdering}
use Rattle.std.specs.declared.cmp.Ordering.{Ordering}
use Rattle.std.specs.declared.cmp.Ordering.TheVariants.{Less, Equal, Greater}
use Rattle.std.proofs.lemmas.Bool.{and_parts, eq-eqb}
use Rattle.std.proofs.lemmas.Cmp.{ranked}
use Rattle.std.proofs.lemmas.List.Sums.{sum_by-cons}
use Rattle.keyed.specs.Keyed.{put}
use Rattle.keyed.proofs.Changes.{ascends_put, find_put}
use Rattle.closure.specs.Closure.{IsIn}
use Rattle.closure.proofs.Members.{Image, of_filter, of_map}
use Rattle.shop_defs.specs.declared.broken.Broken.{Broken}
use Rattle.shop_defs.specs.declared.broken.Broken.TheVariants as B
use Rattle.shop_defs.specs.declared.delta.Delta.{Delta}
use Rattle.shop_defs.specs.declared.entity.Entity.{Entity}
use Rattle.shop_defs.specs.declared.key.Key.{Key}
use Rattle.shop_defs.specs.declared.refused.PlanFault.{PlanFault}
use Rattle.shop_defs.specs.declared.refused.PlanFault.TheVariants as F
use Rattle.shop_defs.specs.declared.row.Row.{Row}
use Rattle.shop_defs.specs.declared.table.TheConstants.{MOST_ROWS}
use Rattle.shop_defs.specs.Entities.{entity_number}
use Rattle.shop_defs.specs.Joined.{Change}
use Rattle.shop_defs.specs.Keys.{key_cmp}
use Rattle.shop_defs.specs.Rows.{row_key, row_at, change_rows, IsInKeyOrder}
use Rattle.shop_defs.specs.Tables.{entity_named}
use Rattle.shop_defs.proofs.Keys.{key_cmp_total}
use Rattle.shop_operations.specs.Operations.{first, unless}
use Rattle.shop_operations.specs.References.{is_entity, is_live, live}
use Rattle.shop_operations.specs.Upserts.{count_of}
use Rattle.shop_rows.specs.Changing.{HasAscendingKeys, StandUnderTheirKeys}
use Rattle.shop_rows.specs.Lookups.{count_rows}
use Rattle.shop_soundness.proofs.Lists.{each_of, no_some}
use Rattle.shop_drafts.specs.Aggregates.{is_member, is_part, is_part_by}
use Rattle.shop_drafts.specs.Drafts.{draft_key, root_of, root_in}
use Rattle.shop_drafts.specs.Making.{with_rows, at_version, copies, new_draft, made, made_rows, make_draft, made_of, making_breaks, not_root, version_exists, no_such_root, too_many_made, root_key}
use Rattle.shop_drafts.specs.Soundness.{AreDrafted}
use Rattle.shop_drafts.specs.declared.aggregate.Member.{Member}
use Rattle.shop_drafts.specs.declared.aggregate.Root.{Root}
use Rattle.shop_drafts.specs.declared.aggregate.TheConstants.{MEMBERS}
use Rattle.shop_drafts.proofs.Apart.{AllLive, live_is, making}
use Rattle.shop_drafts.proofs.AtOnce.{at_once, not_there, nothing_was, second_none}
use Rattle.shop_drafts.proofs.Keys.{found_key}
use Rattle.shop_drafts.proofs.Shown.{nothing_else_changes}
use Rattle.shop_write.specs.Growth.{put_in}
use Rattle.shop_write.proofs.Counted.{count_put, weight}
use Rattle.shop_write.proofs.InOrder.{ascends_filter, all_filter, all_found}
use Rattle.shop_write.proofs.WrittenRows.{find_agree}
use Rattle.shop_version.specs.Laws.{MakeLeaves, LeavesMake}
use Rattle.shop_version.specs.Overlays.{rows_at}
use Rattle.shop_version.specs.Plans.{IsPlanOf, IsFaultOf, Plans, TellsCopies, copies_of}
use Rattle.shop_version.specs.Taking.{parts, is_crowded, Makes}
use Rattle.shop_version.proofs.Cut.{parts_are, entity_below}
use Rattle.shop_version.proofs.Found.{in_found}
use Rattle.shop_version.proofs.Kept.{below_drafts}
use Rattle.shop_version.proofs.Own.{members_rise, own_edited, part_member}
use Rattle.shop_version.proofs.OwnRows.{found_rows}

-- ---- rows put one after the other, as changes

pub puts_rows : (rows others : List Row) → change_rows rows (map put_in others) ≡ with_rows rows others
puts_rows rows [] = refl
puts_rows rows (row ∷ others) = puts_rows (put key_cmp row_key rows row) others

pub puts_ascend : (rows : List Row) → IsInKeyOrder rows → HasAscendingKeys (map put_in rows)
puts_ascend [] up = tt
puts_ascend (row ∷ rows) up = (heads rows up.0, puts_ascend rows up.1)
  where
    heads : (others : List Row) → AllByRecursion (λ other. key_cmp row.key (row_key other) ≡ Less) others → AllByRecursion (λ (change : Change). key_cmp row.key change.0 ≡ Less) (map put_in others)
    heads [] above = tt
    heads (other ∷ others) above = (above.0, heads others above.1)

pub puts_stand : (rows : List Row) → StandUnderTheirKeys (map put_in rows)
puts_stand [] = tt
puts_stand (row ∷ rows) = (refl, puts_stand rows)

-- ---- what is copied

member_fits : (root : Root) (row : Row) (member : Member) → is_member root row member ≡ true → is_entity member.entity row.key.entity ≡ true
member_fits root row member f = (and_parts _ _ (and_parts _ _ f).1).0

-- the rows at the keys that are found are those that the draft edits
pub copied_rows : (rows : List Row) (root : Root) (keys : List Key) → IsInKeyOrder rows → keys ≡ map row_key (parts (is_member root) MEMBERS (live rows)) → rows_at rows keys ≡ filter (is_part root) (live rows)
unfolding is_part_by
copied_rows rows root keys up e =
    let live_up : IsInKeyOrder (live rows) = ascends_filter key_cmp row_key key_cmp_total is_live rows up in
    let parts_is : filter (is_part root) (live rows) ≡ parts (is_member root) MEMBERS (live rows) = parts_are (is_member root) (member_fits root) MEMBERS 0 (live rows) live_up members_rise in
    ap (rows_at rows) (e ∙ ap (map row_key) (sym parts_is))
    ∙ found_rows rows (filter (is_part root) (live rows)) (all_filter (λ row. row_at rows row.key ≡ Some row) (is_part root) (live rows) (all_filter (λ row. row_at rows row.key ≡ Some row) is_live rows (all_found key_cmp row_key key_cmp_total rows up)))

-- ---- its order

nat_itself : (n : ℕ) → nat_cmp n n ≡ Equal
nat_itself n = by (nat_cmp n n) (ranked n n (nat_cmp n n) refl)
  where
    by : (o : Ordering) → MatchOrdering o (n < n) (n ≡ n) (n < n) → o ≡ Equal
    by Less m = absurd (omega arith)
    by Equal m = refl
    by Greater m = absurd (omega arith)

same_versions : (version a b : ℕ) → a ≡ 0 → b ≡ 0 → nat_cmp version version ≡ nat_cmp a b
same_versions version a b e f = rw (e, f) (nat_itself version)

same_order : (version : ℕ) (a b : Row) → a.key.version ≡ 0 → b.key.version ≡ 0 → key_cmp (at_version version a).key (at_version version b).key ≡ key_cmp a.key b.key
same_order version a b e f =
    ap (λ o. ordering_then (nat_cmp (entity_number a.key.entity) (entity_number b.key.entity)) (ordering_then o (ordering_then (nat_cmp a.key.id b.key.id) (nat_cmp a.key.second b.key.second))))
    (same_versions version a.key.version b.key.version e f)

moved_up : (version : ℕ) (rows : List Row) → AllLive rows → IsInKeyOrder rows → IsInKeyOrder (map (at_version version) rows)
moved_up version [] all up = tt
moved_up version (row ∷ rows) all up = (heads rows all.1 up.0, moved_up version rows all.1 up.1)
  where
    heads : (others : List Row) → AllLive others → AllByRecursion (λ other. key_cmp row.key (row_key other) ≡ Less) others → AllByRecursion (λ other. key_cmp (at_version version row).key (row_key other) ≡ Less) (map (at_version version) others)
    heads [] on above = tt
    heads (other ∷ others) on above = (same_order version row other all.0 on.0 ∙ above.0, heads others on.1 above.1)

up_end : (rows : List Row) (row : Row) → IsInKeyOrder rows → AllByRecursion (λ other. key_cmp (row_key other) row.key ≡ Less) rows → IsInKeyOrder (rows ++ row ∷ [])
up_end [] row up below = (tt, tt)
up_end (x ∷ rows) row up below = (heads rows up.0, up_end rows row up.1 below.1)
  where
    heads : (others : List Row) → AllByRecursion (λ other. key_cmp x.key (row_key other) ≡ Less) others → AllByRecursion (λ other. key_cmp x.key (row_key other) ≡ Less) (others ++ row ∷ [])
    heads [] above = (below.0, tt)
    heads (other ∷ others) above = (above.0, heads others above.1)

module _ (rows : List Row) (version : ℕ) (root : Root) where
  -- what holds of the parts of the root under the version, holds of the copies
  pub each_copy : (P : Row → Type 0) → ((row : Row) → IsIn row rows → is_part root row ≡ true → P (at_version version row)) → AllByRecursion P (copies rows version root)
  each_copy P holds = each_of P (copies rows version root) (λ copy i. by copy (of_map (at_version version) (filter (is_part root) (live rows)) copy i))
    where
      by : (copy : Row) → Image (at_version version) (filter (is_part root) (live rows)) copy → P copy
      by copy found =
          let part = of_filter (is_part root) (live rows) found.one found.is_in in
          subst P found.image (holds found.one (of_filter is_live rows found.one part.is_in).is_in part.passes)

  copies_up : IsInKeyOrder rows → IsInKeyOrder (copies rows version root)
  copies_up up =
      moved_up version (filter (is_part root) (live rows))
      (all_filter (λ row. row.key.version ≡ 0) (is_part root) (live rows) (live_is rows))
      (ascends_filter key_cmp row_key key_cmp_total (is_part root) (live rows) (ascends_filter key_cmp row_key key_cmp_total is_live rows up))

  pub made_up : IsInKeyOrder rows → IsInKeyOrder (made_rows rows version root)
  made_up up =
      up_end (copies rows version root) (new_draft version root) (copies_up up)
      (each_copy (λ other. key_cmp (row_key other) (draft_key version) ≡ Less) (λ row i part. entity_below (at_version version row).key (draft_key version) (below_drafts row (part_member root row part))))

  -- ---- none of it was there

  module _ (drafted : AreDrafted rows) (not_live : version ≢ 0) (none : row_at rows (draft_key version) ≡ None) where
    not_found : (key : Key) → key.version ≡ version → row_at rows key ≡ None
    not_found key e = by (row_at rows key) refl
      where
        by : (found : Option Row) → row_at rows key ≡ found → found ≡ None
        by None f = refl
        by (Some row) f =
            let is : row.key ≡ key = found_key rows key row f in
            let of : row.key.version ≡ version = ap (λ (k : Key). k.version) is ∙ e in
            let edited = own_edited rows version drafted not_live row (in_found rows key row f) (eq-eqb row.key.version version of) in
            let no : root_in rows row.key.version ≡ None = ap (λ v. root_in rows v) of ∙ ap (option_and_then root_of) none in
            absurd (no_some edited.root (sym no ∙ edited.is_root))

    pub made_fresh : AllByRecursion (λ row. row_at rows row.key ≡ None) (made_rows rows version root)
    made_fresh = and_end (copies rows version root) (each_copy (λ row. row_at rows row.key ≡ None) (λ row i part. not_found (at_version version row).key refl)) none
      where
        and_end : (others : List Row) → AllByRecursion (λ row. row_at rows row.key ≡ None) others → row_at rows (draft_key version) ≡ None → AllByRecursion (λ row. row_at rows row.key ≡ None) (others ++ new_draft version root ∷ [])
        and_end [] all e = (e, tt)
        and_end (x ∷ others) all e = (all.0, and_end others all.1 e)

-- ---- how many rows there are then

still_fresh : (rows others : List Row) (row : Row) → AllByRecursion (λ other. key_cmp row.key (row_key other) ≡ Less) others → AllByRecursion (λ other. row_at rows other.key ≡ None) others → AllByRecursion (λ other. row_at (put key_cmp row_key rows row) other.key ≡ None) others
still_fresh rows [] row above fresh = tt
still_fresh rows (other ∷ others) row above fresh = (
  find_put key_cmp row_key key_cmp_total rows row other.key ∙ rw above.0 fresh.0,
  still_fresh rows others row above.1 fresh.1,
)

pub count_with : (p : Row → Bool) (others rows : List Row) → IsInKeyOrder rows → IsInKeyOrder others → AllByRecursion (λ other. row_at rows other.key ≡ None) others → count_by p (with_rows rows others) ≡ count_by p rows + count_by p others
count_with p [] rows up on fresh = let zero_of : count_by p [] ≡ 0 = refl in omega arith
count_with p (row ∷ others) rows up on fresh =
    let more = count_with p others (put key_cmp row_key rows row) (ascends_put key_cmp row_key key_cmp_total rows row up) on.1 (still_fresh rows others row on.0 fresh.1) in
    let one : count_by p (put key_cmp row_key rows row) + weight p (row_at rows row.key) ≡ count_by p rows + cond (p row) 1 0 = count_put key_cmp row_key key_cmp_total p rows row up in
    let none : weight p (row_at rows row.key) ≡ 0 = ap (weight p) fresh.0 in
    let head : count_by p (row ∷ others) ≡ cond (p row) 1 0 + count_by p others = sum_by-cons (λ y. cond (p y) 1 0) row others in
    omega arith

module _ (rows : List Row) (version : ℕ) (root : Root) (drafted : AreDrafted rows) (not_live : version ≢ 0) (none : row_at rows (draft_key version) ≡ None) where
  crowded : (entity : Entity) → is_crowded rows (made_rows rows version root) entity ≡ nat_lt MOST_ROWS (count_of (λ entity. 0) (made rows version root) entity)
  unfolding made is_crowded
  crowded entity =
      let e = count_with (λ row. is_entity entity row.key.entity) (made_rows rows version root) rows drafted.in_order (made_up rows version root drafted.in_order) (made_fresh rows version root drafted not_live none) in
      let same : count_rows rows entity + count_rows (made_rows rows version root) entity ≡ count_rows (with_rows rows (made_rows rows version root)) entity + 0 = omega arith in
      ap (nat_lt MOST_ROWS) same

  -- the rule on how many rows there may be
  pub too_many_is : option_map (λ row. B.TooMany row.key.entity MOST_ROWS) (find (λ row. is_crowded rows (made_rows rows version root) row.key.entity) (made_rows rows version root)) ≡ too_many_made rows version root
  too_many_is =
      ap (option_map (λ (row : Row). B.TooMany row.key.entity MOST_ROWS))
      (find_agree (λ row. is_crowded rows (made_rows rows version root) row.key.entity) (λ row. nat_lt MOST_ROWS (count_of (λ entity. 0) (made rows version root) row.key.entity)) (made_rows rows version root) (λ row i. crowded row.key.entity))

-- ---- what is answered

three_first : (a b c d : Option Broken) → first (a ∷ b ∷ c ∷ []) ≡ None → first (a ∷ b ∷ c ∷ d ∷ []) ≡ d
three_first None None None None e = refl
three_first None None None (Some broken) e = refl
three_first (Some broken) b c d e = cc
three_first None (Some broken) c d e = cc
three_first None None (Some broken) d e = cc

three_broken : (a b c d : Option Broken) (broken : Broken) → Some broken ≡ first (a ∷ b ∷ c ∷ []) → first (a ∷ b ∷ c ∷ d ∷ []) ≡ Some broken
three_broken (Some x) b c d broken e = sym e
three_broken None (Some x) c d broken e = sym e
three_broken None None (Some x) d broken e = sym e
three_broken None None None d broken e = cc

no_draft_there : (rows : List Row) (version : ℕ) (root : Root) → first (not_root root ∷ version_exists rows version ∷ no_such_root rows root ∷ []) ≡ None → row_at rows (draft_key version) ≡ None
no_draft_there rows version root e = not_there version (row_at rows (draft_key version)) (second_none (not_root root) (version_exists rows version) (no_such_root rows root ∷ []) e)

pub root_there : (rows : List Row) (version : ℕ) (root : Root) → first (not_root root ∷ version_exists rows version ∷ no_such_root rows root ∷ []) ≡ None → is_some (row_at rows (root_key root)) ≡ true
root_there rows version root e = by (not_root root) (version_exists rows version) (row_at rows (root_key root)) e
  where
    by : (a b : Option Broken) (found : Option Row) → first (a ∷ b ∷ (if is_none found then Some (B.NoSuchRow (root_key root)) else None) ∷ []) ≡ None → is_some found ≡ true
    by a b (Some row) f = refl
    by None None None f = cc
    by (Some x) b None f = cc
    by None (Some x) None f = cc

pub makes_refused : (rows : List Row) (version : ℕ) (root : Root) (broken : Broken) (fault : PlanFault) → Some broken ≡ first (not_root root ∷ version_exists rows version ∷ no_such_root rows root ∷ []) → fault ≡ F.Refused (record { op = 0; broken = broken })
    → IsFaultOf (unless (made rows version root) (making_breaks rows version root)) fault
makes_refused rows version root broken fault e f =
    subst (IsFaultOf (unless (made rows version root) (making_breaks rows version root))) (sym f)
    (refl, ap (unless (made rows version root)) (three_broken (not_root root) (version_exists rows version) (no_such_root rows root) (too_many_made rows version root) broken e))

module _ (rows : List Row) (version : ℕ) (root : Root) (drafted : AreDrafted rows) (not_live : version ≢ 0) (unbroken : first (not_root root ∷ version_exists rows version ∷ no_such_root rows root ∷ []) ≡ None) (found : Option Broken)
    (is : found ≡ option_map (λ row. B.TooMany row.key.entity MOST_ROWS) (find (λ row. is_crowded rows (made_rows rows version root) row.key.entity) (made_rows rows version root))) where
  pub breaks_is : making_breaks rows version root ≡ found
  breaks_is =
      three_first (not_root root) (version_exists rows version) (no_such_root rows root) (too_many_made rows version root) unbroken
      ∙ sym (is ∙ too_many_is rows version root drafted not_live (no_draft_there rows version root unbroken))

pub makes_crowded : (rows : List Row) (version : ℕ) (root : Root) (broken : Broken) (fault : PlanFault) → making_breaks rows version root ≡ Some broken → fault ≡ F.Refused (record { op = 0; broken = broken })
    → IsFaultOf (unless (made rows version root) (making_breaks rows version root)) fault
makes_crowded rows version root broken fault e f = subst (IsFaultOf (unless (made rows version root) (making_breaks rows version root))) (sym f) (refl, ap (unless (made rows version root)) e)

-- ---- what making answers

length_end : {X : Type 0} (xs : List X) (x : X) → length (xs ++ x ∷ []) ≡ length xs + 1
length_end [] x = refl
length_end (y ∷ xs) x = let more = length_end xs x in omega arith

length_puts : (rows : List Row) → length (map put_in rows) ≡ length rows
length_puts [] = refl
length_puts (row ∷ rows) = let more = length_puts rows in omega arith

module _ (rows : List Row) (version : ℕ) (name : List ℕ) (id : ℕ) (drafted : AreDrafted rows) (not_live : version ≢ 0) where
  pub make_leaves : (after : List Row) → make_draft rows version name id ≡ Ok after → MakeLeaves rows after version
  make_leaves after e =
      let once = at_once rows after version name id drafted.in_order drafted.passes not_live e in
      record {
        rest = making rows after version name id e ∙ nothing_was rows after version name id drafted.passes not_live e;
        shows = nothing_else_changes.made_shows rows after version name id drafted.in_order not_live e;
        at_once = once;
      }

-- of the root that is found by the entity's name
module _ (rows : List Row) (version : ℕ) (name : List ℕ) (id : ℕ) (entity : Entity) (drafted : AreDrafted rows) (not_live : version ≢ 0) (named : entity_named name ≡ Some entity) where
  abbrev pub root : Root
  root = record { entity = entity; id = id }

  draft_is : make_draft rows version name id ≡ unless (made rows version root) (making_breaks rows version root)
  unfolding make_draft
  draft_is = ap (made_of rows version id) named

  made_changes : (changes : List Change) → changes ≡ map put_in (made_rows rows version root) → change_rows rows changes ≡ made rows version root
  unfolding made
  made_changes changes e = ap (change_rows rows) e ∙ puts_rows rows (made_rows rows version root)

  made_plan : (changes : List Change) → making_breaks rows version root ≡ None → changes ≡ map put_in (made_rows rows version root) → IsPlanOf rows (make_draft rows version name id) changes
  made_plan changes unbroken e = record {
    rows = draft_is ∙ (ap (unless (made rows version root)) unbroken ∙ ap Ok (sym (made_changes changes e)));
    ascends = subst HasAscendingKeys (sym e) (puts_ascend (made_rows rows version root) (made_up rows version root drafted.in_order));
    stand = subst StandUnderTheirKeys (sym e) (puts_stand (made_rows rows version root));
  }

  made_count : (changes : List Change) → changes ≡ map put_in (made_rows rows version root) → length changes ≡ copies_of rows version id (entity_named name) + 1
  made_count changes e =
      ap length e ∙ (length_puts (made_rows rows version root)
      ∙ (length_end (copies rows version root) (new_draft version root) ∙ ap (λ found. copies_of rows version id found + 1) (sym named)))

  -- all that is said of an answer
  pub record IsMaking (answer : Result Delta PlanFault) : Type 0 where
    pub plan : Plans rows (make_draft rows version name id) answer
    pub copies : TellsCopies rows version name id answer
    pub leaves : LeavesMake rows version answer

  pub making_is : (answer : Result Delta PlanFault) → Makes rows version root answer → IsMaking answer
  making_is (Ok delta) makes =
      let plan = made_plan delta.changes makes.0 makes.1 in
      record { plan = plan; copies = made_count delta.changes makes.1; leaves = make_leaves rows version name id drafted not_live (change_rows rows delta.changes) plan.rows }
  making_is (Err fault) makes = record { plan = subst (λ outcome. IsFaultOf outcome fault) (sym draft_is) makes; copies = tt; leaves = tt }

-- of a name that no entity has
pub unnamed : (rows : List Row) (version : ℕ) (name : List ℕ) (id : ℕ) (fault : PlanFault) → entity_named name ≡ None → fault ≡ F.Refused (record { op = 0; broken = B.UnknownEntity }) → IsFaultOf (make_draft rows version name id) fault
unfolding make_draft
unnamed rows version name id fault none e = subst (IsFaultOf (make_draft rows version name id)) (sym e) (refl, ap (made_of rows version id) none)

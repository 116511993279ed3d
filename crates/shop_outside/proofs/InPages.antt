-- Bodies in pages are changed as the list of them.
use Rattle.std.proofs.Common.{◌≡◌, ℕ, true, List, [], ◌∷◌, ◌++◌, ◌<◌, map, length, get_or, Option, Some, None, Result, Ok, Err, OnOk, refl, sym, ap, subst, ◌∙◌, append_assoc, append-nil, arith}
use Rattle.std.specs.declared.cmp.Ordering.TheVariants.{Less}
use Rattle.std.specs.declared.sync.Arc.{Arc}
use Rattle.std.specs.Arc.{arc_value}
use Rattle.std.specs.List.{AllByRecursion}
use Rattle.std.specs.Option.{option_map}
use Rattle.keyed.specs.Keyed.{Ascends, put}
use Rattle.paged.specs.Changed.{changed, changed_at}
use Rattle.paged.specs.Pairs.{key_of}
use Rattle.shop_defs.specs.declared.key.Key.{Key}
use Rattle.shop_defs.specs.Keys.{key_cmp}
use Rattle.shop_outside.specs.Keeping.{Bodies, BodyChanges, kept_key, body_change, body_changes, IsChanged}
use Rattle.shop_outside.specs.Bodies.{read_body, all_put}
use Rattle.shop_outside.specs.Scanning.{keys_ascend}
use Rattle.shop_outside.proofs.Ascending.{ascends_from_test, test_from_ascends}
use Rattle.shop_outside.proofs.Bytes.{ascends_change, changed_at_place}

pub change_is : (held : Bodies) (key : Key) (change : Option (List ℕ)) → changed_at key_cmp held key change ≡ body_change held key change
change_is held key None = refl
change_is held key (Some body) = refl

pub changes_are : {Z : Type 0} (changes : List (Key × Option (Arc (List ℕ) Z))) (held : Bodies) → changed key_cmp (option_map arc_value) held changes ≡ body_changes held (map read_body changes)
changes_are [] held = refl
changes_are (change ∷ changes) held =
    changes_are changes (changed_at key_cmp held change.0 (option_map arc_value change.1))
    ∙ ap (λ (now : Bodies). body_changes now (map read_body changes)) (change_is held change.0 (option_map arc_value change.1))

above_read : {Z : Type 0} (low : Key) (changes : List (Key × Option (Arc (List ℕ) Z))) → AllByRecursion (λ change. key_cmp low (kept_key change) ≡ Less) (map read_body changes) → AllByRecursion (λ change. key_cmp low (key_of change) ≡ Less) changes
above_read low [] all = tt
above_read low (change ∷ changes) all = (all.0, above_read low changes all.1)

-- changes ascend where they do as they are read
pub shared_ascend : {Z : Type 0} (changes : List (Key × Option (Arc (List ℕ) Z))) → Ascends key_cmp kept_key (map read_body changes) → Ascends key_cmp key_of changes
shared_ascend [] up = tt
shared_ascend (change ∷ changes) up = (above_read change.0 changes up.0, shared_ascend changes up.1)

ascends_changes : (changes : BodyChanges) (held : Bodies) → Ascends key_cmp kept_key held → Ascends key_cmp kept_key (body_changes held changes)
ascends_changes [] held up = up
ascends_changes (change ∷ changes) held up = ascends_changes changes (body_change held change.0 change.1) (ascends_change held change.0 change.1 up)

pub still_ascend : (held : Bodies) (changes : BodyChanges) (now : Bodies) → keys_ascend held ≡ true → now ≡ body_changes held changes → keys_ascend now ≡ true
still_ascend held changes now test list = rw list (test_from_ascends (body_changes held changes) (ascends_changes changes held (ascends_from_test held test)))

pub changed_in_pages : (held : Bodies) (changes : BodyChanges) (now : Bodies) → keys_ascend held ≡ true → Ascends key_cmp kept_key changes → now ≡ body_changes held changes → IsChanged held changes now
changed_in_pages held changes now test keys list =
    changed_at_place held changes now (ascends_from_test held test) keys (rw list (ascends_changes changes held (ascends_from_test held test))) list

-- a single change
pub single_change : (held : Bodies) (changes : BodyChanges) (item : Key × Option (List ℕ)) → length changes ≡ 1 → item ≡ get_or changes 0 item → body_change held item.0 item.1 ≡ body_changes held changes
single_change held [] item one is = absurd (omega (arith, one))
single_change held (x ∷ []) item one is = rw is refl
single_change held (x ∷ y ∷ more) item one is = absurd (omega (arith, one))

pub on_ok : {T E P Q : Type 0} (result : Result T E) → (P → Q) → OnOk result P → OnOk result Q
on_ok (Ok x) f p = f p
on_ok (Err e) f p = tt

-- ---- a list in order, put row by row

next_above : (low : Key) (held : Bodies) (row : Key × List ℕ) (more : Bodies) → AllByRecursion (λ other. key_cmp low (kept_key other) ≡ Less) (held ++ row ∷ more) → key_cmp low row.0 ≡ Less
next_above low [] row more all = all.0
next_above low (other ∷ held) row more all = next_above low held row more all.1

-- a row above all others comes at the end
put_last : (held : Bodies) (row : Key × List ℕ) (more : Bodies) → Ascends key_cmp kept_key (held ++ row ∷ more) → put key_cmp kept_key held row ≡ held ++ row ∷ []
put_last [] row more up = refl
put_last (other ∷ held) row more up = rw (next_above other.0 held row more up.0) (ap (λ (rows : Bodies). other ∷ rows) (put_last held row more up.1))

put_all : (rows held : Bodies) → Ascends key_cmp kept_key (held ++ rows) → all_put held rows ≡ held ++ rows
put_all [] held up = sym (append-nil held)
put_all (row ∷ rows) held up =
    let last = put_last held row rows up in
    let whole : (held ++ row ∷ []) ++ rows ≡ held ++ row ∷ rows = append_assoc held (row ∷ []) rows in
    ap (λ (now : Bodies). all_put now rows) last ∙ (put_all rows (held ++ row ∷ []) (subst (Ascends key_cmp kept_key) (sym whole) up) ∙ whole)

-- a list in order is what its rows leave, put one after the other
pub put_again : (rows : Bodies) → keys_ascend rows ≡ true → all_put [] rows ≡ rows
put_again rows test = put_all rows [] (ascends_from_test rows test)

-- once none is left to put
pub ended : (held rest rows : Bodies) → length rest < 1 → all_put held rest ≡ all_put [] rows → keys_ascend rows ≡ true → held ≡ rows
ended held [] rows short whole test = whole ∙ put_again rows test
ended held (row ∷ rest) rows short whole test = absurd (omega (arith, short))

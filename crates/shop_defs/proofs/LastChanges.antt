-- What joined deltas have at a key: the last change of it.
use Rattle.std.proofs.Common.{◌≡◌, List, [], ◌∷◌, ◌++◌, Option, Some, None, Bool, true, false, if◌then◌else◌, refl, sym, ap, ◌∙◌}
use Rattle.std.specs.List.{fold}
use Rattle.std.specs.Ordering.{is_eq}
use Rattle.shop_defs.specs.declared.key.Key.{Key}
use Rattle.shop_defs.specs.declared.delta.Delta.{Delta}
use Rattle.shop_defs.specs.Keys.{key_cmp}
use Rattle.shop_defs.specs.Joined.{Change, change_key, change_at, add_changes, joined, all_changes, later_of, last_in, last_change}
use Rattle.shop_defs.proofs.Keys.{key_cmp_total}
use Rattle.keyed.specs.Keyed.{put}
use Rattle.keyed.proofs.Changes.{find_put}

later_of-none : (later : Option Change) → later_of None later ≡ later
later_of-none None = refl
later_of-none (Some later) = refl

later_of_assoc : (a b c : Option Change) → later_of (later_of a b) c ≡ later_of a (later_of b c)
later_of_assoc a b None = refl
later_of_assoc a b (Some c) = refl

-- a change where a test passes, or else an earlier one
later_of-if : (b : Bool) (change : Change) (earlier : Option Change) → (if b then Some change else earlier) ≡ later_of earlier (if b then Some change else None)
later_of-if true change earlier = refl
later_of-if false change earlier = refl

last_in-append : (xs ys : List Change) (key : Key) → last_in (xs ++ ys) key ≡ later_of (last_in xs key) (last_in ys key)
last_in-append [] ys key = sym (later_of-none (last_in ys key))
last_in-append (x ∷ xs) ys key =
    let here : Option Change = if is_eq (key_cmp x.0 key) then Some x else None in
    ap (λ later. later_of here later) (last_in-append xs ys key) ∙ sym (later_of_assoc here (last_in xs key) (last_in ys key))

-- after changes are put, a key has the last of them, or else what it had before
change_at-add : (changes all : List Change) (key : Key) → change_at (add_changes all changes) key ≡ later_of (change_at all key) (last_in changes key)
change_at-add [] all key = refl
change_at-add (change ∷ rest) all key =
    let here : Option Change = if is_eq (key_cmp change.0 key) then Some change else None in
    let first : change_at (put key_cmp change_key all change) key ≡ later_of (change_at all key) here =
    find_put key_cmp change_key key_cmp_total all change key ∙ later_of-if (is_eq (key_cmp change.0 key)) change (change_at all key) in
    change_at-add rest (put key_cmp change_key all change) key
    ∙ (ap (λ found. later_of found (last_in rest key)) first ∙ later_of_assoc (change_at all key) here (last_in rest key))

-- and so after the changes of several deltas
change_at-fold : (deltas : List Delta) (all : List Change) (key : Key) → change_at (fold (λ before delta. add_changes before delta.changes) all deltas) key ≡ later_of (change_at all key) (last_in (all_changes deltas) key)
change_at-fold [] all key = refl
change_at-fold (delta ∷ rest) all key =
    let more = all_changes rest in
    change_at-fold rest (add_changes all delta.changes) key
    ∙ (ap (λ found. later_of found (last_in more key)) (change_at-add delta.changes all key)
    ∙ (later_of_assoc (change_at all key) (last_in delta.changes key) (last_in more key)
    ∙ ap (λ later. later_of (change_at all key) later) (sym (last_in-append delta.changes more key))))

pub joined_has_last : (deltas : List Delta) (key : Key) → change_at (joined deltas) key ≡ last_change deltas key
joined_has_last deltas key = change_at-fold deltas [] key ∙ later_of-none (last_change deltas key)

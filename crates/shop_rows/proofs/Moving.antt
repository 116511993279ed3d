-- One change more in a walk over changes.
use Rattle.std.proofs.Common.{◌≡◌, ℕ, zero, suc, ◌+◌, ◌-◌, ◌<◌, ◌^◌, List, [], ◌∷◌, ◌++◌, length, get_or, set, take, map, Option, None, is_some, refl, sym, ap, subst, ◌∙◌, arith}
use Rattle.std.proofs.Math.Seq.{take-suc}
use Rattle.std.specs.Option.{option_map}
use Rattle.std.specs.List.{AllByRecursion, fold, flat_map}
use Rattle.std.specs.declared.cmp.Ordering.TheVariants.{Less}
use Rattle.std.specs.declared.sync.Arc.{Arc}
use Rattle.std.specs.Arc.{arc_value}
use Rattle.keyed.specs.Keyed.{Ascends, put}
use Rattle.paged.specs.Pairs.{key_of}
use Rattle.shop_defs.specs.declared.key.Key.{Key}
use Rattle.shop_defs.specs.declared.row.Row.{Row}
use Rattle.shop_defs.specs.Entities.{entity_number}
use Rattle.shop_defs.specs.Keys.{key_cmp}
use Rattle.shop_defs.specs.Rows.{row_at, change_row, change_rows, IsInKeyOrder}
use Rattle.shop_defs.specs.Joined.{Change, change_key, last_in}
use Rattle.shop_rows.specs.Changing.{row_after, StandsUnderItsKey, StandUnderTheirKeys}
use Rattle.shop_rows.specs.Counting.{one, AreCounted}
use Rattle.shop_rows.specs.declared.topic.Mention.{Mention}
use Rattle.shop_rows.specs.Paging.{read_change, own_change}
use Rattle.shop_rows.proofs.ChangedRows.{in_order-change_rows, row_at-change_rows}
use Rattle.shop_rows.proofs.CountedRows.{counted_after, counted_on}
use Rattle.shop_rows.proofs.InPages.{read_put}

-- ---- one element more at the end

one_more : (i : ℕ) → i + 1 ≡ suc i
one_more i = omega arith

pub taken : {X : Type 0} (xs : List X) (i : ℕ) (x : X) → i < length xs → x ≡ get_or xs i x → take (i + 1) xs ≡ take i xs ++ x ∷ []
taken xs i x l is = ap (λ n. take n xs) (one_more i) ∙ (take-suc xs i x l ∙ ap (λ y. take i xs ++ y ∷ []) (sym is))

map_end : {A B : Type 0} (f : A → B) (xs : List A) (x : A) → map f (xs ++ x ∷ []) ≡ map f xs ++ f x ∷ []
map_end f [] x = refl
map_end f (y ∷ xs) x = ap (λ ys. f y ∷ ys) (map_end f xs x)

fold_end : {A B : Type 0} (g : A → B → A) (z : A) (xs : List B) (x : B) → fold g z (xs ++ x ∷ []) ≡ g (fold g z xs) x
fold_end g z [] x = refl
fold_end g z (y ∷ xs) x = fold_end g (g z y) xs x

append_nil : {A : Type 0} (xs : List A) → xs ++ [] ≡ xs
append_nil [] = refl
append_nil (x ∷ xs) = ap (λ ys. x ∷ ys) (append_nil xs)

append_assoc : {A : Type 0} (xs ys zs : List A) → (xs ++ ys) ++ zs ≡ xs ++ (ys ++ zs)
append_assoc [] ys zs = refl
append_assoc (x ∷ xs) ys zs = ap (λ l. x ∷ l) (append_assoc xs ys zs)

flat_end : {A B : Type 0} (f : A → List B) (xs : List A) (x : A) → flat_map f (xs ++ x ∷ []) ≡ flat_map f xs ++ f x
flat_end f [] x = append_nil (f x)
flat_end f (y ∷ xs) x = ap (λ l. f y ++ l) (flat_end f xs x) ∙ sym (append_assoc (f y) (flat_map f xs) (f x))

module _ {Z : Type 0} (changes : List (Key × Option (Arc Row Z))) (i : ℕ) (item : Key × Option (Arc Row Z)) (low : i < length changes) (is : item ≡ get_or changes i item) where
  read_taken : map read_change (take (i + 1) changes) ≡ map read_change (take i changes) ++ read_change item ∷ []
  read_taken = ap (map read_change) (taken changes i item low is) ∙ map_end read_change (take i changes) item

  -- ---- settled changes

  pub settled_next : (own : Key × Option (Arc Row Z)) (before after : List (Key × Option (Arc Row Z))) → read_change own ≡ own_change (read_change item) → after ≡ put key_cmp key_of before own
      → map read_change before ≡ fold (put key_cmp change_key) [] (map own_change (map read_change (take i changes)))
      → map read_change after ≡ fold (put key_cmp change_key) [] (map own_change (map read_change (take (i + 1) changes)))
  settled_next own before after owned next e =
      ap (map read_change) next
      ∙ (read_put before own
      ∙ ((λ j. put key_cmp change_key (e j) (owned j))
      ∙ sym (ap (λ cs. fold (put key_cmp change_key) [] (map own_change cs)) read_taken
      ∙ (ap (fold (put key_cmp change_key) []) (map_end own_change (map read_change (take i changes)) (read_change item))
      ∙ fold_end (put key_cmp change_key) [] (map own_change (map read_change (take i changes))) (own_change (read_change item))))))

  -- ---- what moves

  pub moved_next : (f : Change → List Mention) (before after : List Mention) → after ≡ before ++ f (read_change item) → before ≡ flat_map f (map read_change (take i changes)) → after ≡ flat_map f (map read_change (take (i + 1) changes))
  moved_next f before after next e =
      next ∙ (ap (λ l. l ++ f (read_change item)) e
      ∙ sym (ap (flat_map f) read_taken ∙ flat_end f (map read_change (take i changes)) (read_change item)))

  -- ---- counts

  all_get : (P : Key × Option (Arc Row Z) → Type 0) (cs : List (Key × Option (Arc Row Z))) (n : ℕ) → AllByRecursion P cs → n < length cs → P (get_or cs n item)
  all_get P [] n all l = absurd (omega arith)
  all_get P (c ∷ cs) zero all l = all.0
  all_get P (c ∷ cs) (suc n) all l = all_get P cs n all.1 (omega arith)

  not_yet : (cs : List (Key × Option (Arc Row Z))) (n : ℕ) → Ascends key_cmp key_of cs → n < length cs → last_in (map read_change (take n cs)) (get_or cs n item).0 ≡ None
  not_yet [] n up l = absurd (omega arith)
  not_yet (c ∷ cs) zero up l = refl
  not_yet (c ∷ cs) (suc n) up l =
      let less : key_cmp c.0 (get_or cs n item).0 ≡ Less = all_get (λ d. key_cmp c.0 (key_of d) ≡ Less) cs n up.0 (omega arith) in
      rw (less, not_yet cs n up.1 (omega arith)) refl

  stand_at : (cs : List (Key × Option (Arc Row Z))) (n : ℕ) → StandUnderTheirKeys (map read_change cs) → n < length cs → StandsUnderItsKey (read_change (get_or cs n item))
  stand_at [] n own l = absurd (omega arith)
  stand_at (c ∷ cs) zero own l = own.0
  stand_at (c ∷ cs) (suc n) own l = stand_at cs n own.1 (omega arith)

  stand_taken : (cs : List (Key × Option (Arc Row Z))) (n : ℕ) → StandUnderTheirKeys (map read_change cs) → StandUnderTheirKeys (map read_change (take n cs))
  stand_taken [] zero own = tt
  stand_taken [] (suc n) own = tt
  stand_taken (c ∷ cs) zero own = tt
  stand_taken (c ∷ cs) (suc n) own = (own.0, stand_taken cs n own.1)

  pub counted_next : (rows : List Row) (all next : ℕ) (of then_of : List ℕ) (old new : Option Row) → IsInKeyOrder rows → Ascends key_cmp key_of changes → StandUnderTheirKeys (map read_change changes)
      → old ≡ row_at rows item.0 → new ≡ option_map arc_value item.1
      → next ≡ (all + one (is_some new)) - one (is_some old) → next < 2 ^ 63
      → then_of ≡ set of (entity_number item.0.entity) ((get_or of (entity_number item.0.entity) 0 + one (is_some new)) - one (is_some old))
      → AreCounted (change_rows rows (map read_change (take i changes))) all of → AreCounted (change_rows rows (map read_change (take (i + 1) changes))) next then_of
  counted_next rows all next of then_of old new up ascend own was is_new counts few sets are =
      let pre : List Change = map read_change (take i changes) in
      let same : change_rows rows (map read_change (take (i + 1) changes)) ≡ change_row (change_rows rows pre) item.0 (option_map arc_value item.1) =
      ap (change_rows rows) read_taken ∙ fold_end (λ before change. change_row before change.0 change.1) rows pre (read_change item) in
      let untouched : row_at (change_rows rows pre) item.0 ≡ row_at rows item.0 =
      row_at-change_rows pre rows up (stand_taken changes i own) item.0
      ∙ ap (λ found. row_after found (row_at rows item.0)) (ap (λ c. last_in pre (key_of c)) is ∙ not_yet changes i ascend low) in
      let stands : StandsUnderItsKey (read_change item) = subst (λ c. StandsUnderItsKey (read_change c)) (sym is) (stand_at changes i own low) in
      let counted = counted_after (change_rows rows pre) (read_change item) old all next of (in_order-change_rows pre rows up) stands are (untouched ∙ sym was) (counts ∙ ap (λ n. (all + one (is_some n)) - one (is_some old)) is_new) few in
      let sets_there : then_of ≡ counted_on of item.0 old (option_map arc_value item.1) = sets ∙ ap (λ n. counted_on of item.0 old n) is_new in
      subst (λ l. AreCounted l next then_of) (sym same) (subst (AreCounted (change_row (change_rows rows pre) item.0 (option_map arc_value item.1)) next) (sym sets_there) counted)

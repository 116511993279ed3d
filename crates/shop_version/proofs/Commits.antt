-- The commits of a draft, by their numbers.
use Rattle.std.proofs.Common.{◌≡◌, ◌<◌, ◌≤◌, ◌+◌, ℕ, zero, suc, true, not, ◌&&◌, ◌||◌, ◌==◌, nat_le, inl, inr, List, [], ◌∷◌, ◌++◌, length, get_or, drop, drop-cons, add-one, map, count_by, arith, refl, sym, ap, subst, ◌∙◌, Some}
use Rattle.std.specs.List.{list_all}
use Rattle.std.proofs.lemmas.Bool.{and_parts, eqb-true, leb-true}
use Rattle.std.proofs.lemmas.List.Sums.{length-filter}
use Rattle.closure.specs.Closure.{IsIn}
use Rattle.closure.proofs.Members.{of_filter}
use Rattle.shop_defs.specs.declared.entity.Entity.TheVariants as E
use Rattle.shop_defs.specs.declared.row.Row.{Row}
use Rattle.shop_defs.specs.Keys.{key_cmp}
use Rattle.shop_defs.specs.Rows.{row_key, row_at}
use Rattle.shop_defs.proofs.EachLine.{each_passes, same_entity}
use Rattle.shop_defs.proofs.Keys.{key_cmp_total}
use Rattle.shop_operations.specs.References.{is_entity}
use Rattle.shop_soundness.proofs.Lists.{of_each, count_under}
use Rattle.shop_drafts.specs.Damage.{count_up}
use Rattle.shop_drafts.specs.Drafts.{commits, commit_key, is_commit}
use Rattle.shop_drafts.specs.Soundness.{AreDrafted, is_change, holds_changes}
use Rattle.shop_drafts.specs.Writing.{new_commit}
use Rattle.shop_write.proofs.InOrder.{all_found}
use Rattle.shop_version.specs.Replaying.{IsCommitOf}
use Rattle.shop_version.specs.Taking.{numbers, commit_keys}

-- so many numbers and one more
pub numbers_more : (from count : ℕ) → numbers from (suc count) ≡ numbers from count ++ (from + count) ∷ []
numbers_more from zero = let e : from ≡ from + 0 = omega arith in ap (λ n. n ∷ []) e
numbers_more from (suc count) =
    let e : suc from + count ≡ from + suc count = omega arith in
    ap (λ all. from ∷ all) (numbers_more (suc from) count ∙ ap (λ n. numbers (suc from) count ++ n ∷ []) e)

get_in : {X : Type 0} (xs : List X) (i : ℕ) (d : X) → i < length xs → IsIn (get_or xs i d) xs
get_in [] i d low = absurd (omega arith)
get_in (x ∷ xs) zero d low = inl refl
get_in (x ∷ xs) (suc i) d low = inr (get_in xs i d (omega arith))

second_at : (n : ℕ) (xs : List Row) (i : ℕ) (d : Row) → count_up n xs ≡ true → i < length xs → (get_or xs i d).key.second ≡ n + i
second_at n [] i d up low = absurd (omega arith)
second_at n (x ∷ xs) zero d up low = let e : x.key.second ≡ n = eqb-true x.key.second n (and_parts (x.key.second == n) (count_up (suc n) xs) up).0 in let z : n ≡ n + 0 = omega arith in e ∙ z
second_at n (x ∷ xs) (suc i) d up low = let low_too : i < length xs = omega arith in let e : (get_or xs i d).key.second ≡ suc n + i = second_at (suc n) xs i d (and_parts (x.key.second == n) (count_up (suc n) xs) up).1 low_too in let z : suc n + i ≡ n + suc i = omega arith in e ∙ z

pub is_commit_entity : (version : ℕ) (row : Row) → is_commit version row ≡ true → is_entity E.DraftCommit row.key.entity ≡ true
is_commit_entity version row e = (and_parts _ _ (and_parts _ _ e).1).0

-- the key of a commit with that number
pub commit_key_is : (version n : ℕ) (row : Row) → is_commit version row ≡ true → row.key.second ≡ n → row.key ≡ commit_key version n
commit_key_is version n row e s =
    let entity : row.key.entity ≡ E.DraftCommit = same_entity row.key.entity E.DraftCommit (sym (eqb-true _ _ (is_commit_entity version row e))) in
    let live : row.key.version ≡ 0 = eqb-true row.key.version 0 (and_parts _ _ e).0 in
    let id : row.key.id ≡ version = eqb-true row.key.id version (and_parts _ _ (and_parts _ _ e).1).1 in
    λ i. record { entity = entity i; version = live i; id = id i; second = s i }

-- the keys of commits whose numbers count up
pub keys_up : (version n : ℕ) (xs : List Row) → ((row : Row) → IsIn row xs → is_commit version row ≡ true) → count_up n xs ≡ true → map row_key xs ≡ commit_keys version (numbers n (length xs))
keys_up version n [] each up = refl
keys_up version n (x ∷ xs) each up =
    let e : x.key ≡ commit_key version n = commit_key_is version n x (each x (inl refl)) (eqb-true x.key.second n (and_parts _ _ up).0) in
    let more = keys_up version (suc n) xs (λ row i. each row (inr i)) (and_parts _ _ up).1 in
    ap (λ k. k ∷ map row_key xs) e ∙ ap (λ ks. commit_key version n ∷ ks) more

module _ (rows : List Row) (version : ℕ) (drafted : AreDrafted rows) where
  pub of_commits : (row : Row) → IsIn row (commits rows version) → record { is_in : IsIn row rows; passes : is_commit version row ≡ true }
  of_commits row i = of_filter (is_commit version) rows row i

  pub few_commits : length (commits rows version) ≤ 200000
  few_commits =
      let count = length-filter (is_commit version) rows in
      let under = count_under (is_commit version) (λ row. is_entity E.DraftCommit row.key.entity) rows (λ row i e. is_commit_entity version row e) in
      let bound = leb-true (count_by (λ row. is_entity E.DraftCommit row.key.entity) rows + 0) 200000 drafted.bounded in
      omega arith

  -- what a commit holds
  pub holds_of : (commit : Row) → IsIn commit rows → is_commit version commit ≡ true → (nat_le (length commit.ops) 1000 && list_all is_change commit.ops) ≡ true
  holds_of commit i e =
      sym (ap (λ b. not b || (nat_le (length commit.ops) 1000 && list_all is_change commit.ops)) (is_commit_entity version commit e))
      ∙ of_each (λ row. holds_changes row ≡ true) rows commit (each_passes holds_changes rows drafted.changes) i

  -- the commit with the number that follows
  pub record IsCommitAt (i : ℕ) : Type 0 where
    pub of : IsCommitOf rows version (i + 1)
    pub next : drop i (commits rows version) ≡ of.commit ∷ drop (i + 1) (commits rows version)

  pub commit_at : count_up 1 (commits rows version) ≡ true → (i : ℕ) → i < length (commits rows version) → IsCommitAt i
  commit_at up i low =
      let d : Row = new_commit version 0 [] in
      let commit : Row = get_or (commits rows version) i d in
      let is = of_commits commit (get_in (commits rows version) i d low) in
      let second : commit.key.second ≡ 1 + i = second_at 1 (commits rows version) i d up low in
      let number : commit.key.second ≡ i + 1 = second ∙ omega arith in
      let key : commit.key ≡ commit_key version (i + 1) = commit_key_is version (i + 1) commit is.passes number in
      let there = of_each (λ row. row_at rows row.key ≡ Some row) rows commit (all_found key_cmp row_key key_cmp_total rows drafted.in_order) is.is_in in
      let holds = holds_of commit is.is_in is.passes in
      record {
        of = record {
          commit = commit;
          found = subst (λ key. row_at rows key ≡ Some commit) key there;
          replayable = record {
            few = leb-true (length commit.ops) 1000 (and_parts _ _ holds).0;
            changes = (and_parts _ _ holds).1;
          };
          numbered = number;
        };
        next = drop-cons (commits rows version) i d low ∙ ap (λ n. commit ∷ drop n (commits rows version)) (sym (add-one i));
      }

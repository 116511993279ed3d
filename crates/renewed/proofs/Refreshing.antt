-- What a table has at each key after a change, and that a table shows what its keys mean.
use Rattle.std.proofs.Common.{◌≡◌, ℕ, ◌==◌, Bool, true, false, ◌||◌, List, [], ◌∷◌, ◌++◌, Option, Some, None, if◌then◌else◌, refl, sym, ap, ◌∙◌, arith}
use Rattle.std.specs.Ordering.{is_eq, nat_cmp}
use Rattle.std.specs.Option.{option_map}
use Rattle.std.proofs.lemmas.Cmp.{nat_cmp_total}
use Rattle.std.proofs.lemmas.Bool.{eqb-true}
use Rattle.std.proofs.lemmas.Bool.Decides.{nat_tests}
use Rattle.std.proofs.lemmas.List.Folds.{list_any-append}
use Rattle.keyed.specs.Keyed.{find}
use Rattle.keyed.proofs.Changes.{find_put, find_without, ascends_put, ascends_without}
use Rattle.paged.specs.Pairs.{key_of, value_of}
use Rattle.paged.specs.Changed.{changed_at}
use Rattle.renewed.specs.Showing.{InTableOrder, Shows, value_at, refreshed, has_key}

is_eq-nat_cmp : (a b : ℕ) → is_eq (nat_cmp a b) ≡ (a == b)
is_eq-nat_cmp a b = grind (arith, nat_tests)

or_false : (b : Bool) → (b || false) ≡ b
or_false true = refl
or_false false = refl

same_key : (key at : ℕ) → has_key (key ∷ []) at ≡ true → key ≡ at
same_key key at e = eqb-true key at (sym (or_false (key == at)) ∙ e)

module _ {V : Type 0} where
  map_if : (b : Bool) (entry : ℕ × V) (found : Option (ℕ × V)) → option_map value_of (if b then Some entry else found) ≡ (if b then Some entry.1 else option_map value_of found)
  map_if true entry found = refl
  map_if false entry found = refl

  map_if_none : (b : Bool) (found : Option (ℕ × V)) → option_map value_of (if b then None else found) ≡ (if b then None else option_map value_of found)
  map_if_none true found = refl
  map_if_none false found = refl

  -- a change sets the value at its key alone
  pub values-changed : (table : List (ℕ × V)) (key : ℕ) (value : Option V) → InTableOrder table → (at : ℕ) → value_at (changed_at nat_cmp table key value) at ≡ refreshed (λ _. value) (value_at table) (key ∷ []) at
  values-changed table key None order at =
      ap (option_map value_of) (find_without nat_cmp key_of nat_cmp_total table key at order)
      ∙ (map_if_none (is_eq (nat_cmp key at)) (find nat_cmp key_of table at)
      ∙ ap (λ (b : Bool). if b then None else value_at table at) (is_eq-nat_cmp key at ∙ sym (or_false (key == at))))
  values-changed table key (Some value) order at =
      ap (option_map value_of) (find_put nat_cmp key_of nat_cmp_total table (key, value) at)
      ∙ (map_if (is_eq (nat_cmp key at)) (key, value) (find nat_cmp key_of table at)
      ∙ ap (λ (b : Bool). if b then Some value else value_at table at) (is_eq-nat_cmp key at ∙ sym (or_false (key == at))))

  -- and keeps the order
  pub order-changed : (table : List (ℕ × V)) (key : ℕ) (value : Option V) → InTableOrder table → InTableOrder (changed_at nat_cmp table key value)
  order-changed table key None order = ascends_without nat_cmp key_of nat_cmp_total table key order
  order-changed table key (Some value) order = ascends_put nat_cmp key_of nat_cmp_total table (key, value) order

  -- a table after a change
  pub set_order : (table next : List (ℕ × V)) (key : ℕ) (value leaf : Option V) → leaf ≡ value → next ≡ changed_at nat_cmp table key leaf → InTableOrder table → InTableOrder next
  set_order table next key value leaf same e order = rw (e, same) (order-changed table key value order)

  pub set_values : (table next : List (ℕ × V)) (key : ℕ) (value leaf : Option V) → leaf ≡ value → next ≡ changed_at nat_cmp table key leaf → InTableOrder table → (at : ℕ) → value_at next at ≡ refreshed (λ _. value) (value_at table) (key ∷ []) at
  set_values table next key value leaf same e order at = rw (e, same) (values-changed table key value order at)

  -- what agrees at the key refreshes the same
  pub refreshed_as : (f g old : ℕ → Option V) (key : ℕ) → f key ≡ g key → (at : ℕ) → refreshed f old (key ∷ []) at ≡ refreshed g old (key ∷ []) at
  refreshed_as f g old key e at = by (has_key (key ∷ []) at) refl
    where
      by : (b : Bool) → has_key (key ∷ []) at ≡ b → (if b then f at else old at) ≡ (if b then g at else old at)
      by true h = ap f (sym (same_key key at h)) ∙ (e ∙ ap g (same_key key at h))
      by false h = refl

  -- a key that is refreshed with one value has another's as well, where it is that one's
  pub values_as : (f g old now : ℕ → Option V) (key : ℕ) → f key ≡ g key → ((at : ℕ) → now at ≡ refreshed f old (key ∷ []) at) → (at : ℕ) → now at ≡ refreshed g old (key ∷ []) at
  values_as f g old now key e values at = values at ∙ refreshed_as f g old key e at

  -- where it is its own, nothing changes
  pub refreshed_self : (old : ℕ → Option V) (key at : ℕ) → old at ≡ refreshed (λ _. old key) old (key ∷ []) at
  refreshed_self old key at = by (has_key (key ∷ []) at) refl
    where
      by : (b : Bool) → has_key (key ∷ []) at ≡ b → old at ≡ (if b then old key else old at)
      by true h = ap old (sym (same_key key at h))
      by false h = refl

  -- keys refreshed, and then one more
  pub refreshed_more : (f old : ℕ → Option V) (keys : List ℕ) (key at : ℕ) → refreshed f (refreshed f old keys) (key ∷ []) at ≡ refreshed f old (keys ++ key ∷ []) at
  refreshed_more f old keys key at = by (has_key keys at) (has_key (key ∷ []) at) ∙ ap (λ (b : Bool). if b then f at else old at) (sym (list_any-append (λ other. other == at) keys (key ∷ [])))
    where
      by : (b c : Bool) → (if c then f at else (if b then f at else old at)) ≡ (if b || c then f at else old at)
      by true true = refl
      by true false = refl
      by false true = refl
      by false false = refl

  -- a table that shows a meaning before shows the one after, once the keys are refreshed outside of which both agree
  pub shows_after : (before now : ℕ → Option V) (table next : List (ℕ × V)) (keys : List ℕ) → Shows before table → InTableOrder next → ((key : ℕ) → value_at next key ≡ refreshed now (value_at table) keys key) → ((key : ℕ) → has_key keys key ≡ false → before key ≡ now key) → Shows now next
  shows_after before now table next keys shows order values outside = record { order = order; each = λ key. values key ∙ by key (has_key keys key) refl }
    where
      by : (key : ℕ) (b : Bool) → has_key keys key ≡ b → (if b then now key else value_at table key) ≡ now key
      by key true h = refl
      by key false h = shows.each key ∙ outside key h

  -- a table shows a meaning once the keys that may mean something are put into an empty one
  pub shows_built : (now : ℕ → Option V) (next : List (ℕ × V)) (keys : List ℕ) → InTableOrder next → ((key : ℕ) → value_at next key ≡ refreshed now (value_at []) keys key) → ((key : ℕ) → has_key keys key ≡ false → now key ≡ None) → Shows now next
  shows_built now next keys order values outside = shows_after (λ key. None) now [] next keys (record { order = tt; each = λ key. refl }) order values (λ key h. sym (outside key h))

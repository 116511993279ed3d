-- What holds of each view, when one view is changed or added.
use Rattle.std.proofs.Common.{◌≡◌, ◌≢◌, ◌⊎◌, ℕ, zero, suc, ◌<◌, List, [], ◌∷◌, ◌++◌, length, set, refl, sym, ap, ◌∙◌, subst, ⊎_elim, inl, inr, arith, Some, None, Option}
use mathlib.Core.Option.{some, some-ne-none, some-injective}
use lib.ListN.{get_elem?}
use Rattle.atomic_table.proofs.Lists.{at_set}
use Rattle.shop_shared.specs.declared.view.View.{View}
use Rattle.shop_shared.specs.declared.view.View.TheVariants.{Keeps, Admits, Calls, Spent}
use Rattle.shop_shared.specs.declared.view.CallerView.{CallerView}
use Rattle.shop_shared.specs.declared.view.DoorView.{DoorView}
use Rattle.shop_shared.specs.declared.view.Held.{Held}
use Rattle.shop_shared.specs.Rule.{EachView, AtCaller, AtDoor, AtHeld, Clash, AllApart}

pub at_length : {A : Type 0} (l : List A) (i : ℕ) (a : A) → get_elem? l i ≡ some a → i < length l
at_length [] i a e = absurd (some-ne-none a (sym e))
at_length (x ∷ xs) zero a e = omega arith
at_length (x ∷ xs) (suc i) a e = let h = at_length xs i a e in omega arith

-- a place of the longer list is one of the list, or the new one
pub at_new : {A : Type 0} (l : List A) (a b : A) (j : ℕ) → get_elem? (l ++ a ∷ []) j ≡ some b → (get_elem? l j ≡ some b) ⊎ ((j ≡ length l) × (a ≡ b))
at_new [] a b zero e = inr (refl, some-injective a b e)
at_new [] a b (suc j) e = absurd (some-ne-none b (sym e))
at_new (x ∷ xs) a b zero e = inl e
at_new (x ∷ xs) a b (suc j) e = ⊎_elim (λ (t : get_elem? xs j ≡ some b). inl t) (λ (t : (j ≡ length xs) × (a ≡ b)). inr (ap suc t.0, t.1)) (at_new xs a b j e)

-- one view
pub the_view : (views : List View) (j : ℕ) (v w : View) → get_elem? views j ≡ some v → get_elem? views j ≡ some w → v ≡ w
the_view views j v w e f = some-injective v w (sym e ∙ f)

pub each_set : (Q : ℕ → View → Type 0) (views : List View) (k : ℕ) (x : View)
    → ((j : ℕ) (v : View) → j ≢ k → get_elem? views j ≡ some v → Q j v) → Q k x → EachView Q (set views k x)
each_set Q views k x others here j v e =
    ⊎_elim
    (λ (t : (j ≡ k) × (x ≡ v)). subst (λ (y : ℕ × View). Q y.0 y.1) (λ i. (sym t.0 i, t.1 i)) here)
    (λ (t : (j ≢ k) × (get_elem? views j ≡ some v)). others j v t.0 t.1)
    (at_set views k j x v e)

pub each_new : (Q : ℕ → View → Type 0) (views : List View) (x : View) → EachView Q views → Q (length views) x → EachView Q (views ++ x ∷ [])
each_new Q views x old here j v e =
    ⊎_elim
    (λ (t : get_elem? views j ≡ some v). old j v t)
    (λ (t : (j ≡ length views) × (x ≡ v)). subst (λ (y : ℕ × View). Q y.0 y.1) (λ i. (sym t.0 i, t.1 i)) here)
    (at_new views x v j e)

-- what is said of callers, at every view of the same callers
pub callers_on : (P Q : CallerView → Type 0) (v : View) → ((c : CallerView) → v ≡ Calls c → P c → Q c) → AtCaller P v → AtCaller Q v
callers_on P Q (Calls c) f p = f c refl p
callers_on P Q (Keeps m) f p = tt
callers_on P Q (Admits d) f p = tt
callers_on P Q Spent f p = tt

pub doors_on : (P Q : DoorView → Type 0) (v : View) → ((d : DoorView) → v ≡ Admits d → P d → Q d) → AtDoor P v → AtDoor Q v
doors_on P Q (Admits d) f p = f d refl p
doors_on P Q (Keeps m) f p = tt
doors_on P Q (Calls c) f p = tt
doors_on P Q Spent f p = tt

pub held_on : (P Q : Held → Type 0) (o : Option Held) → ((h : Held) → o ≡ Some h → P h → Q h) → AtHeld P o → AtHeld Q o
held_on P Q (Some h) f p = f h refl p
held_on P Q None f p = tt

-- at a caller's seat
pub at_caller : (P : CallerView → Type 0) (views : List View) (j : ℕ) (c : CallerView) → EachView (λ j v. AtCaller P v) views → get_elem? views j ≡ some (Calls c) → P c
at_caller P views j c all e = all j (Calls c) e

-- callers after one view that is no caller's was changed
pub callers_set : (P Q : CallerView → Type 0) (views : List View) (k : ℕ) (x : View)
    → ((j : ℕ) (c : CallerView) → j ≢ k → get_elem? views j ≡ some (Calls c) → P c → Q c)
    → AtCaller Q x → EachView (λ j v. AtCaller P v) views → EachView (λ j v. AtCaller Q v) (set views k x)
callers_set P Q views k x f here all =
    each_set (λ j v. AtCaller Q v) views k x (λ j v apart e. callers_on P Q v (λ c is p. f j c apart (subst (λ (u : View). get_elem? views j ≡ some u) is e) p) (all j v e)) here

pub callers_new : (Q : CallerView → Type 0) (views : List View) (x : View) → AtCaller Q x → EachView (λ j v. AtCaller Q v) views → EachView (λ j v. AtCaller Q v) (views ++ x ∷ [])
callers_new Q views x here all = each_new (λ j v. AtCaller Q v) views x all here

pub doors_set : (P Q : DoorView → Type 0) (views : List View) (k : ℕ) (x : View)
    → ((j : ℕ) (d : DoorView) → j ≢ k → get_elem? views j ≡ some (Admits d) → P d → Q d)
    → AtDoor Q x → EachView (λ j v. AtDoor P v) views → EachView (λ j v. AtDoor Q v) (set views k x)
doors_set P Q views k x f here all =
    each_set (λ j v. AtDoor Q v) views k x (λ j v apart e. doors_on P Q v (λ d is p. f j d apart (subst (λ (u : View). get_elem? views j ≡ some u) is e) p) (all j v e)) here

pub doors_new : (P Q : DoorView → Type 0) (views : List View) (x : View)
    → ((j : ℕ) (d : DoorView) → get_elem? views j ≡ some (Admits d) → P d → Q d)
    → AtDoor Q x → EachView (λ j v. AtDoor P v) views → EachView (λ j v. AtDoor Q v) (views ++ x ∷ [])
doors_new P Q views x f here all =
    each_new (λ j v. AtDoor Q v) views x (λ j v e. doors_on P Q v (λ d is p. f j d (subst (λ (u : View). get_elem? views j ≡ some u) is e) p) (all j v e)) here

-- seats stay apart where a view is changed to one that clashes with no more
pub apart_set : (views : List View) (k : ℕ) (old x : View) → get_elem? views k ≡ some old
    → ((w : View) → Clash x w → Clash old w) → ((w : View) → Clash w x → Clash w old)
    → AllApart views → AllApart (set views k x)
apart_set views k old x at one two all =
    each_set (λ i v. EachView (λ j w. Clash v w → i ≡ j) (set views k x)) views k x
    (λ i v ne e. each_set (λ j w. Clash v w → i ≡ j) views k x (λ j w nf f. all i v e j w f) (λ c. all i v e k old at (two v c)))
    (each_set (λ j w. Clash x w → k ≡ j) views k x (λ j w nf f. λ c. all k old at j w f (one w c)) (λ c. refl))

pub apart_new : (views : List View) (x : View)
    → EachView (λ j w. Clash x w → ⊥) views → EachView (λ j w. Clash w x → ⊥) views
    → AllApart views → AllApart (views ++ x ∷ [])
apart_new views x one two all =
    each_new (λ i v. EachView (λ j w. Clash v w → i ≡ j) (views ++ x ∷ [])) views x
    (λ i v e. each_new (λ j w. Clash v w → i ≡ j) views x (λ j w f. all i v e j w f) (λ c. absurd (two i v e c)))
    (each_new (λ j w. Clash x w → length views ≡ j) views x (λ j w f. λ c. absurd (one j w f c)) (λ c. refl))

-- How many rows there are, in parts.
use Rattle.std.proofs.Common.{◌≡◌, ℕ, ◌+◌, cond, Bool, true, false, not, ◌&&◌, List, [], ◌∷◌, refl, sym, ap, ◌∙◌, arith}
use Rattle.std.specs.Prelude.{filter, count_by}
use Rattle.std.proofs.lemmas.List.Sums.{sum_by-cons}
use Rattle.shop_defs.specs.declared.entity.Entity.{Entity}
use Rattle.shop_defs.specs.declared.row.Row.{Row}
use Rattle.shop_operations.specs.References.{is_entity, is_live, live}
use Rattle.shop_operations.specs.Upserts.{count_of}
use Rattle.shop_operations.specs.Views.{count_hidden, drafted}

-- those that pass a second test, and those that don't
pub split : (p q : Row → Bool) (rows : List Row) → count_by p rows ≡ count_by p (filter q rows) + count_by p (filter (λ row. not (q row)) rows)
split p q [] = refl
split p q (row ∷ rows) = by (split p q rows) (q row) refl
  where
    cons : (some : List Row) → count_by p (row ∷ some) ≡ cond (p row) 1 0 + count_by p some
    cons some = sum_by-cons (λ y. cond (p y) 1 0) row some

    by : count_by p rows ≡ count_by p (filter q rows) + count_by p (filter (λ row. not (q row)) rows) → (b : Bool) → q row ≡ b → count_by p (row ∷ rows) ≡ count_by p (filter q (row ∷ rows)) + count_by p (filter (λ row. not (q row)) (row ∷ rows))
    by more true e = rw e (let a = cons rows in let b = cons (filter q rows) in omega arith)
    by more false e = rw e (let a = cons rows in let b = cons (filter (λ row. not (q row)) rows) in omega arith)

-- what live rows hide of an entity are the rows of drafts
pub hidden_is : (rows : List Row) (entity : Entity) → count_hidden rows entity ≡ count_by (λ row. is_entity entity row.key.entity) (drafted rows)
hidden_is [] entity = refl
hidden_is (row ∷ rows) entity = by (hidden_is rows entity) (is_live row) refl (is_entity entity row.key.entity) refl
  where
    cons : (p : Row → Bool) (some : List Row) → count_by p (row ∷ some) ≡ cond (p row) 1 0 + count_by p some
    cons p some = sum_by-cons (λ y. cond (p y) 1 0) row some

    shown : (b : Bool) → is_live row ≡ b → drafted (row ∷ rows) ≡ cond (not b) (row ∷ drafted rows) (drafted rows)
    shown b e = ap (λ b. cond (not b) (row ∷ drafted rows) (drafted rows)) e

    weight : (a b : Bool) → is_live row ≡ a → is_entity entity row.key.entity ≡ b → cond {A = ℕ} (is_entity entity row.key.entity && not (is_live row)) 1 0 ≡ cond {A = ℕ} (b && not a) 1 0
    weight a b e f = ap (λ x. cond {A = ℕ} (x && not (is_live row)) 1 0) f ∙ ap (λ x. cond {A = ℕ} (b && not x) 1 0) e

    by : count_hidden rows entity ≡ count_by (λ row. is_entity entity row.key.entity) (drafted rows) → (a : Bool) → is_live row ≡ a → (b : Bool) → is_entity entity row.key.entity ≡ b → count_hidden (row ∷ rows) entity ≡ count_by (λ row. is_entity entity row.key.entity) (drafted (row ∷ rows))
    by more true e true f =
        let left = cons (λ row. is_entity entity row.key.entity && not (is_live row)) rows in
        let one = weight true true e f in
        let right = ap (count_by (λ row. is_entity entity row.key.entity)) (shown true e) in omega arith
    by more true e false f =
        let left = cons (λ row. is_entity entity row.key.entity && not (is_live row)) rows in
        let one = weight true false e f in
        let right = ap (count_by (λ row. is_entity entity row.key.entity)) (shown true e) in omega arith
    by more false e true f =
        let left = cons (λ row. is_entity entity row.key.entity && not (is_live row)) rows in
        let one = weight false true e f in
        let right = ap (count_by (λ row. is_entity entity row.key.entity)) (shown false e) in
        let tail = cons (λ row. is_entity entity row.key.entity) (drafted rows) in
        let two : cond {A = ℕ} (is_entity entity row.key.entity) 1 0 ≡ 1 = ap (λ x. cond {A = ℕ} x 1 0) f in omega arith
    by more false e false f =
        let left = cons (λ row. is_entity entity row.key.entity && not (is_live row)) rows in
        let one = weight false false e f in
        let right = ap (count_by (λ row. is_entity entity row.key.entity)) (shown false e) in
        let tail = cons (λ row. is_entity entity row.key.entity) (drafted rows) in
        let two : cond {A = ℕ} (is_entity entity row.key.entity) 1 0 ≡ 0 = ap (λ x. cond {A = ℕ} x 1 0) f in omega arith

-- all of an entity, in all versions
pub all_of : (rows : List Row) (entity : Entity) → count_of (count_hidden rows) (live rows) entity ≡ count_by (λ row. is_entity entity row.key.entity) rows
all_of rows entity = ap (λ n. count_by (λ row. is_entity entity row.key.entity) (live rows) + n) (hidden_is rows entity) ∙ sym (split (λ row. is_entity entity row.key.entity) is_live rows)

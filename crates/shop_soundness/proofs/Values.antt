-- Values that a test says are the same are the same.
use Rattle.std.proofs.Common.{◌≡◌, true, false, Option, Some, None, refl, ap}
use Rattle.std.proofs.lemmas.Bool.{eqb-true, eq-eqb}
use Rattle.std.proofs.lemmas.Bool.Decides.{Decides-int_eq}
use Rattle.std.proofs.lemmas.Slice.Eq.{bytes_eq-Decides}
use Rattle.shop_defs.specs.declared.value.Value.{Value}
use Rattle.shop_defs.specs.declared.value.Value.TheVariants as V
use Rattle.shop_operations.specs.Upserts.{same_value}

pub value_same : (a b : Option Value) → same_value a b ≡ true → a ≡ b
value_same None None e = refl
value_same (Some (V.Flag true)) (Some (V.Flag true)) e = refl
value_same (Some (V.Flag false)) (Some (V.Flag false)) e = refl
value_same (Some (V.Int a)) (Some (V.Int b)) e = ap (λ n. Some (V.Int n)) ((Decides-int_eq a b).0 e)
value_same (Some (V.Text a)) (Some (V.Text b)) e = ap (λ t. Some (V.Text t)) ((bytes_eq-Decides a b).0 e)
value_same (Some (V.Ident a)) (Some (V.Ident b)) e = ap (λ n. Some (V.Ident n)) (eqb-true a b e)
value_same a b e = cc

pub same_itself : (a : Option Value) → same_value a a ≡ true
same_itself None = refl
same_itself (Some (V.Flag true)) = refl
same_itself (Some (V.Flag false)) = refl
same_itself (Some (V.Int a)) = (Decides-int_eq a a).1 refl
same_itself (Some (V.Text a)) = (bytes_eq-Decides a a).1 refl
same_itself (Some (V.Ident a)) = eq-eqb a a refl

pub same_from : (a b : Option Value) → a ≡ b → same_value a b ≡ true
same_from a b e = rw e (same_itself b)

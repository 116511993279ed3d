-- Keys are of their entities' forms among live rows, where they are among all.
use Rattle.std.proofs.Common.{◌≡◌, Bool, true, false, ◌&&◌, List, [], ◌∷◌, refl}
use Rattle.std.specs.Prelude.{cond}
use Rattle.std.specs.List.{list_all}
use Rattle.std.proofs.lemmas.Bool.{and_from, and_parts}
use Rattle.shop_defs.specs.declared.row.Row.{Row}
use Rattle.shop_operations.specs.References.{is_live, live}

pub live_pass : (p : Row → Bool) (rows : List Row) → list_all p rows ≡ true → list_all p (live rows) ≡ true
live_pass p [] all = refl
live_pass p (row ∷ rows) all = by (live_pass p rows both.1) (is_live row)
  where
    both : (p row ≡ true) × (list_all p rows ≡ true)
    both = and_parts (p row) (list_all p rows) all

    by : list_all p (live rows) ≡ true → (b : Bool) → list_all p (cond b (row ∷ live rows) (live rows)) ≡ true
    by rest true = and_from _ _ both.0 rest
    by rest false = rest

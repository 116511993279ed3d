-- A shop's categories, as the definitions have them.
use Rattle.std.specs.Prelude.{◌≡◌, ℕ, pos, true, List, [], ◌∷◌, Some, None}
use Rattle.shop_defs.specs.declared.entity.Entity.TheVariants as E
use Rattle.shop_defs.specs.declared.row.Row.{Row}
use Rattle.shop_defs.specs.declared.value.Value.TheVariants as V
use Rattle.shop_meanings.specs.Categories.{path, children_of, standing, standing_of}

-- a category without a parent, and one below another, in a version
abbrev top : ℕ → Row
top id = record { key = record { entity = E.Category; version = 0; id = id; second = 0 }; fields = (2, V.Flag true) ∷ (3, V.Int (pos 0)) ∷ []; ops = [] }

abbrev below : ℕ → ℕ → ℕ → Row
below version id parent = record { key = record { entity = E.Category; version = version; id = id; second = 0 }; fields = (1, V.Ident parent) ∷ (2, V.Flag true) ∷ (3, V.Int (pos 0)) ∷ []; ops = [] }

-- clothing has shirts and shoes below it, and shirts have polos; garden stands apart. In a draft shirts stand in the garden
abbrev shop : List Row
shop = top 17 ∷ below 0 18 17 ∷ below 0 19 18 ∷ below 0 20 17 ∷ top 30 ∷ below 112 18 30 ∷ []

-- the same once shirts are moved to the garden
abbrev moved : List Row
moved = top 17 ∷ below 0 18 30 ∷ below 0 19 18 ∷ below 0 20 17 ∷ top 30 ∷ below 112 18 30 ∷ []

-- A category that moves takes along all below it. Drafts count for nothing.
pub record ShirtsAreMoved : Type 0 where
  pub clothing : standing shop 17 ≡ Some (standing_of [] (18 ∷ 20 ∷ []))
  pub shirts : standing shop 18 ≡ Some (standing_of (17 ∷ []) (19 ∷ []))
  pub polos : standing shop 19 ≡ Some (standing_of (17 ∷ 18 ∷ []) [])
  pub garden : standing shop 30 ≡ Some (standing_of [] [])
  pub less_clothing : standing moved 17 ≡ Some (standing_of [] (20 ∷ []))
  pub moved_shirts : standing moved 18 ≡ Some (standing_of (30 ∷ []) (19 ∷ []))
  pub moved_polos : standing moved 19 ≡ Some (standing_of (30 ∷ 18 ∷ []) [])
  pub more_garden : standing moved 30 ≡ Some (standing_of [] (18 ∷ []))
  pub no_category : standing shop 21 ≡ None
  pub deeper : path moved 19 ≡ 30 ∷ 18 ∷ []
  pub children : children_of moved 30 ≡ 18 ∷ []

-- Two days of a shop, computed by the definitions: a draft that is merged, and one that isn't.
use Rattle.std.specs.Prelude.{◌≡◌, ℕ, pos, true, not, List, [], ◌∷◌, Some, codes, Ok, Err}
use Rattle.shop_defs.specs.declared.broken.Broken.TheVariants as B
use Rattle.shop_defs.specs.declared.entity.Entity.{Entity}
use Rattle.shop_defs.specs.declared.entity.Entity.TheVariants as E
use Rattle.shop_defs.specs.declared.op.Op.{Op}
use Rattle.shop_defs.specs.declared.op.OpKind.TheVariants.{Upsert, Delete}
use Rattle.shop_requests.specs.declared.raw.RawOp.{RawOp}
use Rattle.shop_defs.specs.declared.row.Row.{Row}
use Rattle.shop_defs.specs.declared.value.Value.{Value}
use Rattle.shop_defs.specs.declared.value.Value.TheVariants as V
use Rattle.shop_requests.specs.declared.raw.Raw.TheVariants as raw
use Rattle.std.specs.List.{list_all}
use Rattle.shop_defs.specs.declared.table.TheConstants.{REFERENCES, LEVEL_LIMITS}
use Rattle.shop_operations.specs.Parents.{is_deep}
use Rattle.shop_operations.specs.Soundness.{IsCoherent}
use Rattle.shop_operations.specs.References.{live}
use Rattle.shop_soundness.specs.Batches.{live_batch}
use Rattle.shop_drafts.specs.declared.aggregate.Root.{Root}
use Rattle.shop_drafts.specs.Drafts.{over, draft_view}
use Rattle.shop_drafts.specs.Making.{make_draft, drop_draft, copied_count, dropped_count}
use Rattle.shop_drafts.specs.Merging.{merge, merged_count}
use Rattle.shop_drafts.specs.Writing.{draft_write}

abbrev row_of : Entity → ℕ → ℕ → ℕ → List (ℕ × Value) → Row
row_of entity version id second fields = record { key = record { entity = entity; version = version; id = id; second = second }; fields = fields; ops = [] }

-- the shirt and its text, in a version, with that price and that name
abbrev shirt : ℕ → ℕ → Row
shirt version gross = row_of E.Product version 32 0 ((2, V.Text (codes "SHIRT")) ∷ (3, V.Flag true) ∷ (4, V.Ident 3) ∷ (5, V.Int (pos gross)) ∷ (6, V.Int (pos 10000)) ∷ (7, V.Int (pos 250)) ∷ [])

abbrev text : ℕ → List ℕ → Row
text version name = row_of E.ProductTranslation version 32 1 ((1, V.Text name) ∷ [])

abbrev link : ℕ → Row
link version = row_of E.ProductCategory version 32 18 []

abbrev language : Row
language = row_of E.Language 0 1 0 ((1, V.Text (codes "English")) ∷ [])

abbrev tax : Row
tax = row_of E.Tax 0 3 0 ((1, V.Text (codes "Standard")) ∷ (2, V.Int (pos 1900)) ∷ [])

abbrev category : Row
category = row_of E.Category 0 18 0 ((2, V.Flag true) ∷ (3, V.Int (pos 0)) ∷ [])

-- a shop with a shirt, of that price and name
abbrev shop : ℕ → List ℕ → List Row
shop gross name = language ∷ tax ∷ category ∷ shirt 0 gross ∷ text 0 name ∷ link 0 ∷ []

abbrev root : Root
root = record { entity = E.Product; id = 32 }

-- the row of the draft with so many commits
abbrev draft : ℕ → Row
draft commits = row_of E.Draft 0 112 0 ((1, V.Text (codes "product")) ∷ (2, V.Ident 32) ∷ (3, V.Int (pos commits)) ∷ [])

-- the shirt is to be called a tee
abbrev tee : RawOp
tee = record { kind = Upsert; entity = codes "product_translation"; id = 32; second = 1; fields = (codes "name", raw.Text (codes "Tee")) ∷ [] }

abbrev tee_read : Op
tee_read = record { kind = Upsert; entity = E.ProductTranslation; id = 32; second = 1; fields = (1, Some (V.Text (codes "Tee"))) ∷ [] }

abbrev commit : Row
commit = record { key = record { entity = E.DraftCommit; version = 0; id = 112; second = 1 }; fields = (1, V.Int (pos 1)) ∷ []; ops = tee_read ∷ [] }

-- the shop with a new draft of the shirt
abbrev drafted_shop : List Row
drafted_shop =
    language ∷ tax ∷ category ∷ shirt 0 11900 ∷ shirt 112 11900 ∷ text 0 (codes "Shirt") ∷ text 112 (codes "Shirt") ∷ link 0 ∷ link 112 ∷ draft 0 ∷ []

-- the same once the text is written in the draft, and with that price in the live shop
abbrev written_shop : ℕ → List Row
written_shop gross =
    language ∷ tax ∷ category ∷ shirt 0 gross ∷ shirt 112 11900 ∷ text 0 (codes "Shirt") ∷ text 112 (codes "Tee") ∷ link 0 ∷ link 112 ∷ draft 1 ∷ commit ∷ []

-- the price rises
abbrev raise : RawOp
raise = record { kind = Upsert; entity = codes "product"; id = 32; second = 0; fields = (codes "gross", raw.Int (pos 12900)) ∷ [] }

-- A shirt is drafted and gets another name in the draft; its live price rises; then the draft is merged.
pub record TheTeeIsMerged : Type 0 where
  pub is_made : make_draft (shop 11900 (codes "Shirt")) 112 (codes "product") 32 ≡ Ok drafted_shop
  pub is_copied : copied_count (shop 11900 (codes "Shirt")) 112 root ≡ 3
  pub is_written : draft_write drafted_shop 112 (tee ∷ []) ≡ Ok (written_shop 11900)
  pub gets_dearer : live_batch (written_shop 11900) (raise ∷ []) ≡ Ok (live (written_shop 12900))
  pub shows : over (written_shop 12900) 112 root ≡ language ∷ tax ∷ category ∷ shirt 112 11900 ∷ text 112 (codes "Tee") ∷ link 112 ∷ draft 1 ∷ commit ∷ []
  pub is_merged : merge (written_shop 12900) 112 ≡ Ok (shop 12900 (codes "Tee"))
  pub count : merged_count (written_shop 12900) 112 ≡ 1
  pub again : merge (shop 12900 (codes "Tee")) 112 ≡ Err (B.NoSuchVersion 112)

-- the price alone
abbrev dearer : Op
dearer = record { kind = Upsert; entity = E.Product; id = 32; second = 0; fields = (5, Some (V.Int (pos 12900))) ∷ [] }

abbrev dearer_commit : Row
dearer_commit = record { key = record { entity = E.DraftCommit; version = 0; id = 112; second = 1 }; fields = (1, V.Int (pos 1)) ∷ []; ops = dearer ∷ [] }

-- the shop with the price in the draft
abbrev priced_shop : List Row
priced_shop =
    language ∷ tax ∷ category ∷ shirt 0 11900 ∷ shirt 112 12900 ∷ text 0 (codes "Shirt") ∷ text 112 (codes "Shirt") ∷ link 0 ∷ link 112 ∷ draft 1 ∷ dearer_commit ∷ []

-- the shirt is deleted
abbrev no_shirt : RawOp
no_shirt = record { kind = Delete; entity = codes "product"; id = 32; second = 0; fields = [] }

-- a shop of which the live shirt was deleted while a draft of it was edited
abbrev orphaned_shop : List Row
orphaned_shop = language ∷ tax ∷ category ∷ shirt 112 12900 ∷ text 112 (codes "Shirt") ∷ link 112 ∷ draft 1 ∷ dearer_commit ∷ []

-- The price alone can't be merged into a shop without the shirt; the draft can be dropped.
pub record TheMergeIsBroken : Type 0 where
  pub is_written : draft_write drafted_shop 112 (raise ∷ []) ≡ Ok priced_shop
  pub is_deleted : live_batch priced_shop (no_shirt ∷ []) ≡ Ok (live orphaned_shop)
  pub is_refused : merge orphaned_shop 112 ≡ Err (B.MergeBroken 1 1 (B.MissingRequired (codes "number")))
  pub is_dropped : drop_draft orphaned_shop 112 ≡ Ok (language ∷ tax ∷ category ∷ [])
  pub count : dropped_count orphaned_shop 112 ≡ 1

-- a category of that version, below another one
abbrev below : ℕ → ℕ → ℕ → Row
below version id parent = row_of E.Category version id 0 ((1, V.Ident parent) ∷ (2, V.Flag true) ∷ (3, V.Int (pos 0)) ∷ [])

abbrev top : ℕ → Row
top id = row_of E.Category 0 id 0 ((2, V.Flag true) ∷ (3, V.Int (pos 0)) ∷ [])

abbrev category_draft : Row
category_draft = row_of E.Draft 0 7 0 ((1, V.Text (codes "category")) ∷ (2, V.Ident 1) ∷ (3, V.Int (pos 1)) ∷ [])

-- In a draft of category 1 it comes below category 2; then the live category 2 comes below the live category 1. Each was
-- accepted in its view; but what the draft shows from then on runs in a circle.
abbrev circle : List Row
circle = top 1 ∷ below 0 2 1 ∷ below 7 1 2 ∷ category_draft ∷ []

pub record ADraftMayRunInACircle : Type 0 where
  pub shows : over circle 7 (record { entity = E.Category; id = 1 }) ≡ below 7 1 2 ∷ below 0 2 1 ∷ category_draft ∷ []
  pub live : list_all (λ row. not (is_deep REFERENCES LEVEL_LIMITS (top 1 ∷ below 0 2 1 ∷ []) row)) (top 1 ∷ below 0 2 1 ∷ []) ≡ true
  pub drafted : IsCoherent (draft_view circle 7 (record { entity = E.Category; id = 1 })) → ⊥

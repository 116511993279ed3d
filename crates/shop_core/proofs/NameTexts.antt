-- The names that lines of carts are called by are UTF-8.
use Rattle.std.proofs.Common.{◌≡◌, ℕ, ◌==◌, Bool, true, false, List, [], ◌∷◌, map, Option, Some, None, refl, subst}
use Rattle.std.specs.List.{AllByRecursion}
use Rattle.std.specs.Option.{option_map, option_to_list}
use Rattle.std.specs.Ordering.{is_eq}
use Rattle.std.specs.Str.{is_utf8}
use Rattle.std.proofs.lemmas.Str.{utf8_lossy-IsUtf8, IsUtf8-from_is_utf8}
use Rattle.shop_defs.specs.declared.entity.Entity.{Entity}
use Rattle.shop_defs.specs.declared.entity.Entity.TheVariants as E
use Rattle.shop_defs.specs.declared.key.Key.{Key}
use Rattle.shop_defs.specs.declared.row.Row.{Row}
use Rattle.shop_defs.specs.declared.value.Value.{Value}
use Rattle.shop_defs.specs.declared.value.Value.TheVariants as V
use Rattle.shop_defs.specs.declared.words.FieldName.TheVariants as N
use Rattle.shop_defs.specs.Keys.{key_cmp}
use Rattle.shop_defs.specs.Rows.{field_in, field_of, row_at}
use Rattle.row_fields.specs.Fields.{number_of, id_at}
use Rattle.shop_kept.specs.Spelling.{IsField, IsValue}
use Rattle.shop_chain.specs.Translations.{first_of, in_language, text, text_at, text_of, translation_key}
use Rattle.cart_price.specs.Lent.{CartRows}
use Rattle.cart_collect.specs.Finding.{live_at, live_key}
use Rattle.cart_collect.specs.Collected.{by_product, cart_data, languages_of, line_of, lines_of}
use Rattle.shop_check.specs.Soundness.{IsSoundRow}
use Rattle.shop_core.specs.Carts.{IsNamedAsItIs, SoundNamesAreTexts}

-- ---- texts of sound rows

value_found : (fields : List (ℕ × Value)) (number : ℕ) (value : Value) → AllByRecursion (IsField IsValue) fields → field_in fields number ≡ Some value → IsValue value
value_found [] number value all e = absurd (cc)
value_found (field ∷ fields) number value all e = by (value_found fields number value) (field.0 == number) refl
  where
    by : (AllByRecursion (IsField IsValue) fields → field_in fields number ≡ Some value → IsValue value) → (b : Bool) → (field.0 == number) ≡ b → IsValue value
    by more true f =
        let e2 : Some field.1 ≡ Some value = rw f at e in
        let same : field.1 ≡ value = cc in
        subst IsValue same all.0.1
    by more false f = let e2 : field_in fields number ≡ Some value = rw f at e in more all.1 e2

row_found : (rows : List Row) (key : Key) (row : Row) → AllByRecursion IsSoundRow rows → row_at rows key ≡ Some row → IsSoundRow row
row_found [] key row all e = absurd (cc)
row_found (first ∷ rows) key row all e = by (row_found rows key row) (is_eq (key_cmp first.key key)) refl
  where
    by : (AllByRecursion IsSoundRow rows → row_at rows key ≡ Some row → IsSoundRow row) → (b : Bool) → is_eq (key_cmp first.key key) ≡ b → IsSoundRow row
    by more true f =
        let e2 : Some first ≡ Some row = rw f at e in
        let same : first ≡ row = cc in
        subst IsSoundRow same all.0
    by more false f = let e2 : row_at rows key ≡ Some row = rw f at e in more all.1 e2

text_is : (value : Option Value) (bytes : List ℕ) → ((found : Value) → value ≡ Some found → IsValue found) → text value ≡ Some bytes → is_utf8 bytes ≡ true
text_is None bytes is e = absurd (cc)
text_is (Some (V.Flag flag)) bytes is e = absurd (cc)
text_is (Some (V.Int number)) bytes is e = absurd (cc)
text_is (Some (V.Ident id)) bytes is e = absurd (cc)
text_is (Some (V.Text held)) bytes is e =
    let same : held ≡ bytes = cc in
    subst (λ (t : List ℕ). is_utf8 t ≡ true) same (is (V.Text held) refl).1

first_found : {X Y : Type 0} (find : X → Option Y) (P : Y → Type 0) → ((x : X) (y : Y) → find x ≡ Some y → P y) → (xs : List X) (y : Y) → first_of find xs ≡ Some y → P y
first_found find P each [] y e = absurd (cc)
first_found {X} {Y} find P each (x ∷ xs) y e = by (first_found find P each xs y) (find x) refl
  where
    by : (first_of find xs ≡ Some y → P y) → (found : Option Y) → find x ≡ found → P y
    by more None f = let e2 : first_of find xs ≡ Some y = rw f at e in more e2
    by more (Some z) f =
        let e2 : Some z ≡ Some y = rw f at e in
        let same : z ≡ y = cc in
        subst P same (each x z f)

module _ (rows : List Row) (all : AllByRecursion IsSoundRow rows) where
  text_found : (entity : Entity) (field language id : ℕ) (bytes : List ℕ) → text_at (row_at rows) entity 0 field language id ≡ Some bytes → is_utf8 bytes ≡ true
  text_found entity field language id bytes e = by (row_at rows (translation_key entity 0 id language)) refl
    where
      by : (row : Option Row) → row_at rows (translation_key entity 0 id language) ≡ row → is_utf8 bytes ≡ true
      by None f = let e2 : None ≡ Some bytes = rw f at e in absurd (cc)
      by (Some row) f =
          let e2 : text (field_of row field) ≡ Some bytes = rw f at e in
          let sound = row_found rows (translation_key entity 0 id language) row all f in
          text_is (field_of row field) bytes (λ found g. value_found row.fields field found sound.encoding.0.1 g) e2

  name_found : (product : ℕ) (parent : Option ℕ) (field : ℕ) (languages : List ℕ) (bytes : List ℕ) → text_of (row_at rows) 0 product parent field languages ≡ Some bytes → is_utf8 bytes ≡ true
  name_found product parent field languages bytes e =
      first_found (in_language (row_at rows) E.ProductTranslation 0 (product ∷ option_to_list parent) field) (λ (t : List ℕ). is_utf8 t ≡ true)
      (λ language found f.
      first_found (text_at (row_at rows) E.ProductTranslation 0 field language) (λ (t : List ℕ). is_utf8 t ≡ true) (λ id held g. text_found E.ProductTranslation field language id held g) (product ∷ option_to_list parent) found f)
      languages bytes e

  line_named : (languages : List ℕ) (line : Row) → IsNamedAsItIs (line_of rows languages line)
  line_named languages line = by (live_at rows E.Product (id_at line (number_of E.CartLine N.Product)))
    where
      by : (product : Option Row) → IsNamedAsItIs (by_product rows languages line product)
      by None name e = absurd (cc)
      by (Some product) name e =
          utf8_lossy-IsUtf8 name (IsUtf8-from_is_utf8 name (
          name_found product.key.id (option_map (λ row. row.key.id) (live_at rows E.Product (id_at product (number_of E.Product N.Parent)))) (number_of E.ProductTranslation N.Name) languages name e))

  lines_named : (languages : List ℕ) (lines : List Row) → AllByRecursion IsNamedAsItIs (map (line_of rows languages) lines)
  lines_named languages [] = tt
  lines_named languages (line ∷ lines) = (line_named languages line, lines_named languages lines)

pub names_are_texts : SoundNamesAreTexts
names_are_texts rows cart lent sound e = by (row_at rows (live_key E.Cart cart)) refl
  where
    by : (found : Option Row) → row_at rows (live_key E.Cart cart) ≡ found → AllByRecursion IsNamedAsItIs lent.lines
    by None f = let e2 : None ≡ Some lent = rw f at e in absurd (cc)
    by (Some row) f =
        let e2 : Some (cart_data rows row) ≡ Some lent = rw f at e in
        let same : cart_data rows row ≡ lent = cc in
        subst (λ (l : CartRows). AllByRecursion IsNamedAsItIs l.lines) same (lines_named rows sound.each (languages_of rows row) (lines_of rows row.key.id))

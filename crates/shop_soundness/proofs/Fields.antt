-- What a row's fields are after some are taken out, and which ids presets give.
use Rattle.std.proofs.Common.{◌≡◌, ℕ, Bool, true, false, List, [], ◌∷◌, refl, sym, ap, subst, ◌∙◌, Option, Some, None}
use Rattle.std.specs.Prelude.{filter, cond, nat_eq, is_some, if◌then◌else◌}
use Rattle.std.specs.List.{fold}
use Rattle.std.specs.Option.{option_map}
use Rattle.std.proofs.lemmas.Bool.{eqb-true}
use Rattle.shop_defs.specs.declared.table.FieldInfo.{FieldInfo}
use Rattle.shop_defs.specs.declared.table.FieldKind.{FieldKind}
use Rattle.shop_defs.specs.declared.table.FieldKind.TheVariants as K
use Rattle.shop_defs.specs.declared.table.Preset.{Preset}
use Rattle.shop_defs.specs.declared.table.Preset.TheVariants as D
use Rattle.shop_defs.specs.declared.value.Value.{Value}
use Rattle.shop_defs.specs.declared.value.Value.TheVariants as V
use Rattle.shop_defs.specs.Presets.{preset_in, preset_of}
use Rattle.shop_defs.specs.Rows.{field_in}
use Rattle.shop_operations.specs.References.{ident}
use Rattle.shop_operations.specs.Upserts.{give, fill}
use Rattle.shop_operations.proofs.Fields.{put_same, without_none, give_other}
use Rattle.shop_soundness.proofs.Lists.{no_some}

-- a field that stays is as it was, and one that goes is none
pub field_filter : (keeps : ℕ → Bool) (fields : List (ℕ × Value)) (number : ℕ) → field_in (filter (λ entry. keeps entry.0) fields) number ≡ (if keeps number then field_in fields number else None)
field_filter keeps [] number = by (keeps number)
  where
    by : (b : Bool) → (let n : Option Value = None in n) ≡ (if b then None else None)
    by true = refl
    by false = refl
field_filter keeps (entry ∷ rest) number = by (field_filter keeps rest number) (keeps entry.0) refl (nat_eq entry.0 number) refl
  where
    by : field_in (filter (λ e. keeps e.0) rest) number ≡ (if keeps number then field_in rest number else None) → (b : Bool) → keeps entry.0 ≡ b → (c : Bool) → nat_eq entry.0 number ≡ c → field_in (cond b (entry ∷ filter (λ e. keeps e.0) rest) (filter (λ e. keeps e.0) rest)) number ≡ (if keeps number then (if c then Some entry.1 else field_in rest number) else None)
    by more true e true f = rw f (rw (← ap keeps (eqb-true _ _ f), e) refl)
    by more true e false f = rw f more
    by more false e true f = more ∙ rw (← ap keeps (eqb-true _ _ f), e) refl
    by more false e false f = more

-- ---- presets

word_no_id : (text : Option (List ℕ)) → ident (option_map V.Text text) ≡ None
word_no_id None = refl
word_no_id (Some text) = refl

-- a preset is no id
no_preset : (kind : FieldKind) (preset : Preset) → ident (preset_in kind preset) ≡ None
no_preset kind D.Absent = refl
no_preset kind (D.Flag flag) = refl
no_preset kind (D.Int number) = refl
no_preset (K.Choice choice) D.FirstWord = word_no_id _
no_preset K.Flag D.FirstWord = refl
no_preset (K.Int low high) D.FirstWord = refl
no_preset K.Interval D.FirstWord = refl
no_preset (K.Text low high) D.FirstWord = refl
no_preset (K.Id entity) D.FirstWord = refl
no_preset K.Loose D.FirstWord = refl
no_preset K.Day D.FirstWord = refl

-- where a field is filled there is no id
filled_none : (fields : List (ℕ × Value)) (number : ℕ) (value : Option Value) → field_in fields number ≡ None → ident value ≡ None → ident (field_in (give fields (number, value)) number) ≡ None
filled_none fields number None e f = ap ident (without_none fields number number e)
filled_none fields number (Some value) e f = ap ident (put_same fields number value) ∙ f

-- an id that is there after a fill was there
fill_ident : (fields : List (ℕ × Value)) (field : FieldInfo) (number id : ℕ) → ident (field_in (fill fields field) number) ≡ Some id → ident (field_in fields number) ≡ Some id
fill_ident fields field number id h = by (field_in fields field.number) refl h
  where
    by_number : field_in fields field.number ≡ None → (b : Bool) → nat_eq field.number number ≡ b → ident (field_in (give fields (field.number, preset_of field)) number) ≡ Some id → ident (field_in fields number) ≡ Some id
    by_number n false e g = sym (ap ident (give_other fields number field.number (preset_of field) e)) ∙ g
    by_number n true e g = absurd (no_some id (sym (filled_none fields field.number (preset_of field) n (no_preset field.kind field.preset)) ∙ subst (λ m. ident (field_in (give fields (field.number, preset_of field)) m) ≡ Some id) (sym (eqb-true field.number number e)) g))

    by : (there : Option Value) → field_in fields field.number ≡ there → ident (field_in (if is_some there then fields else give fields (field.number, preset_of field)) number) ≡ Some id → ident (field_in fields number) ≡ Some id
    by (Some value) f g = g
    by None f g = by_number f (nat_eq field.number number) refl g

pub filled_ident : (table : List FieldInfo) (fields : List (ℕ × Value)) (number id : ℕ) → ident (field_in (fold fill fields table) number) ≡ Some id → ident (field_in fields number) ≡ Some id
filled_ident [] fields number id h = h
filled_ident (field ∷ rest) fields number id h = fill_ident fields field number id (filled_ident rest (fill fields field) number id h)

-- What a field may keep.
use Rattle.std.specs.Prelude.{ℕ, ℤ, pos, Bool, true, false, not, ◌==◌, ◌&&◌, ◌||◌, nat_le, List, length, Option, Some, None}
use lib.Signed.{le_z}
use Rattle.std.specs.List.{list_any}
use Rattle.std.specs.Ordering.{int_eq}
use Rattle.std.specs.Str.{bytes_eq}
use Rattle.shop_defs.specs.declared.value.Value.{Value}
use Rattle.shop_defs.specs.declared.value.Value.TheVariants as V
use Rattle.shop_defs.specs.declared.table.FieldKind.{FieldKind}
use Rattle.shop_defs.specs.declared.table.FieldKind.TheVariants as K
use Rattle.shop_defs.specs.declared.words.Choice.{Choice}
use Rattle.shop_defs.specs.Texts.{choice_texts}
use Rattle.shop_defs.specs.Days.{is_day_number}

-- the text is one of the words
abbrev pub is_word : Choice → List ℕ → Bool
is_word choice text = list_any (λ word. bytes_eq word text) (choice_texts choice)

-- the number is one that totals may be rounded to
abbrev pub is_interval : ℤ → Bool
is_interval n = int_eq n (pos 1) || int_eq n (pos 5) || int_eq n (pos 10) || int_eq n (pos 50) || int_eq n (pos 100)

-- the value is one that a field of the kind may keep
abbrev pub fits : FieldKind → Value → Bool
fits K.Flag (V.Flag flag) = true
fits (K.Int low high) (V.Int number) = le_z low number && le_z number high
fits K.Interval (V.Int number) = is_interval number
fits (K.Text low high) (V.Text text) = nat_le low (length text) && nat_le (length text) high
fits (K.Choice choice) (V.Text text) = is_word choice text
fits (K.Id entity) (V.Ident id) = not (id == 0)
fits K.Loose (V.Ident id) = not (id == 0)
fits K.Day (V.Int day) = is_day_number day
fits kind value = false

-- it is null, or a value that fits
abbrev pub null_or_fits : FieldKind → Option Value → Bool
null_or_fits kind None = true
null_or_fits kind (Some value) = fits kind value

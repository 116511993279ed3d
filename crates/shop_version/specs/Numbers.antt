-- The number of commits that a draft's row tells.
use Rattle.std.specs.Prelude.{ℕ, ◌^◌, ℤ, pos, negsuc, nat_lt, Option, Some, if◌then◌else◌}
use Rattle.shop_defs.specs.declared.value.Value.{Value}
use Rattle.shop_defs.specs.declared.value.Value.TheVariants as V

-- the number, where it is from 0 to 2 ^ 32 - 1, and else 0
abbrev pub small_number : ℤ → ℕ
small_number (pos number) = if nat_lt number (2 ^ 32) then number else 0
small_number (negsuc below) = 0

-- the number that a field tells: 0 where it tells none
abbrev pub number_told : Option Value → ℕ
number_told (Some (V.Int number)) = small_number number
number_told value = 0

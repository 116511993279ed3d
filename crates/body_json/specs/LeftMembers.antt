-- The members of an object that are left when some are taken out.
use Rattle.std.specs.Prelude.{ℕ, List, codes, if◌then◌else◌}
use Rattle.std.specs.Cmp.Lexicographic.{slice_cmp}
use Rattle.std.specs.Ordering.{is_eq, nat_cmp}
use Rattle.serde_json.specs.Data.{Members, no_members, member}
use Rattle.shop_defs.specs.declared.op.OpKind.{OpKind}
use Rattle.shop_defs.specs.declared.op.OpKind.TheVariants.{Upsert, Delete}

-- without the first member with that name
abbrev pub without : List ℕ → Members → Members
without name no_members = no_members
without name (member other d ms) = if is_eq (slice_cmp nat_cmp name other) then ms else member other d (without name ms)

-- without the fields, which only an upsert gives
abbrev pub without_fields : OpKind → Members → Members
without_fields Upsert ms = without (codes "fields") ms
without_fields Delete ms = ms

-- What is left of an object after members are taken out.
use Rattle.std.proofs.Common.{◌≡◌, ℕ, List, [], ◌∷◌, Option, Some, String, Global, string_bytes, nat_cmp, is_eq, Ordering, Less, Equal, Greater, cond, Bool, true, false, bytes_eq, true≢false, refl, sym, ap, ◌∙◌}
use Rattle.std.proofs.lemmas.Map.Text.{is_eq-slice_cmp}
use Rattle.std.proofs.lemmas.Slice.Eq.{bytes_eq-Decides}
use Rattle.std.specs.BTreeMap.{is_at}
use Rattle.std.specs.Cmp.Lexicographic.{slice_cmp}
use Rattle.std.specs.List.{list_any}
use Rattle.std.specs.Map.{remove_entry}
use Rattle.std.specs.Ordering.{match_ordering}
use Rattle.serde_json.specs.Data.{Data, Members, no_members, member}
use Rattle.serde_json.specs.Find.{get_member}
use Rattle.serde_json.specs.View.{members_view}
use Rattle.serde_json.specs.declared.value.Value.{Value}
use Rattle.body_json.specs.LeftMembers.{without}
use Rattle.body_json.specs.Shapes.{unknown}

abbrev Entry : Type 0
Entry = String Global × Value

members_view-cond : (b : Bool) (xs ys : List Entry) → members_view (cond b xs ys) ≡ cond b (members_view xs) (members_view ys)
members_view-cond true xs ys = refl
members_view-cond false xs ys = refl

-- what is taken out of the map is taken out of the members
pub members_view-remove_entry : (name : List ℕ) (es : List Entry) → members_view (remove_entry (is_at (λ k. slice_cmp nat_cmp name (string_bytes k))) es) ≡ without name (members_view es)
members_view-remove_entry name [] = refl
members_view-remove_entry name (e ∷ es) = members_view-cond (is_eq (slice_cmp nat_cmp name (string_bytes e.0))) _ _ ∙ rw (members_view-remove_entry name es)

equal_names : (k l : List ℕ) → is_eq (slice_cmp nat_cmp k l) ≡ true → k ≡ l
equal_names k l e = (bytes_eq-Decides k l).0 (sym (is_eq-slice_cmp k l) ∙ e)

-- a member with another name is passed over
passed : (o : Ordering) (a b : Option Data) → is_eq o ≡ false → match_ordering o a b a ≡ a
passed Less a b e = refl
passed Equal a b e = absurd (true≢false e)
passed Greater a b e = refl

differ : (b : Bool) (q l : List ℕ) → is_eq (slice_cmp nat_cmp q l) ≡ b → (q ≡ l → ⊥) → is_eq (slice_cmp nat_cmp q l) ≡ false
differ true q l e other = absurd (other (equal_names q l e))
differ false q l e other = e

skips : (q l : List ℕ) (d : Data) (ms : Members) → (q ≡ l → ⊥) → get_member q (member l d ms) ≡ get_member q ms
skips q l d ms other = passed (slice_cmp nat_cmp q l) _ _ (differ _ q l refl other)

get_member-without_at : (b : Bool) (q k l : List ℕ) (d : Data) (ms : Members) → is_eq (slice_cmp nat_cmp k l) ≡ b → (q ≡ k → ⊥)
    → get_member q (without k ms) ≡ get_member q ms → get_member q (cond b ms (member l d (without k ms))) ≡ get_member q (member l d ms)
get_member-without_at true q k l d ms is other later = sym (skips q l d ms (λ h. other (h ∙ sym (equal_names k l is))))
get_member-without_at false q k l d ms is other later = ap (λ r. match_ordering (slice_cmp nat_cmp q l) r (Some d) r) later

other_stays : (q k : List ℕ) (ms : Members) → (q ≡ k → ⊥) → get_member q (without k ms) ≡ get_member q ms
other_stays q k no_members other = refl
other_stays q k (member l d ms) other = get_member-without_at _ q k l d ms refl other (other_stays q k ms other)

-- the members with other names stay
pub get_member-without : (q k : List ℕ) (ms : Members) → bytes_eq q k ≡ false → get_member q (without k ms) ≡ get_member q ms
get_member-without q k ms other = other_stays q k ms (λ h. true≢false (sym ((bytes_eq-Decides q k).1 h) ∙ other))

unknown-without_at : (b : Bool) (known : List (List ℕ)) (k l : List ℕ) (d : Data) (ms : Members) → is_eq (slice_cmp nat_cmp k l) ≡ b → list_any (bytes_eq k) known ≡ true
    → unknown known (without k ms) ≡ unknown known ms → unknown known (cond b ms (member l d (without k ms))) ≡ unknown known (member l d ms)
unknown-without_at true known k l d ms is among later = let at_l : list_any (bytes_eq l) known ≡ true = rw (equal_names k l is) at among in rw at_l refl
unknown-without_at false known k l d ms is among later = ap (λ r. cond (list_any (bytes_eq l) known) r (Some l)) later

-- a known member that is taken out changes nothing about the unknown ones
pub unknown-without : (known : List (List ℕ)) (k : List ℕ) (ms : Members) → list_any (bytes_eq k) known ≡ true → unknown known (without k ms) ≡ unknown known ms
unknown-without known k no_members among = refl
unknown-without known k (member l d ms) among = unknown-without_at _ known k l d ms refl among (unknown-without known k ms among)

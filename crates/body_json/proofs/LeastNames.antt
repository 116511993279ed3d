-- In an object that is read names ascend, so the first unknown one is the least.
use Rattle.std.proofs.Common.{◌≡◌, ◌∙◌, ℕ, zero, suc, List, Option, Some, None, option_map, option_and_then, Bool, true, false, not, cond, bytes_eq, Ordering, Less, Equal, Greater, nat_cmp, map, fold, refl, sym, ap, subst}
use Rattle.std.proofs.lemmas.Cmp.{nat_list_cmp_total}
use Rattle.std.specs.Cmp.Lexicographic.{slice_cmp}
use Rattle.std.specs.List.{AllByRecursion, list_any}
use Rattle.std.specs.List.Sorted.{IsStrictlySortedBy}
use Rattle.std.specs.Ordering.{match_ordering, ordering_reverse}
use Rattle.json.specs.Json as json
use Rattle.json.specs.Lex.{tokens}
use Rattle.serde_json.specs.Data.{Data, null, boolean, number, string, array, object, Items, no_items, item, Members, no_members, member, put}
use Rattle.serde_json.specs.Find.{as_array, get_item}
use Rattle.serde_json.specs.Read.{of_json, of_items, of_members, number_of, max_depth}
use Rattle.shop_requests.specs.Operations.{Given, lesser}
use Rattle.body_json.specs.FirstPlaces.{is_other, TheLeastIsNamed}
use Rattle.body_json.specs.WellFormed.{NamesAscend}
use Rattle.body_json.specs.Shapes.{given, unknown}

abbrev order : List ℕ → List ℕ → Ordering
order = slice_cmp nat_cmp

abbrev Below : List ℕ → Members → Type 0
Below name ms = AllByRecursion (λ other. order name other ≡ Less) (map (λ field. field.0) (given ms))

-- ---- a member that is put into an object

below_put_at : (o : Ordering) (l k m : List ℕ) (d e : Data) (ms : Members) → order l k ≡ Less → Below l (member m e ms) → Below l (put k d ms)
    → Below l (match_ordering o (member k d (member m e ms)) (member m d ms) (member m e (put k d ms)))
below_put_at Less l k m d e ms less below later = (less, below)
below_put_at Equal l k m d e ms less below later = below
below_put_at Greater l k m d e ms less below later = (below.0, later)

below_put : (l k : List ℕ) (d : Data) (ms : Members) → order l k ≡ Less → Below l ms → Below l (put k d ms)
below_put l k d no_members less below = (less, tt)
below_put l k d (member m e ms) less below = below_put_at (order k m) l k m d e ms less below (below_put l k d ms less below.1)

below_all : (k l : List ℕ) (ms : Members) → order k l ≡ Less → Below l ms → Below k ms
below_all k l no_members less below = tt
below_all k l (member m e ms) less below = (nat_list_cmp_total.trans k l m less below.0, below_all k l ms less below.1)

after_put : (o : Ordering) (k l : List ℕ) (d e : Data) (ms : Members) → order k l ≡ o → NamesAscend (given (member l e ms)) → NamesAscend (given (put k d ms))
    → NamesAscend (given (match_ordering o (member k d (member l e ms)) (member l d ms) (member l e (put k d ms))))
unfolding IsStrictlySortedBy
after_put Less k l d e ms is ascend later = ((is, below_all k l ms is ascend.0), ascend)
after_put Equal k l d e ms is ascend later = ascend
after_put Greater k l d e ms is ascend later = (below_put l k d ms (nat_list_cmp_total.antisymm l k ∙ ap ordering_reverse is) ascend.0, later)

put_ascends : (k : List ℕ) (d : Data) (ms : Members) → NamesAscend (given ms) → NamesAscend (given (put k d ms))
unfolding IsStrictlySortedBy
put_ascends k d no_members ascend = (tt, tt)
put_ascends k d (member l e ms) ascend = after_put _ k l d e ms refl ascend (put_ascends k d ms ascend.1)

-- ---- what is read

from_some : {A B : Type 0} (f : A → Option B) (o : Option A) (b : B) → option_and_then f o ≡ Some b → (a : A) × (o ≡ Some a) × (f a ≡ Some b)
from_some f None b e = absurd cc
from_some f (Some a) b e = (a, refl, e)

from_map : {A B : Type 0} (f : A → B) (o : Option A) (b : B) → option_map f o ≡ Some b → (a : A) × (o ≡ Some a) × (f a ≡ b)
from_map f None b e = absurd cc
from_map f (Some a) b e = (a, refl, cc)

members_ascend : (js : json.Members) (found ms : Members) → of_members js found ≡ Some ms → NamesAscend (given found) → NamesAscend (given ms)
members_ascend json.no_members found ms e ascend = let same : found ≡ ms = cc in subst (λ m. NamesAscend (given m)) same ascend
members_ascend (json.member k j js) found ms e ascend =
    let first = from_some (λ d. of_members js (put k d found)) (of_json j) ms e in
    members_ascend js (put k first.0 found) ms first.2 (put_ascends k first.0 found ascend)

none_ascend : NamesAscend (given no_members)
unfolding IsStrictlySortedBy
none_ascend = tt

object_ascends : (j : json.Json) (ms : Members) → of_json j ≡ Some (object ms) → NamesAscend (given ms)
object_ascends json.null ms e = absurd cc
object_ascends (json.boolean b) ms e = absurd cc
object_ascends (json.number s) ms e = let found = from_map number (number_of s) (object ms) e in absurd (let apart = found.2 in cc)
object_ascends (json.string s) ms e = absurd cc
object_ascends (json.array js) ms e = let found = from_map array (of_items js) (object ms) e in absurd (let apart = found.2 in cc)
object_ascends (json.object js) ms e =
    let found = from_map object (of_members js no_members) (object ms) e in
    let same : found.0 ≡ ms = (let is = found.2 in cc) in
    members_ascend js no_members ms (found.1 ∙ ap Some same) none_ascend

item_ascends : (js : json.Items) (ds : Items) (at : ℕ) (ms : Members) → of_items js ≡ Some ds → get_item at ds ≡ Some (object ms) → NamesAscend (given ms)
item_ascends json.no_items ds at ms e there = let none : no_items ≡ ds = cc in absurd (let found = ap (get_item at) none ∙ there in cc)
item_ascends (json.item j js) ds zero ms e there =
    let first = from_some (λ d. option_map (item d) (of_items js)) (of_json j) ds e in
    let more = from_map (item first.0) (of_items js) ds first.2 in
    object_ascends j ms (first.1 ∙ ap (get_item zero) more.2 ∙ there)
item_ascends (json.item j js) ds (suc at) ms e there =
    let first = from_some (λ d. option_map (item d) (of_items js)) (of_json j) ds e in
    let more = from_map (item first.0) (of_items js) ds first.2 in
    item_ascends js more.0 at ms more.1 (ap (get_item (suc at)) more.2 ∙ there)

is_array : (d : Data) (ds : Items) → as_array d ≡ Some ds → d ≡ array ds
is_array null ds e = absurd cc
is_array (boolean b) ds e = absurd cc
is_array (number n) ds e = absurd cc
is_array (string s) ds e = absurd cc
is_array (array items) ds e = cc
is_array (object ms) ds e = absurd cc

items_read : (j : json.Json) (ds : Items) → of_json j ≡ Some (array ds) → (js : json.Items) × (of_items js ≡ Some ds)
items_read json.null ds e = absurd cc
items_read (json.boolean b) ds e = absurd cc
items_read (json.number s) ds e = let found = from_map number (number_of s) (array ds) e in absurd (let apart = found.2 in cc)
items_read (json.string s) ds e = absurd cc
items_read (json.array js) ds e =
    let found = from_map array (of_items js) (array ds) e in
    let same : found.0 ≡ ds = (let is = found.2 in cc) in
    (js, found.1 ∙ ap Some same)
items_read (json.object js) ds e = let found = from_map object (of_members js no_members) (array ds) e in absurd (let apart = found.2 in cc)

-- ---- the least of the unknown names

abbrev lesser_unknown : List (List ℕ) → Option (List ℕ) → Given → Option (List ℕ)
lesser_unknown known best field = cond (is_other known field) (lesser best field.0) best

kept : (b : Bool) (name other : List ℕ) → order name other ≡ Less → cond b (lesser (Some name) other) (Some name) ≡ Some name
kept true name other below =
    let above : order other name ≡ Greater = nat_list_cmp_total.antisymm other name ∙ ap ordering_reverse below in
    rw above refl
kept false name other below = refl

stays : (known : List (List ℕ)) (name : List ℕ) (ms : Members) → Below name ms → fold (lesser_unknown known) (Some name) (given ms) ≡ Some name
stays known name no_members below = refl
stays known name (member other d ms) below = ap (λ best. fold (lesser_unknown known) best (given ms)) (kept (not (list_any (bytes_eq other) known)) name other below.0) ∙ stays known name ms below.1

first_least : (known : List (List ℕ)) (ms : Members) → NamesAscend (given ms) → unknown known ms ≡ fold (lesser_unknown known) None (given ms)
unfolding IsStrictlySortedBy
first_least known no_members ascend = refl
first_least known (member name d ms) ascend =
    elim (list_any (bytes_eq name) known) as (λ b. cond b (unknown known ms) (Some name) ≡ fold (lesser_unknown known) (cond (not b) (lesser None name) None) (given ms)) [
      | true ↦ first_least known ms ascend.1
      | false ↦ sym (stays known name ms ascend.0)
    ]

abbrev parsed : List ℕ → Option json.Json
parsed text = option_and_then (λ p. json.if_last p.0 p.1) (json.value max_depth (tokens text))

pub least_is_named : TheLeastIsNamed
least_is_named body d ds at ms reads list there known =
    let said = from_some of_json (parsed body) d reads.1 in
    let items = items_read said.0 ds (said.2 ∙ ap Some (is_array d ds list)) in
    first_least known ms (item_ascends items.0 ds at ms items.1 there)

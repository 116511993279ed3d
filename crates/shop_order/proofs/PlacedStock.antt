-- Placing an order takes from the stock just what the order holds.
use Rattle.std.proofs.Common.{◌≡◌, ◌≢◌, ℕ, suc, ◌+◌, ◌-◌, ◌≤◌, ◌<◌, ℤ, pos, Bool, true, false, ◌&&◌, ◌==◌, List, [], ◌∷◌, ◌++◌, map, length, filter, Option, Some, None, if◌then◌else◌, refl, sym, ap, subst, ◌∙◌, arith, Ok}
use Rattle.std.specs.Prelude.{codes}
use Rattle.std.specs.declared.cmp.Ordering.{Ordering}
use Rattle.std.specs.declared.cmp.Ordering.TheVariants.{Less, Equal, Greater}
use Rattle.std.specs.List.{AllByRecursion, filter_map, cons_option}
use Rattle.std.specs.Ordering.{is_eq, match_ordering, nat_cmp, ordering_then}
use Rattle.std.proofs.lemmas.Bool.{eqb-true, eq-eqb, and_parts}
use Rattle.keyed.specs.Keyed.{put}
use Rattle.keyed.proofs.Changes.{find_put}
use Rattle.shop_defs.specs.declared.entity.Entity.{Entity}
use Rattle.shop_defs.specs.declared.entity.Entity.TheVariants as E
use Rattle.shop_defs.specs.declared.key.Key.{Key}
use Rattle.shop_defs.specs.declared.row.Row.{Row}
use Rattle.shop_defs.specs.Joined.{Change, last_in}
use Rattle.shop_defs.specs.Keys.{key_cmp}
use Rattle.shop_defs.specs.Rows.{row_key, row_at, change_rows, IsInKeyOrder}
use Rattle.shop_defs.proofs.Keys.{key_cmp_total}
use Rattle.shop_defs.specs.declared.table.TheConstants.{REFERENCES}
use Rattle.shop_defs.specs.Entities.{entity_number}
use Rattle.shop_defs.proofs.EachLine.{same_entity}
use Rattle.shop_operations.specs.References.{is_entity, live, refers_at}
use Rattle.cart_price.specs.declared.priced.PricedLine.{PricedLine}
use Rattle.cart_price.specs.declared.priced.TaxSum.{TaxSum}
use Rattle.shop_order.specs.declared.stock.Move.{Move}
use Rattle.shop_order.specs.Parts.{line_part, line_want}
use Rattle.shop_order.specs.Placing.{take_out, keys_of_cart, cart_gone}
use Rattle.shop_rows.specs.Changing.{row_after, StandUnderTheirKeys}
use Rattle.shop_rows.proofs.ChangedRows.{row_at-change_rows}
use Rattle.shop_rows.proofs.Same.{key_is, is_equal, is_eq-then, is_eq-nat_cmp}
use Rattle.shop_order.specs.declared.parts.OrderPart.{OrderPart}
use Rattle.shop_order.specs.declared.wants.Want.{Want}
use Rattle.shop_order.specs.Held.{total, is_line, holds, held_by, held, pieces_in}
use Rattle.shop_order.specs.Keys.{stock_key, cart_key, order_key, line_key}
use Rattle.shop_order.specs.OrderRows.{line_row, lines_from, put_row, tax_change}
use Rattle.shop_order.specs.Wants.{is_line_key, is_line_of, lines_of, want_of, pieces, wanted, stock_moved}
use Rattle.shop_order.proofs.Totals.{total_changes, IsIdle}

-- ---- keys that changes don't touch

abbrev pub IsElsewhere : Key → Change → Type 0
IsElsewhere key change = change.0.entity ≡ key.entity → ⊥

not_at : (changes : List Change) (key : Key) → AllByRecursion (IsElsewhere key) changes → last_in changes key ≡ None
not_at [] key none = refl
not_at (change ∷ changes) key none = by (not_at changes key none.1) (is_eq (key_cmp change.0 key)) refl
  where
    by : last_in changes key ≡ None → (b : Bool) → is_eq (key_cmp change.0 key) ≡ b → last_in (change ∷ changes) key ≡ None
    by more true e = absurd (none.0 (ap (λ (k : Key). k.entity) (key_is change.0 key (is_equal (key_cmp change.0 key) e))))
    by more false e = rw (e, more) refl

pub untouched : (changes : List Change) (rows : List Row) (key : Key) → IsInKeyOrder rows → StandUnderTheirKeys changes → AllByRecursion (IsElsewhere key) changes → row_at (change_rows rows changes) key ≡ row_at rows key
untouched changes rows key up stand none = row_at-change_rows changes rows up stand key ∙ ap (λ (change : Option Change). row_after change (row_at rows key)) (not_at changes key none)

-- ---- a row that is new

pub total_insert : (f : Row → ℕ) (rows : List Row) (y : Row) → row_at rows y.key ≡ None → total f (put key_cmp row_key rows y) ≡ total f rows + f y
total_insert f [] y none = omega arith
total_insert f (x ∷ rows) y none = by (total_insert f rows y) (key_cmp x.key y.key) refl
  where
    by : (row_at rows y.key ≡ None → total f (put key_cmp row_key rows y) ≡ total f rows + f y) → (o : Ordering) → key_cmp x.key y.key ≡ o → total f (match_ordering o (x ∷ put key_cmp row_key rows y) (y ∷ rows) (y ∷ x ∷ rows)) ≡ total f (x ∷ rows) + f y
    by more Less e = let rest : row_at rows y.key ≡ None = rw e at none in let there = more rest in omega (arith, there)
    by more Equal e = let no : Some x ≡ None = rw e at none in absurd (cc)
    by more Greater e = omega arith

-- ---- the lines of a new order

same_line : (order a b : ℕ) → is_eq (key_cmp (line_key order a) (line_key order b)) ≡ (a == b)
same_line order a b = is_eq-then (nat_cmp order order) (nat_cmp a b) ∙ (ap (λ (t : Bool). t && is_eq (nat_cmp a b)) (is_eq-nat_cmp order order ∙ eq-eqb order order refl) ∙ is_eq-nat_cmp a b)

-- the lines from a position on leave those before it free
free_before : (order : ℕ) (position low : ℕ) (parts : List OrderPart) (labels : List (List ℕ)) (rows : List Row) → low < position → row_at (change_rows rows (lines_from order position parts labels)) (line_key order low) ≡ row_at rows (line_key order low)
free_before order position low [] labels rows less = refl
free_before order position low (part ∷ parts) [] rows less = refl
free_before order position low (part ∷ parts) (label ∷ labels) rows less =
    let next : List Row = put key_cmp row_key rows (line_row order position part label) in
    free_before order (position + 1) low parts labels next (omega (arith, less))
    ∙ (find_put key_cmp row_key key_cmp_total rows (line_row order position part label) (line_key order low)
    ∙ ap (λ (b : Bool). if b then Some (line_row order position part label) else row_at rows (line_key order low)) (same_line order position low ∙ greater position low less))
  where
    greater : (a b : ℕ) → b < a → (a == b) ≡ false
    greater a b low = by (a == b) refl
      where
        by : (c : Bool) → (a == b) ≡ c → (a == b) ≡ false
        by false e = e
        by true e = let same = eqb-true a b e in absurd (omega arith)

not_same : (a b : ℕ) → a < b → (a == b) ≡ false
not_same a b low = by (a == b) refl
  where
    by : (c : Bool) → (a == b) ≡ c → (a == b) ≡ false
    by false e = e
    by true e = let same = eqb-true a b e in absurd (omega arith)

-- the sum of what the lines give that are put from a position on
abbrev pub sum_of : (Row → ℕ) → ℕ → ℕ → List OrderPart → List (List ℕ) → ℕ
sum_of f order position [] labels = 0
sum_of f order position (part ∷ parts) [] = 0
sum_of f order position (part ∷ parts) (label ∷ labels) = f (line_row order position part label) + sum_of f order (position + 1) parts labels

-- what the lines hold that are put from a position on, where none stands there yet
pub lines_total : (f : Row → ℕ) (order position : ℕ) (parts : List OrderPart) (labels : List (List ℕ)) (rows : List Row) → ((at : ℕ) → position ≤ at → row_at rows (line_key order at) ≡ None)
    → total f (change_rows rows (lines_from order position parts labels)) ≡ total f rows + sum_of f order position parts labels
lines_total f order position [] labels rows free = omega arith
lines_total f order position (part ∷ parts) [] rows free = omega arith
lines_total f order position (part ∷ parts) (label ∷ labels) rows free =
    let row = line_row order position part label in
    let next : List Row = put key_cmp row_key rows row in
    let here = total_insert f rows row (free position (omega arith)) in
    let more = lines_total f order (position + 1) parts labels next
    (λ at low. find_put key_cmp row_key key_cmp_total rows row (line_key order at)
    ∙ (ap (λ (b : Bool). if b then Some row else row_at rows (line_key order at)) (same_line order position at ∙ not_same position at (omega (arith, low))) ∙ free at (omega (arith, low)))) in
    omega (arith, here, more)

-- ---- where changes are

apart : (a b : Entity) → (entity_number a == entity_number b) ≡ false → a ≡ b → ⊥
apart a b e same = let yes : (entity_number a == entity_number b) ≡ true = eq-eqb (entity_number a) (entity_number b) (ap (λ (x : Entity). entity_number x) same) in absurd (cc)

abbrev pub NotAt : Key → Entity → Type 0
NotAt key entity = (entity_number entity == entity_number key.entity) ≡ false

abbrev pub IsNoLine : Entity → Type 0
IsNoLine entity = (22 == entity_number entity) ≡ false

-- all changes are at keys of entities that pass the test
abbrev pub Are : (Entity → Type 0) → List Change → Type 0
Are P changes = AllByRecursion (λ change. P change.0.entity) changes

pub are_append : (P : Entity → Type 0) (xs ys : List Change) → Are P xs → Are P ys → Are P (xs ++ ys)
are_append P [] ys all more = more
are_append P (x ∷ xs) ys all more = (all.0, are_append P xs ys all.1 more)

pub stocks_are : (P : Entity → Type 0) (rows : List Row) (way : Move) (all wants : List Want) → P E.Stock → Are P (map (stock_moved rows way all) wants)
stocks_are P rows way all [] p = tt
stocks_are P rows way all (want ∷ wants) p = (p, stocks_are P rows way all wants p)

pub lines_are : (P : Entity → Type 0) (order position : ℕ) (parts : List OrderPart) (labels : List (List ℕ)) → P E.OrderLine → Are P (lines_from order position parts labels)
lines_are P order position [] labels p = tt
lines_are P order position (part ∷ parts) [] p = tt
lines_are P order position (part ∷ parts) (label ∷ labels) p = (p, lines_are P order (position + 1) parts labels p)

pub taxes_are : (P : Entity → Type 0) (order : ℕ) (sums : List TaxSum) → P E.OrderTax → Are P (map (tax_change order) sums)
taxes_are P order [] p = tt
taxes_are P order (sum ∷ sums) p = (p, taxes_are P order sums p)

keys_are : (P : Entity → Type 0) (entity : Entity) (q : Row → Bool) (rows : List Row) → P entity → Are P (map take_out (map (λ row. row.key) (filter (λ row. is_entity entity row.key.entity && q row) rows)))
keys_are P entity q [] p = tt
keys_are P entity q (row ∷ rows) p = by (keys_are P entity q rows p) (is_entity entity row.key.entity && q row) refl
  where
    by : Are P (map take_out (map (λ row. row.key) (filter (λ row. is_entity entity row.key.entity && q row) rows))) → (b : Bool) → (is_entity entity row.key.entity && q row) ≡ b
        → Are P (map take_out (map (λ row. row.key) (filter (λ row. is_entity entity row.key.entity && q row) (row ∷ rows))))
    by more false e = rw e more
    by more true e =
        let parts = and_parts (is_entity entity row.key.entity) (q row) e in
        let same : entity ≡ row.key.entity = same_entity entity row.key.entity (eqb-true (entity_number entity) (entity_number row.key.entity) parts.0) in
        rw e (subst P same p, more)

pub gone_are : (P : Entity → Type 0) (rows : List Row) (cart : ℕ) → P E.Cart → P E.CartLine → P E.CartCode → Are P (cart_gone rows cart)
gone_are P rows cart one two three =
    are_append P ((take_out (cart_key cart) ∷ []) ++ map take_out (keys_of_cart rows E.CartLine cart)) (map take_out (keys_of_cart rows E.CartCode cart))
    (one, keys_are P E.CartLine (λ row. refers_at REFERENCES row (entity_number E.Cart) cart) (live rows) two)
    (keys_are P E.CartCode (λ row. refers_at REFERENCES row (entity_number E.Cart) cart) (live rows) three)

all_weak : (P Q : Change → Type 0) (xs : List Change) → ((x : Change) → P x → Q x) → AllByRecursion P xs → AllByRecursion Q xs
all_weak P Q [] f all = tt
all_weak P Q (x ∷ xs) f all = (f x all.0, all_weak P Q xs f all.1)

-- a change of an entity that the test keeps apart from the key's is elsewhere
pub elsewhere : (key : Key) (changes : List Change) → Are (NotAt key) changes → AllByRecursion (IsElsewhere key) changes
elsewhere key changes all = all_weak (λ change. (entity_number change.0.entity == entity_number key.entity) ≡ false) (IsElsewhere key) changes (λ change e. apart change.0.entity key.entity e) all

-- rows of no line hold nothing
idle_other : (rows : List Row) (product : ℕ) (entity : Entity) → (22 == entity_number entity) ≡ false → (x : Row) → x.key.entity ≡ entity → held_by rows product x ≡ 0
idle_other rows product entity e x same =
    let none : is_entity E.OrderLine x.key.entity ≡ false = ap (λ (of : Entity). 22 == entity_number of) same ∙ e in
    rw none refl

pub idle_all : (rows : List Row) (product : ℕ) (changes : List Change) → Are IsNoLine changes → AllByRecursion (IsIdle (held_by rows product)) changes
idle_all rows product changes all = all_weak (λ change. (22 == entity_number change.0.entity) ≡ false) (IsIdle (held_by rows product)) changes (λ change e x same. idle_other rows product change.0.entity e x same) all

-- ---- rows without lines of the order

pub none_found : (order at : ℕ) (rows : List Row) → lines_of rows order ≡ [] → row_at rows (line_key order at) ≡ None
none_found order at [] free = refl
none_found order at (row ∷ rows) free = by (none_found order at rows) (is_line_of order row) refl
  where
    by : (lines_of rows order ≡ [] → row_at rows (line_key order at) ≡ None) → (b : Bool) → is_line_of order row ≡ b → row_at (row ∷ rows) (line_key order at) ≡ None
    by more true e = let full : row ∷ lines_of rows order ≡ [] = rw e at free in absurd (cc)
    by more false e = let rest : lines_of rows order ≡ [] = rw e at free in at_key (more rest) (is_eq (key_cmp row.key (line_key order at))) refl
      where
        at_key : row_at rows (line_key order at) ≡ None → (b : Bool) → is_eq (key_cmp row.key (line_key order at)) ≡ b → row_at (row ∷ rows) (line_key order at) ≡ None
        at_key rest false f = rw f rest
        at_key rest true f =
            let same : row.key ≡ line_key order at = key_is row.key (line_key order at) (is_equal (key_cmp row.key (line_key order at)) f) in
            let itself : (order == order) ≡ true = eq-eqb order order refl in
            let yes : is_line_of order row ≡ true = ap (λ (k : Key). is_line_key order k) same ∙ itself in
            absurd (cc)

pub same_total : (order : ℕ) (f g : Row → ℕ) (rows : List Row) → lines_of rows order ≡ [] → ((row : Row) → is_line_of order row ≡ false → f row ≡ g row) → total f rows ≡ total g rows
same_total order f g [] free same = refl
same_total order f g (row ∷ rows) free same = by (same_total order f g rows) (is_line_of order row) refl
  where
    by : (lines_of rows order ≡ [] → ((row : Row) → is_line_of order row ≡ false → f row ≡ g row) → total f rows ≡ total g rows) → (b : Bool) → is_line_of order row ≡ b → total f (row ∷ rows) ≡ total g (row ∷ rows)
    by more true e = let full : row ∷ lines_of rows order ≡ [] = rw e at free in absurd (cc)
    by more false e = let rest : lines_of rows order ≡ [] = rw e at free in let here = same row e in let there = more rest same in omega (arith, here, there)

-- ---- what the parts of a cart hold

abbrev pub GivesNone : (Row → ℕ) → ℕ → OrderPart → Type 0
GivesNone f order part = (position : ℕ) (label : List ℕ) → f (line_row order position part label) ≡ 0

none_sum : (f : Row → ℕ) (order position : ℕ) (parts : List OrderPart) (labels : List (List ℕ)) → AllByRecursion (GivesNone f order) parts → sum_of f order position parts labels ≡ 0
none_sum f order position [] labels all = refl
none_sum f order position (part ∷ parts) [] all = refl
none_sum f order position (part ∷ parts) (label ∷ labels) all = let here = all.0 position label in let more = none_sum f order (position + 1) parts labels all.1 in omega (arith, here, more)

pub lines_sum : (f : Row → ℕ) (order product position : ℕ) (lines : List PricedLine) (rest : List OrderPart) (labels : List (List ℕ)) → length labels ≡ length (map line_part lines ++ rest)
    → ((line : PricedLine) (position : ℕ) (label : List ℕ) → f (line_row order position (line_part line) label) ≡ pieces (line_want line) product) → AllByRecursion (GivesNone f order) rest
    → sum_of f order position (map line_part lines ++ rest) labels ≡ wanted (map line_want lines) product
lines_sum f order product position [] rest labels long each none = none_sum f order position rest labels none
lines_sum f order product position (line ∷ lines) rest [] long each none = absurd (omega (arith, long))
lines_sum f order product position (line ∷ lines) rest (label ∷ labels) long each none =
    let here = each line position label in
    let more = lines_sum f order product (position + 1) lines rest labels (omega (arith, long)) each none in
    omega (arith, here, more)

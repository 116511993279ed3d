-- A step of an order gives back or takes what the order holds, and no more.
use Rattle.std.proofs.Common.{◌≡◌, ◌≢◌, ℕ, ◌+◌, ◌-◌, ◌≤◌, Bool, true, false, ◌&&◌, ◌||◌, ◌==◌, List, [], ◌∷◌, ◌++◌, map, find, Option, Some, None, if◌then◌else◌, refl, sym, ap, subst, ◌∙◌, arith, Ok}
use Rattle.std.specs.Prelude.{is_some, nat_lt, codes, pos, Err}
use Rattle.std.specs.List.{AllByRecursion, filter_map, cons_option, list_any, list_all}
use Rattle.std.specs.Option.{option_map}
use Rattle.std.specs.Ordering.{is_eq}
use Rattle.std.proofs.lemmas.Bool.{eqb-true, eq-eqb, and_parts}
use Rattle.std.proofs.lemmas.Bool.Decides.{nat_tests}
use Rattle.keyed.specs.Keyed.{put}
use Rattle.keyed.proofs.Changes.{find_put}
use Rattle.shop_defs.specs.declared.entity.Entity.{Entity}
use Rattle.shop_defs.specs.declared.entity.Entity.TheVariants as E
use Rattle.shop_defs.specs.declared.key.Key.{Key}
use Rattle.shop_defs.specs.declared.row.Row.{Row}
use Rattle.shop_defs.specs.declared.value.Value.{Value}
use Rattle.shop_defs.specs.declared.value.Value.TheVariants as V
use Rattle.shop_defs.specs.Fitting.{has_needed}
use Rattle.shop_defs.specs.Joined.{Change}
use Rattle.shop_defs.specs.Keys.{key_cmp}
use Rattle.shop_defs.specs.Rows.{row_key, row_at, change_rows, field_in, field_of}
use Rattle.shop_defs.specs.Tables.{fields_of}
use Rattle.shop_defs.proofs.Keys.{key_cmp_total}
use Rattle.shop_operations.specs.Operations.{unless}
use Rattle.shop_operations.specs.References.{is_entity}
use Rattle.shop_requests.specs.declared.command.Action.{Action}
use Rattle.shop_requests.specs.declared.command.Action.TheVariants as A
use Rattle.shop_rows.specs.Changing.{StandUnderTheirKeys}
use Rattle.shop_rows.proofs.Mentioning.{found_key}
use Rattle.row_fields.specs.Checked.{IsRowOf}
use Rattle.shop_order.specs.declared.states.OrderState.{OrderState}
use Rattle.shop_order.specs.declared.states.OrderState.TheVariants as S
use Rattle.shop_order.specs.declared.stock.Move.{Move}
use Rattle.shop_order.specs.declared.stock.Move.TheVariants as M
use Rattle.shop_order.specs.declared.wants.Want.{Want}
use Rattle.shop_order.specs.Checked.{AreChecked}
use Rattle.shop_order.specs.Held.{total, is_line, holds, holds_in, held_by, held, AreStocked, pieces_in}
use Rattle.shop_order.specs.Keys.{stock_key, order_key}
use Rattle.shop_order.specs.States.{state_text, state_of, next_state, way_between}
use Rattle.shop_order.specs.Steps.{MovesByTable, field_in_state, in_state, state_change, step_to, step_by, step_of, step}
use Rattle.shop_order.specs.Stock.{available, adjusted, moved, stock_row, size_in}
use Rattle.shop_order.specs.Wants.{is_line_of, is_line_key, want_of, wants_of, pieces, wanted, stock_moved, stocks_moved, is_short, short_of, falls_short, short_for}
use Rattle.shop_order.proofs.Found.{found_is}
use Rattle.shop_order.proofs.Stocked.{available_is, adjusted_is, order_stays, same_order, idle_stock, idle_order, same_held, unless_ok}
use Rattle.shop_order.proofs.Totals.{total_same, total_changes, IsIdle}

-- ---- stock once pieces are moved

-- a line is one of the product
abbrev pub among : List Want → ℕ → Bool
among wants product = list_any (λ want. want.product == product) wants

module _ (rows : List Row) (way : Move) (all : List Want) where
  abbrev pub after : List Want → List Row → List Row
  after wants now = change_rows now (map (stock_moved rows way all) wants)

  pub have_after : (wants : List Want) (now : List Row) (product : ℕ) → available (after wants now) product ≡ (if among wants product then moved way (available rows product) (wanted all product) else available now product)
  have_after [] now product = refl
  have_after (want ∷ wants) now product =
      let have = moved way (available rows want.product) (wanted all want.product) in
      let next : List Row = put key_cmp row_key now (stock_row want.product have (adjusted rows want.product)) in
      have_after wants next product ∙ (ap (λ (n : ℕ). if among wants product then moved way (available rows product) (wanted all product) else n) (available_is now want.product have (adjusted rows want.product) product)
      ∙ by (want.product == product) refl (among wants product))
    where
      by : (b : Bool) → (want.product == product) ≡ b → (c : Bool)
          → (if c then moved way (available rows product) (wanted all product) else (if want.product == product then moved way (available rows want.product) (wanted all want.product) else available now product))
          ≡ (if (want.product == product) || c then moved way (available rows product) (wanted all product) else available now product)
      by true e true = rw e refl
      by false e true = rw e refl
      by false e false = rw e refl
      by true e false = let same : want.product ≡ product = eqb-true want.product product e in rw e (ap (λ (p : ℕ). moved way (available rows p) (wanted all p)) same)

  pub all_after : (wants : List Want) (now : List Row) (product : ℕ) → adjusted now product ≡ adjusted rows product → adjusted (after wants now) product ≡ adjusted rows product
  all_after [] now product is = is
  all_after (want ∷ wants) now product is =
      let have = moved way (available rows want.product) (wanted all want.product) in
      let next : List Row = put key_cmp row_key now (stock_row want.product have (adjusted rows want.product)) in
      all_after wants next product (adjusted_is now want.product have (adjusted rows want.product) product ∙ by (want.product == product) refl)
    where
      by : (b : Bool) → (want.product == product) ≡ b → (if b then adjusted rows want.product else adjusted now product) ≡ adjusted rows product
      by true e = ap (adjusted rows) (eqb-true want.product product e)
      by false e = is

  pub orders_after : (wants : List Want) (now : List Row) (order : ℕ) → row_at (after wants now) (order_key order) ≡ row_at now (order_key order)
  orders_after [] now order = refl
  orders_after (want ∷ wants) now order =
      let have = moved way (available rows want.product) (wanted all want.product) in
      orders_after wants (put key_cmp row_key now (stock_row want.product have (adjusted rows want.product))) order ∙ order_stays now want.product have (adjusted rows want.product) order

none_wanted : (wants : List Want) (product : ℕ) → among wants product ≡ false → wanted wants product ≡ 0
none_wanted [] product e = refl
none_wanted (want ∷ wants) product e = by (want.product == product) refl (none_wanted wants product)
  where
    by : (b : Bool) → (want.product == product) ≡ b → (among wants product ≡ false → wanted wants product ≡ 0) → wanted (want ∷ wants) product ≡ 0
    by true f more = let no : (true || among wants product) ≡ false = rw f at e in absurd (cc)
    by false f more = let no : among wants product ≡ false = rw f at e in rw (f, more no) refl

-- whether or not a line is one of the product, so many pieces are moved
pub moved_all : (way : Move) (wants : List Want) (have product : ℕ) → (if among wants product then moved way have (wanted wants product) else have) ≡ moved way have (wanted wants product)
moved_all way wants have product = by (among wants product) refl way
  where
    by : (b : Bool) → among wants product ≡ b → (way : Move) → (if b then moved way have (wanted wants product) else have) ≡ moved way have (wanted wants product)
    by true e way = refl
    by false e M.Give = let none = none_wanted wants product e in omega (arith, none)
    by false e M.Take = let none = none_wanted wants product e in omega (arith, none)

-- where nothing is short, as much is available as is wanted
enough_at : (rows : List Row) (all wants : List Want) (product : ℕ) → find (is_short rows all) wants ≡ None → among wants product ≡ true → wanted all product ≤ available rows product
enough_at rows all [] product none e = absurd (cc)
enough_at rows all (want ∷ wants) product none e = by (is_short rows all want) refl (want.product == product) refl (enough_at rows all wants product)
  where
    by : (s : Bool) → is_short rows all want ≡ s → (b : Bool) → (want.product == product) ≡ b → (find (is_short rows all) wants ≡ None → among wants product ≡ true → wanted all product ≤ available rows product) → wanted all product ≤ available rows product
    by true f b g more = let no : Some want ≡ None = rw f at none in absurd (cc)
    by false f true g more = subst (λ (p : ℕ). wanted all p ≤ available rows p) (eqb-true want.product product g) (grind (arith, nat_tests, f))
    by false f false g more = let rest : find (is_short rows all) wants ≡ None = rw f at none in let there : among wants product ≡ true = rw g at e in more rest there

pub enough : (rows : List Row) (wants : List Want) (product : ℕ) → falls_short rows wants ≡ None → wanted wants product ≤ available rows product
enough rows wants product none = by (find (is_short rows wants) wants) refl (among wants product) refl
  where
    by : (found : Option Want) → find (is_short rows wants) wants ≡ found → (b : Bool) → among wants product ≡ b → wanted wants product ≤ available rows product
    by (Some want) f b e = let no : Some (short_of rows wants want) ≡ None = rw f at none in absurd (cc)
    by None f true e = enough_at rows wants wants product f e
    by None f false e = let zero_wanted = none_wanted wants product e in omega (arith, zero_wanted)

-- ---- what the lines of one order hold

pub pieces_cons : (want : Option Want) (rest : List Want) (product : ℕ) → wanted (cons_option want rest) product ≡ pieces_in want product + wanted rest product
pieces_cons None rest product = omega arith
pieces_cons (Some want) rest product = refl

-- where the lines of an order give what they hold in place of nothing, and others give the same, they give more by what is wanted
more_by : (order product : ℕ) (f g : Row → ℕ) (rows : List Row) → ((row : Row) → is_line_of order row ≡ true → (f row ≡ pieces_in (want_of row) product) × (g row ≡ 0)) → ((row : Row) → is_line_of order row ≡ false → f row ≡ g row)
    → total f rows ≡ total g rows + wanted (wants_of rows order) product
more_by order product f g [] its others = refl
more_by order product f g (row ∷ rows) its others = by (more_by order product f g rows its others) (is_line_of order row) refl
  where
    by : total f rows ≡ total g rows + wanted (wants_of rows order) product → (b : Bool) → is_line_of order row ≡ b → total f (row ∷ rows) ≡ total g (row ∷ rows) + wanted (wants_of (row ∷ rows) order) product
    by more true e =
        let here = its row e in
        let one : f row ≡ pieces_in (want_of row) product = here.0 in
        let none : g row ≡ 0 = here.1 in
        rw (e, pieces_cons (want_of row) (wants_of rows order) product) (omega (arith, more, one, none))
    by more false e = let same : f row ≡ g row = others row e in rw e (omega (arith, more, same))

-- ---- the state of an order

text_in_state : (fields : List (ℕ × Value)) (to : OrderState) → is_some (field_in fields 1) ≡ true → field_in (map (field_in_state to) fields) 1 ≡ Some (V.Text (state_text to))
text_in_state [] to e = absurd (cc)
text_in_state (field ∷ fields) to e = by (field.0 == 1) refl (text_in_state fields to)
  where
    by : (b : Bool) → (field.0 == 1) ≡ b → (is_some (field_in fields 1) ≡ true → field_in (map (field_in_state to) fields) 1 ≡ Some (V.Text (state_text to))) → field_in (map (field_in_state to) (field ∷ fields)) 1 ≡ Some (V.Text (state_text to))
    by true f more = rw f refl
    by false f more = let there : is_some (field_in fields 1) ≡ true = rw f at e in rw (f, f) (more there)

has_state : (row : Row) → IsRowOf E.Order row → is_some (field_of row 1) ≡ true
unfolding fields_of
has_state row is =
    let needed : has_needed (record row { key = record row.key { entity = E.Order } }) ≡ true = subst (λ (e : Entity). has_needed (record row { key = record row.key { entity = e } }) ≡ true) is.of is.needed in
    (and_parts (is_some (field_of row 1)) _ needed).0

pub state_is : (row : Row) (to : OrderState) → IsRowOf E.Order row → state_of (in_state row to) ≡ to
state_is row to is = by to (text_in_state row.fields to (has_state row is))
  where
    by : (to : OrderState) → field_in (map (field_in_state to) row.fields) 1 ≡ Some (V.Text (state_text to)) → state_of (in_state row to) ≡ to
    by S.Open e = rw e refl
    by S.InProgress e = rw e refl
    by S.Completed e = rw e refl
    by S.Cancelled e = rw e refl

-- ---- what a step does with what is held

abbrev Fits : Option Move → Bool → Bool → Type 0
Fits None before after = before ≡ after
Fits (Some M.Give) before after = (before ≡ true) × (after ≡ false)
Fits (Some M.Take) before after = (before ≡ false) × (after ≡ true)

fits : (from : OrderState) (action : Action) (to : OrderState) → next_state from action ≡ Some to → Fits (way_between from to) (holds_in from) (holds_in to)
fits S.Open A.Process to e = let same : S.InProgress ≡ to = cc in subst (λ (to : OrderState). Fits (way_between S.Open to) (holds_in S.Open) (holds_in to)) same refl
fits S.Open A.Cancel to e = let same : S.Cancelled ≡ to = cc in subst (λ (to : OrderState). Fits (way_between S.Open to) (holds_in S.Open) (holds_in to)) same (refl, refl)
fits S.InProgress A.Complete to e = let same : S.Completed ≡ to = cc in subst (λ (to : OrderState). Fits (way_between S.InProgress to) (holds_in S.InProgress) (holds_in to)) same refl
fits S.InProgress A.Cancel to e = let same : S.Cancelled ≡ to = cc in subst (λ (to : OrderState). Fits (way_between S.InProgress to) (holds_in S.InProgress) (holds_in to)) same (refl, refl)
fits S.Completed A.Reopen to e = let same : S.Open ≡ to = cc in subst (λ (to : OrderState). Fits (way_between S.Completed to) (holds_in S.Completed) (holds_in to)) same refl
fits S.Cancelled A.Reopen to e = let same : S.Open ≡ to = cc in subst (λ (to : OrderState). Fits (way_between S.Cancelled to) (holds_in S.Cancelled) (holds_in to)) same (refl, refl)
fits from action to e = absurd (cc)

pub change_append : (changes more : List Change) (rows : List Row) → change_rows rows (changes ++ more) ≡ change_rows (change_rows rows changes) more
change_append [] more rows = refl
change_append ((key, None) ∷ changes) more rows = change_append changes more _
change_append ((key, Some row) ∷ changes) more rows = change_append changes more _

not_eq : (a b : ℕ) → b ≢ a → (a == b) ≡ false
not_eq a b ne = by (a == b) refl
  where
    by : (c : Bool) → (a == b) ≡ c → (a == b) ≡ false
    by false f = f
    by true f = absurd (ne (sym (eqb-true a b f)))

pub flip_eq : (a b : ℕ) → (a == b) ≡ false → (b == a) ≡ false
flip_eq a b e = by (b == a) refl
  where
    by : (c : Bool) → (b == a) ≡ c → (b == a) ≡ false
    by false f = f
    by true f = let yes : (a == b) ≡ true = eq-eqb a b (sym (eqb-true b a f)) in absurd (cc)

pub stocks_stand : (rows : List Row) (way : Move) (all wants : List Want) (more : List Change) → StandUnderTheirKeys more → StandUnderTheirKeys (map (stock_moved rows way all) wants ++ more)
stocks_stand rows way all [] more stand = stand
stocks_stand rows way all (want ∷ wants) more stand = (refl, stocks_stand rows way all wants more stand)

pub stocks_idle : (f : Row → ℕ) (rows : List Row) (way : Move) (all wants : List Want) (more : List Change) → ((x : Row) → x.key.entity ≡ E.Stock → f x ≡ 0) → AllByRecursion (IsIdle f) more → AllByRecursion (IsIdle f) (map (stock_moved rows way all) wants ++ more)
stocks_idle f rows way all [] more none idle = idle
stocks_idle f rows way all (want ∷ wants) more none idle = (none, stocks_idle f rows way all wants more none idle)

module _ (rows : List Row) (order : ℕ) (row : Row) (to : OrderState) (checked : AreChecked rows) (there : row_at rows (order_key order) ≡ Some row) where
  key : row.key ≡ order_key order
  key = found_key rows (order_key order) row there

  state : state_of (in_state row to) ≡ to
  state = state_is row to (found_is rows (order_key order) row checked there)

  -- the order's row put among rows
  abbrev with_order : List Row → List Row
  with_order now = put key_cmp row_key now (in_state row to)

  stock_put : (now : List Row) (product : ℕ) → row_at (with_order now) (stock_key product) ≡ row_at now (stock_key product)
  stock_put now product =
      find_put key_cmp row_key key_cmp_total now (in_state row to) (stock_key product)
      ∙ ap (λ (k : Key). if is_eq (key_cmp k (stock_key product)) then Some (in_state row to) else row_at now (stock_key product)) key

  order_put : (now : List Row) (other : ℕ) → row_at (with_order now) (order_key other) ≡ (if order == other then Some (in_state row to) else row_at now (order_key other))
  order_put now other =
      find_put key_cmp row_key key_cmp_total now (in_state row to) (order_key other)
      ∙ (ap (λ (k : Key). if is_eq (key_cmp k (order_key other)) then Some (in_state row to) else row_at now (order_key other)) key
      ∙ ap (λ (b : Bool). if b then Some (in_state row to) else row_at now (order_key other)) (same_order order other))

  module _ (way : Move) (wants : List Want) where
    abbrev all_changes : List Change
    all_changes = stocks_moved rows way wants ++ state_change order row to ∷ []

    abbrev changed : List Row
    changed = change_rows rows all_changes

    in_two : changed ≡ with_order (change_rows rows (stocks_moved rows way wants))
    in_two = change_append (stocks_moved rows way wants) (state_change order row to ∷ []) rows

    have_changed : (product : ℕ) → available changed product ≡ moved way (available rows product) (wanted wants product)
    have_changed product =
        ap (λ (after : List Row). available after product) in_two
        ∙ (ap (λ (found : Option Row). size_in found 1) (stock_put (change_rows rows (stocks_moved rows way wants)) product)
        ∙ (have_after rows way wants wants rows product ∙ moved_all way wants (available rows product) product))

    all_changed : (product : ℕ) → adjusted changed product ≡ adjusted rows product
    all_changed product =
        ap (λ (after : List Row). adjusted after product) in_two
        ∙ (ap (λ (found : Option Row). size_in found 2) (stock_put (change_rows rows (stocks_moved rows way wants)) product)
        ∙ all_after rows way wants wants rows product refl)

    orders_changed : (other : ℕ) → holds (row_at changed (order_key other)) ≡ (if order == other then holds_in to else holds (row_at rows (order_key other)))
    orders_changed other =
        ap (λ (after : List Row). holds (row_at after (order_key other))) in_two
        ∙ (ap holds (order_put (change_rows rows (stocks_moved rows way wants)) other) ∙ by (order == other))
      where
        by : (b : Bool) → holds (if b then Some (in_state row to) else row_at (change_rows rows (stocks_moved rows way wants)) (order_key other)) ≡ (if b then holds_in to else holds (row_at rows (order_key other)))
        by true = ap holds_in state
        by false = ap holds (orders_after rows way wants wants rows other)

    orders_found : (other : ℕ) → row_at changed (order_key other) ≡ (if order == other then Some (in_state row to) else row_at rows (order_key other))
    orders_found other =
        ap (λ (after : List Row). row_at after (order_key other)) in_two
        ∙ (order_put (change_rows rows (stocks_moved rows way wants)) other ∙ ap (λ (found : Option Row). if order == other then Some (in_state row to) else found) (orders_after rows way wants wants rows other))

    moves_by : (action : Action) → next_state (state_of row) action ≡ Some to → MovesByTable rows order action changed
    moves_by action e = record {
      before = row;
      was = there;
      now = in_state row to;
      is = orders_found order ∙ ap (λ (b : Bool). if b then Some (in_state row to) else row_at rows (order_key order)) (eq-eqb order order refl);
      by_table = e ∙ ap Some (sym state);
      others = λ other ne. orders_found other ∙ ap (λ (b : Bool). if b then Some (in_state row to) else row_at rows (order_key other)) (not_eq order other ne);
    }

    -- a line of the order holds by the order's new state, and any other line what it held
    line_after : (product : ℕ) (line : Row) → is_line_of order line ≡ true → held_by changed product line ≡ (if holds_in to then pieces_in (want_of line) product else 0)
    line_after product line e =
        let first = and_parts (is_entity E.OrderLine line.key.entity) ((line.key.version == 0) && (line.key.id == order)) e in
        let second = and_parts (line.key.version == 0) (line.key.id == order) first.1 in
        let same : line.key.id ≡ order = eqb-true line.key.id order second.1 in
        rw (first.0, second.0) (ap (λ (id : ℕ). if holds (row_at changed (order_key id)) then pieces_in (want_of line) product else 0) same
        ∙ ap (λ (b : Bool). if b then pieces_in (want_of line) product else 0) (orders_changed order ∙ ap (λ (b : Bool). if b then holds_in to else holds (row_at rows (order_key order))) (eq-eqb order order refl)))

    line_before : (product : ℕ) (line : Row) → is_line_of order line ≡ true → held_by rows product line ≡ (if holds_in (state_of row) then pieces_in (want_of line) product else 0)
    line_before product line e =
        let first = and_parts (is_entity E.OrderLine line.key.entity) ((line.key.version == 0) && (line.key.id == order)) e in
        let second = and_parts (line.key.version == 0) (line.key.id == order) first.1 in
        let same : line.key.id ≡ order = eqb-true line.key.id order second.1 in
        rw (first.0, second.0) (ap (λ (id : ℕ). if holds (row_at rows (order_key id)) then pieces_in (want_of line) product else 0) same
        ∙ ap (λ (found : Option Row). if holds found then pieces_in (want_of line) product else 0) there)

    line_other : (product : ℕ) (line : Row) → is_line_of order line ≡ false → held_by changed product line ≡ held_by rows product line
    line_other product line e = by (is_entity E.OrderLine line.key.entity) refl (line.key.version == 0) refl (line.key.id == order) refl
      where
        by : (a : Bool) → is_entity E.OrderLine line.key.entity ≡ a → (b : Bool) → (line.key.version == 0) ≡ b → (c : Bool) → (line.key.id == order) ≡ c → held_by changed product line ≡ held_by rows product line
        by false ea b eb c ec = rw ea refl
        by true ea false eb c ec = rw (ea, eb) refl
        by true ea true eb true ec = let yes : true ≡ false = rw (ea, eb, ec) at e in absurd (cc)
        by true ea true eb false ec =
            same_held rows changed product line (orders_changed line.key.id ∙ ap (λ (b : Bool). if b then holds_in to else holds (row_at rows (order_key line.key.id))) (flip_eq line.key.id order ec))

    held_changed : (product : ℕ) → held changed product ≡ total (held_by changed product) rows
    unfolding held
    held_changed product =
        total_changes (held_by changed product) all_changes rows
        (stocks_stand rows way wants wants (state_change order row to ∷ []) (key, tt))
        (stocks_idle (held_by changed product) rows way wants wants (state_change order row to ∷ []) (λ x e. idle_stock changed product x e) ((λ x e. idle_order changed product x e), tt))

  held_is : (product : ℕ) → held rows product ≡ total (held_by rows product) rows
  unfolding held
  held_is product = refl

  -- ---- the three ways

  gives : AreStocked rows → holds_in (state_of row) ≡ true → holds_in to ≡ false → AreStocked (changed M.Give (wants_of rows order))
  gives stocked from_holds to_holds product =
      let wants = wants_of rows order in
      let after = changed M.Give wants in
      let less : total (held_by rows product) rows ≡ total (held_by after product) rows + wanted wants product =
      more_by order product (held_by rows product) (held_by after product) rows
      (λ line e. (line_before M.Give wants product line e ∙ ap (λ (b : Bool). if b then pieces_in (want_of line) product else 0) from_holds, line_after M.Give wants product line e ∙ ap (λ (b : Bool). if b then pieces_in (want_of line) product else 0) to_holds))
      (λ line e. sym (line_other M.Give wants product line e)) in
      let have : available after product ≡ available rows product + wanted wants product = have_changed M.Give wants product in
      let all : adjusted after product ≡ adjusted rows product = all_changed M.Give wants product in
      let was : available rows product + held rows product ≡ adjusted rows product = stocked product in
      let before = held_is product in
      let now = held_changed M.Give wants product in
      omega (arith, less, have, all, was, before, now)

  takes : AreStocked rows → falls_short rows (wants_of rows order) ≡ None → holds_in (state_of row) ≡ false → holds_in to ≡ true → AreStocked (changed M.Take (wants_of rows order))
  takes stocked none from_holds to_holds product =
      let wants = wants_of rows order in
      let after = changed M.Take wants in
      let more : total (held_by after product) rows ≡ total (held_by rows product) rows + wanted wants product =
      more_by order product (held_by after product) (held_by rows product) rows
      (λ line e. (line_after M.Take wants product line e ∙ ap (λ (b : Bool). if b then pieces_in (want_of line) product else 0) to_holds, line_before M.Take wants product line e ∙ ap (λ (b : Bool). if b then pieces_in (want_of line) product else 0) from_holds))
      (λ line e. line_other M.Take wants product line e) in
      let have : available after product ≡ available rows product - wanted wants product = have_changed M.Take wants product in
      let all : adjusted after product ≡ adjusted rows product = all_changed M.Take wants product in
      let was : available rows product + held rows product ≡ adjusted rows product = stocked product in
      let there_are : wanted wants product ≤ available rows product = enough rows wants product none in
      let before = held_is product in
      let now = held_changed M.Take wants product in
      omega (arith, more, have, all, was, there_are, before, now)

  leaves : AreStocked rows → holds_in (state_of row) ≡ holds_in to → AreStocked (changed M.Give [])
  leaves stocked same product =
      let after = changed M.Give [] in
      let held_same : total (held_by after product) rows ≡ total (held_by rows product) rows =
      total_same (held_by after product) (held_by rows product) rows (λ line. by line (is_line_of order line) refl) in
      let have : available after product ≡ available rows product + 0 = have_changed M.Give [] product in
      let all : adjusted after product ≡ adjusted rows product = all_changed M.Give [] product in
      let was : available rows product + held rows product ≡ adjusted rows product = stocked product in
      let before = held_is product in
      let now = held_changed M.Give [] product in
      omega (arith, held_same, have, all, was, before, now)
    where
      by : (line : Row) (b : Bool) → is_line_of order line ≡ b → held_by (changed M.Give []) product line ≡ held_by rows product line
      by line true e = line_after M.Give [] product line e ∙ (ap (λ (b : Bool). if b then pieces_in (want_of line) product else 0) (sym same) ∙ sym (line_before M.Give [] product line e))
      by line false e = line_other M.Give [] product line e

  by_way : AreStocked rows → (way : Option Move) → Fits way (holds_in (state_of row)) (holds_in to) → (after : List Row) → step_to rows order row to way ≡ Ok after → AreStocked after
  by_way stocked None same after e = let is : changed M.Give [] ≡ after = cc in subst AreStocked is (leaves stocked same)
  by_way stocked (Some M.Give) fit after e = let is = unless_ok (changed M.Give (wants_of rows order)) None after e in subst AreStocked is.1 (gives stocked fit.0 fit.1)
  by_way stocked (Some M.Take) fit after e =
      let is = unless_ok (changed M.Take (wants_of rows order)) (falls_short rows (wants_of rows order)) after e in
      subst AreStocked is.1 (takes stocked is.0 fit.0 fit.1)

  moves_way : (action : Action) → next_state (state_of row) action ≡ Some to → (way : Option Move) → (after : List Row) → step_to rows order row to way ≡ Ok after → MovesByTable rows order action after
  moves_way action f None after e = let is : changed M.Give [] ≡ after = cc in subst (MovesByTable rows order action) is (moves_by M.Give [] action f)
  moves_way action f (Some way) after e =
      let is = unless_ok (changed way (wants_of rows order)) (short_for way rows (wants_of rows order)) after e in
      subst (MovesByTable rows order action) is.1 (moves_by way (wants_of rows order) action f)

pub step_stocked : (rows : List Row) (order : ℕ) (action : Action) (after : List Row) → AreChecked rows → step rows order action ≡ Ok after → AreStocked rows → AreStocked after
unfolding step
step_stocked rows order action after checked e stocked = by (row_at rows (order_key order)) refl e
  where
    to_state : (row : Row) → row_at rows (order_key order) ≡ Some row → (to : Option OrderState) → next_state (state_of row) action ≡ to → step_by rows order action row (state_of row) to ≡ Ok after → AreStocked after
    to_state row there None f g = absurd (cc)
    to_state row there (Some to) f g = by_way rows order row to checked there stocked (way_between (state_of row) to) (fits (state_of row) action to f) after g

    by : (found : Option Row) → row_at rows (order_key order) ≡ found → step_of rows order action found ≡ Ok after → AreStocked after
    by None f g = absurd (cc)
    by (Some row) f g = to_state row f (next_state (state_of row) action) refl g

pub step_moves : (rows : List Row) (order : ℕ) (action : Action) (after : List Row) → AreChecked rows → step rows order action ≡ Ok after → MovesByTable rows order action after
unfolding step
step_moves rows order action after checked e = by (row_at rows (order_key order)) refl e
  where
    to_state : (row : Row) → row_at rows (order_key order) ≡ Some row → (to : Option OrderState) → next_state (state_of row) action ≡ to → step_by rows order action row (state_of row) to ≡ Ok after → MovesByTable rows order action after
    to_state row there None f g = absurd (cc)
    to_state row there (Some to) f g = moves_way rows order row to checked there action f (way_between (state_of row) to) after g

    by : (found : Option Row) → row_at rows (order_key order) ≡ found → step_of rows order action found ≡ Ok after → MovesByTable rows order action after
    by None f g = absurd (cc)
    by (Some row) f g = to_state row f (next_state (state_of row) action) refl g

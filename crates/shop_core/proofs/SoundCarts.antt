-- Sound rows are all that is relied on where a cart is settled, and what is read of a cart is its answer.
use Rattle.std.proofs.Common.{ℕ, ℤ, ◌&&◌, List, [], ◌∷◌, Result, Ok, Err, refl, sym, ap, ◌∙◌, subst}
use Rattle.std.specs.List.{AllByRecursion, list_all}
use Rattle.std.proofs.lemmas.Bool.{and_parts}
use Rattle.shop_defs.specs.declared.broken.Broken.{Broken}
use Rattle.shop_defs.specs.declared.row.Row.{Row}
use Rattle.shop_defs.specs.Fitting.{field_fits, row_key_fits}
use Rattle.row_fields.specs.Checked.{IsRowOf}
use Rattle.cart_price.specs.declared.priced.Settled.{Settled}
use Rattle.cart_loop.specs.declared.fault.CartRefused.{CartRefused}
use Rattle.cart_loop.specs.declared.fault.CartRefused.TheVariants as carts
use Rattle.cart_loop.specs.Settled.{IsRefused, IsSettled}
use Rattle.cart_loop.proofs.Answers.{the_answer}
use Rattle.cart_loop.proofs.Few.{are_cart_rows}
use Rattle.shop_check.specs.Kinds.{is_of_its_kind, is_served, ops_fit}
use Rattle.shop_check.specs.Soundness.{IsSoundRow}
use Rattle.shop_core.specs.declared.answers.Reply.{Reply}
use Rattle.shop_core.specs.declared.answers.Reply.TheVariants as replies
use Rattle.shop_core.specs.Carts.{ReadsCart, SoundRowsAreCartRows}
use Rattle.shop_core.specs.Requests.{IsRead, IsReadCaughtUp, answered, cart_answer, not_settled}
use Rattle.shop_core.specs.Publishing.{CatchesUp}
use Rattle.shop_core.specs.Shops.{ShopView}

row_is : (row : Row) → IsSoundRow row → IsRowOf row.key.entity row
row_is row s =
    let kind = (and_parts (is_of_its_kind row) (is_served row) s.kind).0 in
    let rest = (and_parts (row_key_fits row.key) (list_all (field_fits row.key.entity) row.fields && ops_fit row) kind).1 in
    record { of = refl; fits = (and_parts (list_all (field_fits row.key.entity) row.fields) (ops_fit row) rest).0; needed = s.required }

rows_are : (rows : List Row) → AllByRecursion IsSoundRow rows → AllByRecursion (λ row. IsRowOf row.key.entity row) rows
rows_are [] all = tt
rows_are (row ∷ rows) all = (row_is row all.0, rows_are rows all.1)

pub sound_rows : SoundRowsAreCartRows
sound_rows rows sound = are_cart_rows rows (rows_are rows sound.each) sound.coherent

-- ---- what is read

pub reads : (shop : ShopView) (cart : ℕ) (moment : ℤ) (settled : Settled) → IsSettled shop.rows cart moment settled → ReadsCart shop cart moment (Ok (shop.number, settled))
reads shop cart moment settled is = (refl, the_answer.settled shop.rows cart moment settled is)

pub refuses : (shop : ShopView) (cart : ℕ) (moment : ℤ) (fault : CartRefused) → IsRefused shop.rows cart moment fault → ReadsCart shop cart moment (Err fault)
refuses shop cart moment fault is = the_answer.refused shop.rows cart moment fault is

abbrev as_reply : Reply → Result Reply Broken
as_reply reply = Ok reply

pub shows : (shop : ShopView) (cart : ℕ) (moment : ℤ) (answer : ℕ × Settled) → ReadsCart shop cart moment (Ok answer)
    → IsRead shop (replies.Cart answer.0 answer.1) (cart_answer shop.rows shop.number cart moment) shop
shows shop cart moment answer r = (
  ap (answered (λ settled. replies.Cart shop.number settled)) r.1 ∙ ap (λ (front : ℕ). as_reply (replies.Cart front answer.1)) (sym r.0),
  refl,
)

pub shows_none : (shop : ShopView) (cart : ℕ) (moment : ℤ) (fault : CartRefused) → ReadsCart shop cart moment (Err fault)
    → IsRead shop (not_settled cart fault) (cart_answer shop.rows shop.number cart moment) shop
shows_none shop cart moment carts.NoSuchCart r = (ap (answered (λ settled. replies.Cart shop.number settled)) r, refl, refl)
shows_none shop cart moment carts.Unstable r = (ap (answered (λ settled. replies.Cart shop.number settled)) r, refl, refl)
shows_none shop cart moment carts.NoMemory r = refl

caught_read : (old now : ShopView) (reply : Reply) (shown : Result Reply Broken) → CatchesUp old now → IsRead now reply shown now → IsReadCaughtUp old reply shown now
caught_read old now (replies.Refused rule) shown caught read = (read.0, read.1, caught)
caught_read old now replies.NoMemory shown caught read = caught.only
caught_read old now reply shown caught read = (read.0, caught)

-- what is read once the shop has caught up
pub read_after : (old now : ShopView) (reply : Reply) (cart : ℕ) (moment : ℤ) → CatchesUp old now → IsRead now reply (cart_answer now.rows now.number cart moment) now
    → IsReadCaughtUp old reply (cart_answer old.rows old.number cart moment) now
read_after old now reply cart moment caught read =
    caught_read old now reply (cart_answer old.rows old.number cart moment) caught
    (subst (λ (shown : Result Reply Broken). IsRead now reply shown now) (λ i. cart_answer (caught.only.rows i) (caught.only.number i) cart moment) read)

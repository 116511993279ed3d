use Rattle.std.proofs.Common.{◌≡◌, ℕ, List, false, subst, sym}
use Rattle.product_meanings.specs.Listings.{listing_price}
use Rattle.renewed.specs.Showing.{has_key}
use Rattle.idx_category.proofs.Steps.{if_ok}
use Rattle.idx_listing.specs.Repricing.{repriced}
use Rattle.idx_listing.proofs.Repriced.{same_price_by}
use Rattle.idx_listing.proofs.index.PricesMeaning.touched.Goals as goal

pub returns-clause-touched : goal.returns-clause-touched
returns-clause-touched c =
    let before = c.args.before.now.list in
    let after = c.args.after.now.list in
    let changes = c.args.change.now.changes in
    if_ok (λ (ids : List ℕ). ids ≡ repriced before after changes) (λ (ids : List ℕ). Unit {0}) c.touched_ids.result (λ ids e. tt) c.touched_ids.ensures

pub returns-clause-outside : goal.returns-clause-outside
returns-clause-outside c =
    let before = c.args.before.now.list in
    let after = c.args.after.now.list in
    let changes = c.args.change.now.changes in
    if_ok (λ (ids : List ℕ). ids ≡ repriced before after changes) (λ (ids : List ℕ). (key : ℕ) → has_key ids key ≡ false → listing_price before key ≡ listing_price after key) c.touched_ids.result
    (λ ids e. subst (λ (keys : List ℕ). (key : ℕ) → has_key keys key ≡ false → listing_price before key ≡ listing_price after key) (sym e) (same_price_by before after changes c.requires.was_fit c.requires.fit c.requires.leads.0 c.requires.leads.1 c.requires.leads.2))
    c.touched_ids.ensures

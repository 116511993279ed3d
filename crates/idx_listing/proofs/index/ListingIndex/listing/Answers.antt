use Rattle.std.proofs.Common.{◌∙◌, sym, ap, Some}
use Rattle.renewed.specs.Showing.{value_at}
use Rattle.idx_listing.specs.Shown.{Listings, page_with}
use Rattle.idx_listing.proofs.Pages.{shown_page}
use Rattle.idx_listing.proofs.index.ListingIndex.listing.Goals as goal

pub returns-in_ok-shown-in-Some-clause-shown : goal.returns-in_ok-shown-in-Some-clause-shown
returns-in_ok-shown-in-Some-clause-shown c = λ rows orderly shows.
    shown_page rows c.args.self.now c.args.category c.args.page c.as_slice.result.now c.in_ok-shown-in-Some.shown
    (ap (λ (index : Listings). value_at index.lists c.args.category) (sym c.self.view_is) ∙ (sym c.in-Some.ensures ∙ ap Some (sym c.as_slice.ensures.ids)))
    (λ few. c.in_ok-shown-in-Some.ensures few ∙ ap (λ (index : Listings). page_with index.prices c.args.page c.as_slice.result.now) c.self.view_is)
    orderly shows

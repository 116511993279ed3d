use Rattle.idx_listing.proofs.below.+add_linked.Given as goal

abbrev pub decreases-add_linked : goal.decreases-add_linked
decreases-add_linked l = l.steps

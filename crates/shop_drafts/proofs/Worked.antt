-- Two days of a shop, computed.
use Rattle.std.proofs.Common.{refl}
use Rattle.std.proofs.lemmas.Bool.{false≢true}
use Rattle.shop_operations.specs.Parents.{parent_id, is_deep}
use Rattle.shop_requests.specs.Operations.{reading, refusal, read}
use Rattle.shop_defs.specs.Tables.{fields_of, info_of, info_named}
use Rattle.closure.specs.Closure.{reached}
use Rattle.shop_operations.specs.References.{falls_at, holds_back}
use Rattle.shop_operations.specs.Deletes.{is_emptied}
use Rattle.shop_operations.specs.Operations.{operated}
use Rattle.shop_operations.specs.Upserts.{left, is_twin}
use Rattle.shop_drafts.specs.Aggregates.{is_part_by}
use Rattle.shop_drafts.specs.Drafts.{over}
use Rattle.shop_drafts.specs.Making.{make_draft, made, dropped, drop_draft}
use Rattle.shop_drafts.specs.Merging.{log, merge}
use Rattle.shop_drafts.specs.Writing.{written, draft_write}
use Rattle.shop_drafts.specs.WorkedRows.{TheTeeIsMerged, TheMergeIsBroken, ADraftMayRunInACircle}

pub the_tee_is_merged : TheTeeIsMerged
unfolding reading refusal read fields_of info_of info_named operated left is_twin is_part_by over make_draft made dropped drop_draft log merge written draft_write
the_tee_is_merged = record { is_made = refl; is_copied = refl; is_written = refl; gets_dearer = refl; shows = refl; is_merged = refl; count = refl; again = refl }

pub the_merge_is_broken : TheMergeIsBroken
unfolding reading refusal read fields_of info_of info_named operated left is_twin is_part_by over make_draft made dropped drop_draft log merge written draft_write reached falls_at holds_back is_emptied
the_merge_is_broken = record { is_written = refl; is_deleted = refl; is_refused = refl; is_dropped = refl; count = refl }

pub a_draft_may_run_in_a_circle : ADraftMayRunInACircle
unfolding fields_of info_of is_part_by over parent_id is_deep
a_draft_may_run_in_a_circle = record { shows = refl; live = refl; drafted = λ coherent. false≢true coherent.shallow }

use Rattle.std.proofs.lemmas.List.{get_or_default}
use Rattle.shop_defs.specs.declared.table.TheConstants.{REFERENCES}
use Rattle.shop_write.specs.Deleting.{rest_of}
use Rattle.shop_write.proofs.Among.{none_stands}
use Rattle.shop_write.proofs.Puts.{put_itself, put_on, covered_more}
use Rattle.shop_write.proofs.delete.put_changes.Goals as goal

pub loop-place-init : goal.loop-place-init
loop-place-init g c = record {
  put = put_itself (rest_of REFERENCES c.args.lost.now) (g.V.View.seen c.args.view.now).rows c.args.changes.now.list;
  covered = λ row i h. absurd (none_stands row h);
}

pub loop-place-preserved : goal.loop-place-preserved
loop-place-preserved g c = record {
  put = put_on (rest_of REFERENCES c.args.lost.now) (g.V.View.seen c.args.view.now).rows c.args.changes.now.list c.loop-place.changes.list c.put_change_at.new.changes.list c.loop-place.invariant.put c.in_ok-put_change_at.ensures.put;
  covered = covered_more (rest_of REFERENCES c.args.lost.now) (g.V.View.seen c.args.view.now).rows c.args.places.now c.loop-place.changes.list c.put_change_at.new.changes.list c.loop-place.place-index _ c.loop-place-test.true (get_or_default _ _ _ _ c.loop-place-test.true) c.in_ok-put_change_at.ensures.put c.loop-place.invariant.covered c.in_ok-put_change_at.ensures.covered;
}

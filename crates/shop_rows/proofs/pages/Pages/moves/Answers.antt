use Rattle.shop_rows.specs.Mentions.{gone_at, come_at}
use Rattle.shop_rows.specs.Paging.{rows_in}
use Rattle.shop_rows.proofs.Moving.{moved_next, counted_next}
use Rattle.shop_rows.proofs.pages.Pages.moves.Goals as goal

pub loop-key-preserved : goal.loop-key-preserved
loop-key-preserved c =
    let rows = rows_in c.args.self.now.rows in
    let item = c.loop-key-item.result in
    record {
      gone = moved_next c.args.changes.now c.loop-key.key-index item c.loop-key-test.true c.loop-key-item.is (gone_at rows) c.loop-key.moves.gone.items c.add.new.self.gone.items (rw (← c.get.ensures, ← c.lent.ensures) c.in_ok-add.ensures.gone) c.loop-key.invariant.gone;
      come = moved_next c.args.changes.now c.loop-key.key-index item c.loop-key-test.true c.loop-key-item.is (come_at rows) c.loop-key.moves.come.items c.add.new.self.come.items (rw (← c.get.ensures, ← c.lent.ensures) c.in_ok-add.ensures.come) c.loop-key.invariant.come;
      counts = counted_next c.args.changes.now c.loop-key.key-index item c.loop-key-test.true c.loop-key-item.is rows c.loop-key.moves.counts.all c.add.new.self.counts.all c.loop-key.moves.counts.of c.add.new.self.counts.of _ _
          c.requires.found.mentioned.order c.requires.order c.requires.stand c.get.ensures c.lent.ensures c.in_ok-add.ensures.all c.in_ok-add.ensures.few c.in_ok-add.ensures.of c.loop-key.invariant.counts;
    }

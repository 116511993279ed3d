use Rattle.std.proofs.Common.{◌≡◌, map, take}
use Rattle.std.specs.List.{flat_map}
use Rattle.shop_defs.specs.Rows.{change_rows}
use Rattle.shop_rows.specs.Counting.{AreCounted}
use Rattle.shop_rows.specs.Mentions.{gone_at, come_at}
use Rattle.shop_rows.specs.Paging.{rows_in, read_change}
use Rattle.shop_rows.proofs.pages.Pages.moves.Given as goal

abbrev pub invariant-loop-key : goal.invariant-loop-key
invariant-loop-key l = record {
  gone : l.moves.gone.items ≡ flat_map (gone_at (rows_in l.self.rows)) (map read_change (take l.key-index l.changes));
  come : l.moves.come.items ≡ flat_map (come_at (rows_in l.self.rows)) (map read_change (take l.key-index l.changes));
  counts : AreCounted (change_rows (rows_in l.self.rows) (map read_change (take l.key-index l.changes))) l.moves.counts.all l.moves.counts.of;
}

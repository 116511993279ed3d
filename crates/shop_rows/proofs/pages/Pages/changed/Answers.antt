use Rattle.std.proofs.Common.{◌≡◌, map, not, ◌&&◌, ◌||◌, sym, ap, subst, ◌∙◌}
use Rattle.paged.specs.Pairs.{value_of}
use Rattle.paged.specs.Paged.{all_pairs}
use Rattle.shop_defs.specs.Rows.{change_rows}
use Rattle.shop_rows.specs.Counting.{AreCounted}
use Rattle.shop_rows.specs.Mentions.{AreMentioned, among, has}
use Rattle.shop_rows.specs.Paging.{rows_in, mentions_in, read_change}
use Rattle.shop_rows.proofs.InPages.{Stand, changed_in_pairs, stand-changed, read_ascends}
use Rattle.shop_rows.proofs.MovedMentions.{moved_are}
use Rattle.shop_rows.proofs.pages.Pages.changed.Goals as goal

pub returns-clause-rows : goal.returns-clause-rows
returns-clause-rows c = ap (map value_of) c.in_ok-rows.ensures ∙ changed_in_pairs c.args.changes.now (all_pairs c.args.self.now.rows) c.requires.found.stand c.requires.stand

pub returns-clause-found : goal.returns-clause-found
returns-clause-found c =
    let rows = rows_in c.args.self.now.rows in
    let changes = map read_change c.args.changes.now in
    let mentions = mentions_in c.args.self.now.mentions in
    let same : rows_in c.in_ok-rows.rows ≡ change_rows rows changes = ap (map value_of) c.in_ok-rows.ensures ∙ changed_in_pairs c.args.changes.now (all_pairs c.args.self.now.rows) c.requires.found.stand c.requires.stand in
    record {
      stand = subst Stand (sym c.in_ok-rows.ensures) (stand-changed c.args.changes.now (all_pairs c.args.self.now.rows) c.requires.found.stand c.requires.stand);
      mentioned = subst (λ l. AreMentioned l (mentions_in c.in_ok-mentions.mentions)) (sym same)
          (moved_are rows mentions (mentions_in c.in_ok-mentions.mentions) changes c.requires.found.mentioned (read_ascends c.args.changes.now c.requires.order) c.requires.stand c.in_ok-mentions.ensures.sorted
          (λ mention. c.in_ok-mentions.ensures.fit mention ∙ (λ i. among (c.in_ok-moves.ensures.come i) mention || (not (among (c.in_ok-moves.ensures.gone i) mention) && has mentions mention))));
      counted = subst (λ l. AreCounted l c.in_ok-moves.moves.counts.all c.in_ok-moves.moves.counts.of) (sym same) c.in_ok-moves.ensures.counts;
    }

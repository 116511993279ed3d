use Rattle.std.proofs.Common.{ℕ, List, ◌<◌, length, sym, subst}
use Rattle.shop_meanings.proofs.Paths.{paths_go_up}
use Rattle.idx_category.proofs.place.find_standing.Goals as goal

pub level_below-level-requires : goal.level_below-level-requires
level_below-level-requires c = subst (λ (p : List ℕ). length p < 32) (sym c.in_ok-path.ensures) ((paths_go_up c.args.rows.now.list c.requires).low c.args.id)

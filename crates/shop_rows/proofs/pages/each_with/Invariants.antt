use Rattle.std.proofs.Common.{◌≡◌, map, take}
use Rattle.shop_rows.proofs.pages.each_with.Given as goal

abbrev pub invariant-loop-mention : goal.invariant-loop-mention
invariant-loop-mention l = l.changes.items ≡ map (λ mention. (mention, l.change)) (take l.mention-index l.mentions)

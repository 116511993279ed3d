use Rattle.std.proofs.Common.{◌≡◌, map, take}
use Rattle.shop_json.proofs.reply.replied_text.Given as goal

abbrev pub invariant-loop-reply : goal.invariant-loop-reply
invariant-loop-reply l = map (λ row. row.now) l.listed.items ≡ map (λ reply. reply.row) (take l.reply-index l.rows)

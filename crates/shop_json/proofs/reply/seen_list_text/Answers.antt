use Rattle.std.proofs.Common.{List, sym, ap, ◌∙◌, Bor}
use Rattle.std.proofs.lemmas.Simd.{map-map}
use Rattle.serde_json.specs.Written.{compact_text}
use Rattle.shop_defs.specs.declared.row.Row.{Row}
use Rattle.shop_core.specs.declared.answers.RowReply.{RowReply}
use Rattle.shop_core.specs.Requests.{bare}
use Rattle.reply_json.specs.RowReplies.{rows_data}
use Rattle.shop_json.specs.Replying.{reply_body}
use Rattle.shop_json.proofs.Constant.{ok_map}
use Rattle.shop_json.proofs.reply.seen_list_text.Goals as goal

pub returns : goal.returns
unfolding reply_body
returns c =
    ok_map c.rows_text.result
    (λ body printed. printed ∙ ap (λ (all : List Row). compact_text (rows_data all)) (sym (map-map (λ (reply : RowReply). reply.row) (λ (row : Bor Row). bare row.now) c.args.rows.now)))
    c.rows_text.ensures

use Rattle.std.proofs.Common.{sym, ap, ◌∙◌}
use Rattle.std.specs.Fmt.{digits}
use Rattle.json.specs.Print.{escape_byte}
use Rattle.shop_http.specs.Responses.{content_lines, response_text, start_line}
use Rattle.shop_json.specs.Replying.{reply_body}
use Rattle.shop_server.specs.Run.{fatal_text}
use Rattle.shop_server.proofs.refusal.Refusal.response.Goals as goal

pub returns-in-NotBuilt : goal.returns-in-NotBuilt
unfolding response_text start_line content_lines digits reply_body escape_byte
returns-in-NotBuilt c = c.not_built_response.ensures ∙ ap fatal_text (sym c.in-NotBuilt.is)

pub returns-in-BadHead : goal.returns-in-BadHead
unfolding response_text start_line content_lines digits reply_body escape_byte
returns-in-BadHead c = c.bad_head_response.ensures ∙ ap fatal_text (sym c.in-BadHead.is)

pub returns-in-Chunked : goal.returns-in-Chunked
unfolding response_text start_line content_lines digits reply_body escape_byte
returns-in-Chunked c = c.chunked_response.ensures ∙ ap fatal_text (sym c.in-Chunked.is)

pub returns-in-TooLarge : goal.returns-in-TooLarge
unfolding response_text start_line content_lines digits reply_body escape_byte
returns-in-TooLarge c = c.body_too_large_response.ensures ∙ ap fatal_text (sym c.in-TooLarge.is)

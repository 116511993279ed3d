use Rattle.std.proofs.Common.{ap, sym}
use Rattle.std.specs.Fmt.{digits}
use Rattle.shop_http.specs.Responses.{no_memory_text, response_text, start_line, content_lines}
use Rattle.shop_http.proofs.fixed.no_memory_response.Goals as goal

pub returns-then-closing : goal.returns-then-closing
unfolding response_text start_line content_lines digits
returns-then-closing c = ap no_memory_text (sym c.if-closing.true)

pub returns-else-closing : goal.returns-else-closing
unfolding response_text start_line content_lines digits
returns-else-closing c = ap no_memory_text (sym c.if-closing.false)

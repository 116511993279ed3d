use Rattle.std.proofs.Common.{refl}
use Rattle.std.specs.Fmt.{digits}
use Rattle.shop_http.specs.Responses.{response_text, start_line, content_lines}
use Rattle.shop_http.proofs.fixed.chunked_response.Goals as goal

pub returns : goal.returns
unfolding response_text start_line content_lines digits
returns c = refl

use Rattle.std.proofs.Common.{map, take}
use Rattle.httparse.specs.Spans.{header_bytes}
use Rattle.shop_http.specs.Words.{AreFields}
use Rattle.shop_http.proofs.fields.look_up.Given as goal

abbrev pub invariant-loop-field : goal.invariant-loop-field
invariant-loop-field l = AreFields l.found (map (header_bytes l.region) (take l.field-index l.fields))

use Rattle.std.proofs.Common.{◌≡◌, Some, sym, ◌∙◌}
use Rattle.uuid.specs.Text.{parsed}
use Rattle.shop_requests.proofs.IdBytes.{parsed_number, text_parses}
use Rattle.shop_requests.proofs.ids.number_of.Goals as goal

pub unwrap-requires : goal.unwrap-requires
unwrap-requires c = c.try_parse_ascii.ensures.ok.1 (text_parses c.args.digits.now c.requires.long c.requires.passes)

pub returns : goal.returns
returns c =
    let bytes : Some c.unwrap.result ≡ parsed c.args.digits.now = rw c.unwrap.ensures at c.try_parse_ascii.ensures.bytes in
    c.as_u128.ensures ∙ parsed_number c.args.digits.now c.unwrap.result c.requires.long c.requires.passes (sym bytes)

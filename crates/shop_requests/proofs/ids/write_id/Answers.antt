use Rattle.std.proofs.Common.{◌≡◌}
use Rattle.shop_requests.specs.Ids.{id_text}
use Rattle.shop_requests.proofs.IdTexts.{text_reads}
use Rattle.shop_requests.proofs.IdBytes.{simple_text-id}
use Rattle.shop_requests.proofs.ids.write_id.Goals as goal

pub returns-clause-text : goal.returns-clause-text
returns-clause-text c = rw (c.encode_lower.ensures.text, c.simple.ensures, c.from_u128.ensures) (simple_text-id c.args.id)

pub returns-clause-reads : goal.returns-clause-reads
returns-clause-reads c =
    let is_text : c.encode_lower.result.now ≡ id_text c.args.id = rw (c.encode_lower.ensures.text, c.simple.ensures, c.from_u128.ensures) (simple_text-id c.args.id) in
    rw is_text (text_reads c.args.id c.ranges.id.fits)

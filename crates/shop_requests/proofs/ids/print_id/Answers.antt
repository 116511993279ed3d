use Rattle.std.proofs.Common.{◌≡◌, sym}
use Rattle.shop_requests.specs.Ids.{id_text}
use Rattle.shop_requests.proofs.IdTexts.{text_length, text_reads}
use Rattle.shop_requests.proofs.ids.print_id.Goals as goal

pub copy_from_slice-requires : goal.copy_from_slice-requires
copy_from_slice-requires c = rw (c.as_bytes.ensures.value, c.write_id.ensures.text) (sym (text_length c.args.id))

pub returns-clause-text : goal.returns-clause-text
returns-clause-text c = rw (c.copy_from_slice.ensures.after, c.as_bytes.ensures.value) c.write_id.ensures.text

pub returns-clause-reads : goal.returns-clause-reads
returns-clause-reads c = rw (c.copy_from_slice.ensures.after, c.as_bytes.ensures.value) c.write_id.ensures.reads

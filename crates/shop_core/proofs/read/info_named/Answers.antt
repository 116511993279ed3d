use Rattle.shop_core.proofs.TableLines.{named_line}
use Rattle.shop_core.proofs.read.info_named.Goals as goal

pub returns-in-Some : goal.returns-in-Some
returns-in-Some c = named_line c.args.name.now c.in-Some.entity c.entity_info.result c.in-Some.ensures.value c.entity_info.ensures

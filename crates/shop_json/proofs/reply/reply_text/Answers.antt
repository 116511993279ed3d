use Rattle.std.proofs.Common.{sym, ap, ◌∙◌}
use Rattle.shop_json.specs.Replying.{reply_body, reply_status}
use Rattle.shop_json.proofs.Constant.{no_memory_body, store_failed_body}
use Rattle.shop_json.proofs.reply.reply_text.Goals as goal

pub returns-in_ok-copy_body-in-StoreFailed : goal.returns-in_ok-copy_body-in-StoreFailed
returns-in_ok-copy_body-in-StoreFailed c =
    (ap reply_status (sym c.in-StoreFailed.is), c.in_ok-copy_body-in-StoreFailed.ensures ∙ sym store_failed_body ∙ ap reply_body (sym c.in-StoreFailed.is))

pub returns-in_ok-copy_body-in-NoMemory : goal.returns-in_ok-copy_body-in-NoMemory
returns-in_ok-copy_body-in-NoMemory c =
    (ap reply_status (sym c.in-NoMemory.is), c.in_ok-copy_body-in-NoMemory.ensures ∙ sym no_memory_body ∙ ap reply_body (sym c.in-NoMemory.is))

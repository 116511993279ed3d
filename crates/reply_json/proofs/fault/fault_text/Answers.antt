use Rattle.reply_json.specs.Faults.{fault_data}
use Rattle.reply_json.proofs.Printed.{printed}
use Rattle.reply_json.proofs.fault.fault_text.Goals as goal

pub returns : goal.returns
returns c = printed (fault_data c.args.fault.now) _ _ _ c.in_ok-out.ensures c.in_ok-put_fault.ensures c.finish.ensures

use Rattle.std.proofs.Common.{◌≡◌, ◌∙◌, ap, FitsSigned, w64}
use Rattle.std.proofs.lemmas.Int.{to_z-of_z}
use Rattle.jiff_core.specs.Date.{epoch_day}
use Rattle.shop_requests.specs.Days.{day_of}
use Rattle.reply_json.proofs.Calendar.{date_is_text, day_reads}
use Rattle.reply_json.proofs.day.day_text.Goals as goal

pub returns-clause-text : goal.returns-clause-text
returns-clause-text c =
    let date = c.unwrap-date.result in
    let fits : FitsSigned w64 c.args.days = c.ranges.days in
    let number : epoch_day date ≡ c.args.days = simp to_z-of_z at (rw c.unwrap-date.ensures at c.from_unix_epoch_day.ensures.value) in
    c.date_text.ensures ∙ date_is_text date c.args.days c.requires number

pub returns-clause-reads : goal.returns-clause-reads
returns-clause-reads c = ap day_of (returns-clause-text c) ∙ day_reads c.args.days c.requires

use Rattle.std.proofs.Common.{map, sym, ap, ◌∙◌, Some}
use Rattle.std.specs.String.{string_bytes}
use Rattle.shop_server.proofs.OneWord.{check_word}
use Rattle.shop_server.proofs.Runs.{run_number, run_damaged, run_written, check_number, check_sound, check_usage, check_read, check_store}
use Rattle.shop_server.proofs.run.run_shop.Goals as goal

pub returns-in-Some-Run-clause-exact : goal.returns-in-Some-Run-clause-exact
returns-in-Some-Run-clause-exact g c = λ all start run told keeps. run_number _ _ _ all start c.run.ensures.ran told keeps

pub returns-in-Some-Run-clause-damaged : goal.returns-in-Some-Run-clause-damaged
returns-in-Some-Run-clause-damaged g c = λ held damage run told first. run_damaged _ _ _ held damage c.run.ensures.ran told first

pub returns-in-Some-Run-clause-answered : goal.returns-in-Some-Run-clause-answered
returns-in-Some-Run-clause-answered g c = λ all before start run told begun keeps. run_written _ _ _ all before start c.run.ensures.ran told begun keeps

pub returns-in-Some-Check-clause-usage : goal.returns-in-Some-Check-clause-usage
returns-in-Some-Check-clause-usage g c =
    let checked = c.check.ensures.checked (g.S.Source.left c.args.source.now) (g.C.Clock.coming c.args.clock.now) in
    (λ e. absurd (check_usage _ _ _ checked e), λ none. absurd (none.1 (check_word (map string_bytes c.args.words.now) (sym c.verb_of.ensures ∙ c.in-Some-Check.is ∙ ap Some c.in-Some-Check.field-0-is))))

pub returns-in-Some-Check-clause-read_fault : goal.returns-in-Some-Check-clause-read_fault
returns-in-Some-Check-clause-read_fault g c = λ e.
    absurd (check_read _ _ _ (c.check.ensures.checked (g.S.Source.left c.args.source.now) (g.C.Clock.coming c.args.clock.now)) e)

pub returns-in-Some-Check-clause-store_fault : goal.returns-in-Some-Check-clause-store_fault
returns-in-Some-Check-clause-store_fault g c = λ e.
    check_store _ _ _ (c.check.ensures.checked (g.S.Source.left c.args.source.now) (g.C.Clock.coming c.args.clock.now)) e

pub returns-in-Some-Check-clause-reported : goal.returns-in-Some-Check-clause-reported
returns-in-Some-Check-clause-reported g c = λ held check told.
    check_number _ _ _ held (c.check.ensures.checked (g.S.Source.left c.args.source.now) (g.C.Clock.coming c.args.clock.now)) told

pub returns-in-Some-Check-clause-sound : goal.returns-in-Some-Check-clause-sound
returns-in-Some-Check-clause-sound g c = λ start check keeps.
    check_sound _ _ _ start (c.check.ensures.checked (g.S.Source.left c.args.source.now) (g.C.Clock.coming c.args.clock.now)) keeps

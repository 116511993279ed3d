use Rattle.std.specs.Prelude.{Some}
use Rattle.shop_shared.specs.Passes.{entry_of}
use Rattle.shop_shared.proofs.master.Master.commit.Given as goal

-- the entry that is added
abbrev pub ghosts-commit_said : goal.ghosts-commit_said
ghosts-commit_said g a = record { said = Some (entry_of a.number a.command.now a.moment.now) }

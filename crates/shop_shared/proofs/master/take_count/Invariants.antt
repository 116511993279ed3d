use Rattle.shop_shared.proofs.master.take_count.Given as goal

-- the keeper's count
abbrev pub ghosts-take_count_said : goal.ghosts-take_count_said
ghosts-take_count_said g a = record { count = a.state.now.faults }

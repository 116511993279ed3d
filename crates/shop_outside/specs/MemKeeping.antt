-- What is seen of a keeper in memory: what it holds, and which calls fail.
use Rattle.std.specs.Prelude.{ℕ, ◌+◌}
use Rattle.shop_outside.specs.declared.calls.Calls.{Calls}
use Rattle.shop_outside.specs.declared.keeper.Kept.{Kept}
use Rattle.shop_outside.specs.declared.mem_keeper.MemKeeper.{MemKeeper}
use Rattle.shop_outside.specs.Bodies.{bodies_of}

abbrev pub held_by : MemKeeper → Kept
held_by keeper = record { rows = bodies_of keeper.rows; number = keeper.number }

abbrev pub loads_of : MemKeeper → Calls
loads_of keeper = keeper.loads

abbrev pub applies_of : MemKeeper → Calls
applies_of keeper = keeper.applies

-- how many calls failed, of either method
abbrev pub faults_of : MemKeeper → ℕ
faults_of keeper = keeper.loads.faults + keeper.applies.faults

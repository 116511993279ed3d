-- What is seen of a listener and a spawner in memory: what is left, and which calls fail.
use Rattle.std.specs.Prelude.{List}
use Rattle.shop_outside.specs.declared.calls.Calls.{Calls}
use Rattle.shop_outside.specs.declared.mem_listener.MemListener.{MemListener}
use Rattle.shop_outside.specs.declared.mem_spawner.MemSpawner.{MemSpawner}

-- the links that are still to be given
abbrev pub links_left : {L : Type 0} → MemListener L → List L
links_left listener = listener.links.items

abbrev pub accepts_of : {L : Type 0} → MemListener L → Calls
accepts_of listener = listener.calls

abbrev pub starts_of : MemSpawner → Calls
starts_of spawner = spawner.calls

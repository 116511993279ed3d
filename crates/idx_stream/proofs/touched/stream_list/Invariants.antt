use Rattle.std.proofs.Common.{◌≡◌, take}
use Rattle.idx_stream.specs.Affecting.{streams_of}
use Rattle.idx_stream.proofs.touched.stream_list.Given as goal

abbrev pub invariant-loop-change : goal.invariant-loop-change
invariant-loop-change l = l.ids.items ≡ streams_of l.before.list l.after.list (take l.change-index l.changes)

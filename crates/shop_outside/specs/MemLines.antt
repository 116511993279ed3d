-- What is seen of a source and a sink in memory: their bytes, how many a call gives or takes, and
-- which calls fail.
use Rattle.std.specs.Prelude.{ℕ, ◌≡◌, ◌<◌, List, drop, length, min}
use Rattle.shop_outside.specs.declared.calls.Calls.{Calls}
use Rattle.shop_outside.specs.declared.mem_line.MemSource.{MemSource}
use Rattle.shop_outside.specs.declared.mem_line.MemSink.{MemSink}

-- the bytes that are left to read
abbrev pub bytes_left : MemSource → List ℕ
bytes_left source = drop source.at source.bytes.items

-- the most that a read gives
abbrev pub read_piece : MemSource → ℕ
read_piece source = source.piece

-- how many bytes a read gives to a place of that size
abbrev pub read_count : MemSource → ℕ → ℕ
read_count source room = min (min (length (bytes_left source)) room) (read_piece source)

abbrev pub reads_of : MemSource → Calls
reads_of source = source.calls

-- the bytes that a sink holds
abbrev pub bytes_written : MemSink → List ℕ
bytes_written sink = sink.bytes.items

-- the most that a write takes
abbrev pub write_piece : MemSink → ℕ
write_piece sink = sink.piece

-- how many more bytes it has room for
abbrev pub room_left : MemSink → ℕ
room_left sink = sink.room

-- how many bytes a write takes of a piece of that length
abbrev pub write_count : MemSink → ℕ → ℕ
write_count sink len = min len (min (write_piece sink) (room_left sink))

-- there is no room for a piece of that length
abbrev pub IsFull : MemSink → ℕ → Type 0
IsFull sink len = (room_left sink ≡ 0) × (0 < len)

abbrev pub writes_of : MemSink → Calls
writes_of sink = sink.calls

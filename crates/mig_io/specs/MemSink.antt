-- A sink in memory, and at which calls it fails.
use Rattle.std.specs.Prelude.{Bool, ℕ, List, ◌||◌, ◌&&◌, ◌==◌, not, length}
use Rattle.mig_io.specs.declared.mem_sink.MemSink.{MemSink}
use Rattle.mig_io.specs.Counts.{is_listed}

-- all bytes that it took
abbrev pub bytes_taken : MemSink → List ℕ
bytes_taken sink = sink.bytes.items

-- how many more bytes it can take
abbrev pub room_of : MemSink → ℕ
room_of sink = sink.room

-- how many bytes it takes at most in a call
abbrev pub piece_of : MemSink → ℕ
piece_of sink = sink.piece

-- how many faults there were
abbrev pub fault_count : MemSink → ℕ
fault_count sink = sink.faults.count.number

-- how many calls there were
abbrev pub calls_of : MemSink → ℕ
calls_of sink = sink.faults.calls

-- the numbers of the calls that are to fail
abbrev pub listed_of : MemSink → List ℕ
listed_of sink = sink.faults.listed

-- whether a call for this piece fails: its number is listed, or the room is spent and the piece isn't empty
abbrev pub put_fails : MemSink → List ℕ → Bool
put_fails sink piece = is_listed (listed_of sink) (calls_of sink) || (room_of sink == 0 && not (length piece == 0))

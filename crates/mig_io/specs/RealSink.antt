-- A stream of the system as a sink.
use Rattle.std.specs.Prelude.{ℕ}
use Rattle.mig_io.specs.declared.real_sink.RealSink.{RealSink}

-- the stream that it writes to
abbrev pub stream_of : {W : Type 0} → RealSink W → W
stream_of sink = sink.out

-- how many faults there were
abbrev pub fault_count : {W : Type 0} → RealSink W → ℕ
fault_count sink = sink.count.number

use Rattle.std.proofs.Common.{◌+◌, ◌-◌, vec_len}
use Rattle.std.specs.Io.KnownBytes.{Consumes}
use Rattle.mig_io.proofs.real_files.read_within.Given as goal

-- what was read is the front of what the reader had
abbrev pub invariant-loop-buf : goal.invariant-loop-buf
invariant-loop-buf g l = Consumes (g.F.Read.remaining l.fn.file) (g.F.Read.remaining l.file) l.bytes.items

abbrev pub decreases-loop-buf : goal.decreases-loop-buf
decreases-loop-buf g l = l.cap + 1 - vec_len l.bytes

use Rattle.std.proofs.Common.{◌≡◌, take}
use Rattle.std.specs.Prelude.{filter}
use Rattle.mig_invariant.specs.Columns.{is_key}
use Rattle.mig_invariant.proofs.facts.keys_among.Given as goal

abbrev pub invariant-loop-c : goal.invariant-loop-c
invariant-loop-c l = l.list ≡ filter (is_key l.schema) (take l.c-index l.columns)

-- The pair of functions that the code holds.
use Rattle.mig_algebra.specs.Proper.{Sides}
use Rattle.mig_obligations.specs.declared.proving.Pair.{Pair}

-- a pair's schemas and functions
abbrev pub sides_of : Pair → Sides
sides_of p = record { source = p.source.now; target = p.target.now; source_fn = p.source_fn.now; target_fn = p.target_fn.now }

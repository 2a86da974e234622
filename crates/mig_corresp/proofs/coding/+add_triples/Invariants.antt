use Rattle.std.proofs.Common.{length}
use Rattle.mig_corresp.proofs.coding.+add_triples.Given as goal

abbrev pub decreases-add_triples : goal.decreases-add_triples
decreases-add_triples l = length l.places.now

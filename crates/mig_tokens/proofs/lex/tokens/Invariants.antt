use Rattle.std.proofs.Common.{length}
use Rattle.mig_tokens.proofs.LexLemmas.{Completes}
use Rattle.mig_tokens.proofs.lex.tokens.Given as goal

abbrev pub invariant-loop-rest : goal.invariant-loop-rest
invariant-loop-rest l = Completes l.bytes l.tokens.items l.rest

abbrev pub decreases-loop-rest : goal.decreases-loop-rest
decreases-loop-rest l = length l.rest

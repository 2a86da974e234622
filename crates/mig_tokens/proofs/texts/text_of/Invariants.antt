use Rattle.std.proofs.Common.{◌≡◌, drop, cond}
use Rattle.mig_tokens.specs.Tokens.{text_at, escape_at}
use Rattle.mig_tokens.proofs.TextLemmas.{fronted}
use Rattle.mig_tokens.proofs.texts.text_of.Given as goal

abbrev pub invariant-loop-i : goal.invariant-loop-i
invariant-loop-i l = fronted l.text.items (cond l.escaped (escape_at (drop l.i l.bytes)) (text_at (drop l.i l.bytes))) ≡ text_at l.bytes

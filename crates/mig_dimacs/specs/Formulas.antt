-- The clauses that a text spells.
use Rattle.std.specs.Prelude.{◌≡◌, ℕ, ◌-◌, false, not, List, map, min}
use Rattle.mig_sat.specs.declared.clauses.SatLit.{SatLit}
use Rattle.mig_sat.specs.declared.clauses.Cnf.{Cnf}
use Rattle.mig_dimacs.specs.declared.token.Number.{Number as Signed}
use Rattle.mig_dimacs.specs.declared.text.Text.{Text}
use Rattle.mig_dimacs.specs.Words.{pieces_of}
use Rattle.mig_dimacs.specs.Texts.{Spells}

-- variables count from 1 in texts, and from 0 here; no literal of a text is past the greatest u32
abbrev pub lit_of : Signed → SatLit
lit_of n = record { var = min (n.size - 1) 4294967295; positive = not n.negative }

-- a clause of a text without weights
abbrev pub lits_of : List Signed → List SatLit
lits_of c = map lit_of c

-- a text without weights
abbrev pub cnf_of : Text → Cnf
cnf_of t = record { vars = t.head.vars; clauses = map lits_of t.clauses }

-- the bytes spell the clauses
abbrev pub IsCnfText : List ℕ → Cnf → Type 0
IsCnfText bytes cnf = (t : Text) × Spells false (pieces_of bytes) t × (cnf ≡ cnf_of t)

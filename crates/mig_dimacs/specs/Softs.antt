-- The clauses that a text with weights spells.
use Rattle.std.specs.Prelude.{◌≡◌, ℕ, ◌==◌, true, if◌then◌else◌, List, [], ◌∷◌, Option, Some, None}
use Rattle.std.specs.List.{flat_map}
use Rattle.mig_sat.specs.declared.clauses.SatLit.{SatLit}
use Rattle.mig_dimacs.specs.declared.token.Number.{Number as Signed}
use Rattle.mig_dimacs.specs.declared.text.Text.{Text}
use Rattle.mig_dimacs.specs.declared.soft.SoftLit.{SoftLit}
use Rattle.mig_dimacs.specs.declared.soft.Wcnf.{Wcnf}
use Rattle.mig_dimacs.specs.Formulas.{lit_of, lits_of}
use Rattle.mig_dimacs.specs.Words.{pieces_of}
use Rattle.mig_dimacs.specs.Texts.{Spells}

-- the top, which a text with weights has
abbrev pub top_of : Option ℕ → ℕ
top_of None = 0
top_of (Some top) = top

-- a clause without its weight, if it is hard
abbrev pub hard_part : ℕ → List Signed → List (List SatLit)
hard_part top [] = []
hard_part top (w ∷ ls) = if w.size == top then lits_of ls ∷ [] else []

-- a literal and its weight
abbrev pub soft_lit : ℕ → List Signed → List SoftLit
soft_lit weight (l ∷ []) = record { lit = lit_of l; weight = weight } ∷ []
soft_lit weight ls = []

-- the literal of a clause and its weight, if it is soft
abbrev pub soft_part : ℕ → List Signed → List SoftLit
soft_part top [] = []
soft_part top (w ∷ ls) = if w.size == top then [] else soft_lit w.size ls

-- a text with weights
abbrev pub wcnf_of : Text → Wcnf
wcnf_of t = record {
  hard = record { vars = t.head.vars; clauses = flat_map (hard_part (top_of t.head.top)) t.clauses };
  soft = flat_map (soft_part (top_of t.head.top)) t.clauses;
}

-- the bytes spell the clauses
abbrev pub IsWcnfText : List ℕ → Wcnf → Type 0
IsWcnfText bytes w = (t : Text) × Spells true (pieces_of bytes) t × (w ≡ wcnf_of t)

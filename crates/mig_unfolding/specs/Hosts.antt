-- Hosts of a variable: a term, or a body, which is a term with no head.
use Rattle.std.specs.Prelude.{ℕ, ◌-◌, ◌==◌, cond, List, [], ◌++◌, map}
use Rattle.mig_base.specs.Lists.{numbered}
use Rattle.mig_algebra.specs.declared.atoms.Var.{Var}
use Rattle.mig_algebra.specs.declared.atoms.Atom.{Atom}
use Rattle.mig_algebra.specs.declared.literals.Inner.{Inner}
use Rattle.mig_algebra.specs.declared.literals.Lit.{Lit}
use Rattle.mig_algebra.specs.declared.terms.Term.{Term}
use Rattle.mig_algebra.specs.Rename.{lits_with, without, below}
use Rattle.mig_steps.specs.Variables.{leaving_out}

-- a body as a host
abbrev pub as_host : Inner → Term
as_host b = record { vars = b.vars; lits = b.lits; head = [] }

-- a host as a body
abbrev pub as_body : Term → Inner
as_body t = record { vars = t.vars; lits = t.lits }

-- with more literals at the end
abbrev pub with_more : Term → List Lit → Term
with_more t ls = record { vars = t.vars; lits = t.lits ++ ls; head = t.head }

-- a variable one stage earlier
abbrev pub var_before : Var → Var
var_before v = record { side = v.side; table = v.table; stage = v.stage - 1 }

-- a host whose own variable of number i stands one stage earlier
abbrev pub before_statement : ℕ → Term → Term
before_statement i t = record { vars = numbered (λ m (w : Var). cond (m == i) (var_before w) w) 0 t.vars; lits = t.lits; head = t.head }

-- a host without its own variable of number i, which is v among all in scope, each column of it written as an atom
abbrev pub host_without : (v i : ℕ) → (ℕ → Atom) → Term → Term
host_without v i to t = record { vars = leaving_out i t.vars; lits = lits_with (without v to) (below v) t.lits; head = map (without v to) t.head }

-- Each table of a job that a text spells has a column.
use Rattle.std.proofs.Common.{◌≡◌, ℕ, true, List, [], ◌∷◌, length, refl, subst, arith}
use Rattle.std.specs.Prelude.{nat_lt}
use Rattle.std.specs.List.{list_all, AllByRecursion}
use Rattle.std.proofs.lemmas.Bool.{and_from, lt-ltb}
use Rattle.mig_schema.specs.declared.tables.Column.{Column}
use Rattle.mig_schema.specs.declared.tables.Table.{Table}
use Rattle.mig_schema.specs.declared.jobs.Job.{Job}
use Rattle.mig_tokens.specs.Forms.{AllOfSome}
use Rattle.mig_grammar.specs.Shapes.{IsColumn, IsTable}
use Rattle.mig_syntax.specs.Job.{IsJobText}
use Rattle.mig_sketch.specs.Completed.{has_columns}

some-columns : (cs : List Column) → AllOfSome IsColumn cs → nat_lt 0 (length cs) ≡ true
some-columns [] h = absurd h
some-columns (c ∷ cs) h = lt-ltb 0 (length (c ∷ cs)) (omega arith)

all-columns : (ts : List Table) → AllByRecursion IsTable ts → list_all (λ (t : Table). nat_lt 0 (length t.columns)) ts ≡ true
all-columns [] h = refl
all-columns (t ∷ ts) h = and_from (nat_lt 0 (length t.columns)) (list_all (λ (u : Table). nat_lt 0 (length u.columns)) ts) (some-columns t.columns h.0.columns) (all-columns ts h.1)

pub text-columns : (bytes : List ℕ) (job : Job) → IsJobText bytes job → has_columns job.target ≡ true
text-columns bytes job t = subst (λ (j : Job). has_columns j.target ≡ true) t.named (all-columns t.tree.target.tables t.text.text.fits.target.tables)

-- The limits of expressions and steps: what passes them doesn't follow.
use Rattle.std.specs.Prelude.{ℕ, ◌+◌, ◌-◌, ◌^◌, nat_lt, Bool, true, cond, ◌&&◌, length, Option, Some, None}
use Rattle.std.specs.List.{list_all}
use Rattle.mig_meaning.specs.Lists.{total}
use Rattle.mig_algebra.specs.declared.literals.Lit.{Lit, Cmp, Other, Any', Row_of-Lit, end_of-Lit, more_of-Lit}
use Rattle.mig_algebra.specs.declared.terms.Term.{Term}
use Rattle.mig_algebra.specs.declared.terms.Expr.{Expr}
use Rattle.mig_steps.specs.declared.steps.Step.{Step}

-- how many literals a literal is, those of its bodies at any depth among them
abbrev mutual
  pub lit_count : Lit → ℕ
  lit_count (Cmp op a b) = 1
  lit_count (Other a b) = 1
  lit_count (Any' held vars n lits) = 1 + row_count lits

  pub row_count : {m : _} → Row_of-Lit m → ℕ
  row_count end_of-Lit = 0
  row_count (more_of-Lit l rest) = lit_count l + row_count rest

-- whether bodies are nested at most d deep in a literal, and fewer than 2^31 variables are in scope everywhere, where n are in scope outside
abbrev mutual
  pub lit_bounded : (d n : ℕ) → Lit → Bool
  lit_bounded d n (Cmp op a b) = true
  lit_bounded d n (Other a b) = true
  lit_bounded d n (Any' held vars m lits) = nat_lt 0 d && (nat_lt (n + length vars) (2 ^ 31) && row_bounded (d - 1) (n + length vars) lits)

  pub row_bounded : (d n : ℕ) → {m : _} → Row_of-Lit m → Bool
  row_bounded d n end_of-Lit = true
  row_bounded d n (more_of-Lit l rest) = lit_bounded d n l && row_bounded d n rest

-- the same of a term: a body that stands directly in it is nested once
abbrev pub term_bounded : Term → Bool
term_bounded t = nat_lt (length t.vars) (2 ^ 31) && list_all (lit_bounded 8 (length t.vars)) t.lits

-- how many literals a term has
abbrev pub term_count : Term → ℕ
term_count t = total lit_count t.lits

-- at most 256 terms and 4,096 literals in all, bodies nested 8 deep, and fewer than 2^31 variables in scope at each place
abbrev pub is_within_limits : Expr → Bool
is_within_limits e =
    nat_lt (length e.terms) 257
    && (nat_lt (total term_count e.terms) 4097
    && list_all term_bounded e.terms)

-- a path and arguments of at most 16 numbers each
abbrev pub is_short : Step → Bool
is_short s = nat_lt (length s.path) 17 && nat_lt (length s.args) 17

-- what is left of a budget when n are taken from it, if there are so many
abbrev pub left : (budget n : ℕ) → Option ℕ
left b n = cond (nat_lt b n) None (Some (b - n))

-- Which choices of rows reach a literal, and what may stand in its place.
use Rattle.std.specs.Prelude.{◌≡◌, ◌≤◌, Bool, true, List, ◌++◌, take}
use Rattle.std.specs.List.{list_all, list_any}
use Rattle.mig_meaning.specs.Lists.{total, bit, In}
use Rattle.mig_algebra.specs.declared.literals.Inner.{Inner}
use Rattle.mig_algebra.specs.declared.literals.Lit.{Lit}
use Rattle.mig_algebra.specs.Meaning.{Setting, Env, choices, lit_true, lits_true}
use Rattle.mig_replacing.specs.Places.{Standing, Place}

-- whether a literal is true at the rows of the variables in scope where it stands, which are the first of a choice
abbrev pub stands_true : Setting → Env → Standing → Bool
stands_true s e l = lit_true s (take l.count e) l.lit

-- a choice of rows for the variables in scope of a literal reaches it: all other literals of its list and of each list around it are true there
pub record Reaches (s : Setting) (p : Place) (e : Env) : Type 0 where
  pub choice : In e (choices s p.scope)
  pub around : list_all (stands_true s e) p.around ≡ true

-- at each choice that reaches a literal, it is true exactly where some alternative is
pub record StandsFor (s : Setting) (p : Place) (alternatives : List (List Lit)) : Type 0 where
  pub by : (e : Env) → Reaches s p e → list_any (lits_true s e) alternatives ≡ lit_true s e p.lit

-- and at most one alternative is true there
pub record AtMostOne (s : Setting) (p : Place) (alternatives : List (List Lit)) : Type 0 where
  pub by : (e : Env) → Reaches s p e → total (λ a. bit (lits_true s e a)) alternatives ≤ 1

-- whether some choice of rows for the variables of a body meets its literals
abbrev pub is_met : Setting → Env → Inner → Bool
is_met s e b = list_any (λ c. lits_true s (e ++ c) b.lits) (choices s b.vars)

-- at each choice that reaches the literal of a body, the body can be met exactly where some body of a list can
pub record MetAs (s : Setting) (p : Place) (body : Inner) (bodies : List Inner) : Type 0 where
  pub by : (e : Env) → Reaches s p e → list_any (is_met s e) bodies ≡ is_met s e body

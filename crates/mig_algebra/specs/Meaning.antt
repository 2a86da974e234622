-- What an expression means in a setting: the bag of its rows.
use Rattle.std.specs.Prelude.{ℕ, ◌==◌, Bool, true, false, not, ◌&&◌, List, [], ◌∷◌, ◌++◌, map, filter, slice_index_or}
use Rattle.std.specs.List.{list_any, flat_map}
use Rattle.mig_schema.specs.declared.values.Value.{Value}
use Rattle.mig_schema.specs.declared.values.Value.TheVariants as value
use Rattle.mig_meaning.specs.declared.states.Placed.{Placed}
use Rattle.mig_meaning.specs.Lists.{product}
use Rattle.mig_meaning.specs.Values.{no_value, compares}
use Rattle.mig_meaning.specs.Rows.{no_row, value_at}
use Rattle.mig_meaning.specs.Conditions.{Given}
use Rattle.mig_algebra.specs.declared.atoms.Var.{Var}
use Rattle.mig_algebra.specs.declared.atoms.Atom.{Atom}
use Rattle.mig_algebra.specs.declared.atoms.Atom.TheVariants.{Int, Text, Param, Fresh, Col}
use Rattle.mig_algebra.specs.declared.literals.Lit.{Lit, Cmp, Other, Any', Row_of-Lit, end_of-Lit, more_of-Lit}
use Rattle.mig_algebra.specs.declared.terms.Term.{Term}
use Rattle.mig_algebra.specs.declared.terms.Expr.{Expr}

-- the rows that a variable ranges over, and what the call is given
pub record Setting : Type 0 where
  pub rows : Var → List Placed
  pub given : Given

-- a choice of rows for the variables in scope, by their numbers
abbrev pub Env : Type 0
Env = List Placed

-- the row of a variable
abbrev pub row_at : Env → ℕ → Placed
row_at env v = slice_index_or env v no_row

-- the value of an atom; `Fresh n` is the n-th of the call's keys
abbrev pub value_of : Setting → Env → Atom → Value
value_of s env (Int i) = value.Int i
value_of s env (Text t) = value.Text t
value_of s env (Param p) = slice_index_or s.given.args p no_value
value_of s env (Fresh n) = slice_index_or (map value.Key s.given.keys) n no_value
value_of s env (Col v c) = value_at (row_at env v) c

-- whether a test comes out as it is to
abbrev pub comes_out : Bool → Bool → Bool
comes_out true b = b
comes_out false b = not b

-- all choices of a row for each variable, the first variable slowest
abbrev pub choices : Setting → List Var → List Env
choices s vars = product (map s.rows vars)

-- whether a literal is true at a choice; the rows of a body's own variables come last
abbrev mutual
  pub lit_true : Setting → Env → Lit → Bool
  lit_true s env (Cmp op l r) = compares op (value_of s env l) (value_of s env r)
  lit_true s env (Other l r) = not ((row_at env l).id == (row_at env r).id)
  lit_true s env (Any' held vars n lits) =
      comes_out held (list_any (λ c. row_true s (env ++ c) lits) (choices s vars))

  pub row_true : Setting → Env → {m : _} → Row_of-Lit m → Bool
  row_true s env end_of-Lit = true
  row_true s env (more_of-Lit l rest) = lit_true s env l && row_true s env rest

-- whether all of a list are true
abbrev pub lits_true : Setting → Env → List Lit → Bool
lits_true s env [] = true
lits_true s env (l ∷ ls) = lit_true s env l && lits_true s env ls

-- the values of a head
abbrev pub head_of : Setting → List Atom → Env → List Value
head_of s head env = map (value_of s env) head

-- a term's bag: its head once for each choice of rows that makes its literals true
abbrev pub term_bag : Setting → Term → List (List Value)
term_bag s t = map (head_of s t.head) (filter (λ c. lits_true s c t.lits) (choices s t.vars))

-- the sum of the bags of terms
abbrev pub terms_bag : Setting → List Term → List (List Value)
terms_bag s ts = flat_map (term_bag s) ts

-- an expression's bag
abbrev pub bag : Setting → Expr → List (List Value)
bag s e = terms_bag s e.terms

-- Rows of an old view's join written as those of the new view's join, in a host: a term, or a body with what stands around it.
use Rattle.std.specs.Prelude.{ℕ, ◌+◌, ◌-◌, ◌==◌, nat_lt, Bool, true, false, cond, not, ◌&&◌, ◌||◌, List, [], ◌∷◌, ◌++◌, length, map, filter, slice_get, slice_index_or, Option, Some, None}
use Rattle.std.specs.List.{list_all, list_any}
use Rattle.mig_schema.specs.declared.faults.Side.TheVariants.{Old, New}
use Rattle.mig_schema.specs.declared.tables.ColId.{ColId}
use Rattle.mig_schema.specs.declared.programs.Join.{Join}
use Rattle.mig_schema.specs.declared.programs.Joined.{Joined}
use Rattle.mig_schema.specs.declared.programs.Op.TheVariants.{Eq}
use Rattle.mig_schema.specs.Joins.{tables_of, in_one_class}
use Rattle.mig_meaning.specs.Lists.{place, has}
use Rattle.mig_meaning.specs.declared.relating.View.{View}
use Rattle.mig_algebra.specs.declared.atoms.Var.{Var}
use Rattle.mig_algebra.specs.declared.atoms.Atom.{Atom}
use Rattle.mig_algebra.specs.declared.atoms.Atom.TheVariants.{Int, Text, Param, Fresh, Col}
use Rattle.mig_algebra.specs.declared.literals.Inner.{Inner}
use Rattle.mig_algebra.specs.declared.literals.Lit.{Lit, Cmp}
use Rattle.mig_algebra.specs.declared.terms.Term.{Term}
use Rattle.mig_algebra.specs.Obligations.{var_of, col_atom, join_lits}
use Rattle.mig_algebra.specs.Proper.{same_side}
use Rattle.mig_algebra.specs.Rename.{lit_all, lits_with, renumbered}
use Rattle.mig_algebra.specs.Tidied.{slots, numbers_of, vars_of}
use Rattle.mig_classes.specs.Given.{given}
use Rattle.mig_replacing.specs.Given.{plain}

-- what the items of a list are
abbrev pub item_type : {X : Type 0} → List X → Type 0
item_type {X} xs = X

-- a variable with its number
abbrev pub Numbered : Type 0
Numbered = item_type (slots 0 [])

-- which of a host's variables are folded, and by which view: the host's variables have the numbers from `base` on
pub record Fold : Type 0 where
  pub base : ℕ
  pub vars : List Var
  pub named : List ℕ
  pub source : View
  pub target : View

-- ---- what is named

-- whether a variable is there and ranges over an old table before the call
abbrev pub is_of_table : ℕ → Option Var → Bool
is_of_table t None = false
is_of_table t (Some v) = same_side v.side Old && (v.table == t && v.stage == 0)

-- whether these numbers name, each once, variables of the host for these tables, in order
abbrev pub are_named : (base : ℕ) → List Var → (xs ts : List ℕ) → Bool
are_named base vars [] [] = true
are_named base vars (x ∷ xs) (t ∷ ts) = not (has xs x) && (not (nat_lt x base) && (is_of_table t (slice_get vars (x - base)) && are_named base vars xs ts))
are_named base vars _ _ = false

-- the old view's tables, and the new view's
abbrev pub old_tables : Fold → List ℕ
old_tables f = tables_of f.source.join

abbrev pub new_tables : Fold → List ℕ
new_tables f = tables_of f.target.join

-- whether a variable is named
abbrev pub is_named : Fold → ℕ → Bool
is_named f v = has f.named v

-- the variables that stay, with their numbers
abbrev pub staying : Fold → List Numbered
staying f = filter (λ p. not (has f.named p.number)) (slots f.base f.vars)

-- the column of the old view's join that a column of a named variable is
abbrev pub old_column : Fold → (v c : ℕ) → ColId
old_column f v c = record { table = slice_index_or (old_tables f) (place f.named v) 0; column = c }

-- a column of a join by the variables of these numbers, one for each of its tables
abbrev pub column_of : Join → List ℕ → ColId → Atom
column_of j xs c = renumbered (λ i. slice_index_or xs i 0) (col_atom (tables_of j) c)

-- whether a list of literals gives each equality of a join by the variables of these numbers, these variables being in scope
abbrev pub joins_by : Join → List ℕ → (scope : List Var) → (known : List Lit) → Bool
joins_by j xs scope known = list_all (λ (m : Joined). given scope known Eq (column_of j xs m.left) (column_of j xs m.right)) j.more

-- whether it gives each equality of the old view's join by the named variables
abbrev pub join_given : Fold → (scope : List Var) → (known : List Lit) → Bool
join_given f scope known = joins_by f.source.join f.named scope known

-- ---- what is said of what is named

-- whether both atoms are columns of named variables, in one class of the old view's join
abbrev pub both_inner : Fold → Atom → Atom → Bool
both_inner f (Col v c) (Col w d) = is_named f v && (is_named f w && in_one_class f.source.join (old_column f v c) (old_column f w d))
both_inner f a b = false

-- whether a literal equates such columns
abbrev pub is_inner : Fold → Lit → Bool
is_inner f (Cmp Eq a b) = both_inner f a b
is_inner f l = false

-- the other literals
abbrev pub outer_lits : Fold → List Lit → List Lit
outer_lits f lits = filter (λ l. not (is_inner f l)) lits

-- whether the class of a column of the old view's join holds an output
abbrev pub has_output : Fold → ColId → Bool
has_output f c = list_any (in_one_class f.source.join c) f.source.outs

-- whether an atom is no column of a named variable, or one whose class holds an output
abbrev pub atom_folds : Fold → Atom → Bool
atom_folds f (Col v c) = not (is_named f v) || has_output f (old_column f v c)
atom_folds f (Int i) = true
atom_folds f (Text t) = true
atom_folds f (Param p) = true
atom_folds f (Fresh n) = true

-- whether a variable is none of the named
abbrev pub id_folds : Fold → ℕ → Bool
id_folds f v = not (is_named f v)

-- whether all that the literals but the inner ones say of named variables can be said of the view's outputs
abbrev pub lits_fold : Fold → List Lit → Bool
lits_fold f lits = list_all (lit_all (atom_folds f) (id_folds f)) (outer_lits f lits)

-- whether a host with these literals folds, where `known` are its plain literals and those around it, and `scope` the variables in scope in it
abbrev pub host_folds : Fold → (scope : List Var) → (known lits : List Lit) → Bool
host_folds f scope known lits = are_named f.base f.vars f.named (old_tables f) && (join_given f scope known && lits_fold f lits)

-- ---- what is written

-- the column of the new view for the first output in a column's class
abbrev pub image_of : Join → (outs images : List ColId) → ColId → ColId
image_of j (o ∷ os) (i ∷ is) c = cond (in_one_class j c o) i (image_of j os is c)
image_of j _ _ c = c

-- the number of the first variable that is added
abbrev pub first_added : Fold → ℕ
first_added f = f.base + length (staying f)

-- The number of a variable that is not named. Those bound deeper stand behind the added ones.
abbrev pub moved : Fold → ℕ → ℕ
moved f v =
    cond (nat_lt v f.base) v
    (cond (nat_lt v (f.base + length f.vars)) (f.base + place (numbers_of (staying f)) v)
    (v - (f.base + length f.vars) + (first_added f + length (new_tables f))))

-- a column of the new view's join by the added variables
abbrev pub added_atom : Fold → ColId → Atom
added_atom f c = renumbered (λ k. first_added f + k) (col_atom (new_tables f) c)

-- an atom in a folded host
abbrev pub folded_atom : Fold → Atom → Atom
folded_atom f (Col v c) = cond (is_named f v) (added_atom f (image_of f.source.join f.source.outs f.target.outs (old_column f v c))) (Col (moved f v) c)
folded_atom f (Int i) = Int i
folded_atom f (Text t) = Text t
folded_atom f (Param p) = Param p
folded_atom f (Fresh k) = Fresh k

-- the variables that stay, and the new view's
abbrev pub folded_vars : Fold → List Var
folded_vars f = vars_of (staying f) ++ map (var_of New 0) (new_tables f)

-- the literals that stay, and the new view's equalities
abbrev pub folded_lits : Fold → List Lit → List Lit
folded_lits f lits =
    lits_with (folded_atom f) (moved f) (outer_lits f lits)
    ++ lits_with (renumbered (λ k. first_added f + k)) (λ k. first_added f + k) (join_lits (new_tables f) f.target.join.more)

-- ---- terms and bodies

-- the fold of named variables of a term
abbrev pub term_fold : View → View → List ℕ → Term → Fold
term_fold source target xs t = record { base = 0; vars = t.vars; named = xs; source = source; target = target }

-- a term after a fold
abbrev pub folded : Fold → Term → Term
folded f t = record { vars = folded_vars f; lits = folded_lits f t.lits; head = map (folded_atom f) t.head }

-- the term that a term becomes where the rows of its variables xs are those of the new view's join
abbrev pub fold_of : View → View → List ℕ → Term → Option Term
fold_of source target xs t =
    cond (host_folds (term_fold source target xs t) t.vars (plain t.lits) t.lits && list_all (atom_folds (term_fold source target xs t)) t.head)
    (Some (folded (term_fold source target xs t) t))
    None

-- the fold of named variables of a body, where these variables are in scope around it
abbrev pub body_fold : View → View → List ℕ → List Var → Inner → Fold
body_fold source target xs scope b = record { base = length scope; vars = b.vars; named = xs; source = source; target = target }

-- a body after a fold
abbrev pub folded_body : Fold → Inner → Inner
folded_body f b = record { vars = folded_vars f; lits = folded_lits f b.lits }

-- the body that a body becomes, where the plain literals around it are `context`
abbrev pub foldin_of : View → View → List ℕ → (scope : List Var) → (context : List Lit) → Inner → Option Inner
foldin_of source target xs scope context b =
    cond (host_folds (body_fold source target xs scope b) (scope ++ b.vars) (context ++ plain b.lits) b.lits)
    (Some (folded_body (body_fold source target xs scope b) b))
    None

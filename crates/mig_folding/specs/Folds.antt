-- Variables of a term are folded by a view. The arguments: the invariant, which is a view, and the variables for the tables of its old side, in order.
use Rattle.std.specs.Prelude.{ℕ, List, [], ◌∷◌, slice_get, Option, None}
use Rattle.std.specs.Option.{option_map, option_and_then}
use Rattle.mig_meaning.specs.declared.relating.View.{View}
use Rattle.mig_meaning.specs.declared.relating.Invariant.{Invariant}
use Rattle.mig_meaning.specs.declared.relating.Invariant.TheVariants.{Views, Unique, Apart, Within}
use Rattle.mig_algebra.specs.declared.terms.Term.{Term}
use Rattle.mig_replacing.specs.Given.{plain}
use Rattle.mig_folding.specs.Folding.{fold_of}
use Rattle.mig_folding.specs.Naming.{Host, host_args}

-- folds variables by a view
abbrev pub by_views : List ℕ → Term → (source target : View) → Option (List Term)
by_views xs t source target = option_map (λ u. u ∷ []) (fold_of source target xs t)

-- by an invariant, which has to be a view
abbrev pub by_fold : List ℕ → Term → Invariant → Option (List Term)
by_fold xs t (Views source target) = by_views xs t source target
by_fold xs t (Unique side column) = None
by_fold xs t (Apart side left right) = None
by_fold xs t (Within side left right) = None

-- the rule
abbrev pub fold : List Invariant → List ℕ → Term → Option (List Term)
fold invs (k ∷ xs) t = option_and_then (by_fold xs t) (slice_get invs k)
fold invs [] t = None

-- ---- what is tried

-- a term as a host
abbrev pub term_host : Term → Host
term_host t = record { base = 0; vars = t.vars; scope = t.vars; known = plain t.lits }

-- the views, each with the variables of the term that may stand for its old side's tables
abbrev pub fold_args : List Invariant → Term → List (List ℕ)
fold_args invs t = host_args invs (term_host t)

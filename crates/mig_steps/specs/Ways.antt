-- The ways in which rules work: on a term, on a literal at a path, and on a term and those behind it.
use Rattle.std.specs.Prelude.{ℕ, List, [], ◌∷◌, ◌++◌, Option, None}
use Rattle.std.specs.Option.{option_map, option_and_then}
use Rattle.mig_algebra.specs.declared.literals.Lit.{Lit}
use Rattle.mig_algebra.specs.declared.terms.Term.{Term}
use Rattle.mig_replacing.specs.Replaced.{replaced}
use Rattle.mig_steps.specs.Spots.{Seen, spot_at}

-- a rule on terms says, by its arguments, what a term becomes
abbrev pub TermRule : Type 0
TermRule = List ℕ → Term → Option (List Term)

-- a rule on literals says, by its arguments, what alternatives a literal has
abbrev pub LitRule : Type 0
LitRule = List ℕ → Seen → Option (List (List Lit))

-- a rule on several terms says, by a term's number and its arguments, what stands in place of the term and all behind it
abbrev pub TailRule : Type 0
TailRule = (n : ℕ) → List ℕ → Term → (later : List Term) → Option (List Term)

-- what a rule puts in place of a term, by the path and the arguments of a step
abbrev pub OnTerm : Type 0
OnTerm = (path args : List ℕ) → Term → Option (List Term)

-- what a rule puts in place of a term of a number and all behind it
abbrev pub OnTerms : Type 0
OnTerms = (n : ℕ) → (path args : List ℕ) → Term → (later : List Term) → Option (List Term)

-- the terms in place of the term itself, whose path is empty
abbrev pub on_term : TermRule → OnTerm
on_term gives [] args t = gives args t
on_term gives (j ∷ path) args t = None

-- the terms in place of a term of which the literal at a path has alternatives
abbrev pub at_literal : LitRule → OnTerm
at_literal gives path args t = option_map (replaced t path) (option_and_then (gives args) (spot_at t path))

-- a rule that leaves the terms behind as they are
abbrev pub alone : OnTerm → OnTerms
alone gives n path args t later = option_map (λ us. us ++ later) (gives path args t)

-- a rule on several terms, whose path is empty
abbrev pub on_terms : TailRule → OnTerms
on_terms gives n [] args t later = gives n args t later
on_terms gives n (j ∷ path) args t later = None

-- a rule that gives nothing yet
abbrev pub nothing : OnTerm
nothing path args t = None

-- What is asked of the paths and arguments that are tried for a rule.
use Rattle.std.specs.Prelude.{◌≡◌, ℕ, List, [], Some, None}
use Rattle.mig_algebra.specs.declared.terms.Term.{Term}
use Rattle.mig_listing.specs.Listing.{IsIn, Rises}
use Rattle.mig_listing.specs.Orders.{Before}
use Rattle.mig_steps.specs.Ways.{OnTerm, OnTerms}

-- the arguments that are tried for a rule that sees one term, at a path
abbrev pub Args : Type 0
Args = (path : List ℕ) → Term → List (List ℕ)

-- and for one that sees the terms behind too, with the number of the first
abbrev pub TailArgs : Type 0
TailArgs = (n : ℕ) → (path : List ℕ) → Term → (later : List Term) → List (List ℕ)

-- a rule's arguments, whatever stands behind
abbrev pub args_alone : Args → TailArgs
args_alone args n path t later = args path t

-- both lists rise, and where a rule gives something, its path and its arguments are among them
pub record OffersAlone (gives : OnTerm) (paths : Term → List (List ℕ)) (args : Args) : Type 0 where
  pub paths_rise : (t : Term) → Rises Before (paths t)
  pub path_in : (t : Term) (path bs : List ℕ) (us : List Term) → gives path bs t ≡ Some us → IsIn path (paths t)
  pub args_rise : (t : Term) (path : List ℕ) → Rises Before (args path t)
  pub args_in : (t : Term) (path bs : List ℕ) (us : List Term) → gives path bs t ≡ Some us → IsIn bs (args path t)

-- the same of a rule that sees the terms behind
pub record OffersAll (gives : OnTerms) (paths : Term → List (List ℕ)) (args : TailArgs) : Type 0 where
  pub paths_rise : (t : Term) → Rises Before (paths t)
  pub path_in : (n : ℕ) (path bs : List ℕ) (t : Term) (later us : List Term) → gives n path bs t later ≡ Some us → IsIn path (paths t)
  pub args_rise : (n : ℕ) (path : List ℕ) (t : Term) (later : List Term) → Rises Before (args n path t later)
  pub args_in : (n : ℕ) (path bs : List ℕ) (t : Term) (later us : List Term) → gives n path bs t later ≡ Some us → IsIn bs (args n path t later)

-- where a rule gives nothing at a term alone, it gives nothing there whatever stands behind
pub record LooksAtOne (gives : OnTerms) : Type 0 where
  pub by : (n : ℕ) (path args : List ℕ) (t : Term) (later : List Term) → gives 0 path args t [] ≡ None → gives n path args t later ≡ None

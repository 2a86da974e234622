-- All entries of each correspondence that was taken are among those of the search.
use Rattle.std.proofs.Common.{ℕ, List, [], ◌∷◌, sym, subst, inl, inr}
use Rattle.mig_schema.specs.declared.jobs.Job.{Job}
use Rattle.mig_listing.specs.Listing.{IsIn}
use Rattle.mig_listing.proofs.Members.{in_append_left, in_append_right}
use Rattle.mig_invariant.specs.declared.corresp.Corr.{Corr}
use Rattle.mig_search.specs.declared.outcomes.Options.{Options}
use Rattle.mig_search.specs.declared.outcomes.Tried.{Tried}
use Rattle.mig_search.specs.Outcomes.{AreAllEntries, AreOfAll, AreWhole}

-- these entries of a correspondence are among those
abbrev pub HasAll : Job → (tests : ℕ) → Corr → List Tried → Type 0
HasAll job tests corr tried = (here : List Tried) × AreAllEntries job corr tests here × ((t : Tried) → IsIn t here → IsIn t tried)

in_whole : (job : Job) (tests : ℕ) (corrs : List Corr) (tried : List Tried) → AreWhole job tests corrs tried → (corr : Corr) → IsIn corr corrs → HasAll job tests corr tried
in_whole job tests [] tried w corr i = absurd i
in_whole job tests (c ∷ cs) tried w corr i = elim i [
  | inl e ↦ (w.0, subst (λ x. AreAllEntries job x tests w.0) (sym e) w.2, λ t j. subst (IsIn t) (sym w.4) (in_append_left w.0 w.1 t j))
  | inr j ↦ let more = in_whole job tests cs w.1 w.3 corr j in (more.0, more.1, λ t k. subst (IsIn t) (sym w.4) (in_append_right w.0 w.1 t (more.2 t k)))
]

pub taken_seen : (job : Job) (options : Options) (tried : List Tried) (all : AreOfAll job options tried) (corr : Corr) → IsIn corr all.corrs → HasAll job options.tests corr tried
taken_seen job options tried all corr i = in_whole job options.tests all.corrs tried all.whole corr i

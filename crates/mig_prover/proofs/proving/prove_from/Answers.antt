use Rattle.std.proofs.Common.{subst}
use Rattle.mig_meaning.specs.declared.relating.Invariant.{Invariant}
use Rattle.mig_listing.specs.Listing.{IsIn}
use Rattle.mig_prover.specs.Proving.{IsFirstOpen}
use Rattle.mig_prover.specs.Rounds.{IsWithout}
use Rattle.mig_prover.proofs.proving.prove_from.Goals as goal

pub returns-in_ok-gone-in-Some : goal.returns-in_ok-gone-in-Some
returns-in_ok-gone-in-Some c =
    let first : IsFirstOpen c.args.job.now c.args.program.now c.in_ok-facts.facts.list c.in-Some.query = rw c.in-Some.is at c.in_ok-first_open.ensures.some in
    record {
      facts = c.in_ok-facts.facts.list;
      kept = c.in_ok-facts.ensures;
      so = (
        first,
        subst (λ fs. IsWithout (λ (i : Invariant). IsIn i fs → ⊥) c.args.list.now.list c.in_ok-gone-in-Some.gone.list) c.as_slice-in-Some.ensures
            (subst (λ xs. IsWithout (λ (i : Invariant). IsIn i c.as_slice-in-Some.result.now → ⊥) xs c.in_ok-gone-in-Some.gone.list) c.as_slice.ensures c.in_ok-gone-in-Some.ensures),
      );
    }

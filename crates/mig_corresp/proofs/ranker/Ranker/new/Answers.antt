-- Nothing was given, and the clauses are those of the job.
use Rattle.std.proofs.Common.{◌≡◌, List, [], ap, sym, ◌∙◌, subst}
use Rattle.mig_invariant.specs.declared.corresp.Corr.{Corr}
use Rattle.mig_corresp.specs.Pairs.{pairs}
use Rattle.mig_corresp.proofs.Turns.{AreKept}
use Rattle.mig_corresp.proofs.Starts.{kept_none}
use Rattle.mig_corresp.proofs.ranker.Ranker.new.Goals as goal

pub invariant_of-result : goal.invariant_of-result
invariant_of-result c =
    let p = c.in_ok-problem.problem in
    let none = kept_none c.in_ok-job.job c.args.job.now c.as_slice.result.now p c.in_ok-job.ensures (c.as_slice.ensures ∙ c.in_ok-pairs.ensures)
    c.in_ok-problem.ensures.vars c.in_ok-problem.ensures.clauses c.in_ok-problem.ensures.weights c.in_ok-problem.ensures.sound in
    let k : AreKept c.in_ok-job.job c.new.result.items p = subst (λ (given : List Corr). AreKept c.in_ok-job.job given p) (sym c.new.ensures.items) none in
    record {
      listed = c.in_ok-pairs.ensures ∙ ap pairs (sym c.in_ok-job.ensures);
      vars = k.asked.vars;
      clauses = k.asked.clauses;
      weights = k.asked.weights;
      sound = k.sound;
      front = k.front;
    }

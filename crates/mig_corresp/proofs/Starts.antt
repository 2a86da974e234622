-- What a ranker keeps before it has given any.
use Rattle.std.proofs.Common.{◌≡◌, List, [], ◌++◌, length, map, ap, sym, ◌∙◌, subst}
use Rattle.std.proofs.lemmas.List.{append-nil}
use Rattle.mig_schema.specs.declared.jobs.Job.{Job}
use Rattle.mig_listing.proofs.Fronts.{front_none}
use Rattle.mig_maxsat.specs.declared.weighted.Weighted.{Weighted}
use Rattle.mig_maxsat.specs.Heaviest.{IsSound}
use Rattle.mig_invariant.specs.declared.corresp.ColPair.{ColPair}
use Rattle.mig_corresp.specs.Pairs.{pairs}
use Rattle.mig_corresp.specs.Weights.{pair_weight}
use Rattle.mig_corresp.specs.Coding.{clauses_over}
use Rattle.mig_corresp.proofs.Turns.{AreKept}

pub kept_none : (twin job : Job) (ps : List ColPair) (p : Weighted) → twin ≡ job → ps ≡ pairs job → p.hard.vars ≡ length ps → p.hard.clauses ≡ clauses_over job ps → p.weights ≡ map (pair_weight job) ps → IsSound p → AreKept twin [] p
kept_none twin job ps p same listed vars clauses weights sound =
    let kept : AreKept job [] p = record {
      asked = record {
        vars = vars ∙ ap length listed;
        clauses = clauses ∙ ap (clauses_over job) listed ∙ sym (append-nil (clauses_over job (pairs job)));
        weights = weights ∙ ap (map (pair_weight job)) listed;
      };
      sound = sound;
      front = front_none;
    } in
    subst (λ (j : Job). AreKept j [] p) (sym same) kept

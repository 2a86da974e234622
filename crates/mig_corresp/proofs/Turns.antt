-- What a solver finds is the next correspondence; and where it finds none, all were given.
use Rattle.std.proofs.Common.{◌≡◌, ◌⊎◌, ◌<ℤ◌, ℤ, List, Bool, [], ◌∷◌, ◌++◌, map, length, refl, ap, sym, ◌∙◌, subst, inl, inr, arith, append_assoc}
use Rattle.std.proofs.lemmas.Int.{ints}
use Rattle.std.proofs.lemmas.List.{length-map, map-append}
use Rattle.mig_schema.specs.declared.jobs.Job.{Job}
use Rattle.mig_listing.specs.Listing.{IsIn, IsListOf}
use Rattle.mig_listing.specs.Fronts.{IsFront, IsNext}
use Rattle.mig_listing.specs.Orders.{TrueFirst, Lex}
use Rattle.mig_listing.proofs.Fronts.{front_more, front_whole}
use Rattle.mig_listing.proofs.Members.{in_append, in_append_left, in_append_right, in_map, from_map}
use Rattle.mig_sat.specs.declared.clauses.SatLit.{SatLit}
use Rattle.mig_sat.specs.Models.{IsModel, HasNoModel}
use Rattle.mig_maxsat.specs.declared.weighted.Weighted.{Weighted}
use Rattle.mig_maxsat.specs.Heaviest.{weight, IsHeaviest, IsSound}
use Rattle.mig_invariant.specs.declared.corresp.ColPair.{ColPair}
use Rattle.mig_invariant.specs.declared.corresp.Corr.{Corr}
use Rattle.mig_corresp.specs.Pairs.{pairs}
use Rattle.mig_corresp.specs.Weights.{pair_weight, weight_of}
use Rattle.mig_corresp.specs.Correspondences.{has, IsCorr, RanksBefore, vector_of}
use Rattle.mig_corresp.specs.Coding.{clauses_over, clauses_without, differing, picked}
use Rattle.mig_corresp.proofs.Couples.{SomeHolds, EachHolds, each_of, all_of}
use Rattle.mig_corresp.proofs.Clauses.{clauses_to, clauses_from}
use Rattle.mig_corresp.proofs.Forbidding.{forbids, allows, sound_more}
use Rattle.mig_corresp.proofs.Ordering.{rank_order, rank_total, lex_before}
use Rattle.mig_corresp.proofs.Picking.{weight_picked}
use Rattle.mig_corresp.proofs.Vectors.{taken, taken_vector, vector_takes, one_vector}

-- the problem is that of the job without what was given
pub record IsAsked (job : Job) (given : List Corr) (p : Weighted) : Type 0 where
  pub vars : p.hard.vars ≡ length (pairs job)
  pub clauses : p.hard.clauses ≡ clauses_without job given
  pub weights : p.weights ≡ map (pair_weight job) (pairs job)

abbrev forbidden : Job → Corr → List SatLit
forbidden job c = differing (vector_of job c)

vector_sized : (job : Job) (c : Corr) → length (vector_of job c) ≡ length (pairs job)
vector_sized job c = length-map (pairs job) (has c)

each_met : (job : Job) (given : List Corr) (p : Weighted) (m : List Bool) → IsAsked job given p → IsModel p.hard m → EachHolds m (clauses_without job given)
each_met job given p m a is = subst (EachHolds m) a.clauses (each_of m p.hard.clauses is.meets)

pub model_sized : (job : Job) (given : List Corr) (p : Weighted) (m : List Bool) → IsAsked job given p → IsModel p.hard m → length m ≡ length (pairs job)
model_sized job given p m a is = is.sized ∙ a.vars

-- what a model takes is a correspondence
model_takes : (job : Job) (given : List Corr) (p : Weighted) (m : List Bool) → IsAsked job given p → IsModel p.hard m → IsCorr job (taken job m)
model_takes job given p m a is = clauses_to job m (model_sized job given p m a is) (λ c i. each_met job given p m a is c (in_append_left (clauses_over job (pairs job)) (map (forbidden job) given) c i))

-- and was not given
model_new : (job : Job) (given : List Corr) (p : Weighted) (m : List Bool) → IsAsked job given p → IsModel p.hard m → IsIn (taken job m) given → ⊥
model_new job given p m a is i =
    let size = model_sized job given p m a is in
    let clause = each_met job given p m a is (forbidden job (taken job m)) (in_append_right (clauses_over job (pairs job)) (map (forbidden job) given) (forbidden job (taken job m)) (from_map (forbidden job) given (taken job m) i)) in
    forbids m (vector_of job (taken job m)) (size ∙ sym (vector_sized job (taken job m))) clause (sym (taken_vector job m size))

-- the vector of one that was not given is a model
vector_models : (job : Job) (given : List Corr) (p : Weighted) (o : Corr) → IsAsked job given p → ((c : Corr) → IsIn c given → IsCorr job c) → IsCorr job o → (IsIn o given → ⊥) → IsModel p.hard (vector_of job o)
vector_models job given p o a holds is new = record {
  sized = vector_sized job o ∙ sym a.vars;
  meets = all_of (vector_of job o) p.hard.clauses (subst (EachHolds (vector_of job o)) (sym a.clauses) (λ k i. elim (in_append (clauses_over job (pairs job)) (map (forbidden job) given) k i) [
    | inl j ↦ clauses_from job (vector_of job o) o (vector_sized job o) (vector_takes job o is) is k j
    | inr j ↦
        let at = in_map (forbidden job) given k j in
        subst (SomeHolds (vector_of job o)) (sym at.2) (allows (vector_of job o) (vector_of job at.0) (vector_sized job o ∙ sym (vector_sized job at.0)) (λ e. new (subst (λ c. IsIn c given) (sym (one_vector job o at.0 is (holds at.0 at.1) e)) at.1)))
  ]));
}

-- values weigh what they take
weight_taken : (job : Job) (given : List Corr) (p : Weighted) (m : List Bool) → IsAsked job given p → weight p.weights m ≡ weight_of job (picked (pairs job) m)
weight_taken job given p m a = ap (λ ws. weight ws m) a.weights ∙ weight_picked job (pairs job) m

weight_vector : (job : Job) (given : List Corr) (p : Weighted) (o : Corr) → IsAsked job given p → IsCorr job o → weight p.weights (vector_of job o) ≡ weight_of job o.pairs
weight_vector job given p o a is = weight_taken job given p (vector_of job o) a ∙ ap (weight_of job) (vector_takes job o is)

heaviest_next : (job : Job) (given : List Corr) (p : Weighted) (m : List Bool) → IsAsked job given p → ((c : Corr) → IsIn c given → IsCorr job c) → IsHeaviest p m → IsNext (IsCorr job) (RanksBefore job) given (taken job m)
heaviest_next job given p m a holds h = record {
  holds = model_takes job given p m a h.model;
  new = model_new job given p m a h.model;
  least = λ o is new before.
      let model = vector_models job given p o a holds is new in
      let le = h.heaviest (vector_of job o) model in
      let wo = weight_vector job given p o a is in
      let wm = weight_taken job given p m a in
      elim before [
        | inl heavier ↦ omega (arith, ints, le, wo, wm, heavier)
        | inr tie ↦ h.first (vector_of job o) model (wo ∙ tie.0 ∙ sym wm) (lex_before (vector_of job o) m (subst (λ v. Lex TrueFirst (vector_of job o) v) (taken_vector job m (model_sized job given p m a h.model)) tie.1))
      ];
}

-- THE NEXT: what the solver finds stands in the list of all correspondences right behind what was given
pub next_ranked : (job : Job) (given : List Corr) (p : Weighted) (m : List Bool) → IsAsked job given p → IsHeaviest p m → IsFront (IsCorr job) (RanksBefore job) given → IsFront (IsCorr job) (RanksBefore job) (given ++ taken job m ∷ [])
next_ranked job given p m a h f = front_more (rank_order job) (rank_total job) given (taken job m) f (heaviest_next job given p m a f.holds h)

-- and where it finds none, all were given
pub all_ranked : (job : Job) (given : List Corr) (p : Weighted) → IsAsked job given p → HasNoModel p.hard → IsFront (IsCorr job) (RanksBefore job) given → IsListOf (IsCorr job) (RanksBefore job) given
all_ranked job given p a none f = front_whole given f (λ o is new. none (vector_of job o) (vector_models job given p o a f.holds is new)) (rank_order job)

-- one clause more forbids what was taken
pub clauses_more : (job : Job) (given : List Corr) (m : List Bool) (old new : List (List SatLit)) → length m ≡ length (pairs job) → old ≡ clauses_without job given → new ≡ old ++ differing m ∷ [] → new ≡ clauses_without job (given ++ taken job m ∷ [])
clauses_more job given m old new size was is =
    is ∙ ap (λ cs. cs ++ differing m ∷ []) was
    ∙ append_assoc (clauses_over job (pairs job)) (map (forbidden job) given) (differing m ∷ [])
    ∙ ap (λ cs. clauses_over job (pairs job) ++ cs) (ap (λ v. map (forbidden job) given ++ differing v ∷ []) (sym (taken_vector job m size)) ∙ sym (map-append (forbidden job) given (taken job m ∷ [])))

-- what a ranker keeps once it has given one more
pub record AreKept (job : Job) (given : List Corr) (p : Weighted) : Type 0 where
  pub asked : IsAsked job given p
  pub sound : IsSound p
  pub front : IsFront (IsCorr job) (RanksBefore job) given

pub kept_more : (job : Job) (given more : List Corr) (p q : Weighted) (m : List Bool) → AreKept job given p → IsHeaviest p m → more ≡ given ++ taken job m ∷ [] → q.hard.vars ≡ p.hard.vars → q.weights ≡ p.weights → q.hard.clauses ≡ p.hard.clauses ++ differing m ∷ [] → AreKept job more q
kept_more job given more p q m k h grown vars weights clauses =
    let size = model_sized job given p m k.asked h.model in
    record {
      asked = record {
        vars = vars ∙ k.asked.vars;
        clauses = clauses_more job given m p.hard.clauses q.hard.clauses size k.asked.clauses clauses ∙ ap (clauses_without job) (sym grown);
        weights = weights ∙ k.asked.weights;
      };
      sound = sound_more p q m k.sound h.model.sized vars weights clauses;
      front = subst (IsFront (IsCorr job) (RanksBefore job)) (sym grown) (next_ranked job given p m k.asked h k.front);
    }

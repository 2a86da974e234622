-- Steps in turn, each the least that follows.
use Rattle.std.proofs.Common.{◌≡◌, ℕ, ◌+◌, List, [], ◌∷◌, ◌++◌, length, length-append, Some, refl, sym, ap, ◌∙◌, subst}
use Rattle.std.specs.Option.{option_and_then}
use Rattle.mig_meaning.specs.declared.relating.Invariant.{Invariant}
use Rattle.mig_algebra.specs.declared.terms.Expr.{Expr}
use Rattle.mig_algebra.specs.Proper.{Sides, IsProper}
use Rattle.mig_obligations.specs.Fitting.{IsFit, KeepsBag}
use Rattle.mig_obligations.specs.Replay.{replay}
use Rattle.mig_steps.specs.declared.steps.Step.{Step}
use Rattle.mig_rules.specs.Follow.{follow}
use Rattle.mig_rules.specs.First.{IsFirst}
use Rattle.mig_rules.specs.Quiet.{AreQuiet}
use Rattle.mig_rules.specs.declared.taking.Taken.{Taken}
use Rattle.mig_rules.specs.Taking.{Takes}
use Rattle.mig_rules.specs.Keeping.{FollowLaw}
use Rattle.mig_prover.specs.Simplified.{AreLeast, TrailLaw}

-- the first steps that are taken, where they end, and what is known of the terms there
pub record IsUnderWay (p : Sides) (invs : List Invariant) (e : Expr) (count : ℕ) (ss : List Step) (end : Expr) (qs : List ℕ) : Type 0 where
  pub steps : AreLeast p invs e ss end
  pub taken : length ss ≡ count
  pub quiet : AreQuiet p invs qs end.terms

module _ (p : Sides) (invs : List Invariant) where
  -- one more step
  pub least-more : (ss : List Step) (e a b : Expr) (s : Step) → AreLeast p invs e ss a → IsFirst p invs a s → follow p invs s a ≡ Some b → AreLeast p invs e (ss ++ s ∷ []) b
  least-more [] e a b s l f h = subst (λ x. AreLeast p invs x (s ∷ []) b) (sym l) (b, f, h, refl)
  least-more (t ∷ ss) e a b s l f h = (l.0, l.1, l.2, least-more ss l.0 a b s l.3 f h)

  -- they are followed in turn
  pub least-replay : (ss : List Step) (e a : Expr) → AreLeast p invs e ss a → replay (follow p invs) ss e ≡ Some a
  least-replay [] e a l = ap Some l
  least-replay (s ∷ ss) e a l = ap (option_and_then (replay (follow p invs) ss)) l.2 ∙ least-replay ss l.0 a l.3

-- what is kept of each step is kept to the end
pub least-sound : FollowLaw → (p : Sides) (invs : List Invariant) → IsFit p invs → (ss : List Step) (e a : Expr) → IsProper p e → AreLeast p invs e ss a → IsProper p a × KeepsBag p invs e a
least-sound law p invs fit [] e a h l = (subst (IsProper p) l h, subst (KeepsBag p invs e) l (record { by = λ m i. record { by = λ r. refl } }))
least-sound law p invs fit (s ∷ ss) e a h l =
    let proper = law.proper p invs fit s e l.0 h l.2 in
    let keeps = law.bag p invs fit s e l.0 h l.2 in
    let rest = least-sound law p invs fit ss l.0 a proper l.3 in
    (rest.0, record { by = λ m i. record { by = λ r. (keeps.by m i).by r ∙ (rest.1.by m i).by r } })

pub trail-law : FollowLaw → TrailLaw
trail-law law = record {
  proper = λ p invs fit e t h w. (least-sound law p invs fit t.steps e t.end h w.steps).0;
  bag = λ p invs fit e t h w. (least-sound law p invs fit t.steps e t.end h w.steps).1;
}

-- none are taken yet
pub begun : (p : Sides) (invs : List Invariant) (e end : Expr) (ss : List Step) (qs : List ℕ) → ss ≡ [] → e ≡ end → AreQuiet p invs qs e.terms → IsUnderWay p invs e 0 ss end qs
begun p invs e end ss qs h k q = record {
  steps = subst (λ x. AreLeast p invs e x end) (sym h) k;
  taken = ap length h;
  quiet = subst (λ (x : Expr). AreQuiet p invs qs x.terms) k q;
}

-- one more is taken
pub under-way : (p : Sides) (invs : List Invariant) (e : Expr) (count : ℕ) (ss ss' : List Step) (end : Expr) (qs : List ℕ) (k : Taken) → IsUnderWay p invs e count ss end qs → Takes p invs end (Some k) → ss' ≡ ss ++ k.step ∷ [] → IsUnderWay p invs e (count + 1) ss' k.next k.quiet.items
under-way p invs e count ss ss' end qs k w t h = record {
  steps = subst (λ x. AreLeast p invs e x k.next) (sym h) (least-more p invs ss e end k.next k.step w.steps t.0 t.1);
  taken = let l : length ss' ≡ length (ss ++ k.step ∷ []) = ap length h in l ∙ (length-append ss (k.step ∷ []) ∙ ap (λ n. n + 1) w.taken);
  quiet = t.2;
}

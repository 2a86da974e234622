-- What the solver finds is the next correspondence, and one clause more forbids it.
use Rattle.std.proofs.Common.{◌≡◌, List, Bool, [], ◌∷◌, ◌++◌, length, ap, sym, ◌∙◌, subst, refl}
use Rattle.mig_listing.specs.Listing.{IsListOf}
use Rattle.mig_listing.specs.Fronts.{IsFront}
use Rattle.mig_sat.specs.declared.clauses.SatLit.{SatLit}
use Rattle.mig_sat.specs.Models.{HasNoModel}
use Rattle.mig_maxsat.specs.declared.weighted.Weighted.{Weighted}
use Rattle.mig_maxsat.specs.Heaviest.{IsHeaviest}
use Rattle.mig_invariant.specs.declared.corresp.ColPair.{ColPair}
use Rattle.mig_invariant.specs.declared.corresp.Corr.{Corr}
use Rattle.mig_corresp.specs.Ranked.{Ranked}
use Rattle.mig_corresp.specs.Pairs.{pairs}
use Rattle.mig_corresp.specs.Correspondences.{IsCorr, RanksBefore}
use Rattle.mig_corresp.specs.Coding.{differing, picked}
use Rattle.mig_corresp.proofs.Vectors.{taken}
use Rattle.mig_corresp.proofs.Turns.{AreKept, kept_more, all_ranked, next_ranked}
use Rattle.mig_corresp.proofs.ranker.Ranker.next.Goals as goal

abbrev corr_of : List ColPair → Corr
corr_of ps = record { pairs = ps }

pub returns-in_default-clause-all : goal.returns-in_default-clause-all
returns-in_default-clause-all c =
    let i = c.self.inside in
    let r = c.self.invariant in
    let none : HasNoModel i.problem.hard = rw c.in_default.is at c.in_ok-model.ensures.none in
    let all : IsListOf (IsCorr i.job) (RanksBefore i.job) i.given.items = all_ranked i.job i.given.items i.problem (record { vars = r.vars; clauses = r.clauses; weights = r.weights }) none r.front in
    subst (λ (v : Ranked). IsListOf (IsCorr v.job) (RanksBefore v.job) v.given) c.self.view_is all

pub returns-clause-ranked : goal.returns-clause-ranked
returns-clause-ranked c =
    let i = c.self.inside in
    let r = c.self.invariant in
    let m = c.in-Some.model.values in
    let h : IsHeaviest i.problem m = rw c.in-Some.is at c.in_ok-model.ensures.heaviest in
    let ps : c.in_ok-pairs.pairs ≡ picked (pairs i.job) m =
    c.in_ok-pairs.ensures ∙ ap (λ (v : List Bool). picked c.as_slice.result.now v) c.as_slice-values.ensures ∙ ap (λ (l : List ColPair). picked l m) (c.as_slice.ensures ∙ r.listed) in
    let f : IsFront (IsCorr i.job) (RanksBefore i.job) (i.given.items ++ taken i.job m ∷ []) = next_ranked i.job i.given.items i.problem m (record { vars = r.vars; clauses = r.clauses; weights = r.weights }) h r.front in
    let g : IsFront (IsCorr i.job) (RanksBefore i.job) (i.given.items ++ corr_of c.in_ok-pairs.pairs ∷ []) = subst (λ (l : List ColPair). IsFront (IsCorr i.job) (RanksBefore i.job) (i.given.items ++ corr_of l ∷ [])) (sym ps) f in
    subst (λ (v : Ranked). IsFront (IsCorr v.job) (RanksBefore v.job) (v.given ++ corr_of c.in_ok-pairs.pairs ∷ [])) c.self.view_is g

pub invariant_of-self-2 : goal.invariant_of-self-2
invariant_of-self-2 c =
    let i = c.self.inside in
    let r = c.self.invariant in
    let m = c.in-Some.model.values in
    let h : IsHeaviest i.problem m = rw c.in-Some.is at c.in_ok-model.ensures.heaviest in
    let ps : c.in_ok-pairs.pairs ≡ picked (pairs i.job) m =
    c.in_ok-pairs.ensures ∙ ap (λ (v : List Bool). picked c.as_slice.result.now v) c.as_slice-values.ensures ∙ ap (λ (l : List ColPair). picked l m) (c.as_slice.ensures ∙ r.listed) in
    let twin : c.in_ok-twin.twin ≡ taken i.job m = c.in_ok-twin.ensures ∙ ap corr_of ps in
    let clause : c.in_ok-clause.clause ≡ differing m = c.in_ok-clause.ensures ∙ ap differing c.as_slice-values.ensures in
    let added = c.in_ok-add.ensures.ok in
    let grown : c.add.new.given.items ≡ i.given.items ++ taken i.job m ∷ [] = added.1 ∙ ap (λ (t : Corr). i.given.items ++ t ∷ []) twin in
    let more : c.add.new.clauses ≡ i.problem.hard.clauses ++ differing m ∷ [] = added.0 ∙ ap (λ (l : List SatLit). i.problem.hard.clauses ++ l ∷ []) clause in
    let q : Weighted = record { hard = record { vars = i.problem.hard.vars; clauses = c.add.new.clauses }; weights = i.problem.weights } in
    let kept : AreKept i.job i.given.items i.problem = record { asked = record { vars = r.vars; clauses = r.clauses; weights = r.weights }; sound = r.sound; front = r.front } in
    let k = kept_more i.job i.given.items c.add.new.given.items i.problem q m kept h grown refl refl more in
    record { listed = r.listed; vars = k.asked.vars; clauses = k.asked.clauses; weights = k.asked.weights; sound = k.sound; front = k.front }

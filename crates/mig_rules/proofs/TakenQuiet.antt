-- After a step the numbers of the terms that stayed serve on.
use Rattle.std.proofs.Common.{◌≡◌, ℕ, ◌+◌, ◌-◌, ◌<◌, ◌≤◌, ◌⊎◌, true, false, cond, List, [], ◌++◌, take, drop, length, Some, None, sym, ap, ◌∙◌, subst, ap₂, inl, inr, arith, length-append, length-drop}
use Rattle.std.proofs.lemmas.Bool.{cases_Bool}
use Rattle.std.proofs.lemmas.List.{append-nil, length-take-le, drop_all}
use Rattle.std.specs.Prelude.{◌==◌}
use Rattle.mig_meaning.specs.declared.relating.Invariant.{Invariant}
use Rattle.mig_algebra.specs.declared.terms.Term.{Term}
use Rattle.mig_algebra.specs.declared.terms.Expr.{Expr}
use Rattle.mig_algebra.specs.Proper.{Sides}
use Rattle.mig_steps.specs.declared.steps.Rule.{Rule}
use Rattle.mig_steps.specs.declared.steps.Rule.TheVariants.{Stage, StageIn, Dead, Same, Implied, Lift, Split, Found, Alone, Inside, Never, Merge, Apart, Lossless, Fold, FoldIn, Rejoin}
use Rattle.mig_steps.specs.declared.steps.Step.{Step}
use Rattle.mig_steps.specs.Ways.{OnTerm, OnTerms, alone, on_term, at_literal}
use Rattle.mig_literals.specs.Dead.{dead}
use Rattle.mig_literals.specs.Implied.{implied}
use Rattle.mig_literals.specs.Lifted.{lifted}
use Rattle.mig_literals.specs.Same.{same}
use Rattle.mig_literals.specs.Split.{split}
use Rattle.mig_rows.specs.Alone as rows
use Rattle.mig_rows.specs.Inside.{inside}
use Rattle.mig_rows.specs.Lossless.{lossless}
use Rattle.mig_rows.specs.Merged.{merged}
use Rattle.mig_rows.specs.Never.{never}
use Rattle.mig_rows.specs.Parted.{parted}
use Rattle.mig_unfolding.specs.Stages.{stage, stagein}
use Rattle.mig_folding.specs.Foldins.{foldin}
use Rattle.mig_folding.specs.Folds.{fold}
use Rattle.mig_folding.specs.Found.{found}
use Rattle.mig_rules.specs.First.{number_of, FindsFirst}
use Rattle.mig_rules.specs.Follow.{by_rule, follow}
use Rattle.mig_rules.specs.Quiet.{AreQuiet, after_step}
use Rattle.mig_rules.specs.Taking.{stay_from, new_terms}
use Rattle.mig_rules.proofs.FollowSound.{Followed, followed}
use Rattle.mig_steps.proofs.Options.{get-within, map-some}
use Rattle.mig_rules.proofs.Silent.{quiet-after}

-- the term of a step is there
pub step-within : (p : Sides) (invs : List Invariant) (s : Step) (e e' : Expr) → follow p invs s e ≡ Some e' → s.term < length e.terms
step-within p invs s e e' h = let f = followed p invs s e e' h in get-within e.terms s.term f.term f.there

-- a rule that leaves the terms behind as they are
record LeavesBehind (gives : OnTerms) : Type 0 where
  by : (n : ℕ) (path args : List ℕ) (t : Term) (later us : List Term) → gives n path args t later ≡ Some us → (vs : List Term) × (us ≡ vs ++ later)

alone-leaves : (gives : OnTerm) → LeavesBehind (alone gives)
alone-leaves gives = record { by = λ n path args t later us h. let a = map-some (λ vs. vs ++ later) (gives path args t) us h in (a.0, sym a.2) }

-- all but the last do
rule-leaves : (p : Sides) (invs : List Invariant) (r : Rule) → (number_of r == 16) ≡ false → LeavesBehind (by_rule p invs r)
rule-leaves p invs Stage h = alone-leaves (on_term (stage p))
rule-leaves p invs StageIn h = alone-leaves (at_literal (stagein p))
rule-leaves p invs Dead h = alone-leaves (on_term dead)
rule-leaves p invs Same h = alone-leaves (on_term same)
rule-leaves p invs Implied h = alone-leaves (at_literal implied)
rule-leaves p invs Lift h = alone-leaves (at_literal lifted)
rule-leaves p invs Split h = alone-leaves (at_literal split)
rule-leaves p invs Found h = alone-leaves (at_literal found)
rule-leaves p invs Alone h = alone-leaves (at_literal (rows.alone invs))
rule-leaves p invs Inside h = alone-leaves (at_literal (inside invs))
rule-leaves p invs Never h = alone-leaves (at_literal (never invs))
rule-leaves p invs Merge h = alone-leaves (on_term (merged invs))
rule-leaves p invs Apart h = alone-leaves (on_term (parted invs))
rule-leaves p invs Lossless h = alone-leaves (on_term (lossless invs))
rule-leaves p invs Fold h = alone-leaves (on_term (fold invs))
rule-leaves p invs FoldIn h = alone-leaves (at_literal (foldin invs))
rule-leaves p invs Rejoin h = cc

-- the numbers serve on, where so many terms are new and those from number k on stayed
served : (p : Sides) (invs : List Invariant) (qs : List ℕ) (ts us later all : List Term) (n k count : ℕ) → n < length ts → all ≡ take n ts ++ (us ++ later) → later ≡ drop k ts → k ≤ length ts → count ≡ (length all - n) - (length ts - k) → AreQuiet p invs qs ts → AreQuiet p invs (after_step n count k qs) all
served p invs qs ts us later all n k count l is e le c a =
    let made : all ≡ take n ts ++ (us ++ drop k ts) = is ∙ ap (λ (xs : List Term). take n ts ++ (us ++ xs)) e in
    let long : length all ≡ n + (length us + (length ts - k)) =
    ap length made ∙ length-append (take n ts) (us ++ drop k ts) ∙ ap₂ (λ (x y : ℕ). x + y) (length-take-le n ts (omega arith)) (length-append us (drop k ts) ∙ ap (λ (x : ℕ). length us + x) (length-drop k ts)) in
    let many : length us ≡ count = omega (arith, long, c) in
    subst (λ (xs : List Term). AreQuiet p invs (after_step n count k qs) xs) (sym made)
    (subst (λ (m : ℕ). AreQuiet p invs (after_step n m k qs) (take n ts ++ (us ++ drop k ts))) many (quiet-after p invs qs ts us n k a))

pub quiet-taken : (p : Sides) (invs : List Invariant) (s : Step) (e e' : Expr) (qs : List ℕ) (k count : ℕ) → follow p invs s e ≡ Some e' → k ≡ stay_from s.rule s.term (length e.terms) → count ≡ new_terms s.term k (length e.terms) (length e'.terms) → AreQuiet p invs qs e.terms → AreQuiet p invs (after_step s.term count k qs) e'.terms
quiet-taken p invs s e e' qs k count h st c a = go (cases_Bool (number_of s.rule == 16))
  where
    f : Followed p invs s e e'
    f = followed p invs s e e' h

    within : s.term < length e.terms
    within = get-within e.terms s.term f.term f.there

    terms : e'.terms ≡ take s.term e.terms ++ f.terms
    terms = sym (ap (λ (x : Expr). x.terms) f.is)

    go : ((number_of s.rule == 16) ≡ true) ⊎ ((number_of s.rule == 16) ≡ false) → AreQuiet p invs (after_step s.term count k qs) e'.terms
    go (inl t) =
        let all : k ≡ length e.terms = st ∙ ap (λ b. cond b (length e.terms) (s.term + 1)) t in
        served p invs qs e.terms f.terms [] e'.terms s.term k count within (terms ∙ ap (λ (xs : List Term). take s.term e.terms ++ xs) (sym (append-nil f.terms))) (sym (ap (λ (m : ℕ). drop m e.terms) all ∙ drop_all (length e.terms) e.terms (omega arith))) (omega (arith, all)) c a
    go (inr n) =
        let one : k ≡ s.term + 1 = st ∙ ap (λ b. cond b (length e.terms) (s.term + 1)) n in
        let left = (rule-leaves p invs s.rule n).by s.term s.path s.args f.term (drop (s.term + 1) e.terms) f.terms f.given in
        served p invs qs e.terms left.0 (drop (s.term + 1) e.terms) e'.terms s.term k count within (terms ∙ ap (λ (xs : List Term). take s.term e.terms ++ xs) left.1) (ap (λ (m : ℕ). drop m e.terms) (sym one)) (omega (arith, one, within)) c a

-- the first step leads somewhere
pub first-leads : (p : Sides) (invs : List Invariant) (e : Expr) (s : Step) → FindsFirst p invs e (Some s) → follow p invs s e ≡ None → ⊥
first-leads p invs e s h n = let k : follow p invs s e ≡ Some h.leads_to = h.follows in cc

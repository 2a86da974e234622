use Rattle.std.proofs.Common.{◌≡◌, ◌+◌, ◌++◌, ◌∷◌, [], take, ap, sym, ◌∙◌, subst}
use Rattle.std.proofs.lemmas.Bool.{MatchBool-at_true, MatchBool-at_false}
use Rattle.std.proofs.lemmas.List.{take_more}
use Rattle.mig_prover.specs.Rounds.{Stays, IsWithout}
use Rattle.mig_prover.proofs.Withouts.{without_more, without_less}
use Rattle.mig_prover.proofs.keeping.staying.Goals as goal
use Rattle.mig_prover.proofs.keeping.staying.Goals.{then-branch+in_ok-twin+in_ok-push, else-branch}

pub loop-candidate-preserved : goal.loop-candidate-preserved
loop-candidate-preserved c =
    let list = c.args.list.now in
    let i = c.loop-candidate.candidate-index in
    let next = c.loop-candidate.next.items in
    let item = c.candidate-item.result in
    let P = Stays c.args.job.now c.args.program.now c.args.views c.args.left.now.list in
    let whole : take (i + 1) list ≡ take i list ++ item ∷ [] = take_more list i item c.loop-candidate-test.true ∙ ap (λ x. take i list ++ x ∷ []) (sym c.candidate-item.is) in
    elim c.if-branch.branch [
      | then-branch+in_ok-twin+in_ok-push w ↦
          let stays : P item = MatchBool-at_true (P item) (P item → ⊥) w.if-branch.true c.in_ok-stays.ensures in
          let now : c.if-branch.next.items ≡ next ++ item ∷ [] = ap (λ v. v.items) w.next-is ∙ (w.in_ok-push.ensures.items ∙ ap (λ x. next ++ x ∷ []) w.in_ok-twin.ensures) in
          subst (IsWithout P (take (i + 1) list)) (sym now) (subst (λ xs. IsWithout P xs (next ++ item ∷ [])) (sym whole) (without_more P (take i list) next item c.loop-candidate.invariant stays))
      | else-branch w ↦
          let goes : P item → ⊥ = MatchBool-at_false (P item) (P item → ⊥) w.if-branch.false c.in_ok-stays.ensures in
          let now : c.if-branch.next.items ≡ next = ap (λ v. v.items) w.next-is in
          subst (IsWithout P (take (i + 1) list)) (sym now) (subst (λ xs. IsWithout P xs next) (sym whole) (without_less P (take i list) next item c.loop-candidate.invariant goes))
    ]

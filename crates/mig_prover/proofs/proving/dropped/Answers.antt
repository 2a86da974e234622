use Rattle.std.proofs.Common.{◌≡◌, ◌+◌, ◌++◌, ◌∷◌, [], take, ap, sym, ◌∙◌, subst}
use Rattle.std.proofs.lemmas.Bool.{cases_from_iff, MatchBool-at_true, MatchBool-at_false}
use Rattle.std.proofs.lemmas.List.{take_more}
use Rattle.mig_meaning.specs.declared.relating.Invariant.{Invariant}
use Rattle.mig_listing.specs.Listing.{IsIn}
use Rattle.mig_prover.specs.Rounds.{IsWithout}
use Rattle.mig_prover.proofs.Withouts.{without_more, without_less}
use Rattle.mig_prover.proofs.proving.dropped.Goals as goal
use Rattle.mig_prover.proofs.proving.dropped.Goals.{then-not-is_one+in_ok-twin+in_ok-push, else-not-is_one}

pub loop-candidate-preserved : goal.loop-candidate-preserved
loop-candidate-preserved c =
    let list = c.args.list.now in
    let i = c.loop-candidate.candidate-index in
    let gone = c.loop-candidate.gone.items in
    let item = c.candidate-item.result in
    let P = λ (x : Invariant). IsIn x c.args.facts.now → ⊥ in
    let one = cases_from_iff c.is_one.ensures in
    let whole : take (i + 1) list ≡ take i list ++ item ∷ [] = take_more list i item c.loop-candidate-test.true ∙ ap (λ x. take i list ++ x ∷ []) (sym c.candidate-item.is) in
    elim c.if-not-is_one.branch [
      | then-not-is_one+in_ok-twin+in_ok-push w ↦
          let stays : P item = MatchBool-at_false (IsIn item c.args.facts.now) (IsIn item c.args.facts.now → ⊥) w.if-not-is_one.true one in
          let now : c.if-not-is_one.gone.items ≡ gone ++ item ∷ [] = ap (λ v. v.items) w.gone-is ∙ (w.in_ok-push.ensures.items ∙ ap (λ x. gone ++ x ∷ []) w.in_ok-twin.ensures) in
          subst (IsWithout P (take (i + 1) list)) (sym now) (subst (λ xs. IsWithout P xs (gone ++ item ∷ [])) (sym whole) (without_more P (take i list) gone item c.loop-candidate.invariant stays))
      | else-not-is_one w ↦
          let goes : P item → ⊥ = λ n. n (MatchBool-at_true (IsIn item c.args.facts.now) (IsIn item c.args.facts.now → ⊥) w.if-not-is_one.false one) in
          let now : c.if-not-is_one.gone.items ≡ gone = ap (λ v. v.items) w.gone-is in
          subst (IsWithout P (take (i + 1) list)) (sym now) (subst (λ xs. IsWithout P xs gone) (sym whole) (without_less P (take i list) gone item c.loop-candidate.invariant goes))
    ]

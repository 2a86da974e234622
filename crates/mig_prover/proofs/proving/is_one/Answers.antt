use Rattle.std.proofs.Common.{◌≡◌, ◌+◌, ◌<◌, ◌++◌, ◌∷◌, [], List, ℕ, length, get_or, take, refl, ap, sym, ◌∙◌, subst, inl, inr, arith, suc, zero}
use Rattle.std.proofs.lemmas.Bool.{both_ways}
use Rattle.std.proofs.lemmas.List.{take_more}
use Rattle.mig_meaning.specs.declared.relating.Invariant.{Invariant}
use Rattle.mig_listing.specs.Listing.{IsIn}
use Rattle.mig_listing.proofs.Members.{in_append}
use Rattle.mig_prover.proofs.proving.is_one.Goals as goal

in_at : (xs : List Invariant) (i : ℕ) (d : Invariant) → i < length xs → IsIn (get_or xs i d) xs
in_at [] i d lt = absurd (omega (arith, lt))
in_at (x ∷ xs) zero d lt = inl refl
in_at (x ∷ xs) (suc i) d lt = inr (in_at xs i d (omega (arith, lt)))

pub returns-then-same : goal.returns-then-same
returns-then-same c =
    let same : c.args.wanted.now ≡ c.other-item.result = c.same.ensures.0 c.if-same.true in
    let here = in_at c.args.list.now c.loop-other.other-index c.other-item.result c.loop-other-test.true in
    (λ h. subst (λ x. IsIn x c.args.list.now) (sym (same ∙ c.other-item.is)) here, λ h. refl)

pub loop-other-preserved : goal.loop-other-preserved
loop-other-preserved c = λ h.
    let list = c.args.list.now in
    let i = c.loop-other.other-index in
    let item = c.other-item.result in
    let whole : take (i + 1) list ≡ take i list ++ item ∷ [] = take_more list i item c.loop-other-test.true ∙ ap (λ x. take i list ++ x ∷ []) (sym c.other-item.is) in
    elim (in_append (take i list) (item ∷ []) c.args.wanted.now (subst (IsIn c.args.wanted.now) whole h)) [
      | inl j ↦ c.loop-other.invariant j
      | inr j ↦ elim j [ inl e ↦ both_ways c.same.result c.if-same.false (c.same.ensures.1 e) | inr none ↦ absurd none ]
    ]

-- A completion that is passed over fails on the list that blames it.
use Rattle.std.proofs.Common.{◌≡◌, ℕ, ◌+◌, Bool, true, false, not, ◌||◌, List, [], ◌∷◌, eqb, get_or, refl, ap, sym, ◌∙◌, subst, inl, inr, arith, suc, zero}
use Rattle.std.specs.Prelude.{slice_index_or, Some}
use Rattle.std.proofs.lemmas.Bool.{cases_Bool, both_ways, and_parts, eqb-true}
use Rattle.mig_base.specs.Lists.{numbered}
use Rattle.mig_schema.specs.declared.jobs.Job.{Job}
use Rattle.mig_meaning.specs.Run.{function_at, no_function}
use Rattle.mig_invariant.specs.declared.corresp.Corr.{Corr}
use Rattle.mig_sketch.specs.declared.plans.Hole.{Hole}
use Rattle.mig_sketch.specs.declared.plans.Plan.{Plan}
use Rattle.mig_sketch.specs.Choices.{IsChoice, sizes_of}
use Rattle.mig_sketch.specs.Filling.{no_part, picked_parts, body_with, filled_function, filled}
use Rattle.mig_failing.specs.Failing.{AgreeOn, IsFailing}
use Rattle.mig_failing.proofs.Depending.{agree_alike}
use Rattle.mig_search.specs.Blaming.{agrees, is_called}
use Rattle.mig_search.specs.Judging.{IsEntry}
use Rattle.mig_search.specs.Looking.{Looked, IsPassedOver, AreFirstLooked}
use Rattle.mig_search.proofs.Looks.{looked_choice}
use Rattle.mig_search.proofs.Named.{called_in}

-- two picks are one where the test says so, or the hole's function is not among these
here_agrees : (counts : Bool) (a b : ℕ) → (not counts || eqb a b) ≡ true → counts ≡ true → a ≡ b
here_agrees true a b h t = eqb-true a b h
here_agrees false a b h t = absurd (both_ways false refl t)

-- they have the same options there
same_parts : (f : ℕ) (hs : List Hole) (these : ℕ → Bool) (xs ys : List ℕ) → IsChoice (sizes_of hs) xs → IsChoice (sizes_of hs) ys → these f ≡ true → agrees hs these xs ys ≡ true → picked_parts f hs xs ≡ picked_parts f hs ys
same_parts f [] these xs ys cx cy t h = refl
same_parts f (x ∷ hs) these [] ys cx cy t h = absurd cx
same_parts f (x ∷ hs) these (a ∷ xs) [] cx cy t h = absurd cy
same_parts f (x ∷ hs) these (a ∷ xs) (b ∷ ys) cx cy t h =
    let parts = and_parts (not (these x.function) || eqb a b) (agrees hs these xs ys) h in
    let more = same_parts f hs these xs ys cx.1 cy.1 t parts.1 in
    elim (cases_Bool (eqb x.function f)) [
      | inl e ↦ rw e (let same : a ≡ b = here_agrees (these x.function) a b parts.0 (ap these (eqb-true x.function f e) ∙ t) in ap (λ p. slice_index_or x.options p no_part ∷ picked_parts f hs xs) same ∙ ap (λ ps. slice_index_or x.options b no_part ∷ ps) more)
      | inr e ↦ rw e more
    ]

-- so the functions there are the same
numbered_same : {A B : Type 0} (f g : ℕ → A → B) (n i : ℕ) (xs : List A) (d : B) → ((x : A) → f (n + i) x ≡ g (n + i) x) → get_or (numbered f n xs) i d ≡ get_or (numbered g n xs) i d
numbered_same f g n i [] d h = refl
numbered_same f g n zero (x ∷ xs) d h = let e : n + 0 ≡ n = omega arith in subst (λ m. f m x ≡ g m x) e (h x)
numbered_same f g n (suc i) (x ∷ xs) d h = let e : n + suc i ≡ n + 1 + i = omega arith in numbered_same f g (n + 1) i xs d (λ y. subst (λ m. f m y ≡ g m y) e (h y))

same_function : (plan : Plan) (f : ℕ) (these : ℕ → Bool) (xs ys : List ℕ) → IsChoice (sizes_of plan.holes) xs → IsChoice (sizes_of plan.holes) ys → these f ≡ true → agrees plan.holes these xs ys ≡ true → function_at (filled plan xs) f ≡ function_at (filled plan ys) f
same_function plan f these xs ys cx cy t h =
    let e : 0 + f ≡ f = omega arith in
    numbered_same (filled_function plan.holes xs) (filled_function plan.holes ys) 0 f plan.functions no_function (λ x.
    subst (λ m. filled_function plan.holes xs m x ≡ filled_function plan.holes ys m x) (sym e) (ap (λ ps. record { name = x.name; params = x.params; body = body_with x.body ps }) (same_parts f plan.holes these xs ys cx cy t h)))

pub passed_fails : (job : Job) (corr : Corr) (tests : ℕ) (plan : Plan) (seen : List Looked) (picks : List ℕ) → AreFirstLooked job corr tests plan seen → IsChoice (sizes_of plan.holes) picks → (passed : IsPassedOver plan.holes seen picks) → AgreeOn job (filled plan picks) passed.calls.calls → ⊥
passed_fails job corr tests plan seen picks a c passed agree =
    let by : List ℕ = passed.by.picks in
    let choice : IsChoice (sizes_of plan.holes) by = looked_choice plan.holes seen a.first passed.by passed.seen_before in
    let entry : IsEntry job corr tests (filled plan by) passed.by.entry = a.entries passed.by passed.seen_before in
    let failing : IsFailing job (filled plan by) tests (Some passed.calls) = subst (IsEntry job corr tests (filled plan by)) passed.refuted entry in
    failing.first.fails (agree_alike job (filled plan picks) (filled plan by) passed.calls.calls (λ i there. sym (same_function plan i.function (is_called passed.calls.calls) by picks choice c (called_in passed.calls.calls i i.function there refl) passed.agree)) agree)

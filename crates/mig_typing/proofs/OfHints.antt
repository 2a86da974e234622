-- Hints break no rule exactly where they are typed.
use Rattle.std.proofs.Common.{◌≡◌, ℕ, ◌<◌, ◌≤◌, Bool, true, false, ◌&&◌, List, [], ◌∷◌, length, get_or, refl, sym, ap, ◌∙◌, ⊎_elim}
use Rattle.mig_schema.specs.declared.faults.HintRule.{HintRule}
use Rattle.mig_schema.specs.declared.faults.HintRule.TheVariants.{HintEnd, HintKinds, HintTwice}
use Rattle.mig_schema.specs.declared.faults.TypeFault.{TypeFault}
use Rattle.mig_schema.specs.declared.faults.TypeFault.TheVariants as fault
use Rattle.mig_schema.specs.declared.jobs.Job.{Job}
use Rattle.mig_schema.specs.Typed.{AreTypedHints, hint_end, hint_kinds}
use Rattle.mig_typing.specs.First.{Before, IsFirstBroken}
use Rattle.mig_typing.specs.Broken.{hint_rank, numbers, hint_broken, hints_break}
use Rattle.mig_typing.proofs.Items.{none_any, any_none}

module _ (j : Job) where
  pub hints_typed : ((p : HintRule × ℕ) → hint_broken j p.0 p.1 ≡ false) → AreTypedHints j
  hints_typed none = record {
    ends = none_any (hint_end j) j.hints (λ k. none (HintEnd, k));
    kinds = none_any (hint_kinds j) j.hints (λ k. none (HintKinds, k));
    once = λ k. none (HintTwice, k);
  }

  hint_clear : AreTypedHints j → (r : HintRule) (k : ℕ) → hint_broken j r k ≡ false
  hint_clear typed HintEnd k = any_none (hint_end j) j.hints typed.ends k
  hint_clear typed HintKinds k = any_none (hint_kinds j) j.hints typed.kinds k
  hint_clear typed HintTwice k = typed.once k

  pub hints_none : ((p : HintRule × ℕ) → hint_broken j p.0 p.1 ≡ false) → (f : TypeFault) → hints_break j f ≡ false
  hints_none none fault.Memory = refl
  hints_none none (fault.Schema on r a b) = refl
  hints_none none (fault.Program r f k) = refl
  hints_none none (fault.Hint r k) = none (r, k)

  pub typed_none : AreTypedHints j → (f : TypeFault) → hints_break j f ≡ false
  typed_none typed f = hints_none (λ p. hint_clear typed p.0 p.1) f

  hints_before : (p : HintRule × ℕ) → IsFirstBroken (λ (p : HintRule × ℕ). p.1 ∷ hint_rank p.0 ∷ []) (λ p. hint_broken j p.0 p.1) p
      → (f : TypeFault) → Before (numbers f) (numbers (fault.Hint p.0 p.1)) → hints_break j f ≡ false
  hints_before p first fault.Memory lt = refl
  hints_before p first (fault.Schema on r a b) lt = refl
  hints_before p first (fault.Program r f k) lt = refl
  hints_before p first (fault.Hint r k) lt = first.before (r, k) lt

  pub hints_first : (p : HintRule × ℕ) → IsFirstBroken (λ (p : HintRule × ℕ). p.1 ∷ hint_rank p.0 ∷ []) (λ p. hint_broken j p.0 p.1) p → IsFirstBroken numbers (hints_break j) (fault.Hint p.0 p.1)
  hints_first p first = record { here = first.here; before = hints_before p first }

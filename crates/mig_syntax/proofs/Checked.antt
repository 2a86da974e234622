-- What a check of typing rules answers, as one fact.
use Rattle.std.proofs.Common.{◌≡◌, Bool, true, false, refl, inl, inr}
use Rattle.std.specs.Prelude.{Result, Ok, Err}
use Rattle.mig_schema.specs.declared.faults.TypeFault.{TypeFault}
use Rattle.mig_typing.specs.First.{IsFirstBroken, IsOkWhere, IsFaultWhere}
use Rattle.mig_typing.specs.Broken.{numbers}
use Rattle.mig_syntax.specs.TypingFault.{IsChecked}

pub checked : {A : Type 0} (Typed : Type 0) (broken : TypeFault → Bool) (r : Result A TypeFault) → IsOkWhere Typed r → IsFaultWhere numbers broken r → IsChecked Typed (IsFirstBroken numbers broken) r
checked {A} Typed broken (Ok x) ok first =
    elim ok [
      | inl m ↦ absurd cc
      | inr t ↦ elim first [
        | inl m ↦ absurd cc
        | inr f ↦ (t.0 refl, λ (g : TypeFault) h. let e : Ok x ≡ Err g = (f g).1 h in absurd cc)
      ]
    ]
checked {A} Typed broken (Err e) ok first =
    elim ok [
      | inl m ↦ inl cc
      | inr t ↦ elim first [
        | inl m ↦ inl cc
        | inr f ↦ inr ((f e).0 refl, ((λ (g : TypeFault) h. let same : Err e ≡ Err g = (f g).1 h in cc), λ h. let untrue : false ≡ true = t.1 h in absurd cc))
      ]
    ]

-- What a check answers, from whether there is a first broken place.
use Rattle.std.proofs.Common.{◌≡◌, Bool, true, false, List, ℕ, refl, sym, ap, ◌∙◌, ◌⊎◌, ⊎_elim, inl, inr, subst}
use Rattle.std.specs.Prelude.{Result, Ok, Err, ◌↔◌}
use Rattle.std.specs.Result.{IsOk, is_ok}
use Rattle.std.proofs.lemmas.Bool.{both_ways, false≢true, true≢false}
use Rattle.mig_schema.specs.declared.faults.TypeFault.{TypeFault}
use Rattle.mig_schema.specs.declared.faults.TypeFault.TheVariants.{Memory}
use Rattle.mig_typing.specs.First.{IsFirstBroken, IsOkWhere, IsFaultWhere}
use Rattle.mig_typing.specs.Broken.{numbers}
use Rattle.mig_typing.proofs.Orders.{AreKnown, one_first}

abbrev error_of : {T : Type 0} → TypeFault → Result T TypeFault → TypeFault
error_of d (Ok x) = d
error_of d (Err e) = e

module _ {T : Type 0} where
  pub ok_typed : (Typed : Type 0) (x : T) → Typed → IsOkWhere Typed (Ok x)
  ok_typed Typed x typed = inr ((λ _. typed), (λ _. refl))

  pub ok_first : (broken : TypeFault → Bool) (x : T) → ((f : TypeFault) → broken f ≡ false) → IsFaultWhere numbers broken (Ok x)
  ok_first broken x none = inr (λ f. ((λ e. absurd (true≢false (ap is_ok e))), (λ first. absurd (both_ways (broken f) (none f) first.here))))

  err_typed : (Typed : Type 0) (broken : TypeFault → Bool) (place : TypeFault) → IsFirstBroken numbers broken place → (Typed → (f : TypeFault) → broken f ≡ false) → IsOkWhere {T = T} Typed (Err place)
  err_typed Typed broken place first clear = inr ((λ ok. absurd (false≢true ok)), (λ typed. absurd (both_ways (broken place) (clear typed place) first.here)))

  err_first : (broken : TypeFault → Bool) (place : TypeFault) → AreKnown broken → IsFirstBroken numbers broken place → IsFaultWhere {T = T} numbers broken (Err place)
  err_first broken place known first =
      inr (λ f. ((λ e. subst (IsFirstBroken numbers broken) (ap (error_of place) e) first), (λ also. ap Err (one_first broken known place f first also))))

  -- a place is answered, or that memory ran out
  pub place_typed : (Typed : Type 0) (broken : TypeFault → Bool) (place got : TypeFault) → (got ≡ Memory) ⊎ (got ≡ place) → IsFirstBroken numbers broken place → (Typed → (f : TypeFault) → broken f ≡ false) → IsOkWhere {T = T} Typed (Err got)
  place_typed Typed broken place got is first clear =
      ⊎_elim (λ (e : got ≡ Memory). inl (ap Err e)) (λ (e : got ≡ place). subst (λ g. IsOkWhere {T = T} Typed (Err g)) (sym e) (err_typed Typed broken place first clear)) is

  pub place_first : (broken : TypeFault → Bool) (place got : TypeFault) → AreKnown broken → (got ≡ Memory) ⊎ (got ≡ place) → IsFirstBroken numbers broken place → IsFaultWhere {T = T} numbers broken (Err got)
  place_first broken place got known is first =
      ⊎_elim (λ (e : got ≡ Memory). inl (ap Err e)) (λ (e : got ≡ place). subst (λ g. IsFaultWhere {T = T} numbers broken (Err g)) (sym e) (err_first broken place known first)) is

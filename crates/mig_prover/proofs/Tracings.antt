-- Traces of one more obligation, and of one more pair.
use Rattle.std.proofs.Common.{◌≡◌, ℕ, ◌+◌, List, [], ◌∷◌, ◌++◌, length, subst, arith}
use Rattle.mig_schema.specs.declared.tables.Schema.{Schema}
use Rattle.mig_schema.specs.declared.programs.Function.{Function}
use Rattle.mig_meaning.specs.declared.relating.Invariant.{Invariant}
use Rattle.mig_algebra.specs.Proper.{Sides}
use Rattle.mig_obligations.specs.declared.proving.Obligation.{Obligation}
use Rattle.mig_certificate.specs.declared.proofs.Entry.{Entry}
use Rattle.mig_certificate.specs.declared.proofs.PairProof.{PairProof}
use Rattle.mig_prover.specs.Tracing.{IsTraced, AreTraced, IsTraceOf, AreTracesOf}

-- one more obligation
pub traced-more : (p : Sides) (facts : List Invariant) (k n : ℕ) (os : List Obligation) (es : List Entry) (o : Obligation) (e : Entry) → n ≡ k + length os → AreTraced p facts k os es → IsTraced p facts n o e → AreTraced p facts k (os ++ o ∷ []) (es ++ e ∷ [])
traced-more p facts k n [] [] o e at t h = (let z : n ≡ k = omega (arith, at) in subst (λ m. IsTraced p facts m o e) z h, tt)
traced-more p facts k n [] (x ∷ es) o e at t h = absurd t
traced-more p facts k n (q ∷ os) [] o e at t h = absurd t
traced-more p facts k n (q ∷ os) (x ∷ es) o e at t h = (t.0, traced-more p facts (k + 1) n os es o e (omega (arith, at)) t.1 h)

-- one more pair
pub traces-more : (s s' : Schema) (facts : List Invariant) (fs gs : List Function) (xs : List PairProof) (f g : Function) (x : PairProof) → AreTracesOf s s' facts fs gs xs → IsTraceOf s s' facts f g x → AreTracesOf s s' facts (fs ++ f ∷ []) (gs ++ g ∷ []) (xs ++ x ∷ [])
traces-more s s' facts [] [] [] f g x t h = (h, tt)
traces-more s s' facts [] [] (y ∷ xs) f g x t h = absurd t
traces-more s s' facts [] (b ∷ gs) xs f g x t h = absurd t
traces-more s s' facts (a ∷ fs) [] xs f g x t h = absurd t
traces-more s s' facts (a ∷ fs) (b ∷ gs) [] f g x t h = absurd t
traces-more s s' facts (a ∷ fs) (b ∷ gs) (y ∷ xs) f g x t h = (t.0, traces-more s s' facts fs gs xs f g x t.1 h)

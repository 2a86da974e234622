-- The certificate that the simplified sides make up.
use Rattle.std.specs.Prelude.{◌≡◌, ℕ, ◌+◌, List, [], ◌∷◌}
use Rattle.mig_schema.specs.declared.tables.Schema.{Schema}
use Rattle.mig_schema.specs.declared.programs.Function.{Function}
use Rattle.mig_meaning.specs.declared.relating.Invariant.{Invariant}
use Rattle.mig_algebra.specs.Proper.{Sides}
use Rattle.mig_obligations.specs.declared.proving.Obligation.{Obligation}
use Rattle.mig_obligations.specs.Obligations.{obligations}
use Rattle.mig_certificate.specs.declared.proofs.Entry.{Entry}
use Rattle.mig_certificate.specs.declared.proofs.PairProof.{PairProof}
use Rattle.mig_certificate.specs.Valid.{claim_of, sides}
use Rattle.mig_prover.specs.declared.trails.Trail.{Trail}
use Rattle.mig_prover.specs.Simplified.{IsTrail}

-- an entry for obligation k makes its claim, and has the steps by which both sides are simplified
pub record IsTraced (p : Sides) (facts : List Invariant) (k : ℕ) (o : Obligation) (e : Entry) : Type 0 where
  pub claim : e.claim ≡ claim_of p.source_fn.body k
  pub source : Trail
  pub target : Trail
  pub old : IsTrail p facts o.source source
  pub new : IsTrail p facts o.target target
  pub old_steps : e.source ≡ source.steps
  pub new_steps : e.target ≡ target.steps

-- one entry for each obligation, numbered from k on, in order
abbrev pub AreTraced : Sides → (facts : List Invariant) → (k : ℕ) → List Obligation → List Entry → Type 0
AreTraced p facts k [] [] = Unit {0}
AreTraced p facts k (o ∷ os) (e ∷ es) = IsTraced p facts k o e × AreTraced p facts (k + 1) os es
AreTraced p facts k [] (e ∷ es) = ⊥
AreTraced p facts k (o ∷ os) [] = ⊥

-- a proof has the name of its pair of functions, and entries for their obligations
pub record IsTraceOf (s s' : Schema) (facts : List Invariant) (f g : Function) (x : PairProof) : Type 0 where
  pub name : x.name ≡ f.name
  pub entries : AreTraced (sides s s' f g) facts 0 (obligations facts f.body g.body) x.entries

-- one proof for each pair of functions, in order
abbrev pub AreTracesOf : Schema → Schema → (facts : List Invariant) → List Function → List Function → List PairProof → Type 0
AreTracesOf s s' facts [] [] [] = Unit {0}
AreTracesOf s s' facts (f ∷ fs) (g ∷ gs) (x ∷ xs) = IsTraceOf s s' facts f g x × AreTracesOf s s' facts fs gs xs
AreTracesOf s s' facts _ _ _ = ⊥

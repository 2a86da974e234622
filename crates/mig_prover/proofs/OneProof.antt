-- A program has one proof: what is kept is one list, and all else is read off it.
use Rattle.std.proofs.Common.{◌≡◌, ℕ, zero, suc, ◌+◌, true, false, List, [], ◌∷◌, refl, sym, ap, ◌∙◌, subst, inl, inr}
use Rattle.mig_schema.specs.declared.tables.Schema.{Schema}
use Rattle.mig_schema.specs.declared.programs.Function.{Function}
use Rattle.mig_schema.specs.declared.programs.Program.{Program}
use Rattle.mig_schema.specs.declared.jobs.Job.{Job}
use Rattle.mig_meaning.specs.declared.relating.Invariant.{Invariant}
use Rattle.mig_meaning.specs.declared.relating.Invariants.{Invariants}
use Rattle.mig_algebra.specs.Proper.{Sides}
use Rattle.mig_listing.specs.Listing.{IsIn}
use Rattle.mig_listing.proofs.Orders.{less_total}
use Rattle.mig_obligations.specs.declared.proving.Obligation.{Obligation}
use Rattle.mig_obligations.specs.Obligations.{obligations}
use Rattle.mig_steps.specs.declared.steps.Step.{Step}
use Rattle.mig_certificate.specs.declared.proofs.Claim.{Claim}
use Rattle.mig_certificate.specs.declared.proofs.Entry.{Entry}
use Rattle.mig_certificate.specs.declared.proofs.PairProof.{PairProof}
use Rattle.mig_certificate.specs.declared.proofs.Certificate.{Certificate}
use Rattle.mig_certificate.specs.Valid.{sides}
use Rattle.mig_prover.specs.declared.trails.Trail.{Trail}
use Rattle.mig_prover.specs.declared.proving.Proof.{Proof}
use Rattle.mig_prover.specs.declared.proving.Proof.TheVariants.{Closed, Stuck}
use Rattle.mig_prover.specs.Rounds.{Stays, IsWithout, IsRound, StandsAfter}
use Rattle.mig_prover.specs.Tracing.{IsTraced, AreTraced, IsTraceOf, AreTracesOf}
use Rattle.mig_prover.specs.Proving.{IsFirstOpen, IsProvenBy, OneProof}
use Rattle.mig_prover.proofs.OneWay.{one-way}

-- ---- rounds

one-without : {A : Type 0} (P : A → Type 0) (xs ys zs : List A) → IsWithout P xs ys → IsWithout P xs zs → ys ≡ zs
one-without P [] ys zs a b = a ∙ sym b
one-without P (x ∷ xs) ys zs a b = elim a [
  | inl h ↦ elim b [
    | inl k ↦ h.2 ∙ (ap (λ t. x ∷ t) (one-without P xs h.1 k.1 h.3 k.3) ∙ sym k.2)
    | inr k ↦ absurd (k.0 h.0)
  ]
  | inr h ↦ elim b [
    | inl k ↦ absurd (h.0 k.0)
    | inr k ↦ one-without P xs ys zs h.1 k.1
  ]
]

module _ (job : Job) (program : Program) where
  one-round : (left next next' : List Invariant) → IsRound job program left next → IsRound job program left next' → next ≡ next'
  one-round left next next' r q =
      let plain = one-without (Stays job program false left) left r.plain q.plain r.without_plain q.without_plain in
      elim r.then_views [
        | inl h ↦ elim q.then_views [
          | inl k ↦ h.0 ∙ (plain ∙ sym k.0)
          | inr k ↦ absurd (h.1 (plain ∙ k.0))
        ]
        | inr h ↦ elim q.then_views [
          | inl k ↦ absurd (k.1 (sym plain ∙ h.0))
          | inr k ↦ one-without (Stays job program true left) left next next' h.1 k.1
        ]
      ]

  one-stand : (n m : ℕ) (list a b : List Invariant) → StandsAfter n job program list a → StandsAfter m job program list b → a ≡ b
  one-stand zero m list a b s t = absurd s
  one-stand (suc n) zero list a b s t = absurd t
  one-stand (suc n) (suc m) list a b s t =
      let next = one-round list s.0 t.0 s.1 t.1 in
      elim s.2 [
        | inl h ↦ elim t.2 [
          | inl k ↦ h.1 ∙ sym k.1
          | inr k ↦ absurd (k.0 (sym next ∙ h.0))
        ]
        | inr h ↦ elim t.2 [
          | inl k ↦ absurd (h.0 (next ∙ k.0))
          | inr k ↦ one-stand n m t.0 a b (subst (λ xs. StandsAfter n job program xs a) next h.1) k.1
        ]
      ]

-- ---- certificates

abbrev entry_of : Claim → List Step → List Step → Entry
entry_of c ss ts = record { claim = c; source = ss; target = ts }

abbrev pair_of : List ℕ → List Entry → PairProof
pair_of name es = record { name = name; entries = es }

abbrev certificate_of : List Invariant → List PairProof → Certificate
certificate_of invs xs = record { invariants = record { list = invs }; pairs = xs }

abbrev invariants_of : List Invariant → Invariants
invariants_of xs = record { list = xs }

module _ (p : Sides) (facts : List Invariant) where
  one-entry : (k : ℕ) (o : Obligation) (d e : Entry) → IsTraced p facts k o d → IsTraced p facts k o e → d ≡ e
  one-entry k o d e a b =
      let old = a.old_steps ∙ (ap (λ (t : Trail). t.steps) (one-way p facts o.source a.source b.source a.old b.old) ∙ sym b.old_steps) in
      let new = a.new_steps ∙ (ap (λ (t : Trail). t.steps) (one-way p facts o.target a.target b.target a.new b.new) ∙ sym b.new_steps) in
      ap (λ c. entry_of c d.source d.target) (a.claim ∙ sym b.claim) ∙ (ap (λ ss. entry_of e.claim ss d.target) old ∙ ap (λ ts. entry_of e.claim e.source ts) new)

  one-entries : (k : ℕ) (os : List Obligation) (ds es : List Entry) → AreTraced p facts k os ds → AreTraced p facts k os es → ds ≡ es
  one-entries k [] [] [] a b = refl
  one-entries k [] [] (e ∷ es) a b = absurd b
  one-entries k [] (d ∷ ds) es a b = absurd a
  one-entries k (o ∷ os) [] es a b = absurd a
  one-entries k (o ∷ os) (d ∷ ds) [] a b = absurd b
  one-entries k (o ∷ os) (d ∷ ds) (e ∷ es) a b = ap (λ x. x ∷ ds) (one-entry k o d e a.0 b.0) ∙ ap (λ xs. e ∷ xs) (one-entries (k + 1) os ds es a.1 b.1)

module _ (s s' : Schema) (facts : List Invariant) where
  one-trace : (f g : Function) (x y : PairProof) → IsTraceOf s s' facts f g x → IsTraceOf s s' facts f g y → x ≡ y
  one-trace f g x y a b =
      ap (λ n. pair_of n x.entries) (a.name ∙ sym b.name) ∙ ap (λ es. pair_of y.name es) (one-entries (sides s s' f g) facts 0 (obligations facts f.body g.body) x.entries y.entries a.entries b.entries)

  one-traces : (fs gs : List Function) (xs ys : List PairProof) → AreTracesOf s s' facts fs gs xs → AreTracesOf s s' facts fs gs ys → xs ≡ ys
  one-traces [] [] [] [] a b = refl
  one-traces [] [] [] (y ∷ ys) a b = absurd b
  one-traces [] [] (x ∷ xs) ys a b = absurd a
  one-traces [] (g ∷ gs) xs ys a b = absurd a
  one-traces (f ∷ fs) [] xs ys a b = absurd a
  one-traces (f ∷ fs) (g ∷ gs) [] ys a b = absurd a
  one-traces (f ∷ fs) (g ∷ gs) (x ∷ xs) [] a b = absurd b
  one-traces (f ∷ fs) (g ∷ gs) (x ∷ xs) (y ∷ ys) a b = ap (λ z. z ∷ xs) (one-trace f g x y a.0 b.0) ∙ ap (λ zs. y ∷ zs) (one-traces fs gs xs ys a.1 b.1)

-- ---- proofs

module _ (job : Job) (program : Program) (list facts : List Invariant) where
  one-query : (q r : ℕ) → IsFirstOpen job program facts q → IsFirstOpen job program facts r → q ≡ r
  one-query q r a b = elim (less_total q r) [
    | inl e ↦ e
    | inr d ↦ elim d [
      | inl l ↦ absurd (a.here (b.before q l))
      | inr l ↦ absurd (b.here (a.before r l))
    ]
  ]

  one-by : (a b : Proof) → IsProvenBy job program list facts a → IsProvenBy job program list facts b → a ≡ b
  one-by (Closed c) (Closed d) a b =
      ap Closed (ap (λ xs. certificate_of xs c.pairs) (a.invariants ∙ sym b.invariants)
      ∙ ap (λ xs. certificate_of d.invariants.list xs) (one-traces job.source job.target facts job.program.functions program.functions c.pairs d.pairs a.traces b.traces))
  one-by (Closed c) (Stuck r e) a b = absurd (b.0.here (a.answered r b.0.within))
  one-by (Stuck q d) (Closed c) a b = absurd (a.0.here (b.answered q a.0.within))
  one-by (Stuck q d) (Stuck r e) a b =
      ap (λ n. Stuck n d) (one-query q r a.0 b.0)
      ∙ ap (λ xs. Stuck r (invariants_of xs)) (one-without (λ i. IsIn i facts → ⊥) list d.list e.list a.1 b.1)

pub one-proof : OneProof
one-proof job program list a b h k =
    let facts = one-stand job program h.kept.0 k.kept.0 list h.facts k.facts h.kept.1 k.kept.1 in
    one-by job program list k.facts a b (subst (λ xs. IsProvenBy job program list xs a) facts h.so) k.so

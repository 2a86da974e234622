-- The places at which a certificate can be broken, and their order.
use Rattle.std.specs.Prelude.{ℕ, ◌-◌, ◌==◌, nat_lt, Bool, true, false, cond, not, ◌&&◌, List, [], ◌∷◌, length, take, slice_get, Option, Some, None}
use Rattle.std.specs.Option.{option_map_or}
use Rattle.std.specs.Str.{bytes_eq}
use Rattle.std.specs.Cmp.Lexicographic.{slice_cmp}
use Rattle.std.specs.Ordering.{is_eq}
use Rattle.mig_schema.specs.declared.tables.Schema.{Schema}
use Rattle.mig_schema.specs.declared.programs.Param.{Param}
use Rattle.mig_schema.specs.declared.programs.Body.{Body}
use Rattle.mig_schema.specs.declared.programs.Body.TheVariants.{Update, Query}
use Rattle.mig_schema.specs.declared.programs.Function.{Function}
use Rattle.mig_schema.specs.declared.programs.Program.{Program}
use Rattle.mig_schema.specs.declared.jobs.Job.{Job}
use Rattle.mig_schema.specs.Columns.{same_kind}
use Rattle.mig_typing.specs.Broken.{item_has}
use Rattle.mig_meaning.specs.declared.relating.Invariant.{Invariant}
use Rattle.mig_algebra.specs.declared.terms.Expr.{Expr}
use Rattle.mig_algebra.specs.Orders.{term_order}
use Rattle.mig_algebra.specs.Proper.{Sides}
use Rattle.mig_algebra.specs.Tidied.{tidied}
use Rattle.mig_obligations.specs.declared.proving.Obligation.{Obligation}
use Rattle.mig_steps.specs.declared.steps.Step.{Step}
use Rattle.mig_obligations.specs.Shaped.{is_shaped, same_kinds}
use Rattle.mig_obligations.specs.Replay.{replay}
use Rattle.mig_rules.specs.Follow.{follow}
use Rattle.mig_obligations.specs.Obligations.{obligations}
use Rattle.mig_certificate.specs.declared.proofs.Claim.{Claim}
use Rattle.mig_certificate.specs.declared.proofs.Claim.TheVariants.{Holds, Answers}
use Rattle.mig_certificate.specs.declared.proofs.Entry.{Entry}
use Rattle.mig_certificate.specs.declared.proofs.PairProof.{PairProof}
use Rattle.mig_certificate.specs.declared.proofs.Certificate.{Certificate}
use Rattle.mig_certificate.specs.Valid.{sides, claim_of}

-- a place, by the numbers of the function, the invariant, the obligation or the step
pub data Place : Type 0 where
  FunctionDiffers : ℕ → Place
  InvariantUnshaped : ℕ → Place
  PairMissing : ℕ → Place
  EntryMissing : ℕ → ℕ → Place
  StepFails : ℕ → ℕ → ℕ → Place
  EndsDiffer : ℕ → ℕ → Place
  EntryExtra : ℕ → Place
  PairExtra : Place

-- First come the functions, then the invariants, then the pairs, one after the other, then a pair too many. In a pair come the obligations, one after the other, then an entry too many; of an obligation its entry, its steps and the ends.
abbrev pub numbers : Place → List ℕ
numbers (FunctionDiffers n) = 0 ∷ (n ∷ [])
numbers (InvariantUnshaped k) = 1 ∷ (k ∷ [])
numbers (PairMissing i) = 2 ∷ (i ∷ (0 ∷ []))
numbers (EntryMissing i o) = 2 ∷ (i ∷ (1 ∷ (o ∷ (0 ∷ []))))
numbers (StepFails i o s) = 2 ∷ (i ∷ (1 ∷ (o ∷ (1 ∷ (s ∷ [])))))
numbers (EndsDiffer i o) = 2 ∷ (i ∷ (1 ∷ (o ∷ (2 ∷ []))))
numbers (EntryExtra i) = 2 ∷ (i ∷ (2 ∷ []))
numbers PairExtra = 3 ∷ []

-- whether two bodies are both updates, or queries whose selected columns have equal kinds
abbrev pub same_body : Schema → Schema → Body → Body → Bool
same_body s s' (Update a) (Update b) = true
same_body s s' (Query q) (Query r) = same_kinds s s' q.columns r.columns
same_body s s' _ _ = false

-- whether two lists of parameters have equal names and kinds
abbrev pub same_params : List Param → List Param → Bool
same_params [] [] = true
same_params (p ∷ ps) (q ∷ qs) = bytes_eq p.name q.name && (same_kind p.kind q.kind && same_params ps qs)
same_params _ _ = false

-- whether two claims are one
abbrev pub same_claim : Claim → Claim → Bool
same_claim (Holds k) (Holds l) = k == l
same_claim Answers Answers = true
same_claim _ _ = false

-- one of the functions of a number is missing, or they are not the same
abbrev pub differ : Schema → Schema → Option Function → Option Function → Bool
differ s s' None None = false
differ s s' (Some f) (Some g) = not (bytes_eq f.name g.name && (same_params f.params g.params && same_body s s' f.body g.body))
differ s s' _ _ = true

-- whether there is none
abbrev pub is_none : {A : Type 0} → Option A → Bool
is_none None = true
is_none (Some x) = false

-- whether step s of a block, if there is one, doesn't follow where those before it do
abbrev pub step_fails : Sides → List Invariant → List Step → Expr → ℕ → Bool
step_fails p invs steps e s =
    option_map_or (λ t. option_map_or (λ e'. is_none (follow p invs t e')) (replay (follow p invs) (take s steps) e) false) (slice_get steps s) false

-- whether step s of an entry, numbered on through both blocks, fails
abbrev pub entry_fails : Sides → List Invariant → Obligation → Entry → ℕ → Bool
entry_fails p invs o e s =
    cond (nat_lt s (length e.source))
    (step_fails p invs e.source o.source s)
    (step_fails p invs e.target o.target (s - length e.source))

-- whether both blocks have an end, and these differ when tidied
abbrev pub ends_differ : Sides → List Invariant → Obligation → Entry → Bool
ends_differ p invs o e =
    option_map_or (λ l. option_map_or (λ r. not (is_eq (slice_cmp term_order (tidied l).terms (tidied r).terms))) (replay (follow p invs) e.target o.target) false) (replay (follow p invs) e.source o.source) false

-- whether both programs have function i, the certificate has pair i, and these pass a test
abbrev pub in_pair : Job → Program → Certificate → ℕ → (Function → Function → PairProof → Bool) → Bool
in_pair j p c i test = item_has (λ f. item_has (λ g. item_has (test f g) c.pairs i) p.functions i) j.program.functions i

-- whether besides the pair has obligation k and entry k, and these pass a test
abbrev pub in_entry : Job → Program → Certificate → (i k : ℕ) → (Sides → Obligation → Entry → Bool) → Bool
in_entry j p c i k test =
    in_pair j p c i (λ f g x. item_has (λ o. item_has (test (sides j.source j.target f g) o) x.entries k) (obligations c.invariants.list f.body g.body) k)

-- whether a certificate is broken at a place. A pair is missing where the certificate's pairs have ended or it has another name, an entry where a pair's entries have ended or it makes another claim.
abbrev pub broken : Job → Program → Certificate → Place → Bool
broken j p c (FunctionDiffers n) = differ j.source j.target (slice_get j.program.functions n) (slice_get p.functions n)
broken j p c (InvariantUnshaped k) = item_has (λ i. not (is_shaped j.source j.target i)) c.invariants.list k
broken j p c (PairMissing i) = item_has (λ f. not (item_has (λ (x : PairProof). bytes_eq x.name f.name) c.pairs i)) j.program.functions i
broken j p c (EntryMissing i k) =
    in_pair j p c i (λ f g x. item_has (λ o. not (item_has (λ (e : Entry). same_claim e.claim (claim_of f.body k)) x.entries k)) (obligations c.invariants.list f.body g.body) k)
broken j p c (StepFails i k s) = in_entry j p c i k (λ q o e. entry_fails q c.invariants.list o e s)
broken j p c (EndsDiffer i k) = in_entry j p c i k (λ q o e. ends_differ q c.invariants.list o e)
broken j p c (EntryExtra i) = in_pair j p c i (λ f g x. nat_lt (length (obligations c.invariants.list f.body g.body)) (length x.entries))
broken j p c PairExtra = nat_lt (length j.program.functions) (length c.pairs)

-- When a certificate is valid for a job and a new program.
use Rattle.std.specs.Prelude.{◌≡◌, ℕ, ◌+◌, true, List, [], ◌∷◌}
use Rattle.std.specs.List.{list_all}
use Rattle.mig_schema.specs.declared.tables.Schema.{Schema}
use Rattle.mig_schema.specs.declared.programs.Body.{Body}
use Rattle.mig_schema.specs.declared.programs.Body.TheVariants.{Update, Query}
use Rattle.mig_schema.specs.declared.programs.Function.{Function}
use Rattle.mig_schema.specs.declared.programs.Program.{Program}
use Rattle.mig_schema.specs.declared.jobs.Job.{Job}
use Rattle.mig_meaning.specs.declared.relating.Invariant.{Invariant}
use Rattle.mig_meaning.specs.Functions.{SameFunctions}
use Rattle.mig_algebra.specs.Proper.{Sides}
use Rattle.mig_obligations.specs.Shaped.{is_shaped}
use Rattle.mig_obligations.specs.Replay.{EndsMeet}
use Rattle.mig_rules.specs.Follow.{follow}
use Rattle.mig_obligations.specs.Obligations.{obligations}
use Rattle.mig_obligations.specs.declared.proving.Obligation.{Obligation}
use Rattle.mig_certificate.specs.declared.proofs.Claim.{Claim}
use Rattle.mig_certificate.specs.declared.proofs.Claim.TheVariants.{Holds, Answers}
use Rattle.mig_certificate.specs.declared.proofs.Entry.{Entry}
use Rattle.mig_certificate.specs.declared.proofs.PairProof.{PairProof}
use Rattle.mig_certificate.specs.declared.proofs.Certificate.{Certificate}

-- what is claimed of a pair of functions: of updates that invariant k holds afterwards, of queries that they answer alike
abbrev pub claim_of : Body → (k : ℕ) → Claim
claim_of (Update stmts) k = Holds k
claim_of (Query q) k = Answers

-- the entry for obligation k makes its claim, and its steps lead from both expressions to ends that are equal when tidied
pub record IsEntryFor (p : Sides) (invs : List Invariant) (k : ℕ) (o : Obligation) (e : Entry) : Type 0 where
  pub claim : e.claim ≡ claim_of p.source_fn.body k
  pub ends : EndsMeet (follow p invs) o e.source e.target

-- one entry for each obligation, numbered from k on, in order, and nothing else
abbrev pub AreEntriesFor : Sides → List Invariant → (k : ℕ) → List Obligation → List Entry → Type 0
AreEntriesFor p invs k [] [] = Unit {0}
AreEntriesFor p invs k (o ∷ os) (e ∷ es) = IsEntryFor p invs k o e × AreEntriesFor p invs (k + 1) os es
AreEntriesFor p invs k _ _ = ⊥

-- a function of each schema
abbrev pub sides : Schema → Schema → Function → Function → Sides
sides s s' f g = record { source = s; target = s'; source_fn = f; target_fn = g }

-- a proof has the name of its pair of functions, and entries for their obligations
pub record IsProofOf (s s' : Schema) (invs : List Invariant) (f g : Function) (x : PairProof) : Type 0 where
  pub name : x.name ≡ f.name
  pub entries : AreEntriesFor (sides s s' f g) invs 0 (obligations invs f.body g.body) x.entries

-- one proof for each pair of functions, in order, and nothing else
abbrev pub AreProofsOf : Schema → Schema → List Invariant → List Function → List Function → List PairProof → Type 0
AreProofsOf s s' invs [] [] [] = Unit {0}
AreProofsOf s s' invs (f ∷ fs) (g ∷ gs) (x ∷ xs) = IsProofOf s s' invs f g x × AreProofsOf s s' invs fs gs xs
AreProofsOf s s' invs _ _ _ = ⊥

-- the programs have the same functions, each invariant is shaped, and each obligation is shown
pub record IsValid (j : Job) (p : Program) (c : Certificate) : Type 0 where
  pub functions : SameFunctions j.source j.target j.program p
  pub shaped : list_all (is_shaped j.source j.target) c.invariants.list ≡ true
  pub proofs : AreProofsOf j.source j.target c.invariants.list j.program.functions p.functions c.pairs

-- The places within an entry and within the proof of a pair: their order, and which are broken.
use Rattle.std.specs.Prelude.{◌≡◌, ℕ, Bool, false, cond, not, nat_lt, List, [], ◌∷◌, length, slice_get, Option, Some, None}
use Rattle.std.specs.Option.{option_and_then}
use Rattle.std.specs.Str.{bytes_eq}
use Rattle.mig_schema.specs.declared.programs.Function.{Function}
use Rattle.mig_typing.specs.Broken.{item_has}
use Rattle.mig_typing.specs.First.{IsFirstBroken}
use Rattle.mig_meaning.specs.declared.relating.Invariant.{Invariant}
use Rattle.mig_algebra.specs.declared.terms.Expr.{Expr}
use Rattle.mig_algebra.specs.Proper.{Sides}
use Rattle.mig_obligations.specs.declared.proving.Obligation.{Obligation}
use Rattle.mig_steps.specs.declared.steps.Step.{Step}
use Rattle.mig_rules.specs.Follow.{follow}
use Rattle.mig_obligations.specs.Obligations.{obligations}
use Rattle.mig_obligations.specs.Replay.{replay}
use Rattle.mig_certificate.specs.declared.proofs.Claim.{Claim}
use Rattle.mig_certificate.specs.declared.proofs.Entry.{Entry}
use Rattle.mig_certificate.specs.declared.proofs.PairProof.{PairProof}
use Rattle.mig_certificate.specs.declared.proofs.Certificate.{Certificate}
use Rattle.mig_certificate.specs.Valid.{claim_of}
use Rattle.mig_certificate.specs.BrokenPlace.{Place, PairMissing, EntryMissing, StepFails, EndsDiffer, EntryExtra, same_claim, step_fails, entry_fails, ends_differ}
use Rattle.mig_checker.specs.declared.places.InEntry.{InEntry}
use Rattle.mig_checker.specs.declared.places.InEntry.TheVariants.{Missing, Step as StepAt, Ends}
use Rattle.mig_checker.specs.declared.places.InPair.{InPair}
use Rattle.mig_checker.specs.declared.places.InPair.TheVariants as pair
use Rattle.mig_checker.specs.declared.walking.Walk.{Walk}
use Rattle.mig_checker.specs.declared.walking.Walk.TheVariants.{End, Stuck}

-- the order within an entry: its claim, its steps, its ends
abbrev pub entry_numbers : InEntry → List ℕ
entry_numbers Missing = 0 ∷ []
entry_numbers (StepAt s) = 1 ∷ (s ∷ [])
entry_numbers Ends = 2 ∷ []

-- the order within a pair: that there is a proof, its entries, no further one
abbrev pub pair_numbers : InPair → List ℕ
pair_numbers pair.Missing = 0 ∷ []
pair_numbers (pair.Entry k q) = 1 ∷ (k ∷ entry_numbers q)
pair_numbers pair.Extra = 2 ∷ []

-- a place of the proof of pair i, among all places
abbrev pub at_pair : (i : ℕ) → InPair → Place
at_pair i pair.Missing = PairMissing i
at_pair i (pair.Entry k Missing) = EntryMissing i k
at_pair i (pair.Entry k (StepAt s)) = StepFails i k s
at_pair i (pair.Entry k Ends) = EndsDiffer i k
at_pair i pair.Extra = EntryExtra i

-- whether an entry is broken at a place, where it is to make a claim and show an obligation
abbrev pub entry_broken : Sides → List Invariant → Claim → Obligation → Entry → InEntry → Bool
entry_broken p invs c o e Missing = not (same_claim e.claim c)
entry_broken p invs c o e (StepAt s) = entry_fails p invs o e s
entry_broken p invs c o e Ends = ends_differ p invs o e

-- the same of the entry of number k, where the obligation and the entry of that number are there
abbrev pub entry_at_broken : Sides → List Invariant → List Entry → (k : ℕ) → InEntry → Bool
entry_at_broken p invs es k Missing = item_has (λ (o : Obligation). not (item_has (λ (e : Entry). same_claim e.claim (claim_of p.source_fn.body k)) es k)) (obligations invs p.source_fn.body p.target_fn.body) k
entry_at_broken p invs es k (StepAt s) = item_has (λ (o : Obligation). item_has (λ (e : Entry). entry_fails p invs o e s) es k) (obligations invs p.source_fn.body p.target_fn.body) k
entry_at_broken p invs es k Ends = item_has (λ (o : Obligation). item_has (λ (e : Entry). ends_differ p invs o e) es k) (obligations invs p.source_fn.body p.target_fn.body) k

-- where steps lead: to an end, or to the first that doesn't follow
abbrev pub IsWalk : Sides → List Invariant → List Step → Expr → Walk → Type 0
IsWalk p invs ts e (End e') = replay (follow p invs) ts e ≡ Some e'
IsWalk p invs ts e (Stuck s) = IsFirstBroken (λ n. n ∷ []) (step_fails p invs ts e) s

-- whether the entries of a pair are broken at a place; whether there is a proof at all is no question of entries
abbrev pub entries_broken : Sides → List Invariant → List Entry → InPair → Bool
entries_broken p invs es pair.Missing = false
entries_broken p invs es (pair.Entry k q) = entry_at_broken p invs es k q
entries_broken p invs es pair.Extra = nat_lt (length (obligations invs p.source_fn.body p.target_fn.body)) (length es)

-- the proof of a function, of number i, where it is there and has the function's name
abbrev pub proof_of : Certificate → (i : ℕ) → Function → Option PairProof
proof_of c i f = option_and_then (λ (x : PairProof). cond (bytes_eq x.name f.name) (Some x) None) (slice_get c.pairs i)

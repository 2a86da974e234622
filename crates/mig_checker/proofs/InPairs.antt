-- The first place at which the proof of a pair is broken, from the first in its entries.
use Rattle.std.proofs.Common.{◌≡◌, ℕ, ◌≤◌, Bool, true, false, cond, not, List, ◌∷◌, length, refl, sym, ap, ◌∙◌, arith, inl, inr, ⊎_elim, Option, Some, None}
use Rattle.std.specs.Prelude.{nat_lt, slice_get}
use Rattle.std.specs.Option.{option_map_or, option_and_then, is_some}
use Rattle.std.specs.Str.{bytes_eq}
use Rattle.std.proofs.lemmas.Bool.{cases_Bool, false≢true}
use Rattle.std.proofs.lemmas.Option.{slice_get_past}
use Rattle.mig_schema.specs.declared.programs.Function.{Function}
use Rattle.mig_schema.specs.declared.programs.Program.{Program}
use Rattle.mig_schema.specs.declared.jobs.Job.{Job}
use Rattle.mig_typing.specs.First.{IsFirst, Before}
use Rattle.mig_typing.specs.Broken.{item_has}
use Rattle.mig_meaning.specs.declared.relating.Invariant.{Invariant}
use Rattle.mig_algebra.specs.Proper.{Sides}
use Rattle.mig_obligations.specs.declared.proving.Obligation.{Obligation}
use Rattle.mig_obligations.specs.Obligations.{obligations}
use Rattle.mig_certificate.specs.declared.proofs.Claim.{Claim}
use Rattle.mig_certificate.specs.declared.proofs.Entry.{Entry}
use Rattle.mig_certificate.specs.declared.proofs.PairProof.{PairProof}
use Rattle.mig_certificate.specs.declared.proofs.Certificate.{Certificate}
use Rattle.mig_certificate.specs.Valid.{sides, claim_of}
use Rattle.mig_certificate.specs.BrokenPlace.{same_claim, entry_fails, ends_differ, broken}
use Rattle.mig_checker.specs.declared.places.InEntry.{InEntry}
use Rattle.mig_checker.specs.declared.places.InEntry.TheVariants.{Missing, Step as StepAt, Ends}
use Rattle.mig_checker.specs.declared.places.InPair.{InPair}
use Rattle.mig_checker.specs.declared.places.InPair.TheVariants as pair
use Rattle.mig_checker.specs.Inside.{entry_numbers, pair_numbers, at_pair, entry_broken, entry_at_broken, entries_broken, proof_of}

-- what is broken at the same places is broken first at the same place
pub first-same : {P : Type 0} (numbers : P → List ℕ) (a b : P → Bool) (r : Option P) → ((q : P) → b q ≡ a q) → IsFirst numbers a r → IsFirst numbers b r
first-same numbers a b None same f = λ q. same q ∙ f q
first-same numbers a b (Some q) same f = record { here = same q ∙ f.here; before = λ o l. same o ∙ f.before o l }

-- ---- entries

module _ (p : Sides) (invs : List Invariant) (es : List Entry) (k : ℕ) where
  -- there is no obligation of this number
  pub no-obligation : slice_get (obligations invs p.source_fn.body p.target_fn.body) k ≡ None → (q : InEntry) → entry_at_broken p invs es k q ≡ false
  no-obligation h Missing = ap (λ x. option_map_or (λ (o : Obligation). not (item_has (λ (e : Entry). same_claim e.claim (claim_of p.source_fn.body k)) es k)) x false) h
  no-obligation h (StepAt s) = ap (λ x. option_map_or (λ (o : Obligation). item_has (λ (e : Entry). entry_fails p invs o e s) es k) x false) h
  no-obligation h Ends = ap (λ x. option_map_or (λ (o : Obligation). item_has (λ (e : Entry). ends_differ p invs o e) es k) x false) h

  -- past the last obligation
  pub past-obligations : length (obligations invs p.source_fn.body p.target_fn.body) ≤ k → (q : InEntry) → entry_at_broken p invs es k q ≡ false
  past-obligations l = no-obligation (slice_get_past (obligations invs p.source_fn.body p.target_fn.body) k l)

  -- nothing is before a missing entry
  first-of-all : (q : InEntry) → Before (entry_numbers q) (entry_numbers Missing) → ⊥
  first-of-all Missing (inl l) = omega (arith, l)
  first-of-all Missing (inr r) = r.1
  first-of-all (StepAt s) (inl l) = omega (arith, l)
  first-of-all (StepAt s) (inr r) = r.1
  first-of-all Ends (inl l) = omega (arith, l)
  first-of-all Ends (inr r) = r.1

  -- there is no entry for it
  pub no-entry : (o : Obligation) → slice_get (obligations invs p.source_fn.body p.target_fn.body) k ≡ Some o → slice_get es k ≡ None → IsFirst entry_numbers (entry_at_broken p invs es k) (Some Missing)
  no-entry o h n = record {
    here = ap (λ x. option_map_or (λ (o : Obligation). not (item_has (λ (e : Entry). same_claim e.claim (claim_of p.source_fn.body k)) es k)) x false) h
        ∙ ap (λ x. not (option_map_or (λ (e : Entry). same_claim e.claim (claim_of p.source_fn.body k)) x false)) n;
    before = λ q l. absurd (first-of-all q l);
  }

  -- both are there
  at-entry : (o : Obligation) (e : Entry) → slice_get (obligations invs p.source_fn.body p.target_fn.body) k ≡ Some o → slice_get es k ≡ Some e → (q : InEntry) → entry_at_broken p invs es k q ≡ entry_broken p invs (claim_of p.source_fn.body k) o e q
  at-entry o e h n Missing =
      ap (λ x. option_map_or (λ (o : Obligation). not (item_has (λ (e : Entry). same_claim e.claim (claim_of p.source_fn.body k)) es k)) x false) h
      ∙ ap (λ x. not (option_map_or (λ (e : Entry). same_claim e.claim (claim_of p.source_fn.body k)) x false)) n
  at-entry o e h n (StepAt s) =
      ap (λ x. option_map_or (λ (o : Obligation). item_has (λ (e : Entry). entry_fails p invs o e s) es k) x false) h
      ∙ ap (λ x. option_map_or (λ (e : Entry). entry_fails p invs o e s) x false) n
  at-entry o e h n Ends =
      ap (λ x. option_map_or (λ (o : Obligation). item_has (λ (e : Entry). ends_differ p invs o e) es k) x false) h
      ∙ ap (λ x. option_map_or (λ (e : Entry). ends_differ p invs o e) x false) n

  pub entry-there : (c : Claim) (o : Obligation) (e : Entry) (r : Option InEntry) → c ≡ claim_of p.source_fn.body k → slice_get (obligations invs p.source_fn.body p.target_fn.body) k ≡ Some o → slice_get es k ≡ Some e
      → IsFirst entry_numbers (entry_broken p invs c o e) r → IsFirst entry_numbers (entry_at_broken p invs es k) r
  entry-there c o e r d h n f =
      first-same entry_numbers (entry_broken p invs c o e) (entry_at_broken p invs es k) r (λ q. at-entry o e h n q ∙ ap (λ x. entry_broken p invs x o e q) (sym d)) f

-- ---- the entries of a pair

module _ (p : Sides) (invs : List Invariant) (es : List Entry) where
  abbrev Found : Option (ℕ × InEntry) → Type 0
  Found r = IsFirst (λ (q : ℕ × InEntry). q.0 ∷ entry_numbers q.1) (λ q. entry_at_broken p invs es q.0 q.1) r

  -- the first entry that is broken
  pub entry-first : (k : ℕ) (q : InEntry) → Found (Some (k, q)) → IsFirst pair_numbers (entries_broken p invs es) (Some (pair.Entry k q))
  entry-first k q f = record { here = f.here; before = earlier }
    where
      earlier : (o : InPair) → Before (pair_numbers o) (pair_numbers (pair.Entry k q)) → entries_broken p invs es o ≡ false
      earlier pair.Missing l = refl
      earlier (pair.Entry j o) (inl l) = absurd (omega (arith, l))
      earlier (pair.Entry j o) (inr r) = f.before (j, o) r.1
      earlier pair.Extra (inl l) = absurd (omega (arith, l))
      earlier pair.Extra (inr r) = absurd (let e = r.0 in omega (arith, e))

  -- an entry too many
  pub extra-first : Found None → nat_lt (length (obligations invs p.source_fn.body p.target_fn.body)) (length es) ≡ true → IsFirst pair_numbers (entries_broken p invs es) (Some pair.Extra)
  extra-first f h = record { here = h; before = earlier }
    where
      earlier : (o : InPair) → Before (pair_numbers o) (pair_numbers pair.Extra) → entries_broken p invs es o ≡ false
      earlier pair.Missing l = refl
      earlier (pair.Entry j o) l = f (j, o)
      earlier pair.Extra (inl l) = absurd (omega (arith, l))
      earlier pair.Extra (inr r) = absurd r.1

  -- nothing
  pub entries-clear : Found None → nat_lt (length (obligations invs p.source_fn.body p.target_fn.body)) (length es) ≡ false → IsFirst pair_numbers (entries_broken p invs es) None
  entries-clear f h pair.Missing = refl
  entries-clear f h (pair.Entry k q) = f (k, q)
  entries-clear f h pair.Extra = h

-- ---- pairs

module _ (j : Job) (p : Program) (c : Certificate) (i : ℕ) where
  abbrev at : InPair → Bool
  at q = broken j p c (at_pair i q)

  -- what is tested of three that have number i
  abbrev three : Option Function → Option Function → Option PairProof → (Function → Function → PairProof → Bool) → Bool
  three f g x t = option_map_or (λ f. option_map_or (λ g. option_map_or (t f g) x false) g false) f false

  -- there is no old function
  pub no-function : slice_get j.program.functions i ≡ None → (q : InPair) → at q ≡ false
  no-function h pair.Missing = ap (λ x. option_map_or (λ (f : Function). not (item_has (λ (x : PairProof). bytes_eq x.name f.name) c.pairs i)) x false) h
  no-function h (pair.Entry k Missing) = ap (λ x. three x (slice_get p.functions i) (slice_get c.pairs i) (λ f g y. entry_at_broken (sides j.source j.target f g) c.invariants.list y.entries k Missing)) h
  no-function h (pair.Entry k (StepAt s)) = ap (λ x. three x (slice_get p.functions i) (slice_get c.pairs i) (λ f g y. entry_at_broken (sides j.source j.target f g) c.invariants.list y.entries k (StepAt s))) h
  no-function h (pair.Entry k Ends) = ap (λ x. three x (slice_get p.functions i) (slice_get c.pairs i) (λ f g y. entry_at_broken (sides j.source j.target f g) c.invariants.list y.entries k Ends)) h
  no-function h pair.Extra = ap (λ x. three x (slice_get p.functions i) (slice_get c.pairs i) (λ f g y. entries_broken (sides j.source j.target f g) c.invariants.list y.entries pair.Extra)) h

  -- past the last function
  pub past-functions : length j.program.functions ≤ i → (q : InPair) → at q ≡ false
  past-functions l = no-function (slice_get_past j.program.functions i l)

  named : (f : Function) (o : Option PairProof) → option_and_then (λ (x : PairProof). cond (bytes_eq x.name f.name) (Some x) None) o ≡ None → option_map_or (λ (x : PairProof). bytes_eq x.name f.name) o false ≡ false
  named f None h = refl
  named f (Some x) h = ⊎_elim (λ (b : bytes_eq x.name f.name ≡ true). absurd (false≢true (sym (ap is_some (sym (ap (λ t. cond t (Some x) None) b) ∙ h))))) (λ (b : bytes_eq x.name f.name ≡ false). b) (cases_Bool (bytes_eq x.name f.name))

  -- nothing is before a missing proof
  first-of-pair : (q : InPair) → Before (pair_numbers q) (pair_numbers pair.Missing) → ⊥
  first-of-pair pair.Missing (inl l) = omega (arith, l)
  first-of-pair pair.Missing (inr r) = r.1
  first-of-pair (pair.Entry k q) (inl l) = omega (arith, l)
  first-of-pair (pair.Entry k q) (inr r) = r.1
  first-of-pair pair.Extra (inl l) = omega (arith, l)
  first-of-pair pair.Extra (inr r) = r.1

  -- it has no proof of its name
  pub no-proof : (f : Function) → slice_get j.program.functions i ≡ Some f → proof_of c i f ≡ None → IsFirst pair_numbers at (Some pair.Missing)
  no-proof f h n = record {
    here = ap (λ x. option_map_or (λ (f : Function). not (item_has (λ (x : PairProof). bytes_eq x.name f.name) c.pairs i)) x false) h ∙ ap not (named f (slice_get c.pairs i) n);
    before = λ q l. absurd (first-of-pair q l);
  }

  -- a proof of its name is the one of its number
  there : (f : Function) (x : PairProof) (o : Option PairProof) → option_and_then (λ (y : PairProof). cond (bytes_eq y.name f.name) (Some y) None) o ≡ Some x → (o ≡ Some x) × (option_map_or (λ (y : PairProof). bytes_eq y.name f.name) o false ≡ true)
  there f x None h = absurd (false≢true (ap is_some h))
  there f x (Some y) h =
      ⊎_elim
      (λ (b : bytes_eq y.name f.name ≡ true). (sym (ap (λ t. cond t (Some y) None) b) ∙ h, b))
      (λ (b : bytes_eq y.name f.name ≡ false). absurd (false≢true (ap is_some (sym (ap (λ t. cond t (Some y) None) b) ∙ h))))
      (cases_Bool (bytes_eq y.name f.name))

  module _ (f : Function) (x : PairProof) (h : slice_get j.program.functions i ≡ Some f) (y : proof_of c i f ≡ Some x) where
    -- its proof is not missing
    not-missing : at pair.Missing ≡ false
    not-missing = ap (λ o. option_map_or (λ (f : Function). not (item_has (λ (x : PairProof). bytes_eq x.name f.name) c.pairs i)) o false) h ∙ ap not (there f x (slice_get c.pairs i) y).1

    -- there is no new function
    pub no-new : slice_get p.functions i ≡ None → (q : InPair) → at q ≡ false
    no-new n pair.Missing = not-missing
    no-new n (pair.Entry k Missing) = ap (λ o. three o (slice_get p.functions i) (slice_get c.pairs i) (λ f g y. entry_at_broken (sides j.source j.target f g) c.invariants.list y.entries k Missing)) h ∙ ap (λ o. three (Some f) o (slice_get c.pairs i) (λ f g y. entry_at_broken (sides j.source j.target f g) c.invariants.list y.entries k Missing)) n
    no-new n (pair.Entry k (StepAt s)) = ap (λ o. three o (slice_get p.functions i) (slice_get c.pairs i) (λ f g y. entry_at_broken (sides j.source j.target f g) c.invariants.list y.entries k (StepAt s))) h ∙ ap (λ o. three (Some f) o (slice_get c.pairs i) (λ f g y. entry_at_broken (sides j.source j.target f g) c.invariants.list y.entries k (StepAt s))) n
    no-new n (pair.Entry k Ends) = ap (λ o. three o (slice_get p.functions i) (slice_get c.pairs i) (λ f g y. entry_at_broken (sides j.source j.target f g) c.invariants.list y.entries k Ends)) h ∙ ap (λ o. three (Some f) o (slice_get c.pairs i) (λ f g y. entry_at_broken (sides j.source j.target f g) c.invariants.list y.entries k Ends)) n
    no-new n pair.Extra = ap (λ o. three o (slice_get p.functions i) (slice_get c.pairs i) (λ f g y. entries_broken (sides j.source j.target f g) c.invariants.list y.entries pair.Extra)) h ∙ ap (λ o. three (Some f) o (slice_get c.pairs i) (λ f g y. entries_broken (sides j.source j.target f g) c.invariants.list y.entries pair.Extra)) n

    -- all three are there
    module _ (g : Function) (n : slice_get p.functions i ≡ Some g) where
      of-three : (t : Function → Function → PairProof → Bool) → three (slice_get j.program.functions i) (slice_get p.functions i) (slice_get c.pairs i) t ≡ t f g x
      of-three t =
          ap (λ o. three o (slice_get p.functions i) (slice_get c.pairs i) t) h ∙ ap (λ o. three (Some f) o (slice_get c.pairs i) t) n ∙ ap (λ o. three (Some f) (Some g) o t) (there f x (slice_get c.pairs i) y).0

      at-three : (q : InPair) → at q ≡ entries_broken (sides j.source j.target f g) c.invariants.list x.entries q
      at-three pair.Missing = not-missing
      at-three (pair.Entry k Missing) = of-three (λ f g y. entry_at_broken (sides j.source j.target f g) c.invariants.list y.entries k Missing)
      at-three (pair.Entry k (StepAt s)) = of-three (λ f g y. entry_at_broken (sides j.source j.target f g) c.invariants.list y.entries k (StepAt s))
      at-three (pair.Entry k Ends) = of-three (λ f g y. entry_at_broken (sides j.source j.target f g) c.invariants.list y.entries k Ends)
      at-three pair.Extra = of-three (λ f g y. entries_broken (sides j.source j.target f g) c.invariants.list y.entries pair.Extra)

      pub pair-there : (r : Option InPair) → IsFirst pair_numbers (entries_broken (sides j.source j.target f g) c.invariants.list x.entries) r → IsFirst pair_numbers at r
      pair-there r e = first-same pair_numbers (entries_broken (sides j.source j.target f g) c.invariants.list x.entries) at r at-three e

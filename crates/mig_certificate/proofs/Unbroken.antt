-- A certificate that is broken nowhere is valid.
use Rattle.std.proofs.Common.{◌≡◌, ℕ, suc, ◌+◌, ◌-◌, Bool, true, false, cond, not, List, [], ◌∷◌, length, take, refl, sym, ap, ◌∙◌, arith, inl, inr, ◌⊎◌, Option, Some, None}
use Rattle.std.specs.Prelude.{nat_lt, slice_get}
use Rattle.std.specs.List.{list_all}
use Rattle.std.specs.Option.{option_map_or, option_and_then}
use Rattle.std.specs.Str.{bytes_eq}
use Rattle.std.specs.Cmp.Lexicographic.{slice_cmp}
use Rattle.std.specs.Ordering.{is_eq}
use Rattle.std.specs.declared.cmp.Ordering.{Ordering}
use Rattle.std.specs.declared.cmp.Ordering.TheVariants.{Less, Equal, Greater}
use Rattle.std.proofs.lemmas.Bool.{cases_Bool, and_from, not-false, ltb-false, le-ltb}
use Rattle.std.proofs.lemmas.Option.{slice_get_past}
use Rattle.std.proofs.lemmas.Slice.Eq.{bytes_eq-Decides}
use Rattle.mig_schema.specs.declared.tables.Schema.{Schema}
use Rattle.mig_schema.specs.declared.programs.Function.{Function}
use Rattle.mig_schema.specs.declared.programs.Program.{Program}
use Rattle.mig_schema.specs.declared.jobs.Job.{Job}
use Rattle.mig_typing.specs.Broken.{item_has}
use Rattle.mig_meaning.specs.declared.relating.Invariant.{Invariant}
use Rattle.mig_algebra.specs.declared.terms.Expr.{Expr}
use Rattle.mig_algebra.specs.Orders.{term_order}
use Rattle.mig_algebra.specs.Proper.{Sides}
use Rattle.mig_algebra.specs.Tidied.{tidied}
use Rattle.mig_algebra.proofs.OrderLaws.{list-tie, term_tie}
use Rattle.mig_obligations.specs.declared.proving.Obligation.{Obligation}
use Rattle.mig_steps.specs.declared.steps.Step.{Step}
use Rattle.mig_obligations.specs.Shaped.{is_shaped}
use Rattle.mig_obligations.specs.Replay.{replay}
use Rattle.mig_rules.specs.Follow.{follow}
use Rattle.mig_obligations.specs.Obligations.{obligations}
use Rattle.mig_certificate.specs.declared.proofs.Entry.{Entry}
use Rattle.mig_certificate.specs.declared.proofs.PairProof.{PairProof}
use Rattle.mig_certificate.specs.declared.proofs.Certificate.{Certificate}
use Rattle.mig_certificate.specs.Valid.{sides, claim_of, IsEntryFor, AreEntriesFor, AreProofsOf, IsValid}
use Rattle.mig_certificate.specs.BrokenPlace.{Place, FunctionDiffers, InvariantUnshaped, PairMissing, EntryMissing, StepFails, EndsDiffer, EntryExtra, PairExtra, same_claim, is_none, step_fails, entry_fails, ends_differ, broken}
use Rattle.mig_certificate.proofs.SameTests.{same-claims, same-count, same-each}

-- ---- steps

-- steps none of which fails come to an end
pub all-follow : (p : Sides) (invs : List Invariant) (ts : List Step) (e : Expr) → ((s : ℕ) → step_fails p invs ts e s ≡ false) → (e' : Expr) × (replay (follow p invs) ts e ≡ Some e')
all-follow p invs [] e h = (e, refl)
all-follow p invs (t ∷ ts) e h = go (follow p invs t e) refl (all-follow p invs ts) (h 0)
  where
    go : (o : Option Expr) → follow p invs t e ≡ o → ((e1 : Expr) → ((s : ℕ) → step_fails p invs ts e1 s ≡ false) → (e' : Expr) × (replay (follow p invs) ts e1 ≡ Some e')) → is_none (follow p invs t e) ≡ false → (e' : Expr) × (replay (follow p invs) (t ∷ ts) e ≡ Some e')
    go None f ih n = let k = ap is_none (sym f) ∙ n in cc
    go (Some e1) f ih n =
        let k = ih e1 (λ s. later s (slice_get ts s) refl) in
        (k.0, ap (option_and_then (replay (follow p invs) ts)) f ∙ k.1)
      where
        later : (s : ℕ) (o : Option Step) → slice_get ts s ≡ o → step_fails p invs ts e1 s ≡ false
        later s o g = ap (λ x. option_map_or (λ t'. option_map_or (λ e'. is_none (follow p invs t' e')) (option_and_then (replay (follow p invs) (take s ts)) x) false) (slice_get ts s) false) (sym f) ∙ h (suc s)

-- ends that the test does not part
equal-ends : (a b : Expr) → not (is_eq (slice_cmp term_order (tidied a).terms (tidied b).terms)) ≡ false → tidied a ≡ tidied b
equal-ends a b h = ap (λ ts. record { terms = ts }) (list-tie term_order term_tie (tidied a).terms (tidied b).terms (go (slice_cmp term_order (tidied a).terms (tidied b).terms) h))
  where
    go : (o : Ordering) → not (is_eq o) ≡ false → o ≡ Equal
    go Less h = cc
    go Equal h = refl
    go Greater h = cc

-- ---- entries

module _ (p : Sides) (invs : List Invariant) where
  old-block : (o : Obligation) (e : Entry) → ((s : ℕ) → entry_fails p invs o e s ≡ false) → (s : ℕ) → step_fails p invs e.source o.source s ≡ false
  old-block o e h s = go (cases_Bool (nat_lt s (length e.source)))
    where
      go : (nat_lt s (length e.source) ≡ true) ⊎ (nat_lt s (length e.source) ≡ false) → step_fails p invs e.source o.source s ≡ false
      go (inl b) = ap (λ t. cond t (step_fails p invs e.source o.source s) (step_fails p invs e.target o.target (s - length e.source))) (sym b) ∙ h s
      go (inr b) = ap (λ t. option_map_or (λ t'. option_map_or (λ e'. is_none (follow p invs t' e')) (replay (follow p invs) (take s e.source) o.source) false) t false) (slice_get_past e.source s (ltb-false s (length e.source) b))

  new-block : (o : Obligation) (e : Entry) → ((s : ℕ) → entry_fails p invs o e s ≡ false) → (s : ℕ) → step_fails p invs e.target o.target s ≡ false
  new-block o e h s =
      let b : nat_lt (length e.source + s) (length e.source) ≡ false = le-ltb (length e.source + s) (length e.source) (omega arith) in
      let m : (length e.source + s) - length e.source ≡ s = omega arith in
      ap (step_fails p invs e.target o.target) (sym m)
      ∙ ap (λ t. cond t (step_fails p invs e.source o.source (length e.source + s)) (step_fails p invs e.target o.target ((length e.source + s) - length e.source))) (sym b) ∙ h (length e.source + s)

  show-entry : (k : ℕ) (o : Obligation) (e : Entry) → same_claim e.claim (claim_of p.source_fn.body k) ≡ true → ((s : ℕ) → entry_fails p invs o e s ≡ false) → ends_differ p invs o e ≡ false → IsEntryFor p invs k o e
  show-entry k o e c h d =
      let a = all-follow p invs e.source o.source (old-block o e h) in
      let b = all-follow p invs e.target o.target (new-block o e h) in
      record {
        claim = same-claims e.claim (claim_of p.source_fn.body k) c;
        ends = record {
          source = a.0;
          target = b.0;
          old = a.1;
          new = b.1;
          one = equal-ends a.0 b.0 (ap (λ x. option_map_or (λ r. not (is_eq (slice_cmp term_order (tidied a.0).terms (tidied r).terms))) x false) (sym b.1)
              ∙ ap (λ x. option_map_or (λ l. option_map_or (λ r. not (is_eq (slice_cmp term_order (tidied l).terms (tidied r).terms))) (replay (follow p invs) e.target o.target) false) x false) (sym a.1) ∙ d);
        };
      }

  show-entries : (k : ℕ) (os : List Obligation) (es : List Entry) → ((n : ℕ) → item_has (λ (o : Obligation). not (item_has (λ (e : Entry). same_claim e.claim (claim_of p.source_fn.body (k + n))) es n)) os n ≡ false) → ((n s : ℕ) → item_has (λ (o : Obligation). item_has (λ (e : Entry). entry_fails p invs o e s) es n) os n ≡ false) → ((n : ℕ) → item_has (λ (o : Obligation). item_has (λ (e : Entry). ends_differ p invs o e) es n) os n ≡ false) → nat_lt (length os) (length es) ≡ false → AreEntriesFor p invs k os es
  show-entries k [] [] m s d x = tt
  show-entries k [] (e ∷ es) m s d x = absurd (omega (arith, ltb-false (length {A = Obligation} []) (length (e ∷ es)) x))
  show-entries k (o ∷ os) [] m s d x = let h = m 0 in cc
  show-entries k (o ∷ os) (e ∷ es) m s d x =
      let z : k + 0 ≡ k = omega arith in (
        show-entry k o e (ap (λ n. same_claim e.claim (claim_of p.source_fn.body n)) (sym z) ∙ not-false _ (m 0)) (λ t. s 0 t) (d 0),
        show-entries (k + 1) os es
            (λ n. let y : (k + 1) + n ≡ k + suc n = omega arith in ap (λ i. item_has (λ (o : Obligation). not (item_has (λ (e : Entry). same_claim e.claim (claim_of p.source_fn.body i)) es n)) os n) y ∙ m (suc n))
            (λ n t. s (suc n) t) (λ n. d (suc n)) (let l = ltb-false (length (o ∷ os)) (length (e ∷ es)) x in le-ltb (length os) (length es) (omega (arith, l))),
      )

-- ---- pairs

module _ (s s' : Schema) (invs : List Invariant) where
  -- what passes nowhere in three lists
  abbrev Nowhere : List Function → List Function → List PairProof → (Function → Function → PairProof → Bool) → Type 0
  Nowhere fs gs xs test = (i : ℕ) → item_has (λ (f : Function). item_has (λ (g : Function). item_has (test f g) xs i) gs i) fs i ≡ false

  show-proofs : (fs gs : List Function) (xs : List PairProof) → length fs ≡ length gs
      → ((i : ℕ) → item_has (λ (f : Function). not (item_has (λ (x : PairProof). bytes_eq x.name f.name) xs i)) fs i ≡ false)
      → ((k : ℕ) → Nowhere fs gs xs (λ f g x. item_has (λ (o : Obligation). not (item_has (λ (e : Entry). same_claim e.claim (claim_of f.body k)) x.entries k)) (obligations invs f.body g.body) k))
      → ((k t : ℕ) → Nowhere fs gs xs (λ f g x. item_has (λ (o : Obligation). item_has (λ (e : Entry). entry_fails (sides s s' f g) invs o e t) x.entries k) (obligations invs f.body g.body) k))
      → ((k : ℕ) → Nowhere fs gs xs (λ f g x. item_has (λ (o : Obligation). item_has (λ (e : Entry). ends_differ (sides s s' f g) invs o e) x.entries k) (obligations invs f.body g.body) k))
      → Nowhere fs gs xs (λ f g x. nat_lt (length (obligations invs f.body g.body)) (length x.entries))
      → nat_lt (length fs) (length xs) ≡ false → AreProofsOf s s' invs fs gs xs
  show-proofs [] [] [] l n m t d x e = tt
  show-proofs [] [] (y ∷ ys) l n m t d x e = absurd (omega (arith, ltb-false (length {A = Function} []) (length (y ∷ ys)) e))
  show-proofs [] (g ∷ gs) xs l n m t d x e = absurd (omega (arith, l))
  show-proofs (f ∷ fs) [] xs l n m t d x e = absurd (omega (arith, l))
  show-proofs (f ∷ fs) (g ∷ gs) [] l n m t d x e = let h = n 0 in cc
  show-proofs (f ∷ fs) (g ∷ gs) (y ∷ ys) l n m t d x e = (
    record {
      name = (bytes_eq-Decides y.name f.name).0 (not-false (bytes_eq y.name f.name) (n 0));
      entries = show-entries (sides s s' f g) invs 0 (obligations invs f.body g.body) y.entries
          (λ k. let z : 0 + k ≡ k = omega arith in ap (λ i. item_has (λ (o : Obligation). not (item_has (λ (e : Entry). same_claim e.claim (claim_of f.body i)) y.entries k)) (obligations invs f.body g.body) k) z ∙ m k 0)
          (λ k i. t k i 0) (λ k. d k 0) (x 0);
    },
    show-proofs fs gs ys (omega (arith, l)) (λ i. n (suc i)) (λ k i. m k (suc i)) (λ k j i. t k j (suc i)) (λ k i. d k (suc i)) (λ i. x (suc i)) (let h = ltb-false (length (f ∷ fs)) (length (y ∷ ys)) e in le-ltb (length fs) (length ys) (omega (arith, h))),
  )

-- ---- the certificate

all-shaped : (s s' : Schema) (is : List Invariant) → ((k : ℕ) → item_has (λ (i : Invariant). not (is_shaped s s' i)) is k ≡ false) → list_all (is_shaped s s') is ≡ true
all-shaped s s' [] h = refl
all-shaped s s' (i ∷ is) h = and_from (is_shaped s s' i) (list_all (is_shaped s s') is) (not-false (is_shaped s s' i) (h 0)) (all-shaped s s' is (λ k. h (suc k)))

-- a certificate that is broken nowhere is valid
pub unbroken-valid : (j : Job) (p : Program) (c : Certificate) → ((place : Place) → broken j p c place ≡ false) → IsValid j p c
unbroken-valid j p c h = record {
  functions = record { count = count; each = same-each j.source j.target j.program.functions p.functions (λ n. h (FunctionDiffers n)) };
  shaped = all-shaped j.source j.target c.invariants.list (λ k. h (InvariantUnshaped k));
  proofs = show-proofs j.source j.target c.invariants.list j.program.functions p.functions c.pairs count (λ i. h (PairMissing i)) (λ k i. h (EntryMissing i k)) (λ k t i. h (StepFails i k t)) (λ k i. h (EndsDiffer i k)) (λ i. h (EntryExtra i)) (h PairExtra);
}
  where
    count : length j.program.functions ≡ length p.functions
    count = same-count j.source j.target j.program.functions p.functions (λ n. h (FunctionDiffers n))

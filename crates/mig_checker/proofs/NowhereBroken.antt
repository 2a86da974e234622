-- A valid certificate is broken nowhere.
use Rattle.std.proofs.Common.{◌≡◌, ℕ, zero, suc, ◌+◌, ◌<◌, Bool, true, false, not, ◌&&◌, List, [], ◌∷◌, map, length, get_or, refl, sym, ap, ◌∙◌, arith, subst, Option, Some, None}
use Rattle.std.specs.Prelude.{nat_lt, slice_get}
use Rattle.std.specs.List.{list_all}
use Rattle.std.specs.Option.{option_map_or}
use Rattle.std.specs.Str.{bytes_eq}
use Rattle.std.specs.Ordering.{is_eq, ordering_then, ordering_reverse}
use Rattle.std.specs.Cmp.Lexicographic.{slice_cmp}
use Rattle.std.specs.declared.cmp.Ordering.{Ordering}
use Rattle.std.specs.declared.cmp.Ordering.TheVariants.{Less, Equal, Greater}
use Rattle.std.proofs.lemmas.Bool.{and_from, and_parts, le-ltb}
use Rattle.std.proofs.lemmas.Slice.Eq.{bytes_eq-Decides}
use Rattle.mig_schema.specs.declared.tables.ColId.{ColId}
use Rattle.mig_schema.specs.declared.tables.Kind.{Kind}
use Rattle.mig_schema.specs.declared.tables.Kind.TheVariants as kind
use Rattle.mig_schema.specs.declared.tables.Schema.{Schema}
use Rattle.mig_schema.specs.declared.programs.Param.{Param}
use Rattle.mig_schema.specs.declared.programs.Body.{Body}
use Rattle.mig_schema.specs.declared.programs.Body.TheVariants.{Update, Query}
use Rattle.mig_schema.specs.declared.programs.Function.{Function}
use Rattle.mig_schema.specs.declared.programs.Program.{Program}
use Rattle.mig_schema.specs.declared.jobs.Job.{Job}
use Rattle.mig_schema.specs.Columns.{kind_of, same_kind}
use Rattle.mig_typing.specs.Broken.{item_has}
use Rattle.mig_meaning.specs.declared.relating.Invariant.{Invariant}
use Rattle.mig_meaning.specs.Functions.{SameSort, SameFunction}
use Rattle.mig_meaning.specs.Run.{no_function}
use Rattle.mig_algebra.specs.declared.terms.Term.{Term}
use Rattle.mig_algebra.specs.Orders.{term_order}
use Rattle.mig_algebra.proofs.OrderLaws.{term_total}
use Rattle.mig_algebra.specs.Proper.{Sides}
use Rattle.mig_algebra.specs.Tidied.{tidied}
use Rattle.mig_obligations.specs.declared.proving.Obligation.{Obligation}
use Rattle.mig_obligations.specs.Shaped.{is_shaped, same_kinds}
use Rattle.mig_obligations.specs.Obligations.{obligations}
use Rattle.mig_certificate.specs.declared.proofs.Claim.{Claim}
use Rattle.mig_certificate.specs.declared.proofs.Claim.TheVariants.{Holds, Answers}
use Rattle.mig_certificate.specs.declared.proofs.Entry.{Entry}
use Rattle.mig_certificate.specs.declared.proofs.PairProof.{PairProof}
use Rattle.mig_certificate.specs.declared.proofs.Certificate.{Certificate}
use Rattle.mig_certificate.specs.Valid.{sides, claim_of, IsEntryFor, AreEntriesFor, IsProofOf, AreProofsOf, IsValid}
use Rattle.mig_certificate.specs.BrokenPlace.{Place, FunctionDiffers, InvariantUnshaped, PairMissing, EntryMissing, StepFails, EndsDiffer, EntryExtra, PairExtra, same_body, same_params, same_claim, differ, entry_fails, ends_differ, broken}
use Rattle.mig_checker.proofs.EntryPlaces.{none-at-all, ends-are}

-- ---- functions

own-kind : (k : Kind) → same_kind k k ≡ true
own-kind kind.Int = refl
own-kind kind.Text = refl
own-kind kind.Key = refl

own-name : (n : List ℕ) → bytes_eq n n ≡ true
own-name n = (bytes_eq-Decides n n).1 refl

like-kinds : (s s' : Schema) (cs ds : List ColId) → map (kind_of s) cs ≡ map (kind_of s') ds → same_kinds s s' cs ds ≡ true
like-kinds s s' [] [] e = refl
like-kinds s s' [] (d ∷ ds) e = cc
like-kinds s s' (c ∷ cs) [] e = cc
like-kinds s s' (c ∷ cs) (d ∷ ds) e =
    let h : kind_of s c ≡ kind_of s' d = cc in
    let t : map (kind_of s) cs ≡ map (kind_of s') ds = cc in
    and_from (same_kind (kind_of s c) (kind_of s' d)) (same_kinds s s' cs ds) (ap (λ k. same_kind (kind_of s c) k) (sym h) ∙ own-kind (kind_of s c)) (like-kinds s s' cs ds t)

own-params : (ps : List Param) → same_params ps ps ≡ true
own-params [] = refl
own-params (p ∷ ps) = and_from (bytes_eq p.name p.name) (same_kind p.kind p.kind && same_params ps ps) (own-name p.name) (and_from (same_kind p.kind p.kind) (same_params ps ps) (own-kind p.kind) (own-params ps))

like-bodies : (s s' : Schema) (a b : Body) → SameSort s s' a b → same_body s s' a b ≡ true
like-bodies s s' (Update a) (Update b) h = refl
like-bodies s s' (Query q) (Query r) h = like-kinds s s' q.columns r.columns h
like-bodies s s' (Update a) (Query r) h = absurd h
like-bodies s s' (Query q) (Update b) h = absurd h

same-not-differ : (s s' : Schema) (f g : Function) → SameFunction s s' f g → differ s s' (Some f) (Some g) ≡ false
same-not-differ s s' f g h =
    ap not
    (and_from (bytes_eq f.name g.name) (same_params f.params g.params && same_body s s' f.body g.body) (ap (bytes_eq f.name) (sym h.name) ∙ own-name f.name)
    (and_from (same_params f.params g.params) (same_body s s' f.body g.body) (ap (same_params f.params) (sym h.params) ∙ own-params f.params) (like-bodies s s' f.body g.body h.sort)))

none-differ : (s s' : Schema) (fs gs : List Function) → length fs ≡ length gs → ((n : ℕ) → n < length fs → SameFunction s s' (get_or fs n no_function) (get_or gs n no_function)) → (n : ℕ) → differ s s' (slice_get fs n) (slice_get gs n) ≡ false
none-differ s s' [] [] l h n = refl
none-differ s s' [] (g ∷ gs) l h n = absurd (omega (arith, l))
none-differ s s' (f ∷ fs) [] l h n = absurd (omega (arith, l))
none-differ s s' (f ∷ fs) (g ∷ gs) l h zero = same-not-differ s s' f g (h 0 (omega arith))
none-differ s s' (f ∷ fs) (g ∷ gs) l h (suc n) = none-differ s s' fs gs (omega (arith, l)) (λ m k. h (suc m) (omega (arith, k))) n

-- ---- invariants

none-unshaped : (s s' : Schema) (is : List Invariant) → list_all (is_shaped s s') is ≡ true → (k : ℕ) → item_has (λ (i : Invariant). not (is_shaped s s' i)) is k ≡ false
none-unshaped s s' [] h k = refl
none-unshaped s s' (i ∷ is) h zero = ap not (and_parts (is_shaped s s' i) (list_all (is_shaped s s') is) h).0
none-unshaped s s' (i ∷ is) h (suc k) = none-unshaped s s' is (and_parts (is_shaped s s' i) (list_all (is_shaped s s') is) h).1 k

-- ---- entries

own-claim : (c : Claim) → same_claim c c ≡ true
own-claim (Holds k) = grind arith
own-claim Answers = refl

-- each obligation has its entry
entry-at : (p : Sides) (invs : List Invariant) (m : ℕ) (os : List Obligation) (es : List Entry) → AreEntriesFor p invs m os es → (k : ℕ) (o : Obligation) → slice_get os k ≡ Some o → (e : Entry) × (slice_get es k ≡ Some e) × IsEntryFor p invs (m + k) o e
entry-at p invs m [] es h k o g = absurd cc
entry-at p invs m (o' ∷ os) [] h k o g = absurd h
entry-at p invs m (o' ∷ os) (e ∷ es) h zero o g =
    let z : m + 0 ≡ m = omega arith in
    (e, refl, subst (λ n. IsEntryFor p invs n o e) (sym z) (subst (λ x. IsEntryFor p invs m x e) (let q : o' ≡ o = cc in q) h.0))
entry-at p invs m (o' ∷ os) (e ∷ es) h (suc k) o g =
    let z : (m + 1) + k ≡ m + suc k = omega arith in
    let r = entry-at p invs (m + 1) os es h.1 k o g in (r.0, r.1, subst (λ n. IsEntryFor p invs n o r.0) z r.2)

equally-many : (p : Sides) (invs : List Invariant) (m : ℕ) (os : List Obligation) (es : List Entry) → AreEntriesFor p invs m os es → length os ≡ length es
equally-many p invs m [] [] h = refl
equally-many p invs m [] (e ∷ es) h = absurd h
equally-many p invs m (o ∷ os) [] h = absurd h
equally-many p invs m (o ∷ os) (e ∷ es) h = ap suc (equally-many p invs (m + 1) os es h.1)

-- a test that no item passes
no-item : {A : Type 0} (t : A → Bool) (xs : List A) (k : ℕ) → ((x : A) → slice_get xs k ≡ Some x → t x ≡ false) → item_has t xs k ≡ false
no-item {A} t xs k h = go (slice_get xs k) refl
  where
    go : (o : Option A) → slice_get xs k ≡ o → item_has t xs k ≡ false
    go None e = ap (λ o. option_map_or t o false) e
    go (Some x) e = ap (λ o. option_map_or t o false) e ∙ h x e

-- ---- ends

own-order : (o : Ordering) → o ≡ ordering_reverse o → o ≡ Equal
own-order Less h = cc
own-order Equal h = refl
own-order Greater h = cc

own-terms : (ts : List Term) → slice_cmp term_order ts ts ≡ Equal
own-terms [] = refl
own-terms (t ∷ ts) = ap (λ o. ordering_then o (slice_cmp term_order ts ts)) (own-order (term_order t t) (term_total.antisymm t t)) ∙ own-terms ts

-- ---- pairs

module _ (s s' : Schema) (invs : List Invariant) where
  none-of-proofs : (fs gs : List Function) (xs : List PairProof) → AreProofsOf s s' invs fs gs xs → (t : Function → Function → PairProof → Bool) → ((f g : Function) (x : PairProof) → IsProofOf s s' invs f g x → t f g x ≡ false)
      → (i : ℕ) → item_has (λ (f : Function). item_has (λ (g : Function). item_has (t f g) xs i) gs i) fs i ≡ false
  none-of-proofs [] [] [] h t k i = refl
  none-of-proofs [] [] (x ∷ xs) h t k i = absurd h
  none-of-proofs [] (g ∷ gs) xs h t k i = absurd h
  none-of-proofs (f ∷ fs) [] xs h t k i = absurd h
  none-of-proofs (f ∷ fs) (g ∷ gs) [] h t k i = absurd h
  none-of-proofs (f ∷ fs) (g ∷ gs) (x ∷ xs) h t k zero = k f g x h.0
  none-of-proofs (f ∷ fs) (g ∷ gs) (x ∷ xs) h t k (suc i) = none-of-proofs fs gs xs h.1 t k i

  none-missing : (fs gs : List Function) (xs : List PairProof) → AreProofsOf s s' invs fs gs xs → (i : ℕ) → item_has (λ (f : Function). not (item_has (λ (x : PairProof). bytes_eq x.name f.name) xs i)) fs i ≡ false
  none-missing [] gs xs h i = refl
  none-missing (f ∷ fs) [] xs h i = absurd h
  none-missing (f ∷ fs) (g ∷ gs) [] h i = absurd h
  none-missing (f ∷ fs) (g ∷ gs) (x ∷ xs) h zero = ap not ((bytes_eq-Decides x.name f.name).1 h.0.name)
  none-missing (f ∷ fs) (g ∷ gs) (x ∷ xs) h (suc i) = none-missing fs gs xs h.1 i

  as-many : (fs gs : List Function) (xs : List PairProof) → AreProofsOf s s' invs fs gs xs → length fs ≡ length xs
  as-many [] [] [] h = refl
  as-many [] [] (x ∷ xs) h = absurd h
  as-many [] (g ∷ gs) xs h = absurd h
  as-many (f ∷ fs) [] xs h = absurd h
  as-many (f ∷ fs) (g ∷ gs) [] h = absurd h
  as-many (f ∷ fs) (g ∷ gs) (x ∷ xs) h = ap suc (as-many fs gs xs h.1)

  -- a proof of two functions is broken nowhere
  module _ (f g : Function) (x : PairProof) (h : IsProofOf s s' invs f g x) (k : ℕ) where
    abbrev os : List Obligation
    os = obligations invs f.body g.body

    entry-there : item_has (λ (o : Obligation). not (item_has (λ (e : Entry). same_claim e.claim (claim_of f.body k)) x.entries k)) os k ≡ false
    entry-there =
        no-item (λ (o : Obligation). not (item_has (λ (e : Entry). same_claim e.claim (claim_of f.body k)) x.entries k)) os k
        (λ o q. let r = entry-at (sides s s' f g) invs 0 os x.entries h.entries k o q in
        let z : 0 + k ≡ k = omega arith in
        ap not (ap (λ w. option_map_or (λ (e : Entry). same_claim e.claim (claim_of f.body k)) w false) r.1 ∙ ap (λ c. same_claim c (claim_of f.body k)) (r.2.claim ∙ ap (claim_of f.body) z) ∙ own-claim (claim_of f.body k)))

    steps-follow : (t : ℕ) → item_has (λ (o : Obligation). item_has (λ (e : Entry). entry_fails (sides s s' f g) invs o e t) x.entries k) os k ≡ false
    steps-follow t =
        no-item (λ (o : Obligation). item_has (λ (e : Entry). entry_fails (sides s s' f g) invs o e t) x.entries k) os k
        (λ o q. let r = entry-at (sides s s' f g) invs 0 os x.entries h.entries k o q in
        ap (λ w. option_map_or (λ (e : Entry). entry_fails (sides s s' f g) invs o e t) w false) r.1
        ∙ none-at-all (sides s s' f g) invs r.0.claim o r.0 r.2.ends.source r.2.ends.target (own-claim r.0.claim) r.2.ends.old r.2.ends.new t)

    ends-meet : item_has (λ (o : Obligation). item_has (λ (e : Entry). ends_differ (sides s s' f g) invs o e) x.entries k) os k ≡ false
    ends-meet =
        no-item (λ (o : Obligation). item_has (λ (e : Entry). ends_differ (sides s s' f g) invs o e) x.entries k) os k
        (λ o q. let r = entry-at (sides s s' f g) invs 0 os x.entries h.entries k o q in
        ap (λ w. option_map_or (λ (e : Entry). ends_differ (sides s s' f g) invs o e) w false) r.1
        ∙ ends-are (sides s s' f g) invs r.0.claim o r.0 r.2.ends.source r.2.ends.target (own-claim r.0.claim) r.2.ends.old r.2.ends.new
        ∙ ap (λ y. not (is_eq (slice_cmp term_order (tidied r.2.ends.source).terms y.terms))) (sym r.2.ends.one)
        ∙ ap (λ y. not (is_eq y)) (own-terms (tidied r.2.ends.source).terms))

  none-extra : (f g : Function) (x : PairProof) → IsProofOf s s' invs f g x → nat_lt (length (obligations invs f.body g.body)) (length x.entries) ≡ false
  none-extra f g x h = let e = equally-many (sides s s' f g) invs 0 (obligations invs f.body g.body) x.entries h.entries in le-ltb (length (obligations invs f.body g.body)) (length x.entries) (omega (arith, e))

-- a valid certificate is broken nowhere
pub valid-unbroken : (j : Job) (p : Program) (c : Certificate) → IsValid j p c → (o : Place) → broken j p c o ≡ false
valid-unbroken j p c v (FunctionDiffers n) = none-differ j.source j.target j.program.functions p.functions v.functions.count v.functions.each n
valid-unbroken j p c v (InvariantUnshaped k) = none-unshaped j.source j.target c.invariants.list v.shaped k
valid-unbroken j p c v (PairMissing i) = none-missing j.source j.target c.invariants.list j.program.functions p.functions c.pairs v.proofs i
valid-unbroken j p c v (EntryMissing i k) =
    none-of-proofs j.source j.target c.invariants.list j.program.functions p.functions c.pairs v.proofs
    (λ f g x. item_has (λ (o : Obligation). not (item_has (λ (e : Entry). same_claim e.claim (claim_of f.body k)) x.entries k)) (obligations c.invariants.list f.body g.body) k)
    (λ f g x h. entry-there j.source j.target c.invariants.list f g x h k) i
valid-unbroken j p c v (StepFails i k t) =
    none-of-proofs j.source j.target c.invariants.list j.program.functions p.functions c.pairs v.proofs
    (λ f g x. item_has (λ (o : Obligation). item_has (λ (e : Entry). entry_fails (sides j.source j.target f g) c.invariants.list o e t) x.entries k) (obligations c.invariants.list f.body g.body) k)
    (λ f g x h. steps-follow j.source j.target c.invariants.list f g x h k t) i
valid-unbroken j p c v (EndsDiffer i k) =
    none-of-proofs j.source j.target c.invariants.list j.program.functions p.functions c.pairs v.proofs
    (λ f g x. item_has (λ (o : Obligation). item_has (λ (e : Entry). ends_differ (sides j.source j.target f g) c.invariants.list o e) x.entries k) (obligations c.invariants.list f.body g.body) k)
    (λ f g x h. ends-meet j.source j.target c.invariants.list f g x h k) i
valid-unbroken j p c v (EntryExtra i) =
    none-of-proofs j.source j.target c.invariants.list j.program.functions p.functions c.pairs v.proofs
    (λ f g x. nat_lt (length (obligations c.invariants.list f.body g.body)) (length x.entries))
    (λ f g x h. none-extra j.source j.target c.invariants.list f g x h) i
valid-unbroken j p c v PairExtra = let e = as-many j.source j.target c.invariants.list j.program.functions p.functions c.pairs v.proofs in le-ltb (length j.program.functions) (length c.pairs) (omega (arith, e))

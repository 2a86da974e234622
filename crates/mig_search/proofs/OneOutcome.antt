-- The search has one outcome.
use Rattle.std.proofs.Common.{◌≡◌, ◌⊎◌, ℕ, ◌<◌, ◌≤◌, List, [], ◌∷◌, ◌++◌, length, refl, ap, sym, ◌∙◌, subst, inl, inr, arith, append_assoc, length-append, Some, None}
use Rattle.std.proofs.lemmas.List.{append-nil, map-append}
use Rattle.mig_schema.specs.declared.programs.Program.{Program}
use Rattle.mig_schema.specs.declared.jobs.Job.{Job}
use Rattle.std.proofs.lemmas.Option.{none-some, same_Some}
use Rattle.mig_listing.proofs.Members.{in_append_right}
use Rattle.mig_listing.proofs.Rising.{rises_across}
use Rattle.mig_invariant.specs.declared.corresp.Corr.{Corr}
use Rattle.mig_certificate.specs.declared.proofs.Certificate.{Certificate}
use Rattle.mig_prover.specs.declared.proving.Proof.TheVariants.{Closed, Stuck}
use Rattle.mig_sketch.specs.declared.plans.Plan.{Plan}
use Rattle.mig_sketch.specs.declared.plans.Made.{Made}
use Rattle.mig_sketch.specs.declared.plans.Made.TheVariants as made
use Rattle.mig_corresp.specs.Correspondences.{IsCorr, RanksBefore}
use Rattle.mig_prover.proofs.OneProof.{one-proof}
use Rattle.mig_invariant.specs.Candidates.{candidates}
use Rattle.mig_corresp.proofs.Ordering.{rank_order}
use Rattle.mig_sketch.specs.Filling.{filled}
use Rattle.mig_search.specs.declared.outcomes.Tried.{Tried}
use Rattle.mig_search.specs.declared.outcomes.Tried.TheVariants.{Refuted, Unproved, NoOption, Wide}
use Rattle.mig_search.specs.declared.outcomes.Options.{Options}
use Rattle.mig_search.specs.declared.outcomes.Outcome.{Outcome}
use Rattle.mig_search.specs.declared.outcomes.Outcome.TheVariants as outcome
use Rattle.mig_search.specs.Judging.{IsEntry, IsFind}
use Rattle.mig_search.specs.Looking.{Looked, entries_of, AreFirstLooked, AreAllLooked, IsFoundNext}
use Rattle.mig_search.specs.Outcomes.{AreAllOf, AreFirstOf, AreBeforeFind, AreAllMade, AreFirstMade, AreAllEntries, AreFirstEntries, AreEntriesBefore, AreWhole, AreTaken, AreEnough, AreUpTo, AreOfAll, IsOutcome}
use Rattle.mig_search.proofs.OneFailing.{one_failing}
use Rattle.mig_search.proofs.OneMade.{one_made}
use Rattle.mig_search.proofs.OneLooked.{HasOneEntry, next_one, next_cut, begins, nothing_after, first_of_all, one_looked}
use Rattle.mig_listing.specs.Listing.{IsIn, Rises}
use Rattle.mig_listing.specs.Fronts.{IsFront}
use Rattle.mig_listing.specs.Orders.{IsOrder}
use Rattle.mig_listing.proofs.Unique.{in_tail}

-- two fronts of one list: one begins with the other
pub fronts_begin : {A : Type 0} {R : A → A → Type 0} → IsOrder R → (xs ys : List A) → Rises R xs → Rises R ys
    → ((z : A) → IsIn z ys → IsIn z xs ⊎ ((x : A) → IsIn x xs → R x z))
    → ((z : A) → IsIn z xs → IsIn z ys ⊎ ((y : A) → IsIn y ys → R y z))
    → ((more : List A) × (ys ≡ xs ++ more)) ⊎ ((more : List A) × (xs ≡ ys ++ more))
fronts_begin o [] ys rx ry to back = inl (ys, refl)
fronts_begin o (x ∷ xs) [] rx ry to back = inr (x ∷ xs, refl)
fronts_begin {A} {R} o (x ∷ xs) (y ∷ ys) rx ry to back =
    let y_late : (x ≡ y) ⊎ R x y = elim (to y (inl refl)) [
      | inl i ↦ elim i [ inl e ↦ inl (sym e) | inr j ↦ inr (rx.0 y j) ]
      | inr all ↦ inr (all x (inl refl))
    ] in
    let x_late : (x ≡ y) ⊎ R y x = elim (back x (inl refl)) [
      | inl i ↦ elim i [ inl e ↦ inl e | inr j ↦ inr (ry.0 x j) ]
      | inr all ↦ inr (all y (inl refl))
    ] in
    let same : x ≡ y = elim y_late [
      | inl e ↦ e
      | inr lt ↦ elim x_late [ inl e ↦ e | inr gt ↦ absurd (o.never x (o.on x y x lt gt)) ]
    ] in
    elim (fronts_begin o xs ys rx.1 ry.1
    (λ z i. elim (to z (inr i)) [ inl j ↦ inl (in_tail o y x z xs (sym same) (ry.0 z i) j) | inr all ↦ inr (λ k j. all k (inr j)) ])
    (λ z i. elim (back z (inr i)) [ inl j ↦ inl (in_tail o x y z ys same (rx.0 z i) j) | inr all ↦ inr (λ k j. all k (inr j)) ])) [
      | inl h ↦ inl (h.0, ap (λ t. t ∷ ys) (sym same) ∙ ap (λ t. x ∷ t) h.1)
      | inr h ↦ inr (h.0, ap (λ t. t ∷ xs) same ∙ ap (λ t. y ∷ t) h.1)
    ]

pub fronts : {A : Type 0} {P : A → Type 0} {R : A → A → Type 0} → IsOrder R → (xs ys : List A) → IsFront P R xs → IsFront P R ys → ((more : List A) × (ys ≡ xs ++ more)) ⊎ ((more : List A) × (xs ≡ ys ++ more))
fronts o xs ys fx fy = fronts_begin o xs ys fx.rises fy.rises (λ z i. fx.first z (fy.holds z i)) (λ z i. fy.first z (fx.holds z i))

-- the second begins with the first
abbrev pub Begins : {A : Type 0} → List A → List A → Type 0
Begins {A} xs ys = (more : List A) × (ys ≡ xs ++ more)

begins_more : {A : Type 0} (front xs ys : List A) → Begins xs ys → Begins (front ++ xs) (front ++ ys)
begins_more front xs ys h = (h.0, ap (λ t. front ++ t) h.1 ∙ sym (append_assoc front xs h.0))

begins_on : {A : Type 0} (xs ys zs : List A) → Begins xs ys → Begins xs (ys ++ zs)
begins_on xs ys zs h = (h.0 ++ zs, ap (λ t. t ++ zs) h.1 ∙ append_assoc xs h.0 zs)

begins_length : {A : Type 0} (xs ys : List A) → Begins xs ys → length xs ≤ length ys
begins_length xs ys h = let e : length ys ≡ length (xs ++ h.0) = ap length h.1 in omega (arith, e, length-append xs h.0)

no_items : {A : Type 0} (xs : List A) → length xs ≡ 0 → xs ≡ []
no_items [] e = refl
no_items (x ∷ xs) e = absurd (omega (arith, e))

begins_same : {A : Type 0} (xs ys : List A) → Begins xs ys → length ys ≤ length xs → xs ≡ ys
begins_same xs ys h le =
    let e : length ys ≡ length (xs ++ h.0) = ap length h.1 in
    let none : h.0 ≡ [] = no_items h.0 (omega (arith, e, le, length-append xs h.0)) in
    sym (h.1 ∙ (ap (λ t. xs ++ t) none ∙ append-nil xs))

head_same : {A : Type 0} (x y : A) (xs ys : List A) → x ∷ xs ≡ y ∷ ys → x ≡ y
head_same x y xs ys e = cc (e)

tail_same : {A : Type 0} (x y : A) (xs ys : List A) → x ∷ xs ≡ y ∷ ys → xs ≡ ys
tail_same x y xs ys e = cc (e)

too_long : {A : Type 0} (us : List A) (a : A) (more : List A) → [] ≡ (us ++ a ∷ []) ++ more → ⊥
too_long [] a more e = cc (e)
too_long (u ∷ us) a more e = cc (e)

-- two lists with a last item each, where the one begins with the other
last_cases : {A : Type 0} (us vs : List A) (a b : A) (more : List A) → vs ++ b ∷ [] ≡ (us ++ a ∷ []) ++ more → ((us ≡ vs) × (a ≡ b)) ⊎ ((rest : List A) × (vs ≡ us ++ a ∷ rest))
last_cases [] [] a b more e = inl (refl, sym (head_same b a [] more e))
last_cases [] (v ∷ vs) a b more e = inr (vs, ap (λ x. x ∷ vs) (head_same v a (vs ++ b ∷ []) more e))
last_cases (u ∷ us) [] a b more e = absurd (too_long us a more (tail_same b u [] ((us ++ a ∷ []) ++ more) e))
last_cases (u ∷ us) (v ∷ vs) a b more e =
    let head : v ≡ u = head_same v u (vs ++ b ∷ []) ((us ++ a ∷ []) ++ more) e in
    elim (last_cases us vs a b more (tail_same v u (vs ++ b ∷ []) ((us ++ a ∷ []) ++ more) e)) [
      | inl h ↦ inl (ap (λ x. x ∷ us) (sym head) ∙ ap (λ t. v ∷ t) h.0, h.1)
      | inr h ↦ inr (h.0, ap (λ x. x ∷ vs) head ∙ ap (λ t. u ∷ t) h.1)
    ]

-- ---- what one correspondence gives is one

module _ (job : Job) (tests : ℕ) where
  pub one_entry : (corr : Corr) → HasOneEntry job corr tests
  one_entry corr p (Refuted a) (Refuted b) h k = ap (λ c. Refuted c) (same_Some a b (one_failing job p tests (Some a) (Some b) h k))
  one_entry corr p (Refuted a) (Unproved q) h k = absurd (none-some a (one_failing job p tests None (Some a) k.unfailing h))
  one_entry corr p (Refuted a) (NoOption f) h k = absurd k
  one_entry corr p (Refuted a) (Wide f) h k = absurd k
  one_entry corr p (Unproved q) (Refuted b) h k = absurd (none-some b (one_failing job p tests None (Some b) h.unfailing k))
  one_entry corr p (Unproved q) (Unproved r) h k = let e : Stuck q h.dropped ≡ Stuck r k.dropped = one-proof job p (candidates job corr p) (Stuck q h.dropped) (Stuck r k.dropped) h.stuck k.stuck in let same : q ≡ r = cc (e) in ap (λ n. Unproved n) same
  one_entry corr p (Unproved q) (NoOption f) h k = absurd k
  one_entry corr p (Unproved q) (Wide f) h k = absurd k
  one_entry corr p (NoOption f) e h k = absurd h
  one_entry corr p (Wide f) e h k = absurd h

  no_find : (corr : Corr) (p : Program) (e : Tried) (c : Certificate) → IsEntry job corr tests p e → IsFind job corr tests p c → ⊥
  no_find corr p (Refuted a) c h f = none-some a (one_failing job p tests None (Some a) f.unfailing h)
  no_find corr p (Unproved q) c h f = let e : Stuck q h.dropped ≡ Closed c = one-proof job p (candidates job corr p) (Stuck q h.dropped) (Closed c) h.stuck f.closed in cc (e)
  no_find corr p (NoOption g) c h f = h
  no_find corr p (Wide g) c h f = h

  one_find : (corr : Corr) (p : Program) (a b : Certificate) → IsFind job corr tests p a → IsFind job corr tests p b → a ≡ b
  one_find corr p a b f g = let e : Closed a ≡ Closed b = one-proof job p (candidates job corr p) (Closed a) (Closed b) f.closed g.closed in cc (e)

  entries_begin : (xs ys : List Looked) → Begins xs ys → Begins (entries_of xs) (entries_of ys)
  entries_begin xs ys h = (entries_of h.0, ap entries_of h.1 ∙ map-append (λ (l : Looked). l.entry) xs h.0)

  module _ (corr : Corr) (plan : Plan) where
    plan_first_first : (us vs : List Looked) → AreFirstLooked job corr tests plan us → AreFirstLooked job corr tests plan vs → Begins us vs ⊎ Begins vs us
    plan_first_first us vs a b = begins job corr tests plan (one_entry corr) [] us vs a b

    plan_first_whole : (us vs : List Looked) → AreFirstLooked job corr tests plan us → AreAllLooked job corr tests plan vs → Begins us vs
    plan_first_whole us vs a b = elim (plan_first_first us vs a (first_of_all job corr tests plan (one_entry corr) vs b)) [
      | inl h ↦ h
      | inr h ↦ let e = nothing_after job corr tests plan (one_entry corr) vs h.0 b (subst (AreFirstLooked job corr tests plan) h.1 a) in ([], sym (h.1 ∙ (ap (λ t. vs ++ t) e ∙ append-nil vs)) ∙ sym (append-nil us))
    ]

    -- the find is not looked at as another is
    no_further : (us : List Looked) (l : Looked) (vs : List Looked) (p : Program) (c : Certificate) → IsFoundNext job corr tests plan us p c → AreFirstLooked job corr tests plan (us ++ l ∷ vs) → ⊥
    no_further us l vs p c f a =
        let picks : l.picks ≡ f.picks = next_one plan.holes us l.picks f.picks (next_cut plan.holes us l vs a.first) f.next in
        let entry = a.entries l (in_append_right us (l ∷ vs) l (inl refl)) in
        no_find corr p l.entry c (subst (λ x. IsEntry job corr tests x l.entry) (ap (filled plan) picks ∙ sym f.is) entry) f.find

    ends : (us vs more : List Looked) (p : Program) (c : Certificate) → IsFoundNext job corr tests plan us p c → vs ≡ us ++ more → AreFirstLooked job corr tests plan vs → Begins vs us
    ends us vs [] p c f e b = ([], sym (e ∙ append-nil us) ∙ sym (append-nil vs))
    ends us vs (l ∷ more) p c f e b = absurd (no_further us l more p c f (subst (AreFirstLooked job corr tests plan) e b))

    plan_find_first : (us vs : List Looked) (p : Program) (c : Certificate) → AreFirstLooked job corr tests plan us → IsFoundNext job corr tests plan us p c → AreFirstLooked job corr tests plan vs → Begins vs us
    plan_find_first us vs p c a f b = elim (plan_first_first us vs a b) [
      | inr h ↦ h
      | inl h ↦ ends us vs h.0 p c f h.1 b
    ]

    whole_ends : (us vs more : List Looked) (p : Program) (c : Certificate) → IsFoundNext job corr tests plan us p c → AreAllLooked job corr tests plan vs → vs ≡ us ++ more → ⊥
    whole_ends us vs [] p c f b e =
        let same : vs ≡ us = e ∙ append-nil us in
        let b' = subst (AreAllLooked job corr tests plan) same b in
        f.next.new (b'.all.has f.picks f.next.holds)
    whole_ends us vs (l ∷ more) p c f b e = no_further us l more p c f (subst (AreFirstLooked job corr tests plan) e (first_of_all job corr tests plan (one_entry corr) vs b))

    elim_begins : (us vs : List Looked) (p : Program) (c : Certificate) → IsFoundNext job corr tests plan us p c → AreAllLooked job corr tests plan vs → Begins us vs → ⊥
    elim_begins us vs p c f b h = whole_ends us vs h.0 p c f b h.1

    plan_no_whole : (us vs : List Looked) (p : Program) (c : Certificate) → AreFirstLooked job corr tests plan us → IsFoundNext job corr tests plan us p c → AreAllLooked job corr tests plan vs → ⊥
    plan_no_whole us vs p c a f b = elim_begins us vs p c f b (plan_first_whole us vs a b)

    plan_find_find : (us vs : List Looked) (p q : Program) (c e : Certificate) → AreFirstLooked job corr tests plan us → AreFirstLooked job corr tests plan vs → IsFoundNext job corr tests plan us p c → IsFoundNext job corr tests plan vs q e → (us ≡ vs) × (p ≡ q) × (c ≡ e)
    plan_find_find us vs p q c e a b f g =
        let same : us ≡ vs = begins_same us vs (plan_find_first vs us q e b g a) (begins_length vs us (plan_find_first us vs p c a f b)) in
        let g' : IsFoundNext job corr tests plan us q e = subst (λ x. IsFoundNext job corr tests plan x q e) (sym same) g in
        let picks : f.picks ≡ g'.picks = next_one plan.holes us f.picks g'.picks f.next g'.next in
        let program : p ≡ q = f.is ∙ (ap (filled plan) picks ∙ sym g'.is) in
        (same, program, one_find corr q c e (subst (λ x. IsFind job corr tests x c) program f.find) g'.find)

  -- ---- the same of a correspondence

  module _ (corr : Corr) where
    made_whole_whole : (m : Made) (e f : List Tried) → AreAllMade job corr tests m e → AreAllMade job corr tests m f → e ≡ f
    made_whole_whole (made.Plan plan) e f a b = a.are ∙ (ap entries_of (one_looked job corr tests plan (one_entry corr) a.seen b.seen a.looked b.looked) ∙ sym b.are)
    made_whole_whole (made.Empty g) e f a b = a ∙ sym b
    made_whole_whole (made.Wide g) e f a b = a ∙ sym b

    pub whole_whole : (e f : List Tried) → AreAllEntries job corr tests e → AreAllEntries job corr tests f → e ≡ f
    whole_whole e f a b = made_whole_whole a.made e f a.all (subst (λ m. AreAllMade job corr tests m f) (one_made job corr b.made a.made b.is_made a.is_made) b.all)

    begins_at : (us vs : List Looked) (e f : List Tried) → e ≡ entries_of us → f ≡ entries_of vs → Begins us vs → Begins e f
    begins_at us vs e f p q h = let t = entries_begin us vs h in (t.0, q ∙ (t.1 ∙ ap (λ x. x ++ t.0) (sym p)))

    made_first_whole : (m : Made) (e f : List Tried) → AreFirstMade job corr tests m e → AreAllMade job corr tests m f → Begins e f
    made_first_whole (made.Plan plan) e f a b = begins_at a.seen b.seen e f a.are b.are (plan_first_whole corr plan a.seen b.seen a.looked b.looked)
    made_first_whole (made.Empty g) e f a b = ([], b ∙ (sym a ∙ sym (append-nil e)))
    made_first_whole (made.Wide g) e f a b = ([], b ∙ (sym a ∙ sym (append-nil e)))

    pub first_whole : (e f : List Tried) → AreFirstEntries job corr tests e → AreAllEntries job corr tests f → Begins e f
    first_whole e f a b = made_first_whole a.made e f a.first (subst (λ m. AreAllMade job corr tests m f) (one_made job corr b.made a.made b.is_made a.is_made) b.all)

    made_first_first : (m : Made) (e f : List Tried) → AreFirstMade job corr tests m e → AreFirstMade job corr tests m f → Begins e f ⊎ Begins f e
    made_first_first (made.Plan plan) e f a b = elim (plan_first_first corr plan a.seen b.seen a.looked b.looked) [
      | inl h ↦ inl (begins_at a.seen b.seen e f a.are b.are h)
      | inr h ↦ inr (begins_at b.seen a.seen f e b.are a.are h)
    ]
    made_first_first (made.Empty g) e f a b = inl ([], b ∙ (sym a ∙ sym (append-nil e)))
    made_first_first (made.Wide g) e f a b = inl ([], b ∙ (sym a ∙ sym (append-nil e)))

    pub first_first : (e f : List Tried) → AreFirstEntries job corr tests e → AreFirstEntries job corr tests f → Begins e f ⊎ Begins f e
    first_first e f a b = made_first_first a.made e f a.first (subst (λ m. AreFirstMade job corr tests m f) (one_made job corr b.made a.made b.is_made a.is_made) b.first)

    pub find_first : (e f : List Tried) (p : Program) (c : Certificate) → AreEntriesBefore job corr tests p c e → AreFirstEntries job corr tests f → Begins f e
    find_first e f p c a b =
        let b' : AreFirstOf job corr tests a.plan f = subst (λ m. AreFirstMade job corr tests m f) (one_made job corr b.made (made.Plan a.plan) b.is_made a.is_made) b.first in
        begins_at b'.seen a.found.seen f e b'.are a.found.are (plan_find_first corr a.plan a.found.seen b'.seen p c a.found.looked a.found.found b'.looked)

    pub find_whole : (e f : List Tried) (p : Program) (c : Certificate) → AreEntriesBefore job corr tests p c e → AreAllEntries job corr tests f → ⊥
    find_whole e f p c a b =
        let b' : AreAllOf job corr tests a.plan f = subst (λ m. AreAllMade job corr tests m f) (one_made job corr b.made (made.Plan a.plan) b.is_made a.is_made) b.all in
        plan_no_whole corr a.plan a.found.seen b'.seen p c a.found.looked a.found.found b'.looked

    pub find_find : (e f : List Tried) (p q : Program) (c k : Certificate) → AreEntriesBefore job corr tests p c e → AreEntriesBefore job corr tests q k f → (e ≡ f) × (p ≡ q) × (c ≡ k)
    find_find e f p q c k a b =
        let plans : made.Plan b.plan ≡ made.Plan a.plan = one_made job corr (made.Plan b.plan) (made.Plan a.plan) b.is_made a.is_made in
        let plan : b.plan ≡ a.plan = cc (plans) in
        let b' : AreBeforeFind job corr tests a.plan q k f = subst (λ x. AreBeforeFind job corr tests x q k f) plan b.found in
        let t = plan_find_find corr a.plan a.found.seen b'.seen p q c k a.found.looked b'.looked a.found.found b'.found in
        (a.found.are ∙ (ap entries_of t.0 ∙ sym b'.are), t.1, t.2)

  -- ---- correspondence after correspondence

  pub all_whole : (cs : List Corr) (e f : List Tried) → AreWhole job tests cs e → AreWhole job tests cs f → e ≡ f
  all_whole [] e f a b = a ∙ sym b
  all_whole (c ∷ cs) e f a b = a.4 ∙ (ap (λ x. x ++ a.1) (whole_whole c a.0 b.0 a.2 b.2) ∙ (ap (λ y. b.0 ++ y) (all_whole cs a.1 b.1 a.3 b.3) ∙ sym b.4))

  -- the entries of the first correspondences and of the rest
  pub split_whole : (cs ds : List Corr) (e : List Tried) → AreWhole job tests (cs ++ ds) e → (a b : List Tried) × AreWhole job tests cs a × AreWhole job tests ds b × (e ≡ a ++ b)
  split_whole [] ds e w = ([], e, refl, w, refl)
  split_whole (c ∷ cs) ds e w = let t = split_whole cs ds w.1 w.3 in (w.0 ++ t.0, t.1, (w.0, t.0, w.2, t.2, refl), t.3, w.4 ∙ (ap (λ y. w.0 ++ y) t.4 ∙ sym (append_assoc w.0 t.0 t.1)))

  -- where more correspondences were looked at, the entries begin with those of the first ones
  shorter : (us vs : List Corr) (c : Corr) (rest : List Corr) (e f last : List Tried) → vs ≡ us ++ c ∷ rest → AreWhole job tests us e → AreWhole job tests vs f → ((here : List Tried) → AreAllEntries job c tests here → Begins last here) → Begins (e ++ last) f
  shorter us vs c rest e f last is we wf ends =
      let t = split_whole us (c ∷ rest) f (subst (λ x. AreWhole job tests x f) is wf) in
      let same : t.0 ≡ e = all_whole us t.0 e t.2 we in
      let w = t.3 in
      let b = ends w.0 w.2 in
      (b.0 ++ w.1, t.4 ∙ (ap (λ x. x ++ t.1) same ∙ (ap (λ y. e ++ y) (w.4 ∙ (ap (λ h. h ++ w.1) b.1 ∙ append_assoc last b.0 w.1)) ∙ sym (append_assoc e last (b.0 ++ w.1)))))

  compare : (us vs : List Corr) (a b : Corr) → IsFront (IsCorr job) (RanksBefore job) (us ++ a ∷ []) → IsFront (IsCorr job) (RanksBefore job) (vs ++ b ∷ []) → ((us ≡ vs) × (a ≡ b)) ⊎ (((rest : List Corr) × (vs ≡ us ++ a ∷ rest)) ⊎ ((rest : List Corr) × (us ≡ vs ++ b ∷ rest)))
  compare us vs a b fa fb = elim (fronts (rank_order job) (us ++ a ∷ []) (vs ++ b ∷ []) fa fb) [
    | inl h ↦ elim (last_cases us vs a b h.0 h.1) [ inl e ↦ inl e | inr r ↦ inr (inl r) ]
    | inr h ↦ elim (last_cases vs us b a h.0 h.1) [ inl e ↦ inl (sym e.0, sym e.1) | inr r ↦ inr (inr r) ]
  ]

  -- no correspondence is taken behind enough
  no_more : (maps : ℕ) (cs more : List Corr) → AreEnough job maps cs → AreTaken job maps (cs ++ more) → more ≡ []
  no_more maps cs [] enough taken = refl
  no_more maps cs (c ∷ more) enough taken = elim enough [
    | inl many ↦ absurd (omega (arith, many, taken.few, length-append cs (c ∷ more)))
    | inr list ↦ absurd ((rank_order job).never c (rises_across (RanksBefore job) cs (c ∷ more) c c taken.first.rises (list.has c (taken.first.holds c (in_append_right cs (c ∷ more) c (inl refl)))) (inl refl)))
  ]

-- ---- the outcome

module _ (job : Job) (options : Options) where
  -- the find is in no correspondence that was looked at whole
  find_inside : (t : List Tried) (p : Program) (c : Certificate) (b : AreUpTo job options (λ corr last. AreEntriesBefore job corr options.tests p c last) t) (vs : List Corr) (f : List Tried) → AreWhole job options.tests vs f → (rest : List Corr) → vs ≡ b.before ++ b.corr ∷ rest → ⊥
  find_inside t p c b vs f w rest is =
      let parts = split_whole job options.tests b.before (b.corr ∷ rest) f (subst (λ x. AreWhole job options.tests x f) is w) in
      find_whole job options.tests b.corr b.last parts.3.0 p c b.ends parts.3.2

  spent_spent : (s t : List Tried) → AreUpTo job options (λ corr last. AreFirstEntries job corr options.tests last) s → AreUpTo job options (λ corr last. AreFirstEntries job corr options.tests last) t → Begins s t ⊎ Begins t s
  spent_spent s t a b = elim (compare job options.tests a.before b.before a.corr b.corr a.taken.first b.taken.first) [
    | inl h ↦
        let past : a.past ≡ b.past = all_whole job options.tests a.before a.past b.past a.whole (subst (λ x. AreWhole job options.tests x b.past) (sym h.0) b.whole) in
        elim (first_first job options.tests a.corr a.last b.last a.ends (subst (λ c. AreFirstEntries job c options.tests b.last) (sym h.1) b.ends)) [
          | inl k ↦ inl (subst (λ x. Begins x t) (sym a.are) (subst (λ y. Begins (a.past ++ a.last) y) (sym b.are) (subst (λ p. Begins (a.past ++ a.last) (p ++ b.last)) past (begins_more a.past a.last b.last k))))
          | inr k ↦ inr (subst (λ x. Begins x s) (sym b.are) (subst (λ y. Begins (b.past ++ b.last) y) (sym a.are) (subst (λ p. Begins (b.past ++ b.last) (p ++ a.last)) (sym past) (begins_more b.past b.last a.last k))))
        ]
    | inr more ↦ elim more [
      | inl r ↦ inl (subst (λ x. Begins x t) (sym a.are) (subst (Begins (a.past ++ a.last)) (sym b.are) (begins_on (a.past ++ a.last) b.past b.last (shorter job options.tests a.before b.before a.corr r.0 a.past b.past a.last r.1 a.whole b.whole (λ here w. first_whole job options.tests a.corr a.last here a.ends w)))))
      | inr r ↦ inr (subst (λ x. Begins x s) (sym b.are) (subst (Begins (b.past ++ b.last)) (sym a.are) (begins_on (b.past ++ b.last) a.past a.last (shorter job options.tests b.before a.before b.corr r.0 b.past a.past b.last r.1 b.whole a.whole (λ here w. first_whole job options.tests b.corr b.last here b.ends w)))))
    ]
  ]

  spent_found : (s t : List Tried) (p : Program) (c : Certificate) → AreUpTo job options (λ corr last. AreFirstEntries job corr options.tests last) s → AreUpTo job options (λ corr last. AreEntriesBefore job corr options.tests p c last) t → Begins s t
  spent_found s t p c a b = elim (compare job options.tests a.before b.before a.corr b.corr a.taken.first b.taken.first) [
    | inl h ↦
        let past : a.past ≡ b.past = all_whole job options.tests a.before a.past b.past a.whole (subst (λ x. AreWhole job options.tests x b.past) (sym h.0) b.whole) in
        let k = find_first job options.tests a.corr b.last a.last p c (subst (λ x. AreEntriesBefore job x options.tests p c b.last) (sym h.1) b.ends) a.ends in
        subst (λ x. Begins x t) (sym a.are) (subst (λ y. Begins (a.past ++ a.last) y) (sym b.are) (subst (λ q. Begins (a.past ++ a.last) (q ++ b.last)) past (begins_more a.past a.last b.last k)))
    | inr more ↦ elim more [
      | inl r ↦ subst (λ x. Begins x t) (sym a.are) (subst (Begins (a.past ++ a.last)) (sym b.are) (begins_on (a.past ++ a.last) b.past b.last (shorter job options.tests a.before b.before a.corr r.0 a.past b.past a.last r.1 a.whole b.whole (λ here w. first_whole job options.tests a.corr a.last here a.ends w))))
      | inr r ↦ absurd (find_inside t p c b a.before a.past a.whole r.0 r.1)
    ]
  ]

  found_found : (s t : List Tried) (p q : Program) (c k : Certificate) → AreUpTo job options (λ corr last. AreEntriesBefore job corr options.tests p c last) s → AreUpTo job options (λ corr last. AreEntriesBefore job corr options.tests q k last) t → (s ≡ t) × (p ≡ q) × (c ≡ k)
  found_found s t p q c k a b = elim (compare job options.tests a.before b.before a.corr b.corr a.taken.first b.taken.first) [
    | inl h ↦
        let past : a.past ≡ b.past = all_whole job options.tests a.before a.past b.past a.whole (subst (λ x. AreWhole job options.tests x b.past) (sym h.0) b.whole) in
        let e = find_find job options.tests a.corr a.last b.last p q c k a.ends (subst (λ x. AreEntriesBefore job x options.tests q k b.last) (sym h.1) b.ends) in
        (a.are ∙ (ap (λ x. x ++ a.last) past ∙ (ap (λ y. b.past ++ y) e.0 ∙ sym b.are)), e.1, e.2)
    | inr more ↦ elim more [
      | inl r ↦ absurd (find_inside s p c a b.before b.past b.whole r.0 r.1)
      | inr r ↦ absurd (find_inside t q k b a.before a.past a.whole r.0 r.1)
    ]
  ]

  -- all correspondences that are taken begin with any that are
  all_begin : (cs us : List Corr) → AreTaken job options.maps cs → AreEnough job options.maps cs → AreTaken job options.maps us → Begins us cs
  all_begin cs us taken enough other = elim (fronts (rank_order job) us cs other.first taken.first) [
    | inl h ↦ h
    | inr h ↦ let none = no_more job options.tests options.maps cs h.0 enough (subst (AreTaken job options.maps) h.1 other) in ([], sym (h.1 ∙ (ap (λ t. cs ++ t) none ∙ append-nil cs)) ∙ sym (append-nil us))
  ]

  spent_all : (s t : List Tried) → AreUpTo job options (λ corr last. AreFirstEntries job corr options.tests last) s → AreOfAll job options t → Begins s t
  spent_all s t a b =
      let h = all_begin b.corrs (a.before ++ a.corr ∷ []) b.taken b.enough a.taken in
      subst (λ x. Begins x t) (sym a.are) (shorter job options.tests a.before b.corrs a.corr h.0 a.past t a.last (h.1 ∙ append_assoc a.before (a.corr ∷ []) h.0) a.whole b.whole (λ here w. first_whole job options.tests a.corr a.last here a.ends w))

  found_all : (s t : List Tried) (p : Program) (c : Certificate) → AreUpTo job options (λ corr last. AreEntriesBefore job corr options.tests p c last) s → AreOfAll job options t → ⊥
  found_all s t p c a b =
      let h = all_begin b.corrs (a.before ++ a.corr ∷ []) b.taken b.enough a.taken in
      find_inside s p c a b.corrs t b.whole h.0 (h.1 ∙ append_assoc a.before (a.corr ∷ []) h.0)

  all_all : (s t : List Tried) → AreOfAll job options s → AreOfAll job options t → s ≡ t
  all_all s t a b =
      let h = all_begin b.corrs a.corrs b.taken b.enough a.taken in
      let none = no_more job options.tests options.maps a.corrs h.0 a.enough (subst (AreTaken job options.maps) h.1 b.taken) in
      let same : b.corrs ≡ a.corrs = h.1 ∙ (ap (λ t. a.corrs ++ t) none ∙ append-nil a.corrs) in
      all_whole job options.tests a.corrs s t a.whole (subst (λ x. AreWhole job options.tests x t) same b.whole)

  short_spent : (s t : List Tried) → length s ≡ options.budget → length t < options.budget → Begins s t → ⊥
  short_spent s t a b h = let le = begins_length s t h in omega (arith, a, b, le)

  spent_same : (s t : List Tried) → length s ≡ options.budget → length t ≡ options.budget → (s ≡ []) ⊎ AreUpTo job options (λ corr last. AreFirstEntries job corr options.tests last) s → (t ≡ []) ⊎ AreUpTo job options (λ corr last. AreFirstEntries job corr options.tests last) t → s ≡ t
  spent_same s t ls lt a b = elim a [
    | inl none ↦ let e : length s ≡ 0 = ap length none in none ∙ sym (no_items t (omega (arith, e, ls, lt)))
    | inr u ↦ elim b [
      | inl none ↦ let e : length t ≡ 0 = ap length none in no_items s (omega (arith, e, ls, lt)) ∙ sym none
      | inr v ↦ elim (spent_spent s t u v) [
        | inl h ↦ begins_same s t h (omega (arith, ls, lt))
        | inr h ↦ sym (begins_same t s h (omega (arith, ls, lt)))
      ]
    ]
  ]

  -- there is one outcome
  pub one_outcome : (a b : Outcome) → IsOutcome job options a → IsOutcome job options b → a ≡ b
  one_outcome (outcome.Spent s) (outcome.Spent t) a b = ap (λ x. outcome.Spent x) (spent_same s t a.0 b.0 a.1 b.1)
  one_outcome (outcome.Spent s) (outcome.Found p c t) a b = elim a.1 [
    | inl none ↦ let e : length s ≡ 0 = ap length none in absurd (omega (arith, e, a.0, b.0))
    | inr u ↦ absurd (short_spent s t a.0 b.0 (spent_found s t p c u b.1))
  ]
  one_outcome (outcome.Spent s) (outcome.Exhausted t) a b = elim a.1 [
    | inl none ↦ let e : length s ≡ 0 = ap length none in absurd (omega (arith, e, a.0, b.0))
    | inr u ↦ absurd (short_spent s t a.0 b.0 (spent_all s t u b.1))
  ]
  one_outcome (outcome.Found p c s) (outcome.Spent t) a b = elim b.1 [
    | inl none ↦ let e : length t ≡ 0 = ap length none in absurd (omega (arith, e, a.0, b.0))
    | inr u ↦ absurd (short_spent t s b.0 a.0 (spent_found t s p c u a.1))
  ]
  one_outcome (outcome.Found p c s) (outcome.Found q k t) a b = let e = found_found s t p q c k a.1 b.1 in ap (λ x. outcome.Found p c x) e.0 ∙ (ap (λ x. outcome.Found x c t) e.1 ∙ ap (λ x. outcome.Found q x t) e.2)
  one_outcome (outcome.Found p c s) (outcome.Exhausted t) a b = absurd (found_all s t p c a.1 b.1)
  one_outcome (outcome.Exhausted s) (outcome.Spent t) a b = elim b.1 [
    | inl none ↦ let e : length t ≡ 0 = ap length none in absurd (omega (arith, e, a.0, b.0))
    | inr u ↦ absurd (short_spent t s b.0 a.0 (spent_all t s u a.1))
  ]
  one_outcome (outcome.Exhausted s) (outcome.Found p c t) a b = absurd (found_all t s p c b.1 a.1)
  one_outcome (outcome.Exhausted s) (outcome.Exhausted t) a b = ap (λ x. outcome.Exhausted x) (all_all s t a.1 b.1)

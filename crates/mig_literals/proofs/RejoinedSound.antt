-- Two terms that differ in a literal and its complement may become the term without it.
use Rattle.std.proofs.Common.{◌≡◌, ℕ, ◌+◌, ◌-◌, ◌<◌, Bool, true, List, [], ◌∷◌, ◌++◌, take, drop, Some, refl, ap, subst, arith}
use Rattle.std.specs.Prelude.{nat_lt, slice_get}
use Rattle.std.specs.List.{list_all}
use Rattle.std.specs.Option.{option_and_then}
use Rattle.std.specs.Ordering.{is_eq}
use Rattle.std.proofs.lemmas.Bool.{and_parts, ltb-true}
use Rattle.std.proofs.lemmas.Option.{same_Some}
use Rattle.mig_schema.specs.declared.tables.Kind.{Kind}
use Rattle.mig_schema.specs.declared.values.Value.{Value}
use Rattle.mig_meaning.specs.declared.relating.Invariant.{Invariant}
use Rattle.mig_meaning.specs.Lists.{Each, total}
use Rattle.mig_meaning.proofs.Bags.{total-append}
use Rattle.mig_algebra.specs.declared.literals.Lit.{Lit}
use Rattle.mig_algebra.specs.declared.terms.Term.{Term}
use Rattle.mig_algebra.specs.Meaning.{Setting}
use Rattle.mig_algebra.specs.Orders.{term_order}
use Rattle.mig_algebra.specs.Proper.{Sides, lit_fits, lit_oriented, IsProperTerm}
use Rattle.mig_algebra.proofs.Lists.{each-drop_middle, each-all, all-each}
use Rattle.mig_algebra.proofs.Weights.{weight}
use Rattle.mig_classes.specs.Given.{has_complement}
use Rattle.mig_classes.proofs.WrittenProper.{parts-at}
use Rattle.mig_replacing.specs.Places.{others}
use Rattle.mig_replacing.specs.Replaced.{with_lits, SameAmong}
use Rattle.mig_replacing.proofs.Replacing.{same-among}
use Rattle.mig_obligations.specs.Settings.{Moment, setting_of, IsMoment}
use Rattle.mig_steps.specs.Sound.{IsSoundOnTails}
use Rattle.mig_steps.proofs.Options.{and-then, cond-then}
use Rattle.mig_literals.specs.Rejoined.{opposite, is_opposite, joined, joined_by, joined_with, rejoined}
use Rattle.mig_literals.proofs.RejoinRows.{Rejoin, rejoin-weighs}
use Rattle.mig_literals.proofs.Ties.{same-terms}

-- a step: the later term, the literal, and what it comes to
pub record Joined (n u l : ℕ) (t : Term) (later us : List Term) : Type 0 where
  pub less : n < u
  pub other : Term
  pub there : slice_get later (u - (n + 1)) ≡ Some other
  pub rejoin : Rejoin l t other (with_lits t (others t.lits l))
  pub got : slice_get t.lits l ≡ Some rejoin.lit
  pub is : joined l (u - (n + 1)) t later ≡ us

pub step-joined : (n u l : ℕ) (t : Term) (later us : List Term) → rejoined n (u ∷ (l ∷ [])) t later ≡ Some us → Joined n u l t later us
step-joined n u l t later us h =
    let k = u - (n + 1) in
    let a = cond-then (nat_lt n u) (joined_with l k t later) us h in
    let b = and-then (λ v. option_and_then (joined_by l k t later v) (slice_get t.lits l)) (slice_get later k) us a.1 in
    let c = and-then (joined_by l k t later b.0) (slice_get t.lits l) us b.2 in
    let d = cond-then (is_opposite l t b.0 c.0) (Some (joined l k t later)) us c.2 in
    let e = and_parts (has_complement c.0) (is_eq (term_order b.0 (opposite l c.0 t))) d.0 in
    let same : b.0 ≡ opposite l c.0 t = same-terms b.0 (opposite l c.0 t) e.1 in
    let parts = parts-at t.lits l c.0 c.1 in
    record {
      less = ltb-true n u a.0;
      other = b.0;
      there = b.1;
      rejoin = record {
        front = take l t.lits;
        lit = c.0;
        back = drop (l + 1) t.lits;
        here = parts.1;
        has = e.0;
        first = parts.0;
        second = ap (λ (x : Term). x.lits) same;
        vars = ap (λ (x : Term). x.vars) same;
        head = ap (λ (x : Term). x.head) same;
        is = refl;
      };
      got = c.1;
      is = same_Some (joined l k t later) us d.1;
    }

each-without : {X : Type 0} (P : X → Type 0) (xs : List X) (k : ℕ) (x : X) → slice_get xs k ≡ Some x → Each P xs → Each P (take k xs ++ drop (k + 1) xs)
each-without P xs k x g h = let parts = parts-at xs k x g in each-drop_middle P (take k xs) x (drop (k + 1) xs) (subst (Each P) parts.0 h)

all-without : {X : Type 0} (q : X → Bool) (xs : List X) (k : ℕ) (x : X) → slice_get xs k ≡ Some x → list_all q xs ≡ true → list_all q (take k xs ++ drop (k + 1) xs) ≡ true
all-without q xs k x g h = all-each q (take k xs ++ drop (k + 1) xs) (each-without (λ y. q y ≡ true) xs k x g (each-all q xs h))

pub rejoined-sound : (p : Sides) (invs : List Invariant) → IsSoundOnTails p invs rejoined
rejoined-sound p invs = record { proper = proper; bag = bag }
  where
    shorter : (kinds : List Kind) (l : ℕ) (t : Term) (x : Lit) → slice_get t.lits l ≡ Some x → IsProperTerm p kinds t → IsProperTerm p kinds (with_lits t (others t.lits l))
    shorter kinds l t x g h = record {
      vars = h.vars;
      fits = all-without (lit_fits p t.vars) t.lits l x g h.fits;
      oriented = all-without lit_oriented t.lits l x g h.oriented;
      head = h.head;
    }

    proper : (kinds : List Kind) (n : ℕ) (args : List ℕ) (t : Term) (later us : List Term) → IsProperTerm p kinds t → Each (IsProperTerm p kinds) later → rejoined n args t later ≡ Some us → Each (IsProperTerm p kinds) us
    proper kinds n [] t later us h hs g = cc
    proper kinds n (u ∷ []) t later us h hs g = cc
    proper kinds n (u ∷ (l ∷ [])) t later us h hs g =
        let j = step-joined n u l t later us g in
        subst (Each (IsProperTerm p kinds)) j.is (
          shorter kinds l t j.rejoin.lit j.got h,
          each-without (IsProperTerm p kinds) later (u - (n + 1)) j.other j.there hs,
        )
    proper kinds n (u ∷ (l ∷ (m ∷ args))) t later us h hs g = cc

    weighs : (s : Setting) (w : List Value → ℕ) (l k : ℕ) (t : Term) (later : List Term) (v : Term) → slice_get later k ≡ Some v → Rejoin l t v (with_lits t (others t.lits l)) → total (weight s w) (joined l k t later) ≡ total (weight s w) (t ∷ later)
    weighs s w l k t later v g r =
        let parts = parts-at later k v g in
        let one = rejoin-weighs s w l t v (with_lits t (others t.lits l)) r in
        omega (arith, one, total-append (weight s w) (take k later) (drop (k + 1) later), ap (total (weight s w)) parts.0, total-append (weight s w) (take k later) (v ∷ drop (k + 1) later))

    bag : (m : Moment) → IsMoment p invs m → (kinds : List Kind) (n : ℕ) (args : List ℕ) (t : Term) (later us : List Term) → IsProperTerm p kinds t → Each (IsProperTerm p kinds) later → rejoined n args t later ≡ Some us → SameAmong (setting_of p m) (t ∷ later) us
    bag m at kinds n [] t later us h hs g = cc
    bag m at kinds n (u ∷ []) t later us h hs g = cc
    bag m at kinds n (u ∷ (l ∷ [])) t later us h hs g =
        let j = step-joined n u l t later us g in
        subst (SameAmong (setting_of p m) (t ∷ later)) j.is
        (same-among (setting_of p m) (t ∷ later) (joined l (u - (n + 1)) t later) (λ w. weighs (setting_of p m) w l (u - (n + 1)) t later j.other j.there j.rejoin))
    bag m at kinds n (u ∷ (l ∷ (m' ∷ args))) t later us h hs g = cc

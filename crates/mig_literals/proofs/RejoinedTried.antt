-- All arguments are tried, in order, with which two terms may become one: the number of a literal that tells them apart is that of their first difference.
use Rattle.std.proofs.Common.{◌≡◌, inl, inr, ℕ, zero, suc, ◌+◌, ◌-◌, ◌≤◌, Bool, true, false, cond, List, [], ◌∷◌, ◌++◌, map, drop, length, Some, refl, sym, ap, ap₂, ◌∙◌, subst, arith}
use Rattle.std.specs.Prelude.{slice_get}
use Rattle.std.specs.Ordering.{is_eq}
use Rattle.mig_schema.specs.declared.programs.Op.{Op}
use Rattle.mig_schema.specs.declared.programs.Op.TheVariants.{Eq, Ne, Lt, Le, Gt, Ge}
use Rattle.mig_algebra.specs.declared.atoms.Atom.{Atom}
use Rattle.mig_algebra.specs.declared.literals.Lit.{Lit, Cmp, Other, Any'}
use Rattle.mig_algebra.specs.declared.terms.Term.{Term}
use Rattle.mig_algebra.specs.Atoms.{atom_lt}
use Rattle.mig_algebra.specs.Orders.{lit_order}
use Rattle.mig_classes.specs.Given.{has_complement, complement}
use Rattle.mig_listing.specs.Listing.{IsIn, Rises}
use Rattle.mig_listing.specs.Orders.{Less, Before}
use Rattle.mig_listing.proofs.ChosenAll.{one-rises}
use Rattle.mig_listing.proofs.Members.{in_append, in_append_left, in_append_right, in_map, from_map, from_filter}
use Rattle.mig_listing.proofs.Rising.{rises_append, rises_map, rises_filter}
use Rattle.mig_replacing.specs.Places.{others}
use Rattle.mig_replacing.specs.Replaced.{with_lits}
use Rattle.mig_steps.specs.Offering.{OffersAll}
use Rattle.mig_steps.specs.Paths.{own_path}
use Rattle.mig_steps.specs.Ways.{on_terms}
use Rattle.mig_literals.specs.Rejoined.{rejoined, is_empty, first_difference, ends_alike, joints, later_joints, rejoin_args}
use Rattle.mig_literals.proofs.RejoinRows.{Rejoin}
use Rattle.mig_literals.proofs.RejoinedSound.{step-joined}
use Rattle.mig_literals.proofs.Ties.{own-lit, other-lits}

-- ---- the literal's number

one-way : (b : Bool) (op : Op) (x y : Atom) → (op ≡ Eq → ⊥) → cond b (Cmp op y x) (Cmp op x y) ≡ Cmp Eq x y → ⊥
one-way true op x y n h = n (cc)
one-way false op x y n h = n (cc)

other-way : (b : Bool) (op : Op) (x y : Atom) → (op ≡ Ne → ⊥) → cond b (Cmp op y x) (Cmp op x y) ≡ Cmp Ne x y → ⊥
other-way true op x y n h = n (cc)
other-way false op x y n h = n (cc)

-- no literal is its own complement
never-own : (l : Lit) → has_complement l ≡ true → complement l ≡ l → ⊥
never-own (Cmp Eq a b) h e = one-way (atom_lt b a) Ne a b (λ k. cc) e
never-own (Cmp Ne a b) h e = other-way (atom_lt b a) Eq a b (λ k. cc) e
never-own (Cmp Lt a b) h e = cc
never-own (Cmp Le a b) h e = cc
never-own (Cmp Gt a b) h e = cc
never-own (Cmp Ge a b) h e = cc
never-own (Other a b) h e = cc
never-own (Any' true vars n row) h e = cc
never-own (Any' false vars n row) h e = cc

difference-at : (i : ℕ) (front back : List Lit) (l : Lit) → has_complement l ≡ true → first_difference i (front ++ (l ∷ back)) (front ++ (complement l ∷ back)) ≡ (i + length front) ∷ []
difference-at i [] back l h =
    let z : i + 0 ≡ i = omega arith in
    ap (λ (b : Bool). cond b (first_difference (i + 1) back back) (i ∷ [])) (other-lits l (complement l) (λ e. never-own l h (sym e))) ∙ ap (λ (k : ℕ). k ∷ []) (sym z)
difference-at i (x ∷ front) back l h =
    let z : (i + 1) + length front ≡ i + suc (length front) = omega arith in
    ap (λ (b : Bool). cond b (first_difference (i + 1) (front ++ (l ∷ back)) (front ++ (complement l ∷ back))) (i ∷ [])) (own-lit x)
    ∙ difference-at (i + 1) front back l h ∙ ap (λ (k : ℕ). k ∷ []) z

-- the literal of a step that joins two terms is where they first differ: no other number need be tried
pub rejoin-difference : (l : ℕ) (t u both : Term) → Rejoin l t u both → first_difference 0 t.lits u.lits ≡ l ∷ []
rejoin-difference l t u both r =
    let z : 0 + length r.front ≡ l = omega (arith, r.here) in
    ap₂ (first_difference 0) r.first r.second ∙ difference-at 0 r.front r.back r.lit r.has ∙ ap (λ (k : ℕ). k ∷ []) z

-- ---- what is tried

-- a list and itself differ nowhere
no-difference : (i : ℕ) (ls : List Lit) → first_difference i ls ls ≡ []
no-difference i [] = refl
no-difference i (l ∷ ls) = ap (λ (b : Bool). cond b (first_difference (i + 1) ls ls) (i ∷ [])) (own-lit l) ∙ no-difference (i + 1) ls

drop-front : (front : List Lit) (x : Lit) (back : List Lit) (l : ℕ) → length front ≡ l → drop (l + 1) (front ++ (x ∷ back)) ≡ back
drop-front front x back l h = ap (λ k. drop (k + 1) (front ++ (x ∷ back))) (sym h) ∙ go front
  where
    go : (xs : List Lit) → drop (length xs + 1) (xs ++ (x ∷ back)) ≡ back
    go [] = refl
    go (y ∷ ys) = let e : suc (length ys) + 1 ≡ suc (length ys + 1) = omega arith in ap (λ k. drop k (y ∷ (ys ++ (x ∷ back)))) e ∙ go ys

-- the literal of a step is the one by which the terms may be joined
joint-in : (l : ℕ) (t u both : Term) → Rejoin l t u both → IsIn l (joints t u)
joint-in l t u both r =
    from_filter (λ k. ends_alike k t.lits u.lits) (first_difference 0 t.lits u.lits) l
    (subst (IsIn l) (sym (rejoin-difference l t u both r)) (inl refl))
    (ap is_empty
    (ap₂ (λ (xs ys : List Lit). first_difference 0 (drop (l + 1) xs) (drop (l + 1) ys)) r.first r.second
    ∙ ap₂ (first_difference 0) (drop-front r.front r.lit r.back l r.here) (drop-front r.front (complement r.lit) r.back l r.here)
    ∙ no-difference 0 r.back))

joints-rise : (t u : Term) → Rises Less (joints t u)
joints-rise t u = rises_filter Less (λ l. ends_alike l t.lits u.lits) (first_difference 0 t.lits u.lits) (one 0 t.lits u.lits)
  where
    one : (i : ℕ) (ls ms : List Lit) → Rises Less (first_difference i ls ms)
    one i [] ms = tt
    one i (l ∷ ls) [] = tt
    one i (l ∷ ls) (m ∷ ms) = go (is_eq (lit_order l m)) (one (i + 1) ls ms)
      where
        go : (b : Bool) → Rises Less (first_difference (i + 1) ls ms) → Rises Less (cond b (first_difference (i + 1) ls ms) (i ∷ []))
        go true ih = ih
        go false ih = one-rises Less i

abbrev From : ℕ → List ℕ → Type 0
From u q = (j : ℕ) × (r : List ℕ) × (q ≡ j ∷ r) × (u ≤ j)

from-later : (t : Term) (u : ℕ) (vs : List Term) (q : List ℕ) → IsIn q (later_joints t u vs) → From u q
from-later t u [] q i = absurd i
from-later t u (v ∷ vs) q i = elim (in_append (map (λ l. u ∷ (l ∷ [])) (joints t v)) (later_joints t (u + 1) vs) q i) [
  | inl a ↦ let s = in_map (λ l. u ∷ (l ∷ [])) (joints t v) q a in (u, s.0 ∷ [], s.2, omega arith)
  | inr a ↦ let b = from-later t (u + 1) vs q a in (b.0, b.1, b.2, omega (arith, b.3))
]

later-rise : (t : Term) (u : ℕ) (vs : List Term) → Rises Before (later_joints t u vs)
later-rise t u [] = tt
later-rise t u (v ∷ vs) =
    rises_append (map (λ l. u ∷ (l ∷ [])) (joints t v)) (later_joints t (u + 1) vs)
    (rises_map Less Before (λ l. u ∷ (l ∷ [])) (joints t v) (joints-rise t v) (λ a b k. inr (refl, inl k)))
    (later-rise t (u + 1) vs)
    (λ x y a b.
    let s = in_map (λ l. u ∷ (l ∷ [])) (joints t v) x a in
    let d = from-later t (u + 1) vs y b in
    subst (λ w. Before w y) (sym s.2) (subst (λ w. Before (u ∷ (s.0 ∷ [])) w) (sym d.2) (inl (omega (arith, d.3)))))

later-in : (t : Term) (u k l : ℕ) (vs : List Term) (v : Term) → slice_get vs k ≡ Some v → IsIn l (joints t v) → IsIn ((u + k) ∷ (l ∷ [])) (later_joints t u vs)
later-in t u k l [] v g i = cc
later-in t u zero l (x ∷ vs) v g i =
    let e : x ≡ v = cc in
    let z : u + zero ≡ u = omega arith in
    in_append_left (map (λ m. u ∷ (m ∷ [])) (joints t x)) (later_joints t (u + 1) vs) _
    (subst (λ n. IsIn (n ∷ (l ∷ [])) (map (λ m. u ∷ (m ∷ [])) (joints t x))) (sym z) (from_map (λ m. u ∷ (m ∷ [])) (joints t x) l (subst (λ y. IsIn l (joints t y)) (sym e) i)))
later-in t u (suc k) l (x ∷ vs) v g i =
    let z : (u + 1) + k ≡ u + suc k = omega arith in
    in_append_right (map (λ m. u ∷ (m ∷ [])) (joints t x)) (later_joints t (u + 1) vs) _
    (subst (λ n. IsIn (n ∷ (l ∷ [])) (later_joints t (u + 1) vs)) z (later-in t (u + 1) k l vs v g i))

pub rejoined-offers : OffersAll (on_terms rejoined) own_path rejoin_args
rejoined-offers = record { paths_rise = λ t. one-rises Before []; path_in = at; args_rise = λ n path t later. later-rise t (n + 1) later; args_in = with }
  where
    at : (n : ℕ) (path bs : List ℕ) (t : Term) (later us : List Term) → on_terms rejoined n path bs t later ≡ Some us → IsIn path (own_path t)
    at n [] bs t later us h = inl refl
    at n (j ∷ path) bs t later us h = cc

    named : (n : ℕ) (bs : List ℕ) (t : Term) (later us : List Term) → rejoined n bs t later ≡ Some us → IsIn bs (later_joints t (n + 1) later)
    named n [] t later us h = cc
    named n (u ∷ []) t later us h = cc
    named n (u ∷ (l ∷ [])) t later us h =
        let j = step-joined n u l t later us h in
        let z : (n + 1) + (u - (n + 1)) ≡ u = omega (arith, j.less) in
        subst (λ k. IsIn (k ∷ (l ∷ [])) (later_joints t (n + 1) later)) z
        (later-in t (n + 1) (u - (n + 1)) l later j.other j.there (joint-in l t j.other (with_lits t (others t.lits l)) j.rejoin))
    named n (u ∷ (l ∷ (m ∷ bs))) t later us h = cc

    with : (n : ℕ) (path bs : List ℕ) (t : Term) (later us : List Term) → on_terms rejoined n path bs t later ≡ Some us → IsIn bs (rejoin_args n path t later)
    with n [] bs t later us h = named n bs t later us h
    with n (j ∷ path) bs t later us h = cc

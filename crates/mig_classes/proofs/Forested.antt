-- Numbers that lead to the least of their class, where a number is made to lead there faster, and where two classes become one.
use Rattle.std.proofs.Common.{◌≡◌, ◌≢◌, ℕ, ◌<◌, ◌≤◌, true, false, cond, ◌||◌, List, length, sym, ap, ap₂, ◌∙◌, arith, inl, inr, ⊎_elim, ◌⊎◌, subst}
use Rattle.std.specs.Prelude.{set}
use Rattle.std.specs.Ordering.{is_lt, ordering_reverse}
use Rattle.std.specs.declared.cmp.Ordering.TheVariants.{Less, Equal}
use Rattle.std.proofs.lemmas.Bool.{cases_Bool, cases_eq, cases_order}
use Rattle.std.proofs.lemmas.Cmp.{tied_itself}
use Rattle.std.proofs.lemmas.List.{length-set, get_or-set_same, get_or-set_other}
use Rattle.mig_algebra.specs.declared.atoms.Atom.{Atom}
use Rattle.mig_algebra.specs.Atoms.{atom_order}
use Rattle.mig_algebra.proofs.OrderLaws.{atom_total}
use Rattle.mig_classes.specs.Classes.{atom_eq, lesser, merged}
use Rattle.mig_classes.specs.Forests.{parent, IsForest, LeadsTo, RisesTo}
use Rattle.mig_classes.proofs.Classed.{atom_eq-true, merged-left, merged-right}

-- ---- a number with another parent

module _ (ps : List ℕ) (b a : ℕ) (in' : b < length ps) where
  parent-own : parent (set ps b a) b ≡ a
  parent-own = get_or-set_same ps b a 0 in'

  parent-other : (j : ℕ) → j ≢ b → parent (set ps b a) j ≡ parent ps j
  parent-other j ne = get_or-set_other ps b j a 0 ne

  -- it is not greater, so no parent is
  pub forest-set : IsForest ps → a ≤ b → IsForest (set ps b a)
  forest-set f le = record { below = λ j l. go j l (cases_eq j b) }
    where
      go : (j : ℕ) → j < length (set ps b a) → (j ≡ b) ⊎ (j ≡ b → ⊥) → parent (set ps b a) j ≤ j
      go j l (inl e) = subst (λ n. parent (set ps b a) n ≤ n) (sym e) (subst (λ n. n ≤ b) (sym parent-own) le)
      go j l (inr ne) = subst (λ n. n ≤ j) (sym (parent-other j ne)) (f.below j (subst (λ n. j < n) (length-set ps b a) l))

-- ---- a number that leads past its parent

module _ (ps : List ℕ) (at : ℕ) (f : IsForest ps) (in' : at < length ps) where
  -- the parent's parent
  abbrev pub above : ℕ
  above = parent ps (parent ps at)

  pub parent-within : parent ps at < length ps
  parent-within = omega (arith, f.below at in', in')

  -- it is not greater
  pub above-below : above ≤ parent ps at
  above-below = f.below (parent ps at) parent-within

  -- and lesser where the number is no root
  pub above-less : parent ps at ≢ at → above < at
  above-less ne = ⊎_elim (λ e. absurd (ne e)) (λ l. omega (arith, above-below, l)) (below-cases (parent ps at) at (f.below at in'))
    where
      below-cases : (m n : ℕ) → m ≤ n → (m ≡ n) ⊎ (m < n)
      below-cases m n le = ⊎_elim inl (⊎_elim inr (λ g. absurd (omega (arith, g, le)))) (cases_order m n)

  pub forest-past : IsForest (set ps at above)
  forest-past = forest-set ps at above in' f (omega (arith, above-below, f.below at in'))

  module _ (own least : ℕ → Atom) (l : LeadsTo own least ps) where
    -- it is of the same class
    pub above-same : least above ≡ least at
    above-same = l.same (parent ps at) parent-within ∙ l.same at in'

    pub leads-past : LeadsTo own least (set ps at above)
    leads-past = record { same = λ j k. same j k (cases_eq j at); roots = λ j k e. roots j k e (cases_eq j at) }
      where
        same : (j : ℕ) → j < length (set ps at above) → (j ≡ at) ⊎ (j ≡ at → ⊥) → least (parent (set ps at above) j) ≡ least j
        same j k (inl e) = ap (λ n. least (parent (set ps at above) n)) e ∙ ap least (parent-own ps at above in') ∙ above-same ∙ ap least (sym e)
        same j k (inr ne) = ap least (parent-other ps at above in' j ne) ∙ l.same j (subst (λ n. j < n) (length-set ps at above) k)

        roots : (j : ℕ) → j < length (set ps at above) → parent (set ps at above) j ≡ j → (j ≡ at) ⊎ (j ≡ at → ⊥) → least j ≡ own j
        roots j k e (inl q) =
            let high : above ≡ at = sym (parent-own ps at above in') ∙ ap (parent (set ps at above)) (sym q) ∙ e ∙ q in
            let root : parent ps at ≡ at = omega (arith, high, above-below, f.below at in') in
            subst (λ n. least n ≡ own n) (sym q) (l.roots at in' root)
        roots j k e (inr ne) = l.roots j (subst (λ n. j < n) (length-set ps at above) k) (sym (parent-other ps at above in' j ne) ∙ e)

-- ---- atoms in order

-- an atom before another is the lesser of both
lesser-before : (u v : Atom) → atom_order u v ≡ Less → lesser u v ≡ u
lesser-before u v h = ap (λ o. cond (is_lt o) v u) (atom_total.antisymm v u ∙ ap ordering_reverse h)

lesser-behind : (u v : Atom) → atom_order v u ≡ Less → lesser u v ≡ v
lesser-behind u v h = ap (λ o. cond (is_lt o) v u) h

lesser-itself : (u : Atom) → lesser u u ≡ u
lesser-itself u = ap (λ o. cond (is_lt o) u u) (tied_itself atom_total u)

-- numbers of one atom are one
pub rises-one : (n : ℕ) (own : ℕ → Atom) → RisesTo n own → (i j : ℕ) → i < n → j < n → own i ≡ own j → i ≡ j
rises-one n own r i j k l e = ⊎_elim (λ q. q) (λ h. ⊎_elim (λ m. absurd (clash i j l m e)) (λ m. absurd (clash j i k m (sym e))) h) (cases_order i j)
  where
    clash : (a b : ℕ) → b < n → a < b → own a ≡ own b → ⊥
    clash a b m lt q =
        let bad : Equal ≡ Less = sym (tied_itself atom_total (own b)) ∙ ap (λ x. atom_order x (own b)) (sym q) ∙ r.by a b lt m in cc

-- ---- two classes that become one

module _ (u v : Atom) where
  -- a least atom of either class
  merged-either : (a : Atom) → (a ≡ u) ⊎ (a ≡ v) → merged u v a ≡ lesser u v
  merged-either a (inl e) = ap (merged u v) e ∙ merged-left u v
  merged-either a (inr e) = ap (merged u v) e ∙ merged-right u v

  -- a least atom, where it is neither, or the lesser one
  merged-still : (a : Atom) → ((a ≡ u) ⊎ (a ≡ v) → a ≡ lesser u v) → merged u v a ≡ a
  merged-still a h = go (cases_Bool (atom_eq a u)) (cases_Bool (atom_eq a v))
    where
      go : (atom_eq a u ≡ true) ⊎ (atom_eq a u ≡ false) → (atom_eq a v ≡ true) ⊎ (atom_eq a v ≡ false) → merged u v a ≡ a
      go (inl t) k = let e = atom_eq-true a u t in merged-either a (inl e) ∙ sym (h (inl e))
      go (inr n) (inl t) = let e = atom_eq-true a v t in merged-either a (inr e) ∙ sym (h (inr e))
      go (inr n) (inr m) = ap₂ (λ b c. cond (b || c) (lesser u v) a) n m

module _ (ps : List ℕ) (own least : ℕ → Atom) (l : LeadsTo own least ps) (r : RisesTo (length ps) own) (u v : Atom) (a b : ℕ) (le : a ≤ b) (in' : b < length ps) (low : lesser u v ≡ own a) (ends : (u ≡ own a) × (v ≡ own b) ⊎ (u ≡ own b) × (v ≡ own a)) (la : (least a ≡ u) ⊎ (least a ≡ v)) (lb : (least b ≡ u) ⊎ (least b ≡ v)) where
  -- an atom that is one of both ends
  end : (x : Atom) → (x ≡ u) ⊎ (x ≡ v) → (x ≡ own a) ⊎ (x ≡ own b)
  end x h = go h ends
    where
      go : (x ≡ u) ⊎ (x ≡ v) → (u ≡ own a) × (v ≡ own b) ⊎ (u ≡ own b) × (v ≡ own a) → (x ≡ own a) ⊎ (x ≡ own b)
      go (inl e) (inl p) = inl (e ∙ p.0)
      go (inl e) (inr p) = inr (e ∙ p.0)
      go (inr e) (inl p) = inr (e ∙ p.1)
      go (inr e) (inr p) = inl (e ∙ p.1)

  -- the greater end leads to the lesser
  pub leads-linked : LeadsTo own (λ k. merged u v (least k)) (set ps b a)
  leads-linked = record { same = λ j k. same j k (cases_eq j b); roots = λ j k e. roots j k e (cases_eq j b) }
    where
      same : (j : ℕ) → j < length (set ps b a) → (j ≡ b) ⊎ (j ≡ b → ⊥) → merged u v (least (parent (set ps b a) j)) ≡ merged u v (least j)
      same j k (inl e) =
          ap (λ n. merged u v (least (parent (set ps b a) n))) e ∙ ap (λ n. merged u v (least n)) (parent-own ps b a in')
          ∙ merged-either u v (least a) la ∙ sym (merged-either u v (least b) lb) ∙ ap (λ n. merged u v (least n)) (sym e)
      same j k (inr ne) =
          ap (λ n. merged u v (least n)) (parent-other ps b a in' j ne) ∙ ap (merged u v) (l.same j (subst (λ n. j < n) (length-set ps b a) k))

      roots : (j : ℕ) → j < length (set ps b a) → parent (set ps b a) j ≡ j → (j ≡ b) ⊎ (j ≡ b → ⊥) → merged u v (least j) ≡ own j
      roots j k e (inl q) =
          let one : a ≡ b = sym (parent-own ps b a in') ∙ ap (parent (set ps b a)) (sym q) ∙ e ∙ q in
          ap (λ n. merged u v (least n)) q ∙ merged-either u v (least b) lb ∙ low ∙ ap own (one ∙ sym q)
      roots j k e (inr ne) =
          let within : j < length ps = subst (λ n. j < n) (length-set ps b a) k in
          let root = l.roots j within (sym (parent-other ps b a in' j ne) ∙ e) in
          ap (merged u v) root ∙ merged-still u v (own j) (λ h. ⊎_elim (λ p. p ∙ sym low) (λ p. absurd (ne (rises-one (length ps) own r j b within in' p))) (end (own j) h))

-- the roots of both classes, the first of them the lesser
pub united-low : (ps : List ℕ) (own least : ℕ → Atom) → LeadsTo own least ps → RisesTo (length ps) own → (u v : Atom) (a b : ℕ) → a < b → b < length ps → own a ≡ u → own b ≡ v → least a ≡ u → least b ≡ v → LeadsTo own (λ k. merged u v (least k)) (set ps b a)
united-low ps own least l r u v a b lt in' oa ob la lb =
    leads-linked ps own least l r u v a b (omega (arith, lt)) in'
    (lesser-before u v (ap₂ atom_order (sym oa) (sym ob) ∙ r.by a b lt in') ∙ sym oa)
    (inl (sym oa, sym ob)) (inl la) (inr lb)

-- or the second, or both are one
pub united-high : (ps : List ℕ) (own least : ℕ → Atom) → LeadsTo own least ps → RisesTo (length ps) own → (u v : Atom) (a b : ℕ) → b ≤ a → a < length ps → own a ≡ u → own b ≡ v → least a ≡ u → least b ≡ v → LeadsTo own (λ k. merged u v (least k)) (set ps a b)
united-high ps own least l r u v a b le in' oa ob la lb =
    leads-linked ps own least l r u v b a le in' (low (cases_order a b) ∙ sym ob) (inr (sym oa, sym ob)) (inr lb) (inl la)
  where
    low : (a ≡ b) ⊎ ((a < b) ⊎ (b < a)) → lesser u v ≡ v
    low (inl e) = ap (λ x. lesser x v) (sym oa ∙ ap own e ∙ ob) ∙ lesser-itself v
    low (inr (inl lt)) = absurd (omega (arith, lt, le))
    low (inr (inr lt)) = lesser-behind u v (ap₂ atom_order (sym ob) (sym oa) ∙ r.by b a lt in')

-- Choices of rows for variables in another order: the sum over them stays.
use Rattle.std.proofs.Common.{◌≡◌, ◌≢◌, ℕ, true, false, cond, List, [], ◌∷◌, ◌++◌, map, refl, sym, ap, ap₂, ◌∙◌, arith, inl, inr, ◌⊎◌}
use mathlib.Core.Path.{fun_ext}
use Rattle.std.specs.Prelude.{◌==◌}
use Rattle.std.proofs.lemmas.Bool.Decides.{eqb_tells}
use Rattle.std.proofs.lemmas.Bool.{ne_eqb, eq-eqb}
use Rattle.mig_meaning.specs.declared.states.Placed.{Placed}
use Rattle.mig_meaning.specs.Lists.{total, Each}
use Rattle.mig_meaning.specs.Rows.{no_row}
use Rattle.mig_algebra.specs.Meaning.{Setting, Env, choices}
use Rattle.mig_algebra.specs.Tidied.{Slot, numbers_of, vars_of}
use Rattle.mig_algebra.proofs.Sums.{total-same, total-swap}
use Rattle.mig_algebra.proofs.Products.{total-product}
use Rattle.mig_algebra.proofs.Lists.{each-left}
use Rattle.mig_algebra.proofs.Slots.{Apart}
use Rattle.mig_algebra.proofs.SlotOrders.{Reorders, each-reordered, apart-reordered}

-- rows by number, with another one at n
abbrev update : (ℕ → Placed) → ℕ → Placed → ℕ → Placed
update a n r k = cond (k == n) r (a k)

-- the sum over the rows of all slots, by number
abbrev tot : Setting → ((ℕ → Placed) → ℕ) → List Slot → (ℕ → Placed) → ℕ
tot s g [] a = g a
tot s g (p ∷ ps) a = total (λ r. tot s g ps (update a p.number r)) (s.rows p.var)

update-at : (a : ℕ → Placed) (n : ℕ) (r : Placed) → update a n r n ≡ r
update-at a n r = ap (λ b. cond b r (a n)) (eq-eqb n n refl)

update-other : (a : ℕ → Placed) (n k : ℕ) (r : Placed) → k ≢ n → update a n r k ≡ a k
update-other a n k r h = ap (λ b. cond b r (a k)) (ne_eqb k n h)

update-swap : (a : ℕ → Placed) (m n : ℕ) (q r : Placed) → n ≢ m → update (update a m q) n r ≡ update (update a n r) m q
update-swap a m n q r h = fun_ext (λ k. go k (eqb_tells k n) (eqb_tells k m))
  where
    go : (k : ℕ) → ((k == n) ≡ true) × (k ≡ n) ⊎ ((k == n) ≡ false) × (k ≢ n) → ((k == m) ≡ true) × (k ≡ m) ⊎ ((k == m) ≡ false) × (k ≢ m) → update (update a m q) n r k ≡ update (update a n r) m q k
    go k (inl x) (inl y) = absurd (h (sym x.1 ∙ y.1))
    go k (inl x) (inr y) = ap₂ (λ b c. cond b r (cond c q (a k))) x.0 y.0 ∙ sym (ap₂ (λ b c. cond c q (cond b r (a k))) x.0 y.0)
    go k (inr x) (inl y) = ap₂ (λ b c. cond b r (cond c q (a k))) x.0 y.0 ∙ sym (ap₂ (λ b c. cond c q (cond b r (a k))) x.0 y.0)
    go k (inr x) (inr y) = ap₂ (λ b c. cond b r (cond c q (a k))) x.0 y.0 ∙ sym (ap₂ (λ b c. cond c q (cond b r (a k))) x.0 y.0)

tot-swap : (s : Setting) (g : (ℕ → Placed) → ℕ) (p q : Slot) (ps : List Slot) (a : ℕ → Placed) → q.number ≢ p.number → tot s g (p ∷ (q ∷ ps)) a ≡ tot s g (q ∷ (p ∷ ps)) a
tot-swap s g p q ps a h =
    total-swap (λ x y. tot s g ps (update (update a p.number x) q.number y)) (s.rows p.var) (s.rows q.var)
    ∙ total-same _ _ (λ y. total-same _ _ (λ x. ap (tot s g ps) (update-swap a p.number q.number x y h)) (s.rows p.var)) (s.rows q.var)

tot-middle : (s : Setting) (g : (ℕ → Placed) → ℕ) (us : List Slot) (p : Slot) (vs : List Slot) (a : ℕ → Placed) → Each (λ (q : Slot). q.number ≢ p.number) us → tot s g (p ∷ (us ++ vs)) a ≡ tot s g (us ++ (p ∷ vs)) a
tot-middle s g [] p vs a h = refl
tot-middle s g (u ∷ us) p vs a h =
    tot-swap s g p u (us ++ vs) a h.0 ∙ total-same _ _ (λ r. tot-middle s g us p vs (update a u.number r) h.1) (s.rows u.var)

tot-reordered : (s : Setting) (g : (ℕ → Placed) → ℕ) (ps qs : List Slot) (a : ℕ → Placed) → Apart ps → Reorders ps qs → tot s g ps a ≡ tot s g qs a
tot-reordered s g [] qs a h r = ap (λ l. tot s g l a) (sym r)
tot-reordered s g (p ∷ ps) qs a h r =
    total-same _ _ (λ x. tot-reordered s g ps (r.0 ++ r.1) (update a p.number x) h.1 r.3) (s.rows p.var)
    ∙ tot-middle s g r.0 p r.1 a (each-left (λ (q : Slot). q.number ≢ p.number) r.0 r.1 (each-reordered (λ (q : Slot). q.number ≢ p.number) ps (r.0 ++ r.1) r.3 h.0))
    ∙ ap (λ l. tot s g l a) (sym r.2)

-- what is read at a number that no slot has
kept : (s : Setting) (h : Placed → (ℕ → Placed) → ℕ) (n : ℕ) (ps : List Slot) (a : ℕ → Placed) → Each (λ (q : Slot). q.number ≢ n) ps → tot s (λ b. h (b n) b) ps a ≡ tot s (h (a n)) ps a
kept s h n [] a e = refl
kept s h n (p ∷ ps) a e =
    total-same _ _ (λ r. kept s h n ps (update a p.number r) e.1 ∙ ap (λ x. tot s (h x) ps (update a p.number r)) (update-other a p.number n r (λ q. e.0 (sym q)))) (s.rows p.var)

-- choices as rows by number
choices-by_number : (s : Setting) (f : Env → ℕ) (ps : List Slot) (a : ℕ → Placed) → Apart ps → total f (choices s (vars_of ps)) ≡ tot s (λ b. f (map b (numbers_of ps))) ps a
choices-by_number s f [] a h = omega arith
choices-by_number s f (p ∷ ps) a h =
    total-product f (s.rows p.var) (map s.rows (vars_of ps))
    ∙ total-same _ _ (λ r.
    choices-by_number s (λ c. f (r ∷ c)) ps (update a p.number r) h.1
    ∙ ap (λ x. tot s (λ b. f (x ∷ map b (numbers_of ps))) ps (update a p.number r)) (sym (update-at a p.number r))
    ∙ sym (kept s (λ x b. f (x ∷ map b (numbers_of ps))) p.number ps (update a p.number r) h.0)) (s.rows p.var)

-- the sum over the choices for variables in another order, where f' reads of rows by number what f reads
pub choices-reordered : (s : Setting) (f f' : Env → ℕ) (ps qs : List Slot) → Apart ps → Reorders ps qs → ((a : ℕ → Placed) → f (map a (numbers_of ps)) ≡ f' (map a (numbers_of qs))) → total f (choices s (vars_of ps)) ≡ total f' (choices s (vars_of qs))
choices-reordered s f f' ps qs h r same =
    choices-by_number s f ps (λ k. no_row) h
    ∙ tot-reordered s (λ a. f (map a (numbers_of ps))) ps qs (λ k. no_row) h r
    ∙ ap (λ g. tot s g qs (λ k. no_row)) (fun_ext same)
    ∙ sym (choices-by_number s f' qs (λ k. no_row) (apart-reordered ps qs r h))

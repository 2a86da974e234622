-- A row parts its table's list, and a unique column tells it from all others: memberships as sums want them.
use Rattle.std.proofs.Common.{◌≡◌, ◌≢◌, ◌<◌, true, false, List, [], ◌∷◌, ◌++◌, refl, sym, ap, arith, inl, inr, ◌⊎◌}
use Rattle.std.proofs.lemmas.Bool.{cases_Bool}
use Rattle.mig_schema.specs.declared.tables.ColId.{ColId}
use Rattle.mig_meaning.specs.declared.states.Placed.{Placed}
use Rattle.mig_meaning.specs.declared.states.State.{State}
use Rattle.mig_meaning.specs.Lists.{Each, In}
use Rattle.mig_meaning.specs.Values.{value_eq}
use Rattle.mig_meaning.specs.Rows.{rows_of, value_at}
use Rattle.mig_meaning.specs.Holds.{IsUnique}
use Rattle.mig_meaning.specs.States.{Rising}
use Rattle.mig_meaning.proofs.Within.{each-weaker}
use Rattle.mig_meaning.proofs.StateLaw.{each-in}

-- the rows before and after p, all with other ids
pub parted : (rows : List Placed) (p : Placed) → Rising rows → In p rows → (us : List Placed) × (vs : List Placed) × (rows ≡ us ++ (p ∷ vs)) × Each (λ (q : Placed). q.id ≢ p.id) us × Each (λ (q : Placed). q.id ≢ p.id) vs
parted [] p r h = absurd h
parted (x ∷ xs) p r (inl e) = ([], xs, ap (λ y. y ∷ xs) (sym e), tt, each-weaker (λ (q : Placed). x.id < q.id) (λ (q : Placed). q.id ≢ p.id) (λ (q : Placed) l k. omega (arith, l, k, ap (λ (y : Placed). y.id) e)) xs r.0)
parted (x ∷ xs) p r (inr h) =
    let k = parted xs p r.1 h in
    let l = each-in (λ (q : Placed). x.id < q.id) p xs r.0 h in
    (x ∷ k.0, k.1, ap (λ ys. x ∷ ys) k.2, (λ e. omega (arith, l, e), k.3), k.4)

-- rows with other ids have other values in a unique column
pub others-differ : (s : State) (c : ColId) → IsUnique s c → (p : Placed) → In p (rows_of s c.table) → (qs : List Placed) → ((q : Placed) → In q qs → In q (rows_of s c.table)) → Each (λ (q : Placed). q.id ≢ p.id) qs → Each (λ (q : Placed). value_eq (value_at p c.column) (value_at q c.column) ≡ false) qs
others-differ s c u p h [] sub a = tt
others-differ s c u p h (q ∷ qs) sub a = (one (cases_Bool (value_eq (value_at p c.column) (value_at q c.column))), others-differ s c u p h qs (λ r k. sub r (inr k)) a.1)
  where
    one : (value_eq (value_at p c.column) (value_at q c.column) ≡ true) ⊎ (value_eq (value_at p c.column) (value_at q c.column) ≡ false) → value_eq (value_at p c.column) (value_at q c.column) ≡ false
    one (inl t) = absurd (a.0 (sym (u p q h (sub q (inl refl)) t)))
    one (inr n) = n

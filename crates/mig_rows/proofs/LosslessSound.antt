-- A variable of a term that one equality alone names may go where exactly one row meets it; what is tried for the rule has all that it allows.
use Rattle.std.proofs.Common.{◌≡◌, ◌≢◌, ℕ, ◌+◌, true, not, ◌&&◌, List, [], ◌∷◌, Some, length, refl, sym, subst, ap, ap₂, ◌∙◌, arith}
use Rattle.std.specs.Prelude.{◌==◌, slice_get}
use Rattle.std.specs.List.{list_all}
use Rattle.std.specs.Option.{option_and_then}
use Rattle.std.proofs.lemmas.Bool.{and_parts, and_from, not-true, eqb-false, eqb-true}
use Rattle.std.proofs.lemmas.Option.{same_Some}
use Rattle.mig_schema.specs.declared.faults.Side.{Side}
use Rattle.mig_schema.specs.declared.tables.ColId.{ColId}
use Rattle.mig_schema.specs.Columns.{same_col}
use Rattle.mig_meaning.specs.declared.relating.Invariant.{Invariant}
use Rattle.mig_meaning.specs.declared.relating.Invariant.TheVariants.{Views, Unique, Apart, Within}
use Rattle.mig_meaning.specs.Lists.{Each}
use Rattle.mig_algebra.specs.declared.terms.Term.{Term}
use Rattle.mig_algebra.specs.Proper.{Sides, same_side, IsProperTerm}
use Rattle.mig_listing.specs.Listing.{IsIn}
use Rattle.mig_listing.proofs.ChosenAll.{chosen-rises, chosen-has}
use Rattle.mig_replacing.specs.Replaced.{SameAmong}
use Rattle.mig_obligations.specs.Settings.{setting_of}
use Rattle.mig_steps.specs.Offering.{OffersAlone}
use Rattle.mig_steps.specs.Paths.{own_path}
use Rattle.mig_steps.specs.Sound.{IsSoundOnTerms}
use Rattle.mig_steps.specs.Ways.{on_term}
use Rattle.mig_steps.proofs.OfferedPaths.{own-with}
use Rattle.mig_steps.proofs.Options.{and-then, cond-then, get-within}
use Rattle.mig_rows.specs.Lossless.{term_left, is_partner, lossless_at, is_unique, lossless_by, lossless, ties, tells_rows, may_lose, lossless_args}
use Rattle.mig_rows.specs.Naming.{names_once}
use Rattle.mig_rows.specs.Ranging.{is_row, are_rows}
use Rattle.mig_rows.specs.Writing.{avoids}
use Rattle.mig_rows.proofs.Held.{distinct-held, within-held}
use Rattle.mig_rows.proofs.LosslessFits.{lossless-proper}
use Rattle.mig_rows.proofs.LosslessKeeps.{lossless-keeps}
use Rattle.mig_rows.proofs.NamedOnce.{named-once}
use Rattle.mig_rows.proofs.RowsBefore.{one-side, ranges, row-found, rows-parts, row-within, row-start}

-- what the rule asks of two invariants, and what it gives
pub record Loses (z y : ℕ) (t : Term) (us : List Term) (i other : Invariant) : Type 0 where
  pub side : Side
  pub left : ColId
  pub right : ColId
  pub is : i ≡ Within side left right
  pub tells : other ≡ Unique side right
  pub first : is_row side right.table (slice_get t.vars z) ≡ true
  pub second : is_row side left.table (slice_get t.vars y) ≡ true
  pub two : y ≢ z
  pub head : list_all (avoids z) t.head ≡ true
  pub once : names_once [] z right.column y left.column t.lits ≡ true
  pub made : term_left z t ∷ [] ≡ us

one-col : (c d : ColId) → same_col c d ≡ true → c ≡ d
one-col c d h =
    let k = and_parts (c.table == d.table) (c.column == d.column) h in
    ap₂ (λ (t n : ℕ). record { table = t; column = n }) (eqb-true c.table d.table k.0) (eqb-true c.column d.column k.1)

unique-is : (side : Side) (d : ColId) (i : Invariant) → is_unique side d i ≡ true → i ≡ Unique side d
unique-is side d (Views source target) h = cc
unique-is side d (Apart side' e f) h = cc
unique-is side d (Within side' e f) h = cc
unique-is side d (Unique side' e) h =
    let k = and_parts (same_side side' side) (same_col e d) h in
    ap₂ Unique (one-side side' side k.0) (one-col e d k.1)

loses-of : (z y : ℕ) (t : Term) (us : List Term) (i other : Invariant) → lossless_by z y t i other ≡ Some us → Loses z y t us i other
loses-of z y t us (Views source target) other g = cc
loses-of z y t us (Unique side c) other g = cc
loses-of z y t us (Apart side c d) other g = cc
loses-of z y t us (Within side c d) other g =
    let o = cond-then (is_unique side d other) (lossless_at side c d z y t) us g in
    let k = cond-then (are_rows side d c z y t.vars && is_partner z y d.column c.column t) (Some (term_left z t ∷ [])) us o.1 in
    let a = and_parts (are_rows side d c z y t.vars) (is_partner z y d.column c.column t) k.0 in
    let r = rows-parts side d c z y t.vars a.0 in
    let b = and_parts (not (y == z)) (list_all (avoids z) t.head && names_once [] z d.column y c.column t.lits) a.1 in
    let e = and_parts (list_all (avoids z) t.head) (names_once [] z d.column y c.column t.lits) b.1 in
    record {
      side = side;
      left = c;
      right = d;
      is = refl;
      tells = unique-is side d other o.0;
      first = r.0;
      second = r.1;
      two = eqb-false y z (not-true (y == z) b.0);
      head = e.0;
      once = e.1;
      made = same_Some (term_left z t ∷ []) us k.1;
    }

-- by arguments
pub record LosesBy (invs : List Invariant) (args : List ℕ) (t : Term) (us : List Term) : Type 0 where
  pub z : ℕ
  pub y : ℕ
  pub k : ℕ
  pub m : ℕ
  pub invariant : Invariant
  pub other : Invariant
  pub args-are : args ≡ z ∷ (y ∷ (k ∷ (m ∷ [])))
  pub there : slice_get invs k ≡ Some invariant
  pub also : slice_get invs m ≡ Some other
  pub loses : Loses z y t us invariant other

loses-by : (invs : List Invariant) (args : List ℕ) (t : Term) (us : List Term) → lossless invs args t ≡ Some us → LosesBy invs args t us
loses-by invs [] t us g = cc
loses-by invs (z ∷ []) t us g = cc
loses-by invs (z ∷ (y ∷ [])) t us g = cc
loses-by invs (z ∷ (y ∷ (k ∷ []))) t us g = cc
loses-by invs (z ∷ (y ∷ (k ∷ (m ∷ (n ∷ args))))) t us g = cc
loses-by invs (z ∷ (y ∷ (k ∷ (m ∷ [])))) t us g =
    let a = and-then (λ inv. option_and_then (lossless_by z y t inv) (slice_get invs m)) (slice_get invs k) us g in
    let b = and-then (lossless_by z y t a.0) (slice_get invs m) us a.2 in
    record { z = z; y = y; k = k; m = m; invariant = a.0; other = b.0; args-are = refl; there = a.1; also = b.1; loses = loses-of z y t us a.0 b.0 b.2 }

-- ---- the rule

pub lossless-sound : (p : Sides) (invs : List Invariant) → IsSoundOnTerms p invs (lossless invs)
lossless-sound p invs = record {
  proper = λ kinds t args us h g.
      let b = loses-by invs args t us g in
      let q = b.loses in
      let v = row-found q.side q.right.table (slice_get t.vars b.z) q.first in
      let once = named-once [] b.z q.right.column b.y q.left.column t.lits q.once in
      subst (Each (IsProperTerm p kinds)) q.made (lossless-proper p kinds t b.z v.0 v.1 (ranges q.side q.right.table v.0 v.2).2 once.left q.head h, tt);
  bag = λ m at kinds t args us h g.
      let b = loses-by invs args t us g in
      let q = b.loses in
      let v = row-found q.side q.right.table (slice_get t.vars b.z) q.first in
      let u = row-found q.side q.left.table (slice_get t.vars b.y) q.second in
      let once = named-once [] b.z q.right.column b.y q.left.column t.lits q.once in
      subst (SameAmong (setting_of p m) (t ∷ [])) q.made
      (lossless-keeps (setting_of p m) t b.z q.right.column b.y q.left.column v.0 u.0 v.1 u.1 q.two once q.head
      (within-held p invs m at b.k q.side q.left q.right (b.there ∙ ap Some q.is) u.0 v.0 u.2 v.2)
      (distinct-held p invs m at b.m q.side q.right (b.also ∙ ap Some q.tells) v.0 v.2));
}

-- ---- what is tried

pub lossless-offered : (invs : List Invariant) → OffersAlone (on_term (lossless invs)) own_path (λ path t. lossless_args invs t)
lossless-offered invs = own-with (lossless invs) (lossless_args invs) (λ t. chosen-rises (may_lose invs t.vars) (length invs + length t.vars) 4 []) has
  where
    has : (t : Term) (bs : List ℕ) (us : List Term) → lossless invs bs t ≡ Some us → IsIn bs (lossless_args invs t)
    has t bs us g =
        let b = loses-by invs bs t us g in
        let q = b.loses in
        let vz = row-within q.side q.right.table t.vars b.z q.first in
        let vy = row-within q.side q.left.table t.vars b.y q.second in
        let nk = get-within invs b.k b.invariant b.there in
        let nm = get-within invs b.m b.other b.also in
        subst (λ l. IsIn l (lossless_args invs t)) (sym b.args-are)
        (chosen-has (may_lose invs t.vars) (length invs + length t.vars) 4 [] (b.z ∷ (b.y ∷ (b.k ∷ (b.m ∷ [])))) refl (
          omega (arith, vz),
          row-start q.side q.right.table (slice_get t.vars b.z) q.first,
          (
            omega (arith, vy),
            row-start q.side q.left.table (slice_get t.vars b.y) q.second,
            (
              omega (arith, nk),
              ap (ties b.z b.y t.vars) (b.there ∙ ap Some q.is) ∙ and_from (is_row q.side q.right.table (slice_get t.vars b.z)) (is_row q.side q.left.table (slice_get t.vars b.y)) q.first q.second,
              (omega (arith, nm), ap tells_rows (b.also ∙ ap Some q.tells), tt),
            ),
          ),
        ))

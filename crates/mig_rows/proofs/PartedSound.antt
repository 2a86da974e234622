-- A term that equates two columns that are apart has no rows; what is tried for the rule has all that it allows.
use Rattle.std.proofs.Common.{◌≡◌, ℕ, ◌+◌, true, false, List, [], ◌∷◌, Some, length, refl, sym, subst, ap, ◌∙◌, arith}
use Rattle.std.specs.Prelude.{slice_get}
use Rattle.std.proofs.lemmas.Bool.{and_parts, and_from, false_from_ne_true}
use Rattle.std.proofs.lemmas.Option.{same_Some}
use Rattle.mig_schema.specs.declared.values.Value.{Value}
use Rattle.mig_schema.specs.declared.faults.Side.{Side}
use Rattle.mig_schema.specs.declared.tables.ColId.{ColId}
use Rattle.mig_meaning.specs.declared.relating.Invariant.{Invariant}
use Rattle.mig_meaning.specs.declared.relating.Invariant.TheVariants.{Views, Unique, Apart, Within}
use Rattle.mig_meaning.specs.Lists.{Each, In, total}
use Rattle.mig_meaning.specs.Rows.{value_at}
use Rattle.mig_meaning.specs.Values.{value_eq}
use Rattle.mig_meaning.proofs.Bags.{value_eq-refl}
use Rattle.mig_algebra.specs.declared.atoms.Atom.TheVariants.{Col}
use Rattle.mig_algebra.specs.declared.terms.Term.{Term}
use Rattle.mig_algebra.specs.Meaning.{Setting, Env, row_at, choices, lits_true, head_of}
use Rattle.mig_algebra.specs.Proper.{Sides, IsProperTerm}
use Rattle.mig_algebra.proofs.Sums.{when, total-none}
use Rattle.mig_algebra.proofs.Weights.{weight}
use Rattle.mig_classes.specs.Classes.{one_class}
use Rattle.mig_classes.proofs.Classed.{one_class-value}
use Rattle.mig_listing.specs.Listing.{IsIn}
use Rattle.mig_listing.proofs.ChosenAll.{chosen-rises, chosen-has}
use Rattle.mig_replacing.specs.Replaced.{SameAmong}
use Rattle.mig_replacing.proofs.Reached.{each-from}
use Rattle.mig_replacing.proofs.Replacing.{same-among}
use Rattle.mig_obligations.specs.Settings.{Moment, setting_of, IsMoment}
use Rattle.mig_steps.specs.Offering.{OffersAlone}
use Rattle.mig_steps.specs.Paths.{own_path}
use Rattle.mig_steps.specs.Sound.{IsSoundOnTerms}
use Rattle.mig_steps.specs.Ways.{on_term}
use Rattle.mig_steps.proofs.OfferedPaths.{own-with}
use Rattle.mig_steps.proofs.Options.{and-then, cond-then, get-within}
use Rattle.mig_rows.specs.Parted.{equates, parted_by, parted, parts, may_part, apart_args}
use Rattle.mig_rows.specs.Ranging.{is_row, are_rows}
use Rattle.mig_rows.proofs.Held.{row-held, apart-held}
use Rattle.mig_rows.proofs.RowsBefore.{rows-parts, row-within, row-start}

-- a term that is true at no choice goes
term-goes : (s : Setting) (t : Term) → ((c : Env) → In c (choices s t.vars) → lits_true s c t.lits ≡ false) → SameAmong s (t ∷ []) []
term-goes s t never = same-among s (t ∷ []) [] (λ w. none w)
  where
    none : (w : List Value → ℕ) → 0 ≡ total (weight s w) (t ∷ [])
    none w =
        let zero-sum : weight s w t ≡ 0 = total-none (λ c. when (lits_true s c t.lits) (w (head_of s t.head c))) (choices s t.vars) (each-from _ (choices s t.vars) (λ c i. ap (λ b. when b (w (head_of s t.head c))) (never c i))) in
        omega (arith, zero-sum)

-- ---- the rule, by an invariant

-- what it asks, and what it gives
pub record Parts (x y : ℕ) (t : Term) (us : List Term) (i : Invariant) : Type 0 where
  pub side : Side
  pub left : ColId
  pub right : ColId
  pub is : i ≡ Apart side left right
  pub first : is_row side left.table (slice_get t.vars x) ≡ true
  pub second : is_row side right.table (slice_get t.vars y) ≡ true
  pub class : one_class t.lits (Col x left.column) (Col y right.column) ≡ true
  pub gone : [] ≡ us

parts-of : (x y : ℕ) (t : Term) (us : List Term) (i : Invariant) → parted_by x y t i ≡ Some us → Parts x y t us i
parts-of x y t us (Views source target) g = cc
parts-of x y t us (Unique side c) g = cc
parts-of x y t us (Within side c d) g = cc
parts-of x y t us (Apart side c d) g =
    let k = cond-then (equates side c d x y t) (Some []) us g in
    let a = and_parts (are_rows side c d x y t.vars) (one_class t.lits (Col x c.column) (Col y d.column)) k.0 in
    let b = rows-parts side c d x y t.vars a.0 in
    record { side = side; left = c; right = d; is = refl; first = b.0; second = b.1; class = a.1; gone = same_Some [] us k.1 }

-- by arguments
pub record PartsBy (invs : List Invariant) (args : List ℕ) (t : Term) (us : List Term) : Type 0 where
  pub x : ℕ
  pub y : ℕ
  pub k : ℕ
  pub invariant : Invariant
  pub args-are : args ≡ x ∷ (y ∷ (k ∷ []))
  pub there : slice_get invs k ≡ Some invariant
  pub parts : Parts x y t us invariant

parts-by : (invs : List Invariant) (args : List ℕ) (t : Term) (us : List Term) → parted invs args t ≡ Some us → PartsBy invs args t us
parts-by invs [] t us g = cc
parts-by invs (x ∷ []) t us g = cc
parts-by invs (x ∷ (y ∷ [])) t us g = cc
parts-by invs (x ∷ (y ∷ (k ∷ []))) t us g =
    let a = and-then (parted_by x y t) (slice_get invs k) us g in
    record { x = x; y = y; k = k; invariant = a.0; args-are = refl; there = a.1; parts = parts-of x y t us a.0 a.2 }
parts-by invs (x ∷ (y ∷ (k ∷ (m ∷ args)))) t us g = cc

module _ (p : Sides) (invs : List Invariant) where
  -- the two rows would have one value
  never-true : (m : Moment) → IsMoment p invs m → (t : Term) (x y k : ℕ) (side : Side) (c d : ColId) → slice_get invs k ≡ Some (Apart side c d) → is_row side c.table (slice_get t.vars x) ≡ true → is_row side d.table (slice_get t.vars y) ≡ true → one_class t.lits (Col x c.column) (Col y d.column) ≡ true → (e : Env) → In e (choices (setting_of p m) t.vars) → lits_true (setting_of p m) e t.lits ≡ false
  never-true m at t x y k side c d there first second class e i =
      false_from_ne_true (lits_true (setting_of p m) e t.lits) (λ u.
      let equal = one_class-value (setting_of p m) e t.lits (Col x c.column) (Col y d.column) u class in
      let apart : value_eq (value_at (row_at e x) c.column) (value_at (row_at e y) d.column) ≡ false = apart-held p invs m at k side c d there (row_at e x) (row_at e y) (row-held p invs m at side c.table t.vars e x i first) (row-held p invs m at side d.table t.vars e y i second) in
      let yes : value_eq (value_at (row_at e x) c.column) (value_at (row_at e y) d.column) ≡ true = ap (λ v. value_eq v (value_at (row_at e y) d.column)) equal ∙ value_eq-refl (value_at (row_at e y) d.column) in
      cc)

  pub parted-sound : IsSoundOnTerms p invs (parted invs)
  parted-sound = record {
    proper = λ kinds t args us h g. subst (Each (IsProperTerm p kinds)) (parts-by invs args t us g).parts.gone tt;
    bag = λ m at kinds t args us h g.
        let b = parts-by invs args t us g in
        let q = b.parts in
        subst (SameAmong (setting_of p m) (t ∷ [])) q.gone
        (term-goes (setting_of p m) t (never-true m at t b.x b.y b.k q.side q.left q.right (b.there ∙ ap Some q.is) q.first q.second q.class));
  }

-- ---- what is tried

pub parted-offered : (invs : List Invariant) → OffersAlone (on_term (parted invs)) own_path (λ path t. apart_args invs t)
parted-offered invs = own-with (parted invs) (apart_args invs) (λ t. chosen-rises (may_part invs t.vars) (length invs + length t.vars) 3 []) has
  where
    may : (t : Term) (x y : ℕ) (us : List Term) (i : Invariant) → Parts x y t us i → parts t.vars x y (Some i) ≡ true
    may t x y us i q = ap (λ (j : Invariant). parts t.vars x y (Some j)) q.is ∙ and_from (is_row q.side q.left.table (slice_get t.vars x)) (is_row q.side q.right.table (slice_get t.vars y)) q.first q.second

    has : (t : Term) (bs : List ℕ) (us : List Term) → parted invs bs t ≡ Some us → IsIn bs (apart_args invs t)
    has t bs us g =
        let b = parts-by invs bs t us g in
        let q = b.parts in
        let vx = row-within q.side q.left.table t.vars b.x q.first in
        let vy = row-within q.side q.right.table t.vars b.y q.second in
        let n = get-within invs b.k b.invariant b.there in
        subst (λ l. IsIn l (apart_args invs t)) (sym b.args-are)
        (chosen-has (may_part invs t.vars) (length invs + length t.vars) 3 [] (b.x ∷ (b.y ∷ (b.k ∷ []))) refl
        (omega (arith, vx), row-start q.side q.left.table (slice_get t.vars b.x) q.first, (omega (arith, vy), row-start q.side q.right.table (slice_get t.vars b.y) q.second, (omega (arith, n), ap (parts t.vars b.x b.y) b.there ∙ may t b.x b.y us b.invariant q, tt))))

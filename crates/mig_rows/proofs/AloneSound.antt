-- A variable of a body may become one outside it whose column is unique and equal; what is tried for the rule has all that it allows.
use Rattle.std.proofs.Common.{◌≡◌, ℕ, ◌+◌, ◌-◌, ◌≤◌, Bool, true, not, ◌&&◌, List, [], ◌∷◌, ◌++◌, Option, Some, None, length, refl, sym, subst, ap, ap₂, ◌∙◌, arith}
use Rattle.std.specs.Prelude.{nat_lt, slice_get}
use Rattle.std.proofs.lemmas.Bool.{and_parts, and_from, not-true, ltb-false, le-ltb}
use Rattle.std.proofs.lemmas.Option.{same_Some}
use Rattle.mig_schema.specs.declared.faults.Side.{Side}
use Rattle.mig_schema.specs.declared.tables.ColId.{ColId}
use Rattle.mig_schema.specs.declared.tables.Kind.{Kind}
use Rattle.mig_meaning.specs.declared.relating.Invariant.{Invariant}
use Rattle.mig_meaning.specs.declared.relating.Invariant.TheVariants.{Views, Unique, Apart, Within}
use Rattle.mig_meaning.specs.Lists.{Each}
use Rattle.mig_algebra.specs.declared.atoms.Var.{Var}
use Rattle.mig_algebra.specs.declared.atoms.Atom.TheVariants.{Col}
use Rattle.mig_algebra.specs.declared.literals.Inner.{Inner}
use Rattle.mig_algebra.specs.declared.literals.Lit.{Lit, Cmp, Other, Any', items-the_row-Lit}
use Rattle.mig_algebra.specs.declared.literals.Lit.TheVariants.{Any}
use Rattle.mig_algebra.specs.declared.terms.Term.{Term}
use Rattle.mig_algebra.specs.Proper.{Sides, lit_fits, IsProperTerm}
use Rattle.mig_algebra.proofs.OrderLaws.{by_list}
use Rattle.mig_classes.specs.Classes.{one_class}
use Rattle.mig_listing.specs.Listing.{IsIn, Rises}
use Rattle.mig_listing.specs.Orders.{Before}
use Rattle.mig_listing.proofs.ChosenAll.{chosen-rises, chosen-has}
use Rattle.mig_replacing.specs.Given.{plain}
use Rattle.mig_replacing.specs.Replaced.{spread, replaced, FitIn, SameAmong}
use Rattle.mig_obligations.specs.Settings.{Moment, setting_of, IsMoment}
use Rattle.mig_steps.specs.Bodies.{is_body}
use Rattle.mig_steps.specs.Offering.{OffersAlone}
use Rattle.mig_steps.specs.Paths.{body_paths}
use Rattle.mig_steps.specs.Sound.{IsSoundAtLiterals}
use Rattle.mig_steps.specs.Spots.{Seen, spot_at}
use Rattle.mig_steps.specs.Ways.{at_literal}
use Rattle.mig_steps.proofs.FitBodies.{fits-at}
use Rattle.mig_steps.proofs.Moments.{sound-at}
use Rattle.mig_steps.proofs.Options.{and-then, cond-then, get-within}
use Rattle.mig_steps.proofs.SpotPlaces.{place-of}
use Rattle.mig_rows.specs.Alone.{is_outside, body_alone, alone_by, alone_lit, alone, tells_outside, may_be_alone, alone_in, alone_of, alone_at, alone_args}
use Rattle.mig_rows.specs.Ranging.{ranges_over, is_row, is_start}
use Rattle.mig_rows.specs.Writing.{body_into}
use Rattle.mig_rows.proofs.AloneFits.{alone-fits}
use Rattle.mig_rows.proofs.AloneKeeps.{alone-keeps}
use Rattle.mig_rows.proofs.Held.{distinct-held}
use Rattle.mig_rows.proofs.RowsBefore.{ranges, one-var, row-found, row-within, row-start}
use Rattle.mig_rows.proofs.Trying.{bodies-with, listed-rises}

-- what the rule asks of an invariant and of a body, and what it gives
pub record Unites (y x : ℕ) (s : Seen) (i : Invariant) (held : Bool) (body : Inner) (alts : List (List Lit)) : Type 0 where
  pub side : Side
  pub column : ColId
  pub is : i ≡ Unique side column
  pub bound : length s.scope ≤ y
  pub own : is_row side column.table (slice_get body.vars (y - length s.scope)) ≡ true
  pub outside : is_row side column.table (slice_get s.scope x) ≡ true
  pub class : one_class (s.around ++ plain body.lits) (Col y column.column) (Col x column.column) ≡ true
  pub made : spread held (body_into y (y - length s.scope) x body ∷ []) ≡ alts

outside-parts : (side : Side) (t y x : ℕ) (scope vars : List Var) → is_outside side t y x scope vars ≡ true → (length scope ≤ y) × (is_row side t (slice_get vars (y - length scope)) ≡ true) × (is_row side t (slice_get scope x) ≡ true)
outside-parts side t y x scope vars h =
    let a = and_parts (not (nat_lt y (length scope))) (is_row side t (slice_get vars (y - length scope)) && is_row side t (slice_get scope x)) h in
    let b = and_parts (is_row side t (slice_get vars (y - length scope))) (is_row side t (slice_get scope x)) a.1 in
    (ltb-false y (length scope) (not-true (nat_lt y (length scope)) a.0), b.0, b.1)

unites-of : (y x : ℕ) (s : Seen) (i : Invariant) (held : Bool) (body : Inner) (alts : List (List Lit)) → alone_by y x s i held body.vars body.lits ≡ Some alts → Unites y x s i held body alts
unites-of y x s (Views source target) held body alts g = cc
unites-of y x s (Apart side c d) held body alts g = cc
unites-of y x s (Within side c d) held body alts g = cc
unites-of y x s (Unique side c) held body alts g =
    let k = cond-then (is_outside side c.table y x s.scope body.vars && one_class (s.around ++ plain body.lits) (Col y c.column) (Col x c.column)) (Some (body_alone y x s.scope held body.vars body.lits)) alts g in
    let a = and_parts (is_outside side c.table y x s.scope body.vars) (one_class (s.around ++ plain body.lits) (Col y c.column) (Col x c.column)) k.0 in
    let b = outside-parts side c.table y x s.scope body.vars a.0 in
    record { side = side; column = c; is = refl; bound = b.0; own = b.1; outside = b.2; class = a.1; made = same_Some (body_alone y x s.scope held body.vars body.lits) alts k.1 }

-- by arguments
pub record UnitesBy (invs : List Invariant) (args : List ℕ) (s : Seen) (alts : List (List Lit)) : Type 0 where
  pub y : ℕ
  pub x : ℕ
  pub k : ℕ
  pub invariant : Invariant
  pub held : Bool
  pub body : Inner
  pub args-are : args ≡ y ∷ (x ∷ (k ∷ []))
  pub there : slice_get invs k ≡ Some invariant
  pub lit : s.lit ≡ Any held body
  pub unites : Unites y x s invariant held body alts

unites-by : (invs : List Invariant) (args : List ℕ) (s : Seen) (alts : List (List Lit)) → alone invs args s ≡ Some alts → UnitesBy invs args s alts
unites-by invs [] s alts g = cc
unites-by invs (y ∷ []) s alts g = cc
unites-by invs (y ∷ (x ∷ [])) s alts g = cc
unites-by invs (y ∷ (x ∷ (k ∷ (m ∷ args)))) s alts g = cc
unites-by invs (y ∷ (x ∷ (k ∷ []))) s alts g =
    let a = and-then (alone_lit y x s s.lit) (slice_get invs k) alts g in
    at-lit a.0 a.1 s.lit refl a.2
  where
    at-lit : (i : Invariant) → slice_get invs k ≡ Some i → (l : Lit) → s.lit ≡ l → alone_lit y x s l i ≡ Some alts → UnitesBy invs (y ∷ (x ∷ (k ∷ []))) s alts
    at-lit i there (Cmp op a b) is h = cc
    at-lit i there (Other a b) is h = cc
    at-lit i there (Any' held vars n row) is h =
        record {
          y = y;
          x = x;
          k = k;
          invariant = i;
          held = held;
          body = record { vars = vars; lits = items-the_row-Lit _ row };
          args-are = refl;
          there = there;
          lit = is ∙ sym (by_list held vars n row);
          unites = unites-of y x s i held (record { vars = vars; lits = items-the_row-Lit _ row }) alts h;
        }

-- ---- the rule

-- both variables range over one table
pub record OneOutside (y x : ℕ) (scope : List Var) (body : Inner) (side : Side) (table : ℕ) : Type 0 where
  pub var : Var
  pub own : slice_get body.vars (y - length scope) ≡ Some var
  pub outside : slice_get scope x ≡ Some var
  pub over : ranges_over side table var ≡ true
  pub at : length scope + (y - length scope) ≡ y

one-outside : (y x : ℕ) (s : Seen) (i : Invariant) (held : Bool) (body : Inner) (alts : List (List Lit)) (q : Unites y x s i held body alts) → OneOutside y x s.scope body q.side q.column.table
one-outside y x s i held body alts q =
    let a = row-found q.side q.column.table (slice_get body.vars (y - length s.scope)) q.own in
    let b = row-found q.side q.column.table (slice_get s.scope x) q.outside in
    record { var = a.0; own = a.1; outside = b.1 ∙ ap Some (one-var q.side q.column.table a.0 b.0 a.2 b.2); over = a.2; at = omega (arith, q.bound) }

module _ (p : Sides) (invs : List Invariant) where
  fits : (kinds : List Kind) (t : Term) (path args : List ℕ) (s : Seen) (alts : List (List Lit)) → IsProperTerm p kinds t → spot_at t path ≡ Some s → alone invs args s ≡ Some alts → Each (FitIn p s.scope) alts
  fits kinds t path args s alts h is g =
      let b = unites-by invs args s alts g in
      let q = b.unites in
      let o = one-outside b.y b.x s b.invariant b.held b.body alts q in
      let there = place-of t path s is in
      let its : lit_fits p s.scope (Any b.held b.body) ≡ true = ap₂ (lit_fits p) (sym there.2.scope) (sym (there.2.lit ∙ b.lit)) ∙ (fits-at p kinds t path there.0 h there.1).0 in
      subst (Each (FitIn p s.scope)) q.made
      (alone-fits p s.scope b.held b.body its b.y (b.y - length s.scope) b.x o.var o.at o.own o.outside (ranges q.side q.column.table o.var o.over).2)

  bag : (m : Moment) → IsMoment p invs m → (kinds : List Kind) (t : Term) (path args : List ℕ) (s : Seen) (alts : List (List Lit)) → IsProperTerm p kinds t → spot_at t path ≡ Some s → alone invs args s ≡ Some alts → SameAmong (setting_of p m) (t ∷ []) (replaced t path alts)
  bag m at kinds t path args s alts h is g =
      let b = unites-by invs args s alts g in
      let q = b.unites in
      let o = one-outside b.y b.x s b.invariant b.held b.body alts q in
      let there = place-of t path s is in
      let place = there.0 in
      let same = there.2.scope in
      subst (λ a. SameAmong (setting_of p m) (t ∷ []) (replaced t path a)) q.made
      (alone-keeps (setting_of p m) t path place b.held b.body (sound-at p invs m at kinds t h) there.1 (there.2.lit ∙ b.lit) b.y (b.y - length s.scope) b.x q.column.column o.var
      (ap (λ (vs : List Var). length vs + (b.y - length s.scope)) same ∙ o.at) o.own (ap (λ (vs : List Var). slice_get vs b.x) same ∙ o.outside)
      (distinct-held p invs m at b.k q.side q.column (b.there ∙ ap Some q.is) o.var o.over)
      (ap (λ (ls : List Lit). one_class (ls ++ plain b.body.lits) (Col b.y q.column.column) (Col b.x q.column.column)) there.2.around ∙ q.class))

pub alone-sound : (p : Sides) (invs : List Invariant) → IsSoundAtLiterals p invs (alone invs)
alone-sound p invs = record { fits = fits p invs; bag = bag p invs }

-- ---- what is tried

pub alone-offered : (invs : List Invariant) → OffersAlone (at_literal (alone invs)) body_paths (alone_args invs)
alone-offered invs = bodies-with (alone invs) (alone_at invs) rises has
  where
    rises : (o : Option Seen) → Rises Before (alone_at invs o)
    rises None = tt
    rises (Some s) = listed-rises (λ held vars lits. alone_in invs s.scope vars) (λ held vars lits. chosen-rises (may_be_alone invs s.scope vars) (length invs + (length s.scope + length vars)) 3 []) s.lit

    in-body : (s : Seen) (held : Bool) (body : Inner) (bs : List ℕ) → s.lit ≡ Any held body → IsIn bs (alone_in invs s.scope body.vars) → IsIn bs (alone_of invs s.scope s.lit)
    in-body s held body bs is i = subst (λ l. IsIn bs (alone_of invs s.scope l)) (sym is) i

    has : (bs : List ℕ) (s : Seen) (alts : List (List Lit)) → alone invs bs s ≡ Some alts → (is_body s.lit ≡ true) × IsIn bs (alone_at invs (Some s))
    has bs s alts g =
        let b = unites-by invs bs s alts g in
        let q = b.unites in
        let vy = row-within q.side q.column.table b.body.vars (b.y - length s.scope) q.own in
        let vx = row-within q.side q.column.table s.scope b.x q.outside in
        let n = get-within invs b.k b.invariant b.there in
        let bound : not (nat_lt b.y (length s.scope)) ≡ true = ap not (le-ltb b.y (length s.scope) q.bound) in (
          ap is_body b.lit,
          subst (λ l. IsIn l (alone_of invs s.scope s.lit)) (sym b.args-are)
              (in-body s b.held b.body (b.y ∷ (b.x ∷ (b.k ∷ []))) b.lit
              (chosen-has (may_be_alone invs s.scope b.body.vars) (length invs + (length s.scope + length b.body.vars)) 3 [] (b.y ∷ (b.x ∷ (b.k ∷ []))) refl (
                omega (arith, vy, q.bound),
                and_from (not (nat_lt b.y (length s.scope))) (is_start (slice_get b.body.vars (b.y - length s.scope))) bound (row-start q.side q.column.table (slice_get b.body.vars (b.y - length s.scope)) q.own),
                (
                  omega (arith, vx),
                  row-start q.side q.column.table (slice_get s.scope b.x) q.outside,
                  (omega (arith, n), ap (tells_outside s.scope b.body.vars b.y b.x) (b.there ∙ ap Some q.is) ∙ and_from (not (nat_lt b.y (length s.scope))) (is_row q.side q.column.table (slice_get b.body.vars (b.y - length s.scope)) && is_row q.side q.column.table (slice_get s.scope b.x)) bound (and_from (is_row q.side q.column.table (slice_get b.body.vars (b.y - length s.scope))) (is_row q.side q.column.table (slice_get s.scope b.x)) q.own q.outside), tt),
                ),
              ))),
        )

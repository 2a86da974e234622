-- A variable of a body that one equality alone names may go where some row meets it in any case; what is tried for the rule has all that it allows.
use Rattle.std.proofs.Common.{◌≡◌, ℕ, ◌+◌, ◌-◌, ◌≤◌, Bool, true, false, not, ◌&&◌, List, [], ◌∷◌, ◌++◌, Option, Some, None, length, refl, sym, subst, ap, ap₂, ◌∙◌, arith, length-append}
use Rattle.std.specs.Prelude.{◌==◌, nat_lt, slice_get}
use Rattle.std.proofs.lemmas.Bool.{and_parts, and_from, not-true, eqb-false, ltb-false, le-ltb}
use Rattle.std.proofs.lemmas.Option.{same_Some}
use Rattle.mig_schema.specs.declared.faults.Side.{Side}
use Rattle.mig_schema.specs.declared.tables.ColId.{ColId}
use Rattle.mig_schema.specs.declared.tables.Kind.{Kind}
use Rattle.mig_meaning.specs.declared.relating.Invariant.{Invariant}
use Rattle.mig_meaning.specs.declared.relating.Invariant.TheVariants.{Views, Unique, Apart, Within}
use Rattle.mig_meaning.specs.Lists.{Each}
use Rattle.mig_algebra.specs.declared.atoms.Var.{Var}
use Rattle.mig_algebra.specs.declared.literals.Inner.{Inner}
use Rattle.mig_algebra.specs.declared.literals.Lit.{Lit, Cmp, Other, Any', items-the_row-Lit}
use Rattle.mig_algebra.specs.declared.literals.Lit.TheVariants.{Any}
use Rattle.mig_algebra.specs.declared.terms.Term.{Term}
use Rattle.mig_algebra.specs.Proper.{Sides, lit_fits, IsProperTerm}
use Rattle.mig_algebra.proofs.OrderLaws.{by_list}
use Rattle.mig_listing.specs.Listing.{IsIn, Rises}
use Rattle.mig_listing.specs.Orders.{Before}
use Rattle.mig_listing.proofs.ChosenAll.{chosen-rises, chosen-has}
use Rattle.mig_replacing.specs.Given.{plain_around}
use Rattle.mig_replacing.specs.Replaced.{spread, replaced, FitIn, SameAmong}
use Rattle.mig_obligations.specs.Settings.{Moment, setting_of, IsMoment}
use Rattle.mig_steps.specs.Bodies.{is_body}
use Rattle.mig_steps.specs.Offering.{OffersAlone}
use Rattle.mig_steps.specs.Paths.{body_paths}
use Rattle.mig_steps.specs.Sound.{IsSoundAtLiterals}
use Rattle.mig_steps.specs.Spots.{Seen, spot_at}
use Rattle.mig_steps.specs.Ways.{at_literal}
use Rattle.mig_steps.proofs.FitBodies.{fits-at}
use Rattle.mig_steps.proofs.Moments.{sound-at}
use Rattle.mig_steps.proofs.Options.{and-then, cond-then, get-within}
use Rattle.mig_steps.proofs.SpotPlaces.{place-of}
use Rattle.mig_rows.specs.Inside.{body_left, are_within, body_inside, inside_by, inside_lit, inside, ties_inside, may_be_inside, inside_in, inside_of, inside_at, inside_args}
use Rattle.mig_rows.specs.Naming.{names_once}
use Rattle.mig_rows.specs.Ranging.{is_row, is_start}
use Rattle.mig_rows.proofs.Held.{within-held}
use Rattle.mig_rows.proofs.InsideFits.{inside-fits}
use Rattle.mig_rows.proofs.InsideKeeps.{inside-keeps}
use Rattle.mig_rows.proofs.NamedOnce.{named-once}
use Rattle.mig_rows.proofs.RowsBefore.{ranges, row-found, row-within, row-start}
use Rattle.mig_rows.proofs.Trying.{bodies-with, listed-rises}

-- what the rule asks of an invariant and of a body, and what it gives
pub record Spares (z y : ℕ) (s : Seen) (i : Invariant) (held : Bool) (body : Inner) (alts : List (List Lit)) : Type 0 where
  pub side : Side
  pub left : ColId
  pub right : ColId
  pub is : i ≡ Within side left right
  pub bound : length s.scope ≤ z
  pub two : (y == z) ≡ false
  pub own : is_row side right.table (slice_get body.vars (z - length s.scope)) ≡ true
  pub other : is_row side left.table (slice_get (s.scope ++ body.vars) y) ≡ true
  pub once : names_once s.around z right.column y left.column body.lits ≡ true
  pub made : spread held (body_left z (z - length s.scope) body ∷ []) ≡ alts

within-parts : (side : Side) (c d : ColId) (z y : ℕ) (scope vars : List Var) → are_within side c d z y scope vars ≡ true → (length scope ≤ z) × ((y == z) ≡ false) × (is_row side d.table (slice_get vars (z - length scope)) ≡ true) × (is_row side c.table (slice_get (scope ++ vars) y) ≡ true)
within-parts side c d z y scope vars h =
    let a = and_parts (not (nat_lt z (length scope))) (not (y == z) && (is_row side d.table (slice_get vars (z - length scope)) && is_row side c.table (slice_get (scope ++ vars) y))) h in
    let b = and_parts (not (y == z)) (is_row side d.table (slice_get vars (z - length scope)) && is_row side c.table (slice_get (scope ++ vars) y)) a.1 in
    let e = and_parts (is_row side d.table (slice_get vars (z - length scope))) (is_row side c.table (slice_get (scope ++ vars) y)) b.1 in
    (ltb-false z (length scope) (not-true (nat_lt z (length scope)) a.0), not-true (y == z) b.0, e.0, e.1)

spares-of : (z y : ℕ) (s : Seen) (i : Invariant) (held : Bool) (body : Inner) (alts : List (List Lit)) → inside_by z y s i held body.vars body.lits ≡ Some alts → Spares z y s i held body alts
spares-of z y s (Views source target) held body alts g = cc
spares-of z y s (Unique side c) held body alts g = cc
spares-of z y s (Apart side c d) held body alts g = cc
spares-of z y s (Within side c d) held body alts g =
    let k = cond-then (are_within side c d z y s.scope body.vars && names_once s.around z d.column y c.column body.lits) (Some (body_inside z s.scope held body.vars body.lits)) alts g in
    let a = and_parts (are_within side c d z y s.scope body.vars) (names_once s.around z d.column y c.column body.lits) k.0 in
    let b = within-parts side c d z y s.scope body.vars a.0 in
    record { side = side; left = c; right = d; is = refl; bound = b.0; two = b.1; own = b.2; other = b.3; once = a.1; made = same_Some (body_inside z s.scope held body.vars body.lits) alts k.1 }

-- by arguments
pub record SparesBy (invs : List Invariant) (args : List ℕ) (s : Seen) (alts : List (List Lit)) : Type 0 where
  pub z : ℕ
  pub y : ℕ
  pub k : ℕ
  pub invariant : Invariant
  pub held : Bool
  pub body : Inner
  pub args-are : args ≡ z ∷ (y ∷ (k ∷ []))
  pub there : slice_get invs k ≡ Some invariant
  pub lit : s.lit ≡ Any held body
  pub spares : Spares z y s invariant held body alts

spares-by : (invs : List Invariant) (args : List ℕ) (s : Seen) (alts : List (List Lit)) → inside invs args s ≡ Some alts → SparesBy invs args s alts
spares-by invs [] s alts g = cc
spares-by invs (z ∷ []) s alts g = cc
spares-by invs (z ∷ (y ∷ [])) s alts g = cc
spares-by invs (z ∷ (y ∷ (k ∷ (m ∷ args)))) s alts g = cc
spares-by invs (z ∷ (y ∷ (k ∷ []))) s alts g =
    let a = and-then (inside_lit z y s s.lit) (slice_get invs k) alts g in
    at-lit a.0 a.1 s.lit refl a.2
  where
    at-lit : (i : Invariant) → slice_get invs k ≡ Some i → (l : Lit) → s.lit ≡ l → inside_lit z y s l i ≡ Some alts → SparesBy invs (z ∷ (y ∷ (k ∷ []))) s alts
    at-lit i there (Cmp op a b) is h = cc
    at-lit i there (Other a b) is h = cc
    at-lit i there (Any' held vars n row) is h =
        record {
          z = z;
          y = y;
          k = k;
          invariant = i;
          held = held;
          body = record { vars = vars; lits = items-the_row-Lit _ row };
          args-are = refl;
          there = there;
          lit = is ∙ sym (by_list held vars n row);
          spares = spares-of z y s i held (record { vars = vars; lits = items-the_row-Lit _ row }) alts h;
        }

-- ---- the rule

own-at : (n z : ℕ) → n ≤ z → n + (z - n) ≡ z
own-at n z h = omega (arith, h)

module _ (p : Sides) (invs : List Invariant) where
  fits : (kinds : List Kind) (t : Term) (path args : List ℕ) (s : Seen) (alts : List (List Lit)) → IsProperTerm p kinds t → spot_at t path ≡ Some s → inside invs args s ≡ Some alts → Each (FitIn p s.scope) alts
  fits kinds t path args s alts h is g =
      let b = spares-by invs args s alts g in
      let q = b.spares in
      let v = row-found q.side q.right.table (slice_get b.body.vars (b.z - length s.scope)) q.own in
      let once = named-once s.around b.z q.right.column b.y q.left.column b.body.lits q.once in
      let there = place-of t path s is in
      let its : lit_fits p s.scope (Any b.held b.body) ≡ true = ap₂ (lit_fits p) (sym there.2.scope) (sym (there.2.lit ∙ b.lit)) ∙ (fits-at p kinds t path there.0 h there.1).0 in
      subst (Each (FitIn p s.scope)) q.made
      (inside-fits p s.scope b.held b.body its b.z (b.z - length s.scope) v.0 (own-at (length s.scope) b.z q.bound) v.1 (ranges q.side q.right.table v.0 v.2).2 once.left)

  bag : (m : Moment) → IsMoment p invs m → (kinds : List Kind) (t : Term) (path args : List ℕ) (s : Seen) (alts : List (List Lit)) → IsProperTerm p kinds t → spot_at t path ≡ Some s → inside invs args s ≡ Some alts → SameAmong (setting_of p m) (t ∷ []) (replaced t path alts)
  bag m at kinds t path args s alts h is g =
      let b = spares-by invs args s alts g in
      let q = b.spares in
      let v = row-found q.side q.right.table (slice_get b.body.vars (b.z - length s.scope)) q.own in
      let u = row-found q.side q.left.table (slice_get (s.scope ++ b.body.vars) b.y) q.other in
      let there = place-of t path s is in
      let place = there.0 in
      let same = there.2.scope in
      let once = named-once (plain_around place) b.z q.right.column b.y q.left.column b.body.lits (ap (λ (ls : List Lit). names_once ls b.z q.right.column b.y q.left.column b.body.lits) there.2.around ∙ q.once) in
      subst (λ a. SameAmong (setting_of p m) (t ∷ []) (replaced t path a)) q.made
      (inside-keeps (setting_of p m) t path place b.held b.body (sound-at p invs m at kinds t h) there.1 (there.2.lit ∙ b.lit) b.z (b.z - length s.scope) q.right.column b.y q.left.column v.0 u.0
      (ap (λ (vs : List Var). length vs + (b.z - length s.scope)) same ∙ own-at (length s.scope) b.z q.bound) v.1 (ap (λ (vs : List Var). slice_get (vs ++ b.body.vars) b.y) same ∙ u.1) (eqb-false b.y b.z q.two) once
      (within-held p invs m at b.k q.side q.left q.right (b.there ∙ ap Some q.is) u.0 v.0 u.2 v.2))

pub inside-sound : (p : Sides) (invs : List Invariant) → IsSoundAtLiterals p invs (inside invs)
inside-sound p invs = record { fits = fits p invs; bag = bag p invs }

-- ---- what is tried

pub inside-offered : (invs : List Invariant) → OffersAlone (at_literal (inside invs)) body_paths (inside_args invs)
inside-offered invs = bodies-with (inside invs) (inside_at invs) rises has
  where
    rises : (o : Option Seen) → Rises Before (inside_at invs o)
    rises None = tt
    rises (Some s) = listed-rises (λ held vars lits. inside_in invs s.scope vars) (λ held vars lits. chosen-rises (may_be_inside invs s.scope vars) (length invs + (length s.scope + length vars)) 3 []) s.lit

    in-body : (s : Seen) (held : Bool) (body : Inner) (bs : List ℕ) → s.lit ≡ Any held body → IsIn bs (inside_in invs s.scope body.vars) → IsIn bs (inside_of invs s.scope s.lit)
    in-body s held body bs is i = subst (λ l. IsIn bs (inside_of invs s.scope l)) (sym is) i

    has : (bs : List ℕ) (s : Seen) (alts : List (List Lit)) → inside invs bs s ≡ Some alts → (is_body s.lit ≡ true) × IsIn bs (inside_at invs (Some s))
    has bs s alts g =
        let b = spares-by invs bs s alts g in
        let q = b.spares in
        let own = slice_get b.body.vars (b.z - length s.scope) in
        let other = slice_get (s.scope ++ b.body.vars) b.y in
        let vz = row-within q.side q.right.table b.body.vars (b.z - length s.scope) q.own in
        let vy = row-within q.side q.left.table (s.scope ++ b.body.vars) b.y q.other in
        let n = get-within invs b.k b.invariant b.there in
        let bound : not (nat_lt b.z (length s.scope)) ≡ true = ap not (le-ltb b.z (length s.scope) q.bound) in
        let two : not (b.y == b.z) ≡ true = ap not q.two in (
          ap is_body b.lit,
          subst (λ l. IsIn l (inside_of invs s.scope s.lit)) (sym b.args-are)
              (in-body s b.held b.body (b.z ∷ (b.y ∷ (b.k ∷ []))) b.lit
              (chosen-has (may_be_inside invs s.scope b.body.vars) (length invs + (length s.scope + length b.body.vars)) 3 [] (b.z ∷ (b.y ∷ (b.k ∷ []))) refl (
                omega (arith, vz, q.bound),
                and_from (not (nat_lt b.z (length s.scope))) (is_start own) bound (row-start q.side q.right.table own q.own),
                (
                  omega (arith, vy, length-append s.scope b.body.vars),
                  and_from (not (b.y == b.z)) (is_start other) two (row-start q.side q.left.table other q.other),
                  (omega (arith, n), ap (ties_inside s.scope b.body.vars b.z b.y) (b.there ∙ ap Some q.is) ∙ and_from (not (nat_lt b.z (length s.scope))) (not (b.y == b.z) && (is_row q.side q.right.table own && is_row q.side q.left.table other)) bound (and_from (not (b.y == b.z)) (is_row q.side q.right.table own && is_row q.side q.left.table other) two (and_from (is_row q.side q.right.table own) (is_row q.side q.left.table other) q.own q.other)), tt),
                ),
              ))),
        )

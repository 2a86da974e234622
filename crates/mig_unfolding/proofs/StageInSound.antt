-- The rule `stagein`: the bodies fit where the body stands, and may take its place; each variable that is unfolded is tried.
use Rattle.std.proofs.Common.{◌≡◌, ℕ, ◌+◌, ◌-◌, ◌≤◌, Bool, true, false, cond, not, List, [], ◌∷◌, ◌++◌, map, length, Option, Some, None, refl, sym, ap, ap₂, ◌∙◌, arith, inl, inr, ◌⊎◌, subst}
use Rattle.std.specs.Prelude.{nat_lt, slice_get}
use Rattle.std.specs.List.{list_all}
use Rattle.std.specs.Option.{option_map, option_and_then}
use Rattle.std.proofs.lemmas.Bool.{cases_Bool, and_parts, and_from}
use Rattle.std.proofs.lemmas.Bool.Decides.{nat_tests}
use Rattle.mig_schema.specs.declared.tables.Kind.{Kind}
use Rattle.mig_meaning.specs.declared.relating.Invariant.{Invariant}
use Rattle.mig_meaning.specs.Lists.{Each}
use Rattle.mig_algebra.specs.declared.atoms.Var.{Var}
use Rattle.mig_algebra.specs.declared.literals.Inner.{Inner}
use Rattle.mig_algebra.specs.declared.literals.Lit.{Lit, Cmp, Other, Any', items-the_row-Lit}
use Rattle.mig_algebra.specs.declared.literals.Lit.TheVariants.{Any}
use Rattle.mig_algebra.specs.declared.terms.Term.{Term}
use Rattle.mig_algebra.specs.Proper.{Sides, var_fits, lit_fits, row_fits, lit_oriented, IsProperTerm}
use Rattle.mig_algebra.proofs.OrderLaws.{by_list}
use Rattle.mig_algebra.proofs.SortedFits.{any_fits, any_oriented}
use Rattle.mig_listing.specs.Listing.{IsIn, Rises}
use Rattle.mig_listing.specs.Orders.{Before}
use Rattle.mig_listing.proofs.ChosenAll.{chosen-rises, chosen-has}
use Rattle.mig_replacing.specs.Places.{Place, place_at}
use Rattle.mig_replacing.specs.Replaced.{first_met, spread, replaced, FitIn, SameAmong}
use Rattle.mig_replacing.proofs.Replacing.{body-replaced}
use Rattle.mig_obligations.specs.Fitting.{IsFit}
use Rattle.mig_obligations.specs.Settings.{Moment, setting_of, IsMoment}
use Rattle.mig_steps.specs.Bodies.{is_body}
use Rattle.mig_steps.specs.Offering.{OffersAlone}
use Rattle.mig_steps.specs.Paths.{body_paths}
use Rattle.mig_steps.specs.Sound.{IsSoundAtLiterals}
use Rattle.mig_steps.specs.Spots.{Seen, spot_at}
use Rattle.mig_steps.specs.Ways.{at_literal}
use Rattle.mig_steps.proofs.FitBodies.{row-fit, fits-at}
use Rattle.mig_steps.proofs.OfferedPaths.{rises-from, spot-in}
use Rattle.mig_steps.proofs.Options.{and-then, map-some}
use Rattle.mig_steps.proofs.SpotPlaces.{place-of}
use Rattle.mig_unfolding.specs.Hosts.{as_body, as_host}
use Rattle.mig_unfolding.specs.Stages.{by_stage, stagein_body, stagein_lit, stagein, has_stage, may_unfold, lit_args, spot_args, stagein_args}
use Rattle.mig_unfolding.proofs.Alike.{bodies-alike}
use Rattle.mig_unfolding.proofs.ProperHosts.{IsProperHost}
use Rattle.mig_unfolding.proofs.StageSound.{unfolds-later}
use Rattle.mig_unfolding.proofs.Unfolded.{staged-proper, staged-alike}

-- ---- alternatives of bodies that fit

-- a body that fits where so many variables are in scope
abbrev BodyFits : Sides → List Var → Bool → Inner → Type 0
BodyFits p sc held b = (lit_fits p sc (Any held b) ≡ true) × (lit_oriented (Any held b) ≡ true)

unmet-fit : (p : Sides) (sc : List Var) (bs : List Inner) → Each (BodyFits p sc false) bs → FitIn p sc (map (Any false) bs)
unmet-fit p sc [] h = record { fits = refl; oriented = refl }
unmet-fit p sc (b ∷ bs) h =
    let rest = unmet-fit p sc bs h.1 in
    record { fits = and_from _ _ h.0.0 rest.fits; oriented = and_from _ _ h.0.1 rest.oriented }

last-fits : (p : Sides) (sc : List Var) (bs : List Inner) (b : Inner) → Each (BodyFits p sc false) bs → BodyFits p sc false b → Each (BodyFits p sc false) (bs ++ b ∷ [])
last-fits p sc [] b h k = (k, tt)
last-fits p sc (x ∷ xs) b h k = (h.0, last-fits p sc xs b h.1 k)

-- whether it is held says nothing of whether it fits
held-fits : (p : Sides) (sc : List Var) (held : Bool) (b : Inner) → BodyFits p sc held b → (other : Bool) → BodyFits p sc other b
held-fits p sc held b h other = (
  any_fits p sc other b.vars b.lits ∙ sym (any_fits p sc held b.vars b.lits) ∙ h.0,
  any_oriented other b.vars b.lits ∙ sym (any_oriented held b.vars b.lits) ∙ h.1,
)

firsts-fit : (p : Sides) (sc : List Var) (before bs : List Inner) → Each (BodyFits p sc false) before → Each (BodyFits p sc false) bs → Each (FitIn p sc) (first_met before bs)
firsts-fit p sc before [] h k = tt
firsts-fit p sc before (b ∷ bs) h k =
    let none = unmet-fit p sc before h in
    let own = held-fits p sc false b k.0 true in
    (record { fits = and_from _ _ own.0 none.fits; oriented = and_from _ _ own.1 none.oriented }, firsts-fit p sc (before ++ b ∷ []) bs (last-fits p sc before b h k.0) k.1)

spread-fits : (p : Sides) (sc : List Var) (held : Bool) (bs : List Inner) → Each (BodyFits p sc false) bs → Each (FitIn p sc) (spread held bs)
spread-fits p sc true bs h = firsts-fit p sc [] bs tt h
spread-fits p sc false bs h = (unmet-fit p sc bs h, tt)

-- hosts that are proper are bodies that fit
hosts-fit : (p : Sides) (sc : List Var) (hosts : List Term) → Each (IsProperHost p sc []) hosts → Each (BodyFits p sc false) (map as_body hosts)
hosts-fit p sc [] h = tt
hosts-fit p sc (t ∷ ts) h = (
  (any_fits p sc false t.vars t.lits ∙ and_from _ _ h.0.vars h.0.fits, any_oriented false t.vars t.lits ∙ h.0.oriented),
  hosts-fit p sc ts h.1,
)

-- ---- the rule

-- what a body becomes: the hosts, as bodies
staged : (p : Sides) (sc : List Var) (v : ℕ) (held : Bool) (vars : List Var) (lits : List Lit) (alts : List (List Lit)) → stagein_body p sc v held vars lits ≡ Some alts → (nat_lt v (length sc) ≡ false) × (hosts : List Term) × (by_stage p sc (v - length sc) (as_host (record { vars = vars; lits = lits })) ≡ Some hosts) × (spread held (map as_body hosts) ≡ alts)
staged p sc v held vars lits alts g = go (cases_Bool (nat_lt v (length sc)))
  where
    made : Option (List (List Lit))
    made = option_map (λ (hosts : List Term). spread held (map as_body hosts)) (by_stage p sc (v - length sc) (as_host (record { vars = vars; lits = lits })))

    go : (nat_lt v (length sc) ≡ true) ⊎ (nat_lt v (length sc) ≡ false) → (nat_lt v (length sc) ≡ false) × (hosts : List Term) × (by_stage p sc (v - length sc) (as_host (record { vars = vars; lits = lits })) ≡ Some hosts) × (spread held (map as_body hosts) ≡ alts)
    go (inl e) = let bad : None ≡ Some alts = sym (ap (λ b. cond b None made) e) ∙ g in cc
    go (inr e) =
        let k = map-some (λ (hosts : List Term). spread held (map as_body hosts)) (by_stage p sc (v - length sc) (as_host (record { vars = vars; lits = lits }))) alts (sym (ap (λ b. cond b None made) e) ∙ g) in
        (e, k.0, k.1, k.2)

module _ (p : Sides) (invs : List Invariant) (fit : IsFit p invs) where
  -- the alternatives fit where the body does
  body-fits : (sc : List Var) (v : ℕ) (l : Lit) (alts : List (List Lit)) → lit_fits p sc l ≡ true → lit_oriented l ≡ true → stagein_lit p sc v l ≡ Some alts → Each (FitIn p sc) alts
  body-fits sc v (Cmp op a b) alts f o g = cc
  body-fits sc v (Other a b) alts f o g = cc
  body-fits sc v (Any' held vars n row) alts f o g =
      let k = staged p sc v held vars (items-the_row-Lit _ row) alts g in
      let parts = and_parts (list_all (var_fits p) vars) (row_fits p (sc ++ vars) row) f in
      let own = row-fit p (sc ++ vars) row parts.1 o in
      let host : IsProperHost p sc [] (as_host (record { vars = vars; lits = items-the_row-Lit _ row })) = record { vars = parts.0; fits = own.fits; oriented = own.oriented; head = refl } in
      subst (Each (FitIn p sc)) k.3 (spread-fits p sc held (map as_body k.1) (hosts-fit p sc k.1 (staged-proper p invs fit sc [] (as_host (record { vars = vars; lits = items-the_row-Lit _ row })) (v - length sc) k.1 host k.2)))

  -- they may take its place
  body-kept : (m : Moment) → IsMoment p invs m → (t : Term) (path : List ℕ) (place : Place) (v : ℕ) (l : Lit) (alts : List (List Lit)) → place_at t path ≡ Some place → place.lit ≡ l → lit_fits p place.scope l ≡ true → stagein_lit p place.scope v l ≡ Some alts → SameAmong (setting_of p m) (t ∷ []) (replaced t path alts)
  body-kept m at t path place v (Cmp op a b) alts is its f g = cc
  body-kept m at t path place v (Other a b) alts is its f g = cc
  body-kept m at t path place v (Any' held vars n row) alts is its f g =
      let s = setting_of p m in
      let body : Inner = record { vars = vars; lits = items-the_row-Lit _ row } in
      let k = staged p place.scope v held vars (items-the_row-Lit _ row) alts g in
      let own = (and_parts (list_all (var_fits p) vars) (row_fits p (place.scope ++ vars) row) f).0 in
      subst (λ a. SameAmong s (t ∷ []) (replaced t path a)) k.3
      (body-replaced s t path place held body (map as_body k.1) is (its ∙ sym (by_list held vars n row))
      (bodies-alike s place body k.1 (λ e r. staged-alike p invs fit m at (as_host body) place.scope (v - length place.scope) k.1 own k.2 e r.choice)))

pub stagein-sound : (p : Sides) (invs : List Invariant) → IsFit p invs → IsSoundAtLiterals p invs (stagein p)
stagein-sound p invs fit = record { fits = fits; bag = bag }
  where
    fits : (kinds : List Kind) (t : Term) (path args : List ℕ) (s : Seen) (alts : List (List Lit)) → IsProperTerm p kinds t → spot_at t path ≡ Some s → stagein p args s ≡ Some alts → Each (FitIn p s.scope) alts
    fits kinds t path [] s alts h is g = cc
    fits kinds t path (v ∷ []) s alts h is g =
        let there = place-of t path s is in
        let f = fits-at p kinds t path there.0 h there.1 in
        body-fits p invs fit s.scope v s.lit alts (ap₂ (lit_fits p) (sym there.2.scope) (sym there.2.lit) ∙ f.0) (ap lit_oriented (sym there.2.lit) ∙ f.1) g
    fits kinds t path (v ∷ (w ∷ args)) s alts h is g = cc

    bag : (m : Moment) → IsMoment p invs m → (kinds : List Kind) (t : Term) (path args : List ℕ) (s : Seen) (alts : List (List Lit)) → IsProperTerm p kinds t → spot_at t path ≡ Some s → stagein p args s ≡ Some alts → SameAmong (setting_of p m) (t ∷ []) (replaced t path alts)
    bag m at kinds t path [] s alts h is g = cc
    bag m at kinds t path (v ∷ []) s alts h is g =
        let there = place-of t path s is in
        let f = fits-at p kinds t path there.0 h there.1 in
        body-kept p invs fit m at t path there.0 v s.lit alts there.1 there.2.lit (ap (lit_fits p there.0.scope) (sym there.2.lit) ∙ f.0) (ap (λ (sc : List Var). stagein_lit p sc v s.lit) there.2.scope ∙ g)
    bag m at kinds t path (v ∷ (w ∷ args)) s alts h is g = cc

-- ---- what is tried

-- the rule gives something at a body alone
stagein-body : (p : Sides) (bs : List ℕ) (s : Seen) (alts : List (List Lit)) → stagein p bs s ≡ Some alts → is_body s.lit ≡ true
stagein-body p [] s alts g = cc
stagein-body p (v ∷ []) s alts g = go s.lit g
  where
    go : (l : Lit) → stagein_lit p s.scope v l ≡ Some alts → is_body l ≡ true
    go (Any' held vars n row) k = refl
    go (Cmp op a b) k = cc
    go (Other a b) k = cc
stagein-body p (v ∷ (w ∷ args)) s alts g = cc

-- the variable is among what is tried
lit-tried : (p : Sides) (sc : List Var) (v : ℕ) (l : Lit) (alts : List (List Lit)) → stagein_lit p sc v l ≡ Some alts → IsIn (v ∷ []) (lit_args (length sc) l)
lit-tried p sc v (Cmp op a b) alts g = cc
lit-tried p sc v (Other a b) alts g = cc
lit-tried p sc v (Any' held vars k row) alts g =
    let a = staged p sc v held vars (items-the_row-Lit _ row) alts g in
    let b = unfolds-later p sc (v - length sc) (as_host (record { vars = vars; lits = items-the_row-Lit _ row })) a.1 a.2 in
    let from = from-base v (length sc) a.0 in
    chosen-has (may_unfold (length sc) vars) (length sc + length vars) 1 [] (v ∷ []) refl (omega (arith, b.0, from), and_from (not (nat_lt v (length sc))) (has_stage (slice_get vars (v - length sc))) (ap not a.0) b.1, tt)
  where
    from-base : (x y : ℕ) → nat_lt x y ≡ false → y ≤ x
    from-base x y h = grind (arith, nat_tests)

lit-rises : (n : ℕ) (l : Lit) → Rises Before (lit_args n l)
lit-rises n (Any' held vars k row) = chosen-rises (may_unfold n vars) (n + length vars) 1 []
lit-rises n (Cmp op a b) = tt
lit-rises n (Other a b) = tt

-- each variable that is unfolded is tried
pub stagein-offered : (p : Sides) → OffersAlone (at_literal (stagein p)) body_paths stagein_args
stagein-offered p = record {
  paths_rise = λ t. rises-from true 0 t.lits;
  path_in = λ t path bs us h. let k = spot t path bs us h in spot-in true t path k.0 (stagein-body p bs k.0 k.2 k.3) k.1;
  args_rise = rise;
  args_in = λ t path bs us h. let k = spot t path bs us h in tried bs t path k.0 k.2 k.1 k.3;
}
  where
    spot : (t : Term) (path bs : List ℕ) (us : List Term) → at_literal (stagein p) path bs t ≡ Some us → (s : Seen) × (spot_at t path ≡ Some s) × (alts : List (List Lit)) × (stagein p bs s ≡ Some alts)
    spot t path bs us h =
        let a = map-some (replaced t path) (option_and_then (stagein p bs) (spot_at t path)) us h in
        let b = and-then (stagein p bs) (spot_at t path) a.0 a.1 in
        (b.0, b.1, a.0, b.2)

    spot-rises : (o : Option Seen) → Rises Before (spot_args o)
    spot-rises None = tt
    spot-rises (Some s) = lit-rises (length s.scope) s.lit

    rise : (t : Term) (path : List ℕ) → Rises Before (stagein_args path t)
    rise t path = spot-rises (spot_at t path)

    tried : (bs : List ℕ) (t : Term) (path : List ℕ) (s : Seen) (alts : List (List Lit)) → spot_at t path ≡ Some s → stagein p bs s ≡ Some alts → IsIn bs (stagein_args path t)
    tried [] t path s alts is g = cc
    tried (v ∷ []) t path s alts is g = subst (λ o. IsIn (v ∷ []) (spot_args o)) (sym is) (lit-tried p s.scope v s.lit alts g)
    tried (v ∷ (w ∷ args)) t path s alts is g = cc

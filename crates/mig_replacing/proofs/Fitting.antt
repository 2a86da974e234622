-- A proper term of which a literal is replaced by alternatives that fit where it stands becomes proper terms.
use Rattle.std.proofs.Common.{◌≡◌, ℕ, ◌+◌, Bool, true, false, ◌&&◌, List, [], ◌∷◌, ◌++◌, length, map, take, drop, Option, Some, None, refl, sym, ap, ap₂, ◌∙◌, subst}
use Rattle.std.specs.Prelude.{slice_get}
use Rattle.std.specs.List.{list_all}
use Rattle.std.proofs.lemmas.Bool.{and_parts}
use Rattle.std.proofs.lemmas.List.Folds.{list_all-append}
use Rattle.mig_schema.specs.declared.tables.Kind.{Kind}
use Rattle.mig_meaning.specs.Lists.{Each}
use Rattle.mig_meaning.proofs.Within.{each-append, each-map}
use Rattle.mig_algebra.specs.declared.atoms.Var.{Var}
use Rattle.mig_algebra.specs.declared.literals.Inner.{Inner}
use Rattle.mig_algebra.specs.declared.literals.Lit.{Lit, Cmp, Other, Any', Row_of-Lit, end_of-Lit, more_of-Lit, items-the_row-Lit}
use Rattle.mig_algebra.specs.declared.literals.Lit.TheVariants.{Any}
use Rattle.mig_algebra.specs.declared.terms.Term.{Term}
use Rattle.mig_algebra.specs.Proper.{Sides, var_fits, lit_fits, row_fits, lit_oriented, row_oriented, IsProperTerm}
use Rattle.mig_algebra.proofs.SortedFits.{any_fits, any_oriented}
use Rattle.mig_replacing.specs.Places.{Standing, Place, others, standing, place_within, place_at}
use Rattle.mig_replacing.specs.Replaced.{first_met, spread, put_at, lit_at, bodies_of, alternatives_at, with_lits, replaced, FitIn}
use Rattle.mig_replacing.proofs.Around.{all-take, all-drop, all-get}
use Rattle.mig_replacing.proofs.Reached.{some-same, there-at}

module _ (p : Sides) where
  -- one list after another
  fit-append : (scope : List Var) (xs ys : List Lit) → FitIn p scope xs → FitIn p scope ys → FitIn p scope (xs ++ ys)
  fit-append scope xs ys a b = record {
    fits = list_all-append (lit_fits p scope) xs ys ∙ ap₂ (λ x y. x && y) a.fits b.fits;
    oriented = list_all-append lit_oriented xs ys ∙ ap₂ (λ x y. x && y) a.oriented b.oriented;
  }

  fit-take : (scope : List Var) (i : ℕ) (xs : List Lit) → FitIn p scope xs → FitIn p scope (take i xs)
  fit-take scope i xs a = record { fits = all-take (lit_fits p scope) i xs a.fits; oriented = all-take lit_oriented i xs a.oriented }

  fit-drop : (scope : List Var) (i : ℕ) (xs : List Lit) → FitIn p scope xs → FitIn p scope (drop i xs)
  fit-drop scope i xs a = record { fits = all-drop (lit_fits p scope) i xs a.fits; oriented = all-drop lit_oriented i xs a.oriented }

  -- a list with each alternative
  fit-put : (scope : List Var) (lits : List Lit) (i : ℕ) (alts : List (List Lit)) → FitIn p scope lits → Each (FitIn p scope) alts → Each (FitIn p scope) (put_at lits i alts)
  fit-put scope lits i alts a h =
      each-map (FitIn p scope) (FitIn p scope) (λ x. take i lits ++ (x ++ drop (i + 1) lits)) (λ x f.
      fit-append scope (take i lits) (x ++ drop (i + 1) lits) (fit-take scope i lits a) (fit-append scope x (drop (i + 1) lits) f (fit-drop scope (i + 1) lits a))) alts h

  -- ---- bodies

  -- a body that fits among the variables around it
  abbrev BodyFits : List Var → Inner → Type 0
  BodyFits scope b = (list_all (var_fits p) b.vars ≡ true) × FitIn p (scope ++ b.vars) b.lits

  fit-body : (scope : List Var) (held : Bool) (b : Inner) → BodyFits scope b → FitIn p scope (Any held b ∷ [])
  fit-body scope held b f = record {
    fits = ap (λ x. x && true) (any_fits p scope held b.vars b.lits ∙ ap₂ (λ x y. x && y) f.0 f.1.fits);
    oriented = ap (λ x. x && true) (any_oriented held b.vars b.lits ∙ f.1.oriented);
  }

  fit-bodies : (scope : List Var) (bs : List Inner) → Each (BodyFits scope) bs → FitIn p scope (map (Any false) bs)
  fit-bodies scope [] h = record { fits = refl; oriented = refl }
  fit-bodies scope (b ∷ bs) h = fit-append scope (Any false b ∷ []) (map (Any false) bs) (fit-body scope false b h.0) (fit-bodies scope bs h.1)

  fit-first : (scope : List Var) (before bs : List Inner) → Each (BodyFits scope) before → Each (BodyFits scope) bs → Each (FitIn p scope) (first_met before bs)
  fit-first scope before [] a h = tt
  fit-first scope before (b ∷ bs) a h = (
    fit-append scope (Any true b ∷ []) (map (Any false) before) (fit-body scope true b h.0) (fit-bodies scope before a),
    fit-first scope (before ++ b ∷ []) bs (each-append (BodyFits scope) before (b ∷ []) a (h.0, tt)) h.1,
  )

  fit-spread : (scope : List Var) (held : Bool) (bs : List Inner) → Each (BodyFits scope) bs → Each (FitIn p scope) (spread held bs)
  fit-spread scope true bs h = fit-first scope [] bs tt h
  fit-spread scope false bs h = (fit-bodies scope bs h, tt)

  -- ---- a literal

  row-fit : (scope : List Var) {m : _} (row : Row_of-Lit m) → row_fits p scope row ≡ true → row_oriented row ≡ true → FitIn p scope (items-the_row-Lit m row)
  row-fit scope end_of-Lit h k = record { fits = refl; oriented = refl }
  row-fit scope (more_of-Lit l rest) h k =
      let a = and_parts (lit_fits p scope l) (row_fits p scope rest) h in
      let b = and_parts (lit_oriented l) (row_oriented rest) k in
      fit-append scope (l ∷ []) (items-the_row-Lit _ rest) (record { fits = ap (λ x. x && true) a.0; oriented = ap (λ x. x && true) b.0 }) (row-fit scope rest a.1 b.1)

  -- the alternatives of a literal fit where it does
  fit-at : (path : List ℕ) (scope : List Var) (around : List Standing) (l : Lit) (place : Place) (alts : List (List Lit)) → place_within scope around (Some l) path ≡ Some place → lit_fits p scope l ≡ true → lit_oriented l ≡ true → Each (FitIn p place.scope) alts → Each (FitIn p scope) (alternatives_at path alts l)
  fit-at [] scope around l place alts is f o h = subst (λ (q : Place). Each (FitIn p q.scope) alts) (sym (some-same _ place is)) h
  fit-at (j ∷ path) scope around (Cmp op a b) place alts is f o h = cc
  fit-at (j ∷ path) scope around (Other a b) place alts is f o h = cc
  fit-at (j ∷ path) scope around (Any' held vars n row) place alts is f o h = go (slice_get (items-the_row-Lit _ row) j) refl (fit-at path)
    where
      lits : List Lit
      lits = items-the_row-Lit _ row

      go : (o : Option Lit) → slice_get (items-the_row-Lit _ row) j ≡ o → ((scope : List Var) (around : List Standing) (l : Lit) (place : Place) (alts : List (List Lit)) → place_within scope around (Some l) path ≡ Some place → lit_fits p scope l ≡ true → lit_oriented l ≡ true → Each (FitIn p place.scope) alts → Each (FitIn p scope) (alternatives_at path alts l)) → Each (FitIn p scope) (alternatives_at (j ∷ path) alts (Any' held vars n row))
      go None g ih =
          let bad : None ≡ Some place = sym (ap (λ o. place_within (scope ++ vars) (around ++ standing (length (scope ++ vars)) (others lits j)) o path) g) ∙ is in cc
      go (Some m) g ih =
          let there = there-at lits j m g in
          let its = and_parts (list_all (var_fits p) vars) (row_fits p (scope ++ vars) row) f in
          let all = row-fit (scope ++ vars) row its.1 o in
          let one : slice_get lits j ≡ Some (lit_at lits j) = g ∙ ap Some (sym there.1) in
          let inner : place_within (scope ++ vars) (around ++ standing (length (scope ++ vars)) (others lits j)) (Some (lit_at lits j)) path ≡ Some place =
          sym (ap (λ o. place_within (scope ++ vars) (around ++ standing (length (scope ++ vars)) (others lits j)) o path) one) ∙ is in
          let more = ih (scope ++ vars) (around ++ standing (length (scope ++ vars)) (others lits j)) (lit_at lits j) place alts inner (all-get (lit_fits p (scope ++ vars)) lits j (lit_at lits j) all.fits one) (all-get lit_oriented lits j (lit_at lits j) all.oriented one) h in
          fit-spread scope held (bodies_of vars (put_at lits j (alternatives_at path alts (lit_at lits j))))
          (each-map (BodyFits scope) (FitIn p (scope ++ vars)) (λ (ls : List Lit). record { vars = vars; lits = ls }) (λ ls k. (its.0, k)) (put_at lits j (alternatives_at path alts (lit_at lits j)))
          (fit-put (scope ++ vars) lits j (alternatives_at path alts (lit_at lits j)) all more))

  -- ---- a term

  -- a term with literals that fit
  proper-with : (kinds : List Kind) (t : Term) (lits : List Lit) → IsProperTerm p kinds t → FitIn p t.vars lits → IsProperTerm p kinds (with_lits t lits)
  proper-with kinds t lits h f = record { vars = h.vars; fits = f.fits; oriented = f.oriented; head = h.head }

  pub replaced-proper : (kinds : List Kind) (t : Term) (path : List ℕ) (place : Place) (alts : List (List Lit)) → place_at t path ≡ Some place → IsProperTerm p kinds t → Each (FitIn p place.scope) alts → Each (IsProperTerm p kinds) (replaced t path alts)
  replaced-proper kinds t [] place alts is h a = cc
  replaced-proper kinds t (j ∷ path) place alts is h a = go (slice_get t.lits j) refl
    where
      go : (o : Option Lit) → slice_get t.lits j ≡ o → Each (IsProperTerm p kinds) (replaced t (j ∷ path) alts)
      go None g =
          let bad : None ≡ Some place = sym (ap (λ o. place_within t.vars (standing (length t.vars) (others t.lits j)) o path) g) ∙ is in cc
      go (Some m) g =
          let there = there-at t.lits j m g in
          let one : slice_get t.lits j ≡ Some (lit_at t.lits j) = g ∙ ap Some (sym there.1) in
          let inner : place_within t.vars (standing (length t.vars) (others t.lits j)) (Some (lit_at t.lits j)) path ≡ Some place =
          sym (ap (λ o. place_within t.vars (standing (length t.vars) (others t.lits j)) o path) one) ∙ is in
          let all : FitIn p t.vars t.lits = record { fits = h.fits; oriented = h.oriented } in
          each-map (IsProperTerm p kinds) (FitIn p t.vars) (with_lits t) (λ ls f. proper-with kinds t ls h f) (put_at t.lits j (alternatives_at path alts (lit_at t.lits j)))
          (fit-put t.vars t.lits j (alternatives_at path alts (lit_at t.lits j)) all
          (fit-at path t.vars (standing (length t.vars) (others t.lits j)) (lit_at t.lits j) place alts inner (all-get (lit_fits p t.vars) t.lits j (lit_at t.lits j) h.fits one) (all-get lit_oriented t.lits j (lit_at t.lits j) h.oriented one) a))

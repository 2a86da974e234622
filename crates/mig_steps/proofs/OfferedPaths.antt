-- The paths that are tried rise, and each with which a rule gives something is among them; rules without arguments.
use Rattle.std.proofs.Common.{◌≡◌, ℕ, zero, suc, ◌+◌, ◌<◌, ◌≤◌, Bool, true, false, cond, not, ◌||◌, List, [], ◌∷◌, ◌++◌, map, take, length, Option, Some, None, refl, sym, ap, ◌∙◌, subst, inl, inr, arith}
use Rattle.std.specs.Prelude.{slice_get}
use Rattle.std.specs.Option.{option_map, option_and_then}
use Rattle.mig_algebra.specs.declared.atoms.Var.{Var}
use Rattle.mig_algebra.specs.declared.literals.Lit.{Lit, Cmp, Other, Any', Row_of-Lit, items-the_row-Lit, end_of-Lit, more_of-Lit}
use Rattle.mig_algebra.specs.declared.terms.Term.{Term}
use Rattle.mig_listing.specs.Listing.{IsIn, Rises}
use Rattle.mig_listing.specs.Orders.{Before}
use Rattle.mig_listing.proofs.ChosenAll.{one-rises}
use Rattle.mig_listing.proofs.Members.{in_append, in_append_left, in_append_right, in_map, from_map}
use Rattle.mig_listing.proofs.Rising.{rises_append, rises_map}
use Rattle.mig_replacing.specs.Places.{others}
use Rattle.mig_replacing.specs.Given.{plain}
use Rattle.mig_replacing.specs.Replaced.{replaced}
use Rattle.mig_steps.specs.Bodies.{is_body}
use Rattle.mig_steps.specs.Offering.{Args, args_alone, OffersAlone, OffersAll, LooksAtOne}
use Rattle.mig_steps.specs.Paths.{own_paths, paths_in, paths_of_row, paths_from, own_path, lit_paths, body_paths, no_path, bare}
use Rattle.mig_steps.specs.Spots.{ListAround, Seen, list_at, spot_in, spot_at}
use Rattle.mig_steps.specs.Ways.{TermRule, LitRule, OnTerm, on_term, at_literal, alone, nothing}
use Rattle.mig_steps.proofs.Options.{and-then, map-some, map-none}

-- ---- paths rise

-- all lists of one number, rising, before all that begin with more
from-one : (i : ℕ) (ps qs : List (List ℕ)) → Rises Before ps → Rises Before qs → ((q : List ℕ) → IsIn q qs → (j : ℕ) × (r : List ℕ) × (q ≡ j ∷ r) × (i < j)) → Rises Before (map (λ p. i ∷ p) ps ++ qs)
from-one i ps qs rp rq more =
    rises_append (map (λ p. i ∷ p) ps) qs (rises_map Before Before (λ p. i ∷ p) ps rp (λ a b k. inr (refl, k))) rq
    (λ u v a b.
    let s = in_map (λ p. i ∷ p) ps u a in
    let t = more v b in
    subst (λ w. Before w v) (sym s.2) (subst (λ w. Before (i ∷ s.0) w) (sym t.2) (inl t.3)))

abbrev Begins : ℕ → List ℕ → Type 0
Begins i q = (j : ℕ) × (r : List ℕ) × (q ≡ j ∷ r) × (i ≤ j)

module _ (bodies : Bool) where
  -- the paths at and in a literal, from its own
  abbrev PathsAt : Lit → List (List ℕ)
  PathsAt l = own_paths bodies l ++ paths_in bodies l

  -- a literal's own path is empty
  own-empty : (l : Lit) (q : List ℕ) → IsIn q (own_paths bodies l) → q ≡ []
  own-empty l q k = go (not bodies || is_body l) k
    where
      go : (b : Bool) → IsIn q (cond b ([] ∷ []) []) → q ≡ []
      go true j = elim j [ inl e ↦ e | inr n ↦ absurd n ]
      go false j = absurd j

  -- a literal's own path stands before those in it
  at-rises : (l : Lit) → ((q : List ℕ) → IsIn q (paths_in bodies l) → Before [] q) → Rises Before (paths_in bodies l) → Rises Before (PathsAt l)
  at-rises l first inside = go (not bodies || is_body l)
    where
      go : (b : Bool) → Rises Before (cond b ([] ∷ []) [] ++ paths_in bodies l)
      go true = (first, inside)
      go false = inside

  mutual
    rises-in : (l : Lit) → Rises Before (paths_in bodies l)
    rises-in (Cmp op a b) = tt
    rises-in (Other a b) = tt
    rises-in (Any' held vars n row) = rises-row 0 row

    rises-row : (i : ℕ) {m : _} (row : Row_of-Lit m) → Rises Before (paths_of_row bodies i row)
    rises-row i end_of-Lit = tt
    rises-row i (more_of-Lit l rest) = from-one i (PathsAt l) (paths_of_row bodies (i + 1) rest) (at-rises l (own-first l) (rises-in l)) (rises-row (i + 1) rest) (λ q k. let b = begins-row (i + 1) rest q k in (b.0, b.1, b.2, omega (arith, b.3)))

    own-first : (l : Lit) (q : List ℕ) → IsIn q (paths_in bodies l) → Before [] q
    own-first (Cmp op a b) q k = absurd k
    own-first (Other a b) q k = absurd k
    own-first (Any' held vars n row) q k = let b = begins-row 0 row q k in subst (Before []) (sym b.2) tt

    begins-row : (i : ℕ) {m : _} (row : Row_of-Lit m) (q : List ℕ) → IsIn q (paths_of_row bodies i row) → Begins i q
    begins-row i end_of-Lit q k = absurd k
    begins-row i (more_of-Lit l rest) q k = elim (in_append (map (λ p. i ∷ p) (PathsAt l)) (paths_of_row bodies (i + 1) rest) q k) [
      | inl a ↦ let s = in_map (λ p. i ∷ p) (PathsAt l) q a in (i, s.0, s.2, omega arith)
      | inr a ↦ let b = begins-row (i + 1) rest q a in (b.0, b.1, b.2, omega (arith, b.3))
    ]

  begins-from : (i : ℕ) (ls : List Lit) (q : List ℕ) → IsIn q (paths_from bodies i ls) → Begins i q
  begins-from i [] q k = absurd k
  begins-from i (l ∷ ls) q k = elim (in_append (map (λ p. i ∷ p) (PathsAt l)) (paths_from bodies (i + 1) ls) q k) [
    | inl a ↦ let s = in_map (λ p. i ∷ p) (PathsAt l) q a in (i, s.0, s.2, omega arith)
    | inr a ↦ let b = begins-from (i + 1) ls q a in (b.0, b.1, b.2, omega (arith, b.3))
  ]

  pub rises-from : (i : ℕ) (ls : List Lit) → Rises Before (paths_from bodies i ls)
  rises-from i [] = tt
  rises-from i (l ∷ ls) = from-one i (PathsAt l) (paths_from bodies (i + 1) ls) (at-rises l (own-first l) (rises-in l)) (rises-from (i + 1) ls) (λ q k. let b = begins-from (i + 1) ls q k in (b.0, b.1, b.2, omega (arith, b.3)))

  -- ---- each path to a literal is among them

  in-row : (i j : ℕ) {m : _} (row : Row_of-Lit m) (l : Lit) (q : List ℕ) → slice_get (items-the_row-Lit m row) j ≡ Some l → IsIn q (PathsAt l) → IsIn ((i + j) ∷ q) (paths_of_row bodies i row)
  in-row i j end_of-Lit l q g k = cc
  in-row i zero (more_of-Lit x rest) l q g k =
      let e : x ≡ l = cc in
      let z : i + zero ≡ i = omega arith in
      in_append_left (map (λ p. i ∷ p) (PathsAt x)) (paths_of_row bodies (i + 1) rest) _ (subst (λ n. IsIn (n ∷ q) (map (λ p. i ∷ p) (PathsAt x))) (sym z) (from_map (λ p. i ∷ p) (PathsAt x) q (subst (λ y. IsIn q (PathsAt y)) (sym e) k)))
  in-row i (suc j) (more_of-Lit x rest) l q g k =
      let z : (i + 1) + j ≡ i + suc j = omega arith in
      in_append_right (map (λ p. i ∷ p) (PathsAt x)) (paths_of_row bodies (i + 1) rest) _ (subst (λ n. IsIn (n ∷ q) (paths_of_row bodies (i + 1) rest)) z (in-row (i + 1) j rest l q g k))

  in-from : (i j : ℕ) (ls : List Lit) (l : Lit) (q : List ℕ) → slice_get ls j ≡ Some l → IsIn q (PathsAt l) → IsIn ((i + j) ∷ q) (paths_from bodies i ls)
  in-from i j [] l q g k = cc
  in-from i zero (x ∷ ls) l q g k =
      let e : x ≡ l = cc in
      let z : i + zero ≡ i = omega arith in
      in_append_left (map (λ p. i ∷ p) (PathsAt x)) (paths_from bodies (i + 1) ls) _ (subst (λ n. IsIn (n ∷ q) (map (λ p. i ∷ p) (PathsAt x))) (sym z) (from_map (λ p. i ∷ p) (PathsAt x) q (subst (λ y. IsIn q (PathsAt y)) (sym e) k)))
  in-from i (suc j) (x ∷ ls) l q g k =
      let z : (i + 1) + j ≡ i + suc j = omega arith in
      in_append_right (map (λ p. i ∷ p) (PathsAt x)) (paths_from bodies (i + 1) ls) _ (subst (λ n. IsIn (n ∷ q) (paths_from bodies (i + 1) ls)) z (in-from (i + 1) j ls l q g k))

  abbrev Reached : Option Lit → List ℕ → Type 0
  Reached o path = (l : Lit) × (o ≡ Some l) × IsIn path (PathsAt l)

  -- the literal's own path, where it is wanted
  own-there : (l : Lit) → (not bodies || is_body l) ≡ true → IsIn [] (PathsAt l)
  own-there l h =
      let here : IsIn {A = List ℕ} [] ([] ∷ []) = inl refl in
      in_append_left (own_paths bodies l) (paths_in bodies l) [] (subst (λ (b : Bool). IsIn {A = List ℕ} [] (cond b ([] ∷ []) [])) (sym h) here)

  reached : (path : List ℕ) (scope : List Var) (lists : List ListAround) (ps earlier : List Lit) (o : Option Lit) (s : Seen) → (not bodies || is_body s.lit) ≡ true → spot_in scope lists ps earlier o path ≡ Some s → Reached o path
  reached path scope lists ps es None s w h = cc
  reached [] scope lists ps es (Some l) s w h =
      let same : ◌≡◌ {A = Seen} (record { scope = scope; lists = lists; around = ps; earlier = es; lit = l }) s = cc in
      (l, refl, own-there l (ap (λ (x : Seen). not bodies || is_body x.lit) same ∙ w))
  reached (j ∷ path) scope lists ps es (Some (Cmp op a b)) s w h = cc
  reached (j ∷ path) scope lists ps es (Some (Other a b)) s w h = cc
  reached (j ∷ path) scope lists ps es (Some (Any' held vars n row)) s w h =
      let lits = items-the_row-Lit _ row in
      let r = reached path (scope ++ vars) (lists ++ list_at (length (scope ++ vars)) lits j ∷ []) (ps ++ plain (others lits j)) (take j lits) (slice_get lits j) s w h in
      let z : 0 + j ≡ j = omega arith in (
        Any' held vars n row,
        refl,
        in_append_right (own_paths bodies (Any' held vars n row)) (paths_of_row bodies 0 row) _ (subst (λ k. IsIn (k ∷ path) (paths_of_row bodies 0 row)) z (in-row 0 j row r.0 path r.1 r.2)),
      )

  pub spot-in : (t : Term) (path : List ℕ) (s : Seen) → (not bodies || is_body s.lit) ≡ true → spot_at t path ≡ Some s → IsIn path (paths_from bodies 0 t.lits)
  spot-in t [] s w h = cc
  spot-in t (j ∷ path) s w h =
      let r = reached path t.vars (list_at (length t.vars) t.lits j ∷ []) (plain (others t.lits j)) (take j t.lits) (slice_get t.lits j) s w h in
      let z : 0 + j ≡ j = omega arith in
      subst (λ k. IsIn (k ∷ path) (paths_from bodies 0 t.lits)) z (in-from 0 j t.lits r.0 path r.1 r.2)

-- ---- rules

-- a rule that gives nothing yet
pub none-offered : OffersAlone nothing no_path bare
none-offered = record { paths_rise = λ t. tt; path_in = λ t path bs us h. cc; args_rise = λ t path. one-rises Before []; args_in = λ t path bs us h. cc }

-- a rule on terms, with the arguments that are tried
pub own-with : (gives : TermRule) (args : Term → List (List ℕ)) → ((t : Term) → Rises Before (args t)) → ((t : Term) (bs : List ℕ) (us : List Term) → gives bs t ≡ Some us → IsIn bs (args t)) → OffersAlone (on_term gives) own_path (λ path t. args t)
own-with gives args rises has = record { paths_rise = λ t. one-rises Before []; path_in = at; args_rise = λ t path. rises t; args_in = with }
  where
    at : (t : Term) (path bs : List ℕ) (us : List Term) → on_term gives path bs t ≡ Some us → IsIn path (own_path t)
    at t [] bs us h = inl refl
    at t (j ∷ path) bs us h = cc

    with : (t : Term) (path bs : List ℕ) (us : List Term) → on_term gives path bs t ≡ Some us → IsIn bs (args t)
    with t [] bs us h = has t bs us h
    with t (j ∷ path) bs us h = cc

-- a rule on terms without arguments
pub own-offered : (gives : TermRule) → ((a : ℕ) (bs : List ℕ) (t : Term) → gives (a ∷ bs) t ≡ None) → OffersAlone (on_term gives) own_path bare
own-offered gives none = own-with gives (λ t. [] ∷ []) (λ t. one-rises Before []) with
  where
    with : (t : Term) (bs : List ℕ) (us : List Term) → gives bs t ≡ Some us → IsIn bs ([] ∷ [])
    with t [] us h = inl refl
    with t (a ∷ bs) us h = let n = none a bs t in cc

-- a rule on literals without arguments, all or those with a body alone
module _ (bodies : Bool) (gives : LitRule) (none : (a : ℕ) (bs : List ℕ) (s : Seen) → gives (a ∷ bs) s ≡ None) (wanted : (bs : List ℕ) (s : Seen) (alts : List (List Lit)) → gives bs s ≡ Some alts → (not bodies || is_body s.lit) ≡ true) where
  spot : (t : Term) (path bs : List ℕ) (us : List Term) → at_literal gives path bs t ≡ Some us → (s : Seen) × (spot_at t path ≡ Some s) × (alts : List (List Lit)) × (gives bs s ≡ Some alts)
  spot t path bs us h =
      let a = map-some (replaced t path) (option_and_then (gives bs) (spot_at t path)) us h in
      let b = and-then (gives bs) (spot_at t path) a.0 a.1 in
      (b.0, b.1, a.0, b.2)

  no-args : (bs : List ℕ) (s : Seen) (alts : List (List Lit)) → gives bs s ≡ Some alts → IsIn bs ([] ∷ [])
  no-args [] s alts h = inl refl
  no-args (a ∷ bs) s alts h = let n = none a bs s in cc

  paths-offered : OffersAlone (at_literal gives) (λ t. paths_from bodies 0 t.lits) bare
  paths-offered = record {
    paths_rise = λ t. rises-from bodies 0 t.lits;
    path_in = λ t path bs us h. let k = spot t path bs us h in spot-in bodies t path k.0 (wanted bs k.0 k.2 k.3) k.1;
    args_rise = λ t path. one-rises Before [];
    args_in = λ t path bs us h. let k = spot t path bs us h in no-args bs k.0 k.2 k.3;
  }

-- any literal is wanted
always : (gives : LitRule) (bs : List ℕ) (s : Seen) (alts : List (List Lit)) → gives bs s ≡ Some alts → (not false || is_body s.lit) ≡ true
always gives bs s alts h = refl

pub lits-offered : (gives : LitRule) → ((a : ℕ) (bs : List ℕ) (s : Seen) → gives (a ∷ bs) s ≡ None) → OffersAlone (at_literal gives) lit_paths bare
lits-offered gives none = paths-offered false gives none (always gives)

pub bodies-offered : (gives : LitRule) → ((a : ℕ) (bs : List ℕ) (s : Seen) → gives (a ∷ bs) s ≡ None) → ((bs : List ℕ) (s : Seen) (alts : List (List Lit)) → gives bs s ≡ Some alts → is_body s.lit ≡ true) → OffersAlone (at_literal gives) body_paths bare
bodies-offered gives none body = paths-offered true gives none body

-- ---- the terms behind

-- a rule that leaves them as they are
pub alone-offers : (gives : OnTerm) (paths : Term → List (List ℕ)) (args : Args) → OffersAlone gives paths args → OffersAll (alone gives) paths (args_alone args)
alone-offers gives paths args o = record {
  paths_rise = o.paths_rise;
  path_in = λ n path bs t later us h. let a = map-some (λ vs. vs ++ later) (gives path bs t) us h in o.path_in t path bs a.0 a.1;
  args_rise = λ n path t later. o.args_rise t path;
  args_in = λ n path bs t later us h. let a = map-some (λ vs. vs ++ later) (gives path bs t) us h in o.args_in t path bs a.0 a.1;
}

-- it looks at one term
pub alone-looks : (gives : OnTerm) → LooksAtOne (alone gives)
alone-looks gives = record { by = λ n path args t later h. none-left (gives path args t) later (map-none (λ us. us ++ []) (gives path args t) h) }
  where
    none-left : (o : Option (List Term)) (later : List Term) → o ≡ None → ◌≡◌ {A = Option (List Term)} (option_map (λ us. us ++ later) o) None
    none-left o later h = ap (λ x. option_map (λ us. us ++ later) x) h

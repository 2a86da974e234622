-- What is tried for a body has all that the rule allows.
use Rattle.std.proofs.Common.{◌≡◌, ℕ, ◌+◌, ◌-◌, ◌<◌, ◌≤◌, true, cond, List, [], ◌∷◌, ◌++◌, Option, Some, None, length, refl, sym, subst, ap, ap₂, ◌∙◌, arith, inl, inr, ⊎_elim, append_assoc, length-append}
use Rattle.std.specs.Prelude.{◌==◌, nat_lt, slice_get}
use Rattle.std.specs.List.{list_all}
use Rattle.std.specs.Option.{option_and_then}
use Rattle.std.proofs.lemmas.Bool.{and_parts, and_from, eqb-true, cases_lt, cases_Bool, lt-ltb, ltb-true}
use Rattle.std.proofs.lemmas.List.{get_or_append_left}
use Rattle.mig_algebra.specs.declared.atoms.Atom.{Atom}
use Rattle.mig_algebra.specs.declared.atoms.Atom.TheVariants.{Int, Text, Param, Fresh, Col}
use Rattle.mig_algebra.specs.declared.atoms.Var.{Var}
use Rattle.mig_algebra.specs.declared.literals.Lit.{Lit, Cmp, Other, Any', items-the_row-Lit}
use Rattle.mig_algebra.specs.declared.terms.Term.{Term}
use Rattle.mig_algebra.specs.Atoms.{oriented}
use Rattle.mig_algebra.specs.Rename.{renumbered}
use Rattle.mig_algebra.specs.Scope.{atom_scoped}
use Rattle.mig_classes.specs.Given.{is_given}
use Rattle.mig_listing.specs.Chosen.{MayGoOn}
use Rattle.mig_listing.specs.Listing.{IsIn, Rises}
use Rattle.mig_listing.specs.Orders.{Before}
use Rattle.mig_listing.proofs.ChosenAll.{chosen-rises, chosen-has}
use Rattle.mig_replacing.specs.Replaced.{replaced}
use Rattle.mig_steps.specs.Bodies.{by_body, is_body}
use Rattle.mig_steps.specs.Offering.{OffersAlone}
use Rattle.mig_steps.specs.Paths.{body_paths}
use Rattle.mig_steps.specs.Spots.{Seen, spot_at}
use Rattle.mig_steps.specs.Ways.{at_literal}
use Rattle.mig_steps.proofs.Leading.{of-body}
use Rattle.mig_steps.proofs.OfferedPaths.{rises-from, spot-in}
use Rattle.mig_steps.proofs.Options.{and-then, get-within, map-some}
use Rattle.mig_folding.specs.Found.{is_alike, stand_first, names_first, may_be_known, may_find, found, found_among, found_at, found_args}
use Rattle.mig_folding.specs.Known.{put, stands_around, is_known}
use Rattle.mig_folding.proofs.FoundReads.{alike-there}
use Rattle.mig_folding.proofs.FoundSound.{finds}

-- ---- fronts of variables

-- a front of numbers that stand so does too
stand-front : (scope : List Var) (xs ys : List ℕ) (vars : List Var) → stand_first scope (xs ++ ys) vars ≡ true → stand_first scope xs vars ≡ true
stand-front scope [] ys vars h = refl
stand-front scope (x ∷ xs) ys [] h = cc
stand-front scope (x ∷ xs) ys (v ∷ vs) h =
    let k = and_parts (is_alike v (slice_get scope x)) (stand_first scope (xs ++ ys) vs) h in
    and_from (is_alike v (slice_get scope x)) (stand_first scope xs vs) k.0 (stand-front scope xs ys vs k.1)

-- the last of them is in scope
stand-last : (scope : List Var) (xs : List ℕ) (x : ℕ) (vars : List Var) → stand_first scope (xs ++ x ∷ []) vars ≡ true → x < length scope
stand-last scope [] x [] h = cc
stand-last scope [] x (v ∷ vs) h = get-within scope x v (alike-there v (slice_get scope x) (and_parts (is_alike v (slice_get scope x)) (stand_first scope [] vs) h).0)
stand-last scope (y ∷ xs) x [] h = cc
stand-last scope (y ∷ xs) x (v ∷ vs) h = stand-last scope xs x vs (and_parts (is_alike v (slice_get scope y)) (stand_first scope (xs ++ x ∷ []) vs) h).1

-- ---- literals that a front says all of

-- what is written for a variable of a front doesn't change with more behind
put-front : (n : ℕ) (xs ys : List ℕ) (v : ℕ) → nat_lt v (n + length xs) ≡ true → put n (xs ++ ys) v ≡ put n xs v
put-front n xs ys v h = ⊎_elim before own (cases_lt v n)
  where
    before : v < n → put n (xs ++ ys) v ≡ put n xs v
    before l = rw (lt-ltb v n l) refl

    own : n ≤ v → put n (xs ++ ys) v ≡ put n xs v
    own l =
        let small : v - n < length xs = omega (arith, l, ltb-true v (n + length xs) h) in
        let all : v - n < length (xs ++ ys) = omega (arith, small, length-append xs ys) in
        (rw (lt-ltb (v - n) (length (xs ++ ys)) all) (rw (lt-ltb (v - n) (length xs) small) (ap (λ w. cond (nat_lt v n) v w) (get_or_append_left xs ys 0 (v - n) small))))

atom-front : (n : ℕ) (xs ys : List ℕ) (a : Atom) → atom_scoped (n + length xs) a ≡ true → renumbered (put n (xs ++ ys)) a ≡ renumbered (put n xs) a
atom-front n xs ys (Int i) h = refl
atom-front n xs ys (Text t) h = refl
atom-front n xs ys (Param p) h = refl
atom-front n xs ys (Fresh k) h = refl
atom-front n xs ys (Col v c) h = ap (λ w. Col w c) (put-front n xs ys v h)

module _ (s : Seen) (xs ys : List ℕ) where
  known-front : (l : Lit) → is_known s (xs ++ ys) l ≡ true → names_first (length s.scope + length xs) l ≡ true → is_known s xs l ≡ true
  known-front (Cmp op a b) h n =
      let k = and_parts (atom_scoped (length s.scope + length xs) a) (atom_scoped (length s.scope + length xs) b) n in
      sym (ap₂ (λ c d. is_given s.scope s.around (oriented op c d)) (atom-front (length s.scope) xs ys a k.0) (atom-front (length s.scope) xs ys b k.1)) ∙ h
  known-front (Other a b) h n =
      let k = and_parts (nat_lt a (length s.scope + length xs)) (nat_lt b (length s.scope + length xs)) n in
      sym (ap₂ (λ c d. stands_around (length s.scope) (Other c d) s.lists) (put-front (length s.scope) xs ys a k.0) (put-front (length s.scope) xs ys b k.1)) ∙ h
  known-front (Any' held vars m row) h n = cc

  may-front : (l : Lit) → is_known s (xs ++ ys) l ≡ true → may_be_known s xs l ≡ true
  may-front l h = elim (cases_Bool (names_first (length s.scope + length xs) l)) [
    | inl t ↦ (rw t (known-front l h t))
    | inr f ↦ (rw f refl)
  ]

  all-front : (ls : List Lit) → list_all (is_known s (xs ++ ys)) ls ≡ true → list_all (may_be_known s xs) ls ≡ true
  all-front [] h = refl
  all-front (l ∷ ls) h =
      let k = and_parts (is_known s (xs ++ ys) l) (list_all (is_known s (xs ++ ys)) ls) h in
      and_from (may_be_known s xs l) (list_all (may_be_known s xs) ls) (may-front l k.0) (all-front ls k.1)

-- ---- what is tried

fronts-go : (s : Seen) (vars : List Var) (lits : List Lit) (before args : List ℕ) → stand_first s.scope (before ++ args) vars ≡ true → list_all (is_known s (before ++ args)) lits ≡ true → MayGoOn (may_find s vars lits) (length s.scope) before args
fronts-go s vars lits before [] h k = tt
fronts-go s vars lits before (x ∷ xs) h k =
    let same = append_assoc before (x ∷ []) xs in
    let all : stand_first s.scope ((before ++ x ∷ []) ++ xs) vars ≡ true = ap (λ l. stand_first s.scope l vars) same ∙ h in
    let known : list_all (is_known s ((before ++ x ∷ []) ++ xs)) lits ≡ true = ap (λ l. list_all (is_known s l) lits) same ∙ k in
    let here = stand-front s.scope (before ++ x ∷ []) xs vars all in (
      stand-last s.scope before x vars here,
      and_from (stand_first s.scope (before ++ x ∷ []) vars) (list_all (may_be_known s (before ++ x ∷ [])) lits) here (all-front s (before ++ x ∷ []) xs lits known),
      fronts-go s vars lits (before ++ x ∷ []) xs all known,
    )

-- where the rule gives something, its arguments are among those for the literal
tried : (names : List ℕ) (s : Seen) (alts : List (List Lit)) → found names s ≡ Some alts → (is_body s.lit ≡ true) × IsIn names (found_at (Some s))
tried names s alts g =
    let q = finds names s alts g in
    let a = and_parts (length names == length q.body.vars) (stand_first s.scope names q.body.vars) q.stand in
    let among : IsIn names (found_among s q.body.vars q.body.lits) = chosen-has (may_find s q.body.vars q.body.lits) (length s.scope) (length q.body.vars) [] names (eqb-true (length names) (length q.body.vars) a.0) (fronts-go s q.body.vars q.body.lits [] names a.1 q.known) in
    (ap is_body q.lit, subst (IsIn names) (sym (of-body (λ held vars lits. found_among s vars lits) [] s.lit q.held q.body q.lit)) among)

found-rises : (o : Option Seen) → Rises Before (found_at o)
found-rises None = tt
found-rises (Some s) = of-lit s.lit
  where
    of-lit : (l : Lit) → Rises Before (by_body (λ held vars lits. found_among s vars lits) [] l)
    of-lit (Any' held vars n row) = chosen-rises (may_find s vars (items-the_row-Lit _ row)) (length s.scope) (length vars) []
    of-lit (Cmp op a b) = tt
    of-lit (Other a b) = tt

-- the rule gives something where a path leads to a body
record FindsAt (path bs : List ℕ) (t : Term) : Type 0 where
  spot : Seen
  there : spot_at t path ≡ Some spot
  alts : List (List Lit)
  given : found bs spot ≡ Some alts

finds-at : (path bs : List ℕ) (t : Term) (us : List Term) → at_literal found path bs t ≡ Some us → FindsAt path bs t
finds-at path bs t us h =
    let a = map-some (replaced t path) (option_and_then (found bs) (spot_at t path)) us h in
    let b = and-then (found bs) (spot_at t path) a.0 a.1 in
    record { spot = b.0; there = b.1; alts = a.0; given = b.2 }

pub found-offered : OffersAlone (at_literal found) body_paths found_args
found-offered = record {
  paths_rise = λ t. rises-from true 0 t.lits;
  path_in = λ t path bs us h. let k = finds-at path bs t us h in spot-in true t path k.spot (tried bs k.spot k.alts k.given).0 k.there;
  args_rise = λ t path. found-rises (spot_at t path);
  args_in = λ t path bs us h.
      let k = finds-at path bs t us h in
      subst (λ o. IsIn bs (found_at o)) (sym k.there) (tried bs k.spot k.alts k.given).1;
}

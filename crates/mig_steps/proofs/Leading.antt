-- Where a rule sees a literal, the path leads to one; bodies by their lists.
use Rattle.std.proofs.Common.{◌≡◌, ℕ, ◌+◌, ◌<◌, Bool, true, false, List, [], ◌∷◌, ◌++◌, map, take, drop, length, get_or, Option, Some, None, refl, sym, ap, ap₂, ◌∙◌, add-one, drop-cons, append_assoc}
use Rattle.std.proofs.lemmas.List.{append-nil, map-append}
use Rattle.std.specs.Prelude.{slice_get}
use denote.Hole.Carrier.{hidden}
use Rattle.mig_algebra.specs.declared.atoms.Var.{Var}
use Rattle.mig_algebra.specs.declared.literals.Inner.{Inner}
use Rattle.mig_algebra.specs.declared.literals.Lit.{Lit, Cmp, Other, Any', items-the_row-Lit}
use Rattle.mig_algebra.specs.declared.literals.Lit.TheVariants.{Any}
use Rattle.mig_algebra.specs.declared.literals.Lit.TheBlock.{hidden-the_row-Lit-0}
use Rattle.mig_algebra.specs.declared.terms.Term.{Term}
use Rattle.mig_replacing.specs.Places.{others}
use Rattle.mig_replacing.specs.Given.{plain}
use Rattle.mig_steps.specs.Bodies.{by_body, is_body}
use Rattle.mig_replacing.specs.Replaced.{spread, put_at, lit_at, bodies_of, alternatives_at}
use Rattle.mig_replacing.proofs.Reached.{there-at}
use Rattle.mig_steps.specs.Paths.{own_paths, paths_in, paths_of_row, paths_from}
use Rattle.mig_steps.specs.Reached.{leads, is_path_of}
use Rattle.mig_steps.specs.Spots.{ListAround, Seen, list_at, spot_in, spot_at}

spot-leads : (path : List ℕ) (scope : List Var) (lists : List ListAround) (ps earlier : List Lit) (o : Option Lit) (s : Seen) → spot_in scope lists ps earlier o path ≡ Some s → leads o path ≡ true
spot-leads path scope lists ps es None s h = cc
spot-leads [] scope lists ps es (Some l) s h = refl
spot-leads (j ∷ path) scope lists ps es (Some (Cmp op a b)) s h = cc
spot-leads (j ∷ path) scope lists ps es (Some (Other a b)) s h = cc
spot-leads (j ∷ path) scope lists ps es (Some (Any' held vars n row)) s h =
    let lits = items-the_row-Lit _ row in
    spot-leads path (scope ++ vars) (lists ++ list_at (length (scope ++ vars)) lits j ∷ []) (ps ++ plain (others lits j)) (take j lits) (slice_get lits j) s h

pub spot-path : (t : Term) (path : List ℕ) (s : Seen) → spot_at t path ≡ Some s → is_path_of t path ≡ true
spot-path t [] s h = cc
spot-path t (j ∷ path) s h = spot-leads path t.vars (list_at (length t.vars) t.lits j ∷ []) (plain (others t.lits j)) (take j t.lits) (slice_get t.lits j) s h

-- ---- bodies

pub items-of : (xs : List Lit) → items-the_row-Lit _ (hidden-the_row-Lit-0 xs) ≡ xs
unfolding hidden-the_row-Lit-0 hidden
items-of [] = refl
items-of (x ∷ xs) = ap (λ ys. x ∷ ys) (items-of xs)

-- what is said of a body, by its parts
pub of-body : {X : Type 0} (f : Bool → List Var → List Lit → X) (x : X) (l : Lit) (held : Bool) (b : Inner) → l ≡ Any held b → by_body f x l ≡ f held b.vars b.lits
of-body f x l held b is = ap (by_body f x) is ∙ ap (f held b.vars) (items-of b.lits)

-- ---- at a body

-- a path through a body goes on in its list
pub leads-in : (l : Lit) (held : Bool) (b : Inner) (j : ℕ) (path : List ℕ) → l ≡ Any held b → leads (Some l) (j ∷ path) ≡ leads (slice_get b.lits j) path
leads-in l held b j path is = ap (λ x. leads (Some x) (j ∷ path)) is ∙ ap (λ xs. leads (slice_get xs j) path) (items-of b.lits)

spot-body : (scope : List Var) (lists : List ListAround) (ps es : List Lit) (l : Lit) (held : Bool) (b : Inner) (j : ℕ) (path : List ℕ) → l ≡ Any held b → spot_in scope lists ps es (Some l) (j ∷ path) ≡ spot_in (scope ++ b.vars) (lists ++ list_at (length (scope ++ b.vars)) b.lits j ∷ []) (ps ++ plain (others b.lits j)) (take j b.lits) (slice_get b.lits j) path
spot-body scope lists ps es l held b j path is =
    ap (λ x. spot_in scope lists ps es (Some x) (j ∷ path)) is
    ∙ ap (λ xs. spot_in (scope ++ b.vars) (lists ++ list_at (length (scope ++ b.vars)) xs j ∷ []) (ps ++ plain (others xs j)) (take j xs) (slice_get xs j) path) (items-of b.lits)

-- where the list's literal is a body
pub spot-goes_on : (scope : List Var) (lists : List ListAround) (ps es : List Lit) (o : Option Lit) (l : Lit) (held : Bool) (b : Inner) (j : ℕ) (rest path : List ℕ) → o ≡ Some l → l ≡ Any held b → path ≡ j ∷ rest → spot_in scope lists ps es o path ≡ spot_in (scope ++ b.vars) (lists ++ list_at (length (scope ++ b.vars)) b.lits j ∷ []) (ps ++ plain (others b.lits j)) (take j b.lits) (slice_get b.lits j) rest
spot-goes_on scope lists ps es o l held b j rest path there is turns =
    ap (λ x. spot_in scope lists ps es x path) there ∙ ap (spot_in scope lists ps es (Some l)) turns ∙ spot-body scope lists ps es l held b j rest is

-- where it is none
pub spot-ends : (scope : List Var) (lists : List ListAround) (ps es : List Lit) (l : Lit) (j : ℕ) (rest : List ℕ) → is_body l ≡ false → spot_in scope lists ps es (Some l) (j ∷ rest) ≡ None
spot-ends scope lists ps es (Cmp op a b) j rest h = refl
spot-ends scope lists ps es (Other a b) j rest h = refl
spot-ends scope lists ps es (Any' held vars n row) j rest h = cc

-- a spot that was made from parts of the list's literal
pub spot-made : (scope : List Var) (lists : List ListAround) (ps es : List Lit) (o : Option Lit) (l : Lit) (held : Bool) (b : Inner) (j : ℕ) (rest path : List ℕ) (scope' vars' : List Var) (lists' : List ListAround) (ps' lits' : List Lit) (r : Option Seen) → Some l ≡ o → l ≡ Any held b → path ≡ j ∷ rest → scope' ≡ scope ++ vars' → vars' ≡ b.vars → lists' ≡ lists → ps' ≡ ps → lits' ≡ b.lits → r ≡ spot_in scope' (lists' ++ list_at (length scope') lits' j ∷ []) (ps' ++ plain (others lits' j)) (take j lits') (slice_get lits' j) rest → r ≡ spot_in scope lists ps es o path
spot-made scope lists ps es o l held b j rest path scope' vars' lists' ps' lits' r there is turns sc v ss p x h =
    h
    ∙ ap₂ (λ (vs : List Var) (qs : List Lit). spot_in vs (lists' ++ list_at (length vs) lits' j ∷ []) (qs ++ plain (others lits' j)) (take j lits') (slice_get lits' j) rest) (sc ∙ ap (λ (vs : List Var). scope ++ vs) v) p
    ∙ ap₂ (λ (ss : List ListAround) (xs : List Lit). spot_in (scope ++ b.vars) (ss ++ list_at (length (scope ++ b.vars)) xs j ∷ []) (ps ++ plain (others xs j)) (take j xs) (slice_get xs j) rest) ss x
    ∙ sym (spot-goes_on scope lists ps es o l held b j rest path (sym there) is turns)

-- where the list's literal has no body
pub spot-none : (scope : List Var) (lists : List ListAround) (ps es : List Lit) (o : Option Lit) (l : Lit) (j : ℕ) (rest path : List ℕ) → Some l ≡ o → is_body l ≡ false → path ≡ j ∷ rest → None ≡ spot_in scope lists ps es o path
spot-none scope lists ps es o l j rest path there is turns =
    sym (ap (λ x. spot_in scope lists ps es x path) (sym there) ∙ ap (spot_in scope lists ps es (Some l)) turns ∙ spot-ends scope lists ps es l j rest is)

-- alternatives that were made from those of a literal of the body
pub alternatives-made : (l : Lit) (held : Bool) (b : Inner) (j : ℕ) (rest path : List ℕ) (alts : List (List Lit)) (x : Lit) (deeper lists : List (List Lit)) (bodies : List Inner) (made : List (List Lit)) → l ≡ Any held b → path ≡ j ∷ rest → Some x ≡ slice_get b.lits j → deeper ≡ alternatives_at rest alts x → lists ≡ put_at b.lits j deeper → bodies ≡ bodies_of b.vars lists → made ≡ spread held bodies → made ≡ alternatives_at path alts l
alternatives-made l held b j rest path alts x deeper lists bodies made is turns there d ls bs m =
    m ∙ ap (spread held) (bs ∙ ap (bodies_of b.vars) (ls ∙ ap (put_at b.lits j) (d ∙ ap (alternatives_at rest alts) (sym (there-at b.lits j x (sym there)).1))))
    ∙ ap (λ (xs : List Lit). spread held (bodies_of b.vars (put_at xs j (alternatives_at rest alts (lit_at xs j))))) (sym (items-of b.lits))
    ∙ ap (alternatives_at (j ∷ rest) alts) (sym is)
    ∙ ap (λ p. alternatives_at p alts l) (sym turns)

-- ---- paths

module _ (bodies : Bool) where
  -- the paths at and in a literal, from its own
  abbrev pub PathsAt : Lit → List (List ℕ)
  PathsAt l = own_paths bodies l ++ paths_in bodies l

  row-from : (i : ℕ) (xs : List Lit) → paths_of_row bodies i (hidden-the_row-Lit-0 xs) ≡ paths_from bodies i xs
  unfolding hidden-the_row-Lit-0 hidden
  row-from i [] = refl
  row-from i (x ∷ xs) = ap (λ ps. map (λ p. i ∷ p) (PathsAt x) ++ ps) (row-from (i + 1) xs)

  pub body-paths : (l : Lit) (held : Bool) (b : Inner) → l ≡ Any held b → paths_in bodies l ≡ paths_from bodies 0 b.lits
  body-paths l held b is = ap (paths_in bodies) is ∙ row-from 0 b.lits

  -- a literal's own path, and then those in it
  pub paths-pushed : (at : ℕ) (l : Lit) (held : Bool) (b : Inner) (all one new own inside : List (List ℕ)) → l ≡ Any held b → own ≡ own_paths bodies l → one ≡ all ++ map (λ p. at ∷ p) own → inside ≡ paths_from bodies 0 b.lits → new ≡ one ++ map (λ p. at ∷ p) inside → new ≡ all ++ map (λ p. at ∷ p) (PathsAt l)
  paths-pushed at l held b all one new own inside is w o i n =
      n ∙ ap₂ (λ (a c : List (List ℕ)). a ++ map (λ p. at ∷ p) c) (o ∙ ap (λ (x : List (List ℕ)). all ++ map (λ p. at ∷ p) x) w) (i ∙ sym (body-paths l held b is))
      ∙ append_assoc all (map (λ p. at ∷ p) (own_paths bodies l)) (map (λ p. at ∷ p) (paths_in bodies l))
      ∙ ap (λ (x : List (List ℕ)). all ++ x) (sym (map-append (λ p. at ∷ p) (own_paths bodies l) (paths_in bodies l)))

  -- the path of a literal without a body
  pub paths-own : (at : ℕ) (l : Lit) (all new own : List (List ℕ)) → is_body l ≡ false → own ≡ own_paths bodies l → new ≡ all ++ map (λ p. at ∷ p) own → new ≡ all ++ map (λ p. at ∷ p) (PathsAt l)
  paths-own at l all new own is w n =
      n ∙ ap (λ (x : List (List ℕ)). all ++ map (λ p. at ∷ p) x) (w ∙ sym (append-nil (own_paths bodies l)) ∙ ap (λ (x : List (List ℕ)). own_paths bodies l ++ x) (sym (none l is)))
    where
      none : (m : Lit) → is_body m ≡ false → paths_in bodies m ≡ []
      none (Cmp op a b) h = refl
      none (Other a b) h = refl
      none (Any' held vars n row) h = cc

  pub paths-step : (lits : List Lit) (i n : ℕ) (x : Lit) (done new : List (List ℕ)) → i < length lits → n ≡ i → x ≡ get_or lits i x → paths_from bodies 0 lits ≡ done ++ paths_from bodies i (drop i lits) → new ≡ done ++ map (λ p. n ∷ p) (PathsAt x) → paths_from bodies 0 lits ≡ new ++ paths_from bodies (i + 1) (drop (i + 1) lits)
  paths-step lits i n x done new l e is inv made =
      let cut : drop i lits ≡ x ∷ drop (i + 1) lits = (rw add-one (drop-cons lits i x l)) ∙ ap (λ (y : Lit). y ∷ drop (i + 1) lits) (sym is) in
      inv ∙ ap (λ (r : List Lit). done ++ paths_from bodies i r) cut
      ∙ sym (append_assoc done (map (λ p. i ∷ p) (PathsAt x)) (paths_from bodies (i + 1) (drop (i + 1) lits)))
      ∙ ap (λ (d : List (List ℕ)). d ++ paths_from bodies (i + 1) (drop (i + 1) lits)) (ap (λ (m : ℕ). done ++ map (λ p. m ∷ p) (PathsAt x)) (sym e) ∙ sym made)

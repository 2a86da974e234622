-- What a rule sees of a literal is what stands at its place.
use Rattle.std.proofs.Common.{◌≡◌, ℕ, ◌+◌, List, [], ◌∷◌, ◌++◌, length, map, take, drop, Option, Some, None, refl, sym, ap, ◌∙◌, subst, inl, inr, append_assoc}
use Rattle.std.proofs.lemmas.List.{append-nil}
use Rattle.std.specs.Prelude.{slice_get}
use Rattle.mig_meaning.specs.Lists.{In}
use Rattle.mig_algebra.specs.declared.atoms.Var.{Var}
use Rattle.mig_algebra.specs.declared.literals.Lit.{Lit, Cmp, Other, Any', items-the_row-Lit}
use Rattle.mig_algebra.specs.declared.terms.Term.{Term}
use Rattle.mig_replacing.specs.Places.{Standing, Place, others, standing, place_within, place_at}
use Rattle.mig_replacing.specs.Given.{plain, plain_around}
use Rattle.mig_steps.specs.Spots.{ListAround, Seen, list_at, spot_in, spot_at}

-- what stands around a literal, by the lists around it
abbrev pub stood : List ListAround → List Standing
stood [] = []
stood (l ∷ ls) = standing l.count (others l.lits l.at) ++ stood ls

-- a place of which a rule sees a spot
pub record IsPlaceOf (s : Seen) (p : Place) : Type 0 where
  pub scope : p.scope ≡ s.scope
  pub around : plain_around p ≡ s.around
  pub lists : p.around ≡ stood s.lists
  pub lit : p.lit ≡ s.lit
  pub earlier : (m : Lit) → In m s.earlier → In (record { count = length p.scope; lit = m }) p.around

pub plain-append : (xs ys : List Lit) → plain (xs ++ ys) ≡ plain xs ++ plain ys
plain-append [] ys = refl
plain-append (Cmp op a b ∷ xs) ys = ap (λ l. Cmp op a b ∷ l) (plain-append xs ys)
plain-append (Other a b ∷ xs) ys = ap (λ l. Other a b ∷ l) (plain-append xs ys)
plain-append (Any' held vars n row ∷ xs) ys = plain-append xs ys

plain-more : (ls : List Standing) (n : ℕ) (xs : List Lit) → plain (map (λ (l : Standing). l.lit) (ls ++ standing n xs)) ≡ plain (map (λ (l : Standing). l.lit) ls) ++ plain xs
plain-more [] n xs = ap plain (own xs)
  where
    own : (ys : List Lit) → map (λ (l : Standing). l.lit) (standing n ys) ≡ ys
    own [] = refl
    own (y ∷ ys) = ap (λ l. y ∷ l) (own ys)
plain-more (x ∷ ls) n xs =
    plain-append (x.lit ∷ []) (map (λ (l : Standing). l.lit) (ls ++ standing n xs))
    ∙ ap (λ ys. plain (x.lit ∷ []) ++ ys) (plain-more ls n xs)
    ∙ sym (append_assoc (plain (x.lit ∷ [])) (plain (map (λ (l : Standing). l.lit) ls)) (plain xs))
    ∙ ap (λ ys. ys ++ plain xs) (sym (plain-append (x.lit ∷ []) (map (λ (l : Standing). l.lit) ls)))

pub plain-others : (lits : List Lit) (i : ℕ) → plain (others lits i) ≡ plain (take i lits) ++ plain (drop (i + 1) lits)
plain-others lits i = plain-append (take i lits) (drop (i + 1) lits)

-- ---- members

in-left : {X : Type 0} (x : X) (xs ys : List X) → In x xs → In x (xs ++ ys)
in-left x [] ys i = absurd i
in-left x (y ∷ xs) ys i = elim i [ inl e ↦ inl e | inr j ↦ inr (in-left x xs ys j) ]

in-right : {X : Type 0} (x : X) (xs ys : List X) → In x ys → In x (xs ++ ys)
in-right x [] ys i = i
in-right x (y ∷ xs) ys i = inr (in-right x xs ys i)

in-standing : (n : ℕ) (m : Lit) (xs : List Lit) → In m xs → In (record { count = n; lit = m }) (standing n xs)
in-standing n m [] i = absurd i
in-standing n m (x ∷ xs) i = elim i [ inl e ↦ inl (ap (λ (l : Lit). record { count = n; lit = l }) e) | inr j ↦ inr (in-standing n m xs j) ]

in-beside : (n j : ℕ) (around : List Standing) (lits : List Lit) (m : Lit) → In m (take j lits) → In (record { count = n; lit = m }) (around ++ standing n (others lits j))
in-beside n j around lits m i = in-right _ around (standing n (others lits j)) (in-standing n m (others lits j) (in-left m (take j lits) (drop (j + 1) lits) i))

-- ---- places

stood-more : (ls : List ListAround) (n : ℕ) (lits : List Lit) (j : ℕ) → stood (ls ++ list_at n lits j ∷ []) ≡ stood ls ++ standing n (others lits j)
stood-more [] n lits j = append-nil (standing n (others lits j))
stood-more (l ∷ ls) n lits j =
    ap (λ xs. standing l.count (others l.lits l.at) ++ xs) (stood-more ls n lits j)
    ∙ sym (append_assoc (standing l.count (others l.lits l.at)) (stood ls) (standing n (others lits j)))

abbrev PlaceFor : List Var → List Standing → Option Lit → List ℕ → Seen → Type 0
PlaceFor scope around o path s = (p : Place) × (place_within scope around o path ≡ Some p) × IsPlaceOf s p

place-for : (path : List ℕ) (scope : List Var) (around : List Standing) (lists : List ListAround) (ps earlier : List Lit) (o : Option Lit) (s : Seen) → plain (map (λ (l : Standing). l.lit) around) ≡ ps → around ≡ stood lists → ((m : Lit) → In m earlier → In (record { count = length scope; lit = m }) around) → spot_in scope lists ps earlier o path ≡ Some s → PlaceFor scope around o path s
place-for path scope around lists ps es None s e st i h = cc
place-for [] scope around lists ps es (Some l) s e st i h =
    let same : ◌≡◌ {A = Seen} (record { scope = scope; lists = lists; around = ps; earlier = es; lit = l }) s = cc in
    subst (PlaceFor scope around (Some l) []) same (record { scope = scope; around = around; lit = l }, refl, record { scope = refl; around = e; lists = st; lit = refl; earlier = i })
place-for (j ∷ path) scope around lists ps es (Some (Cmp op a b)) s e st i h = cc
place-for (j ∷ path) scope around lists ps es (Some (Other a b)) s e st i h = cc
place-for (j ∷ path) scope around lists ps es (Some (Any' held vars n row)) s e st i h =
    let lits = items-the_row-Lit _ row in
    place-for path (scope ++ vars) (around ++ standing (length (scope ++ vars)) (others lits j)) (lists ++ list_at (length (scope ++ vars)) lits j ∷ []) (ps ++ plain (others lits j)) (take j lits) (slice_get lits j) s
    (plain-more around (length (scope ++ vars)) (others lits j) ∙ ap (λ ys. ys ++ plain (others lits j)) e)
    (ap (λ xs. xs ++ standing (length (scope ++ vars)) (others lits j)) st ∙ sym (stood-more lists (length (scope ++ vars)) lits j))
    (λ m k. in-beside (length (scope ++ vars)) j around lits m k)
    h

pub place-of : (t : Term) (path : List ℕ) (s : Seen) → spot_at t path ≡ Some s → (p : Place) × (place_at t path ≡ Some p) × IsPlaceOf s p
place-of t [] s h = cc
place-of t (j ∷ path) s h =
    place-for path t.vars (standing (length t.vars) (others t.lits j)) (list_at (length t.vars) t.lits j ∷ []) (plain (others t.lits j)) (take j t.lits) (slice_get t.lits j) s
    (plain-more [] (length t.vars) (others t.lits j))
    (sym (stood-more [] (length t.vars) t.lits j))
    (λ m k. in-beside (length t.vars) j [] t.lits m k)
    h

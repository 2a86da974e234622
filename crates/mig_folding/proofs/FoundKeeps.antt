-- A body that variables outside it meet is decided.
use Rattle.std.proofs.Common.{◌≡◌, ℕ, ◌≤◌, Bool, true, false, List, [], ◌∷◌, ◌++◌, map, take, length, refl, sym, ap, ◌∙◌, ap₂, arith, subst, inl, inr, Some}
use Rattle.std.specs.Prelude.{◌==◌}
use Rattle.std.specs.List.{list_all, list_any}
use Rattle.std.proofs.lemmas.Bool.{and_parts, and_from, eqb-true}
use Rattle.mig_meaning.specs.Lists.{In, total, bit}
use Rattle.mig_meaning.proofs.StateLaw.{each-in}
use Rattle.mig_algebra.specs.declared.atoms.Atom.{Atom}
use Rattle.mig_algebra.specs.declared.atoms.Atom.TheVariants.{Int, Text, Param, Fresh, Col}
use Rattle.mig_algebra.specs.declared.atoms.Var.{Var}
use Rattle.mig_algebra.specs.declared.literals.Inner.{Inner}
use Rattle.mig_algebra.specs.declared.literals.Lit.{Lit, Cmp, Other, Any'}
use Rattle.mig_algebra.specs.declared.literals.Lit.TheVariants.{Any}
use Rattle.mig_algebra.specs.declared.terms.Term.{Term}
use Rattle.mig_algebra.specs.Meaning.{Setting, Env, choices, row_at, comes_out, lit_true, lits_true}
use Rattle.mig_algebra.specs.Orders.{lit_order}
use Rattle.mig_algebra.specs.Rename.{lit_with, renumbered}
use Rattle.mig_algebra.proofs.Bodies.{any_true}
use Rattle.mig_algebra.proofs.Members.{any-in, in-any}
use Rattle.mig_algebra.proofs.Moved.{any_id, all-lit}
use Rattle.mig_algebra.proofs.OrderLaws.{lit_tie}
use Rattle.mig_algebra.proofs.Truth.{lit_with-true}
use Rattle.mig_algebra.proofs.Without.{any_atom}
use Rattle.mig_classes.specs.Given.{is_given}
use Rattle.mig_classes.specs.Keys.{label_within, labels_within}
use Rattle.mig_classes.proofs.Contradicted.{oriented-labels}
use Rattle.mig_classes.proofs.Giving.{all-in, given-true}
use Rattle.mig_replacing.specs.Given.{plain_around, IsSound}
use Rattle.mig_replacing.specs.Places.{Standing, Place, others, standing, place_at}
use Rattle.mig_replacing.specs.Reaching.{stands_true, Reaches, is_met}
use Rattle.mig_replacing.specs.Replaced.{replaced, SameAmong}
use Rattle.mig_replacing.proofs.Around.{any-labels, lit-labels, around-labels, around-true, place-counts}
use Rattle.mig_replacing.proofs.Reached.{choice-length, count_within}
use Rattle.mig_replacing.proofs.Replacing.{literal-replaced}
use Rattle.mig_steps.specs.Spots.{ListAround, Seen}
use Rattle.mig_steps.proofs.SpotPlaces.{stood, IsPlaceOf}
use Rattle.mig_folding.specs.Found.{stand_first, stand_for, met_alternatives}
use Rattle.mig_folding.specs.Known.{put, lit_put, further, stands_as, stands_in, stands_around, is_known}
use Rattle.mig_folding.proofs.FoundReads.{tied, reads-rows, rows-choice, row-put, row-further}

-- all are true where each is
true-each : (s : Setting) (e : Env) (ls : List Lit) → ((l : Lit) → In l ls → lit_true s e l ≡ true) → lits_true s e ls ≡ true
true-each s e [] h = refl
true-each s e (l ∷ ls) h = and_from (lit_true s e l) (lits_true s e ls) (h l (inl refl)) (true-each s e ls (λ m i. h m (inr i)))

-- ---- literals of the lists around

in-left : {X : Type 0} (x : X) (xs ys : List X) → In x xs → In x (xs ++ ys)
in-left x [] ys i = absurd i
in-left x (y ∷ xs) ys i = elim i [ inl e ↦ inl e | inr j ↦ inr (in-left x xs ys j) ]

in-right : {X : Type 0} (x : X) (xs ys : List X) → In x ys → In x (xs ++ ys)
in-right x [] ys i = i
in-right x (y ∷ xs) ys i = inr (in-right x xs ys i)

in-standing : (k : ℕ) (m : Lit) (xs : List Lit) → In m xs → In (record { count = k; lit = m }) (standing k xs)
in-standing k m [] i = absurd i
in-standing k m (x ∷ xs) i = elim i [ inl e ↦ inl (ap (λ (l : Lit). record { count = k; lit = l }) e) | inr j ↦ inr (in-standing k m xs j) ]

-- a list's other literals stand around
in-stood : (list : ListAround) (lists : List ListAround) (m : Lit) → In list lists → In m (others list.lits list.at) → In (record { count = list.count; lit = m }) (stood lists)
in-stood list [] m i j = absurd i
in-stood list (x ∷ xs) m i j =
    elim i [
      | inl e ↦ in-left _ (standing x.count (others x.lits x.at)) (stood xs) (subst (λ (b : ListAround). In (record { count = list.count; lit = m }) (standing b.count (others b.lits b.at))) e (in-standing list.count m (others list.lits list.at) j))
      | inr r ↦ in-right _ (standing x.count (others x.lits x.at)) (stood xs) (in-stood list xs m r j)
    ]

-- a literal that stands around, as if it stood here
pub record StandsHere (n : ℕ) (l : Lit) (around : List Standing) : Type 0 where
  pub stand : Standing
  pub there : In stand around
  pub same : stands_as n l stand.count stand.lit ≡ true

pub stands-here : (n : ℕ) (l : Lit) (lists : List ListAround) → stands_around n l lists ≡ true → StandsHere n l (stood lists)
stands-here n l lists h =
    let a = any-in (stands_in n l) lists h in
    let b = any-in (stands_as n l a.0.count) (others a.0.lits a.0.at) a.2 in
    record { stand = record { count = a.0.count; lit = b.0 }; there = in-stood a.0 lists b.0 a.1 b.1; same = b.2 }

-- ---- labels

label-renumbered : (n : ℕ) (g : ℕ → ℕ) (a : Atom) → label_within n a ≡ true → label_within n (renumbered g a) ≡ true
label-renumbered n g (Int i) h = refl
label-renumbered n g (Text t) h = refl
label-renumbered n g (Param p) h = refl
label-renumbered n g (Fresh k) h = h
label-renumbered n g (Col v c) h = refl

-- ---- a body

module _ (s : Setting) (t : Term) (path : List ℕ) (spot : Seen) (place : Place) (held : Bool) (body : Inner) (names : List ℕ) (sound : IsSound s t) (is : place_at t path ≡ Some place) (of : IsPlaceOf spot place) (its : place.lit ≡ Any held body) (stand : stand_for spot.scope names body.vars ≡ true) (known : list_all (is_known spot names) body.lits ≡ true) where
  stands : (length names ≡ length body.vars) × (stand_first spot.scope names body.vars ≡ true)
  stands = let k = and_parts (length names == length body.vars) (stand_first spot.scope names body.vars) stand in (eqb-true (length names) (length body.vars) k.0, k.1)

  body-labels : list_all (labels_within (length s.given.keys)) body.lits ≡ true
  body-labels = sym (any-labels (length s.given.keys) held body) ∙ ap (labels_within (length s.given.keys)) (sym its) ∙ lit-labels s t path place sound is

  module _ (e : Env) (r : Reaches s place e) where
    long : length e ≡ length spot.scope
    long = choice-length s place.scope e r.choice ∙ ap (λ (vs : List Var). length vs) of.scope

    -- a literal of the body says at their rows what it says with them
    put-true : (l : Lit) → lit_true s (e ++ map (row_at e) names) l ≡ lit_true s e (lit_put (length spot.scope) names l)
    put-true l =
        lit_with-true s any_atom any_id (renumbered (put (length spot.scope) names)) (put (length spot.scope) names) (e ++ map (row_at e) names) e
        (reads-rows s (e ++ map (row_at e) names) e (put (length spot.scope) names) (row-put e spot.scope names body.vars long stands.1)) l (all-lit l)

    -- a literal that stands around is true where it would stand here
    around-here : (l : Lit) → stands_around (length spot.scope) l spot.lists ≡ true → lit_true s e l ≡ true
    around-here l h =
        let k = stands-here (length spot.scope) l spot.lists h in
        let there : In k.stand place.around = subst (In k.stand) (sym of.lists) k.there in
        let g = further k.stand.count (length spot.scope) in
        let within : k.stand.count ≤ length place.scope = each-in (count_within (length place.scope)) k.stand place.around (place-counts t path place is) there in
        let counts : k.stand.count ≤ length spot.scope = omega (arith, within, ap (λ (vs : List Var). length vs) of.scope) in
        let said : lit_true s (take k.stand.count e) k.stand.lit ≡ true = all-in (stands_true s e) k.stand place.around r.around there in
        let one : l ≡ lit_with (renumbered g) g k.stand.lit = lit_tie l (lit_with (renumbered g) g k.stand.lit) (tied (lit_order l (lit_with (renumbered g) g k.stand.lit)) k.same) in
        ap (lit_true s e) one
        ∙ sym (lit_with-true s any_atom any_id (renumbered g) g (take k.stand.count e) e (reads-rows s (take k.stand.count e) e g (row-further e k.stand.count (length spot.scope) long counts)) k.stand.lit (all-lit k.stand.lit))
        ∙ said

    known-true : (l : Lit) → labels_within (length s.given.keys) l ≡ true → is_known spot names l ≡ true → lit_true s e (lit_put (length spot.scope) names l) ≡ true
    known-true (Cmp op a b) labels h =
        let k = and_parts (label_within (length s.given.keys) a) (label_within (length s.given.keys) b) labels in
        let g = put (length spot.scope) names in
        let given : is_given place.scope (plain_around place) (lit_put (length spot.scope) names (Cmp op a b)) ≡ true = ap₂ (λ (vs : List Var) (ls : List Lit). is_given vs ls (lit_put (length spot.scope) names (Cmp op a b))) of.scope of.around ∙ h in
        given-true s e (plain_around place) (around-true s t path place sound is e r) place.scope sound.keys r.choice (around-labels s t path place sound is)
        (lit_put (length spot.scope) names (Cmp op a b))
        (oriented-labels (length s.given.keys) op (renumbered g a) (renumbered g b) (label-renumbered (length s.given.keys) g a k.0) (label-renumbered (length s.given.keys) g b k.1)) given
    known-true (Other a b) labels h = around-here (lit_put (length spot.scope) names (Other a b)) h
    known-true (Any' held' vars n row) labels h = around-here (lit_put (length spot.scope) names (Any' held' vars n row)) h

    met : is_met s e body ≡ true
    met =
        in-any (λ c. lits_true s (e ++ c) body.lits) (map (row_at e) names) (choices s body.vars)
        (rows-choice s spot.scope e (subst (λ (vs : List Var). In e (choices s vs)) of.scope r.choice) names body.vars stands.0 stands.1)
        (true-each s (e ++ map (row_at e) names) body.lits (λ l i.
        put-true l ∙ known-true l (all-in (labels_within (length s.given.keys)) l body.lits body-labels i) (all-in (is_known spot names) l body.lits known i)))

    decided : lit_true s e place.lit ≡ comes_out held true
    decided = ap (lit_true s e) its ∙ any_true s e held body.vars body.lits ∙ ap (comes_out held) met

  alternatives-true : (e : Env) (h : Bool) → list_any (lits_true s e) (met_alternatives h) ≡ comes_out h true
  alternatives-true e true = refl
  alternatives-true e false = refl

  one-at-most : (e : Env) (h : Bool) → total (λ a. bit (lits_true s e a)) (met_alternatives h) ≤ 1
  one-at-most e true = omega arith
  one-at-most e false = omega arith

  pub found-keeps : SameAmong s (t ∷ []) (replaced t path (met_alternatives held))
  found-keeps =
      literal-replaced s t path place (met_alternatives held) is
      (record { by = λ e r. alternatives-true e held ∙ sym (decided e r) })
      (λ i q. record { by = λ e r. one-at-most e held })

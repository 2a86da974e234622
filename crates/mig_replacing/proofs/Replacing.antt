-- The law of replacement: a term, and the terms in which a literal of it is replaced, have the same bag.
use Rattle.std.proofs.Common.{◌≡◌, ℕ, zero, suc, ◌+◌, ◌*◌, ◌<◌, ◌≤◌, Bool, true, false, ◌&&◌, List, [], ◌∷◌, ◌++◌, Option, Some, None, refl, sym, ap, ◌∙◌, arith, length, subst}
use Rattle.std.specs.Prelude.{slice_get}
use Rattle.std.specs.List.{list_any}
use Rattle.mig_schema.specs.declared.values.Value.{Value}
use Rattle.mig_meaning.specs.Lists.{total, bit, In}
use Rattle.mig_meaning.proofs.Bags.{total-append, total-map}
use Rattle.mig_algebra.specs.declared.atoms.Var.{Var}
use Rattle.mig_algebra.specs.declared.atoms.Atom.{Atom}
use Rattle.mig_algebra.specs.declared.literals.Inner.{Inner}
use Rattle.mig_algebra.specs.declared.literals.Lit.{Lit}
use Rattle.mig_algebra.specs.declared.literals.Lit.TheVariants.{Any}
use Rattle.mig_algebra.specs.declared.terms.Term.{Term}
use Rattle.mig_algebra.specs.Meaning.{Setting, Env, comes_out, choices, lit_true, lits_true, head_of}
use Rattle.mig_algebra.proofs.Bodies.{any_true}
use Rattle.mig_algebra.proofs.Some.{positive, any_is_positive}
use Rattle.mig_algebra.proofs.Sums.{when, when_bit, total-same, total-each, total-swap, total-times}
use Rattle.mig_algebra.proofs.Weights.{weigh, weight, same-bag}
use Rattle.mig_replacing.specs.Places.{Standing, Place, others, standing, place_within, place_at}
use Rattle.mig_replacing.specs.Reaching.{Reaches, StandsFor, AtMostOne, MetAs, is_met}
use Rattle.mig_replacing.specs.Replaced.{spread, put_at, lit_at, alternatives_at, with_lits, replaced, SameAmong}
use Rattle.mig_replacing.proofs.Alternatives.{spread-total, spread-any, at-true, put-total}
use Rattle.mig_replacing.proofs.Reached.{some-same, each-from, there-at, choice-length, stands-own, counts-own, keeps-at, keeps-one}

-- ---- terms

-- a term of which one literal is replaced by alternatives, of which just so many are true at each choice that reaches it
weigh-replaced : (s : Setting) (w : List Value → ℕ) (vars : List Var) (lits : List Lit) (head : List Atom) (i : ℕ) (alts : List (List Lit)) → i < length lits → ((c : Env) → In c (choices s vars) → lits_true s c (others lits i) ≡ true → total (λ a. bit (lits_true s c a)) alts ≡ bit (lit_true s c (lit_at lits i))) → total (λ ls. weigh s w vars ls head) (put_at lits i alts) ≡ weigh s w vars lits head
weigh-replaced s w vars lits head i alts in' h =
    total-swap (λ ls c. when (lits_true s c ls) (w (head_of s head c))) (put_at lits i alts) (choices s vars)
    ∙ total-each _ _ (choices s vars) (each-from _ (choices s vars) (λ c k. at c (h c k)))
  where
    bits : (c : Env) → total (λ ls. when (lits_true s c ls) (w (head_of s head c))) (put_at lits i alts) ≡ total (λ ls. bit (lits_true s c ls)) (put_at lits i alts) * w (head_of s head c)
    bits c =
        total-same _ _ (λ ls. when_bit (lits_true s c ls) (w (head_of s head c))) (put_at lits i alts)
        ∙ total-times (λ ls. bit (lits_true s c ls)) (w (head_of s head c)) (put_at lits i alts)

    both : (x y : Bool) (n : ℕ) → (x ≡ true → n ≡ bit y) → when x n ≡ bit (x && y)
    both true y n k = k refl
    both false y n k = refl

    at : (c : Env) → (lits_true s c (others lits i) ≡ true → total (λ a. bit (lits_true s c a)) alts ≡ bit (lit_true s c (lit_at lits i))) → total (λ ls. when (lits_true s c ls) (w (head_of s head c))) (put_at lits i alts) ≡ when (lits_true s c lits) (w (head_of s head c))
    at c k =
        bits c
        ∙ ap (λ n. n * w (head_of s head c)) (put-total s c lits i alts ∙ both (lits_true s c (others lits i)) (lit_true s c (lit_at lits i)) _ k ∙ ap bit (sym (at-true s c lits i in')))
        ∙ sym (when_bit (lits_true s c lits) (w (head_of s head c)))

-- terms with equal weights have equal bags among others
pub same-among : (s : Setting) (ts us : List Term) → ((w : List Value → ℕ) → total (weight s w) us ≡ total (weight s w) ts) → SameAmong s ts us
same-among s ts us h = record { by = λ before behind. same-bag s (before ++ (us ++ behind)) (before ++ (ts ++ behind)) (λ w. go w before behind) }
  where
    parts : (w : List Value → ℕ) (xs before behind : List Term) → total (weight s w) (before ++ (xs ++ behind)) ≡ total (weight s w) before + (total (weight s w) xs + total (weight s w) behind)
    parts w xs before behind = total-append (weight s w) before (xs ++ behind) ∙ ap (λ n. total (weight s w) before + n) (total-append (weight s w) xs behind)

    go : (w : List Value → ℕ) (before behind : List Term) → total (weight s w) (before ++ (us ++ behind)) ≡ total (weight s w) (before ++ (ts ++ behind))
    go w before behind =
        parts w us before behind ∙ ap (λ n. total (weight s w) before + (n + total (weight s w) behind)) (h w) ∙ sym (parts w ts before behind)

-- one that is true, where one is and no two are
one-total : {X : Type 0} (p : X → Bool) (xs : List X) (b : Bool) → list_any p xs ≡ b → total (λ x. bit (p x)) xs ≤ 1 → total (λ x. bit (p x)) xs ≡ bit b
one-total p xs b h l = go (total (λ x. bit (p x)) xs) b (sym (any_is_positive p xs) ∙ h) l
  where
    go : (n : ℕ) (b : Bool) → positive n ≡ b → n ≤ 1 → n ≡ bit b
    go zero true h l = cc
    go zero false h l = refl
    go (suc n) true h l = omega (arith, l)
    go (suc n) false h l = cc

-- ---- the first part

module _ (s : Setting) (t : Term) (j : ℕ) (place : Place) (alts : List (List Lit)) (h : StandsFor s place alts) where
  -- what stands around the term's literal
  abbrev beside : List Standing
  beside = standing (length t.vars) (others t.lits j)

  -- just so many alternatives at each choice
  so-many : (q : List ℕ) → place_within t.vars beside (Some (lit_at t.lits j)) q ≡ Some place → (q ≡ [] → AtMostOne s place alts) → (c : Env) → In c (choices s t.vars) → lits_true s c (others t.lits j) ≡ true → total (λ a. bit (lits_true s c a)) (alternatives_at q alts (lit_at t.lits j)) ≡ bit (lit_true s c (lit_at t.lits j))
  so-many [] is once c i u =
      let around = stands-own s (length t.vars) c (others t.lits j) (choice-length s t.vars c i) ∙ u in
      one-total (lits_true s c) alts (lit_true s c (lit_at t.lits j))
      (keeps-at s alts place h [] t.vars beside (lit_at t.lits j) c is i (counts-own (length t.vars) (others t.lits j)) around)
      ((once refl).by c (subst (λ (r : Place). Reaches s r c) (some-same _ place is) (record { choice = i; around = around })))
  so-many (k ∷ q) is once c i u =
      keeps-one s alts place h k q t.vars beside (lit_at t.lits j) c is i (counts-own (length t.vars) (others t.lits j)) (stands-own s (length t.vars) c (others t.lits j) (choice-length s t.vars c i) ∙ u)

  -- the weights of the terms that the term becomes
  replaced-weights : (p : List ℕ) → place_within t.vars beside (slice_get t.lits j) p ≡ Some place → (p ≡ [] → AtMostOne s place alts) → (w : List Value → ℕ) → total (weight s w) (replaced t (j ∷ p) alts) ≡ total (weight s w) (t ∷ [])
  replaced-weights p is once w = go (slice_get t.lits j) refl
    where
      go : (o : Option Lit) → slice_get t.lits j ≡ o → total (weight s w) (replaced t (j ∷ p) alts) ≡ total (weight s w) (t ∷ [])
      go None g = let bad : None ≡ Some place = sym (ap (λ o. place_within t.vars beside o p) g) ∙ is in cc
      go (Some m) g =
          let its = there-at t.lits j m g in
          let within : place_within t.vars beside (Some (lit_at t.lits j)) p ≡ Some place =
          ap (λ x. place_within t.vars beside (Some x) p) its.1 ∙ sym (ap (λ o. place_within t.vars beside o p) g) ∙ is in
          let one = weigh-replaced s w t.vars t.lits t.head j (alternatives_at p alts (lit_at t.lits j)) its.0 (so-many p within once) in
          let all = total-map (weight s w) (with_lits t) (put_at t.lits j (alternatives_at p alts (lit_at t.lits j))) in
          omega (arith, one, all)

-- a literal replaced by alternatives
pub literal-replaced : (s : Setting) (t : Term) (path : List ℕ) (place : Place) (alts : List (List Lit)) → place_at t path ≡ Some place → StandsFor s place alts → ((i : ℕ) → path ≡ i ∷ [] → AtMostOne s place alts) → SameAmong s (t ∷ []) (replaced t path alts)
literal-replaced s t [] place alts is h once = cc
literal-replaced s t (j ∷ p) place alts is h once =
    same-among s (t ∷ []) (replaced t (j ∷ p) alts) (replaced-weights s t j place alts h p is (λ e. once j (ap (λ q. j ∷ q) e)))

-- ---- the second part

-- a body replaced by bodies
pub body-replaced : (s : Setting) (t : Term) (path : List ℕ) (place : Place) (held : Bool) (body : Inner) (bodies : List Inner) → place_at t path ≡ Some place → place.lit ≡ Any held body → MetAs s place body bodies → SameAmong s (t ∷ []) (replaced t path (spread held bodies))
body-replaced s t path place held body bodies is its h =
    literal-replaced s t path place (spread held bodies) is
    (record { by = λ e r. spread-any s e held bodies ∙ ap (comes_out held) (h.by e r) ∙ sym (any_true s e held body.vars body.lits) ∙ ap (lit_true s e) (sym its) })
    (λ i e. record { by = λ c r. subst (λ n. n ≤ 1) (sym (spread-total s c held bodies)) (bit-most (comes_out held (list_any (is_met s c) bodies))) })
  where
    bit-most : (b : Bool) → bit b ≤ 1
    bit-most true = omega arith
    bit-most false = omega arith

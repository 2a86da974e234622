-- A literal at a path is replaced by alternatives: the literal around it keeps its truth.
use Rattle.std.proofs.Common.{◌≡◌, ℕ, zero, suc, ◌<◌, ◌≤◌, Bool, true, false, ◌&&◌, List, [], ◌∷◌, ◌++◌, map, take, Option, Some, None, refl, sym, ap, ap₂, ◌∙◌, arith, inl, inr, length, subst, length-append}
use Rattle.std.specs.Prelude.{slice_get}
use Rattle.std.specs.List.{list_any, list_all}
use Rattle.std.proofs.lemmas.List.{take_all, take-append-le}
use Rattle.std.proofs.lemmas.List.Folds.{list_all-append}
use Rattle.mig_meaning.specs.Lists.{total, bit, In, Each}
use Rattle.mig_meaning.proofs.Maps.{any-map}
use Rattle.mig_meaning.proofs.StateLaw.{each-in}
use Rattle.mig_algebra.specs.declared.atoms.Var.{Var}
use Rattle.mig_algebra.specs.declared.literals.Lit.{Lit, Cmp, Other, Any', items-the_row-Lit}
use Rattle.mig_algebra.specs.Meaning.{Setting, Env, comes_out, choices, lit_true, lits_true, row_true}
use Rattle.mig_algebra.proofs.Bodies.{row_as_list}
use Rattle.mig_algebra.proofs.Hosts.{choice-lengths}
use Rattle.mig_algebra.proofs.Members.{in-product, product-in}
use Rattle.mig_algebra.proofs.Some.{any-each, any-same}
use Rattle.mig_algebra.proofs.SomeChoice.{any-swap}
use Rattle.mig_replacing.specs.Places.{Standing, Place, others, standing, place_within}
use Rattle.mig_replacing.specs.Reaching.{stands_true, Reaches, StandsFor, is_met}
use Rattle.mig_replacing.specs.Replaced.{put_at, lit_at, bodies_of, alternatives_at}
use Rattle.mig_replacing.proofs.Alternatives.{spread-total, any-by_bit, at-true, put-any}

-- ---- lists

-- items that some item is
pub some-same : {X : Type 0} (x y : X) → Some x ≡ Some y → x ≡ y
some-same x y h = cc

-- what holds of each item of a list
pub each-from : {X : Type 0} (P : X → Type 0) (xs : List X) → ((x : X) → In x xs → P x) → Each P xs
each-from P [] h = tt
each-from P (x ∷ xs) h = (h x (inl refl), each-from P xs (λ y i. h y (inr i)))

-- an item that is there, by its number
pub there-at : (lits : List Lit) (j : ℕ) (m : Lit) → slice_get lits j ≡ Some m → (j < length lits) × (lit_at lits j ≡ m)
there-at [] j m h = cc
there-at (l ∷ lits) zero m h = (omega arith, some-same l m h)
there-at (l ∷ lits) (suc j) m h = let k = there-at lits j m h in (omega (arith, k.0), k.1)

-- ---- choices

-- a choice, and one for more variables
pub choice-more : (s : Setting) (scope vars : List Var) (e c : Env) → In e (choices s scope) → In c (choices s vars) → In (e ++ c) (choices s (scope ++ vars))
choice-more s [] vars e c (inl h) k = subst (λ x. In (x ++ c) (choices s vars)) (sym h) k
choice-more s [] vars e c (inr h) k = absurd h
choice-more s (v ∷ scope) vars e c h k =
    let r = product-in e (s.rows v) (map s.rows scope) h in
    subst (λ x. In (x ++ c) (choices s (v ∷ (scope ++ vars)))) (sym r.2)
    (in-product r.0 (r.1 ++ c) (s.rows v) (map s.rows (scope ++ vars)) r.3 (choice-more s scope vars r.1 c r.4 k))

-- it has a row for each variable
pub choice-length : (s : Setting) (scope : List Var) (e : Env) → In e (choices s scope) → length e ≡ length scope
choice-length s scope e h = each-in (λ c. length c ≡ length scope) e (choices s scope) (choice-lengths s scope) h

-- ---- what stands around

-- no literal stands where more variables are in scope
abbrev pub count_within : ℕ → Standing → Type 0
count_within n l = l.count ≤ n

-- more rows behind change nothing
pub stands-further : (s : Setting) (e c : Env) (ls : List Standing) → Each (count_within (length e)) ls → list_all (stands_true s (e ++ c)) ls ≡ list_all (stands_true s e) ls
stands-further s e c [] h = refl
stands-further s e c (l ∷ ls) h = ap₂ (λ x y. x && y) (ap (λ f. lit_true s f l.lit) (take-append-le l.count e c h.0)) (stands-further s e c ls h.1)

-- literals at their own choice
pub stands-own : (s : Setting) (n : ℕ) (e : Env) (ls : List Lit) → length e ≡ n → list_all (stands_true s e) (standing n ls) ≡ lits_true s e ls
stands-own s n e [] h = refl
stands-own s n e (l ∷ ls) h =
    let whole : take n e ≡ e = take_all n e (omega (arith, h)) in
    ap₂ (λ x y. x && y) (ap (λ f. lit_true s f l) whole) (stands-own s n e ls h)

-- counts that are within a number are within a greater one
pub counts-more : (m n : ℕ) (ls : List Standing) → m ≤ n → Each (count_within m) ls → Each (count_within n) ls
counts-more m n [] le h = tt
counts-more m n (l ∷ ls) le h = (omega (arith, le, h.0), counts-more m n ls le h.1)

pub counts-own : (n : ℕ) (ls : List Lit) → Each (count_within n) (standing n ls)
counts-own n [] = tt
counts-own n (l ∷ ls) = (omega arith, counts-own n ls)

pub counts-append : (n : ℕ) (xs ys : List Standing) → Each (count_within n) xs → Each (count_within n) ys → Each (count_within n) (xs ++ ys)
counts-append n [] ys a b = b
counts-append n (x ∷ xs) ys a b = (a.0, counts-append n xs ys a.1 b)

-- in a body: the same literals, and those of the body
pub counts-inside : (scope vars : List Var) (around : List Standing) (lits : List Lit) → Each (count_within (length scope)) around → Each (count_within (length (scope ++ vars))) (around ++ standing (length (scope ++ vars)) lits)
counts-inside scope vars around lits h =
    counts-append (length (scope ++ vars)) around (standing (length (scope ++ vars)) lits)
    (counts-more (length scope) (length (scope ++ vars)) around (omega (arith, length-append scope vars)) h)
    (counts-own (length (scope ++ vars)) lits)

-- what stands around a literal of a body is true, where what stands around the body is and the body's other literals are
around-inside : (s : Setting) (scope vars : List Var) (around : List Standing) (lits : List Lit) (e c : Env) → In e (choices s scope) → In c (choices s vars) → Each (count_within (length scope)) around → list_all (stands_true s e) around ≡ true → lits_true s (e ++ c) lits ≡ true → list_all (stands_true s (e ++ c)) (around ++ standing (length (scope ++ vars)) lits) ≡ true
around-inside s scope vars around lits e c h k within t u =
    let long = choice-length s (scope ++ vars) (e ++ c) (choice-more s scope vars e c h k) in
    let own = choice-length s scope e h in
    list_all-append (stands_true s (e ++ c)) around (standing (length (scope ++ vars)) lits)
    ∙ ap₂ (λ x y. x && y)
    (stands-further s e c around (subst (λ n. Each (count_within n) around) (sym own) within) ∙ t)
    (stands-own s (length (scope ++ vars)) (e ++ c) lits long ∙ u)

-- ---- alternatives

-- the bodies with the alternatives in them are met where one of the lists is true at some choice
bodies-met : (s : Setting) (e : Env) (vars : List Var) (lists : List (List Lit)) → list_any (is_met s e) (bodies_of vars lists) ≡ list_any (λ c. list_any (lits_true s (e ++ c)) lists) (choices s vars)
bodies-met s e vars lists =
    any-map (is_met s e) (λ (ls : List Lit). record { vars = vars; lits = ls }) (λ ls. list_any (λ c. lits_true s (e ++ c) ls) (choices s vars)) (λ ls. refl) lists
    ∙ any-swap (λ a c. lits_true s (e ++ c) a) lists (choices s vars)

-- one choice of a body
kept-at : (s : Setting) (e : Env) (lits : List Lit) (j : ℕ) (alts : List (List Lit)) → j < length lits → (lits_true s e (others lits j) ≡ true → list_any (lits_true s e) alts ≡ lit_true s e (lit_at lits j)) → list_any (lits_true s e) (put_at lits j alts) ≡ lits_true s e lits
kept-at s e lits j alts in' h =
    put-any s e lits j alts ∙ go (lits_true s e (others lits j)) (list_any (lits_true s e) alts) (lit_true s e (lit_at lits j)) h ∙ sym (at-true s e lits j in')
  where
    go : (x a b : Bool) → (x ≡ true → a ≡ b) → (x && a) ≡ (x && b)
    go true a b h = h refl
    go false a b h = refl

module _ (s : Setting) (alts : List (List Lit)) (place : Place) (h : StandsFor s place alts) where
  -- some alternative of a literal is true exactly where it is, at a choice where what stands around it is true
  abbrev KeepsAt : List ℕ → Type 0
  KeepsAt p = (scope : List Var) (around : List Standing) (l : Lit) (e : Env) → place_within scope around (Some l) p ≡ Some place → In e (choices s scope) → Each (count_within (length scope)) around → list_all (stands_true s e) around ≡ true → list_any (lits_true s e) (alternatives_at p alts l) ≡ lit_true s e l

  -- exactly one alternative of a body's literal
  body-total : (j : ℕ) (p : List ℕ) → KeepsAt p → (scope : List Var) (around : List Standing) (l : Lit) (e : Env) → place_within scope around (Some l) (j ∷ p) ≡ Some place → In e (choices s scope) → Each (count_within (length scope)) around → list_all (stands_true s e) around ≡ true → total (λ a. bit (lits_true s e a)) (alternatives_at (j ∷ p) alts l) ≡ bit (lit_true s e l)
  body-total j p ih scope around (Cmp op a b) e is i within t = cc
  body-total j p ih scope around (Other a b) e is i within t = cc
  body-total j p ih scope around (Any' held vars n row) e is i within t = go (slice_get (items-the_row-Lit _ row) j) refl
    where
      lits : List Lit
      lits = items-the_row-Lit _ row

      go : (o : Option Lit) → slice_get (items-the_row-Lit _ row) j ≡ o → total (λ a. bit (lits_true s e a)) (alternatives_at (j ∷ p) alts (Any' held vars n row)) ≡ bit (lit_true s e (Any' held vars n row))
      go None g =
          let bad : None ≡ Some place = sym (ap (λ o. place_within (scope ++ vars) (around ++ standing (length (scope ++ vars)) (others lits j)) o p) g) ∙ is in cc
      go (Some m) g =
          let there = there-at lits j m g in
          let inner : place_within (scope ++ vars) (around ++ standing (length (scope ++ vars)) (others lits j)) (Some (lit_at lits j)) p ≡ Some place =
          ap (λ x. place_within (scope ++ vars) (around ++ standing (length (scope ++ vars)) (others lits j)) (Some x) p) there.1
          ∙ sym (ap (λ o. place_within (scope ++ vars) (around ++ standing (length (scope ++ vars)) (others lits j)) o p) g) ∙ is in
          let kept = each-from (λ c. list_any (lits_true s (e ++ c)) (put_at lits j (alternatives_at p alts (lit_at lits j))) ≡ lits_true s (e ++ c) lits) (choices s vars) (λ c k.
          kept-at s (e ++ c) lits j (alternatives_at p alts (lit_at lits j)) there.0 (λ u.
          ih (scope ++ vars) (around ++ standing (length (scope ++ vars)) (others lits j)) (lit_at lits j) (e ++ c) inner (choice-more s scope vars e c i k) (counts-inside scope vars around (others lits j) within) (around-inside s scope vars around (others lits j) e c i k within t u))) in
          spread-total s e held (bodies_of vars (put_at lits j (alternatives_at p alts (lit_at lits j))))
          ∙ ap (λ b. bit (comes_out held b))
          (bodies-met s e vars (put_at lits j (alternatives_at p alts (lit_at lits j)))
          ∙ any-each _ _ (choices s vars) kept
          ∙ any-same (λ c. lits_true s (e ++ c) lits) (λ c. row_true s (e ++ c) row) (λ c. sym (row_as_list s (e ++ c) row)) (choices s vars))

  -- at the end of each path
  pub keeps-at : (p : List ℕ) → KeepsAt p
  keeps-at [] scope around l e is i within t =
      subst (λ (q : Place). list_any (lits_true s e) alts ≡ lit_true s e q.lit) (sym (some-same _ place is))
      (h.by e (subst (λ (q : Place). Reaches s q e) (some-same _ place is) (record { choice = i; around = t })))
  keeps-at (j ∷ p) scope around l e is i within t =
      any-by_bit (lits_true s e) (alternatives_at (j ∷ p) alts l) (lit_true s e l) (body-total j p (keeps-at p) scope around l e is i within t)

  -- exactly one, where the path goes into a body
  pub keeps-one : (j : ℕ) (p : List ℕ) (scope : List Var) (around : List Standing) (l : Lit) (e : Env) → place_within scope around (Some l) (j ∷ p) ≡ Some place → In e (choices s scope) → Each (count_within (length scope)) around → list_all (stands_true s e) around ≡ true → total (λ a. bit (lits_true s e a)) (alternatives_at (j ∷ p) alts l) ≡ bit (lit_true s e l)
  keeps-one j p = body-total j p (keeps-at p)

-- What stands for a literal whose body became several, and a list with alternatives in place of one literal: how many are true.
use Rattle.std.proofs.Common.{◌≡◌, ℕ, ◌+◌, ◌<◌, Bool, true, false, not, ◌&&◌, ◌||◌, List, [], ◌∷◌, ◌++◌, map, take, drop, refl, sym, ap, ap₂, ◌∙◌, arith, length, take-append-drop, drop-cons, add-one, append_assoc}
use Rattle.std.specs.Prelude.{slice_index_or}
use Rattle.std.proofs.lemmas.List.{take_more}
use Rattle.std.specs.List.{list_any}
use Rattle.std.proofs.lemmas.List.Folds.{list_any-append}
use Rattle.mig_meaning.specs.Lists.{total, bit}
use Rattle.mig_algebra.specs.declared.literals.Inner.{Inner}
use Rattle.mig_algebra.specs.declared.literals.Lit.{Lit, Other}
use Rattle.mig_algebra.specs.declared.literals.Lit.TheVariants.{Any}
use Rattle.mig_algebra.specs.Meaning.{Setting, Env, comes_out, lit_true, lits_true}
use Rattle.mig_algebra.proofs.Bodies.{any_true}
use Rattle.mig_algebra.proofs.Some.{positive, any_is_positive}
use Rattle.mig_algebra.proofs.Sums.{when}
use Rattle.mig_algebra.proofs.Truth.{lits-append}
use Rattle.mig_replacing.specs.Places.{others}
use Rattle.mig_replacing.specs.Reaching.{is_met}
use Rattle.mig_replacing.specs.Replaced.{first_met, spread, OneIsTrue, put_at, lit_at}

-- ---- bodies

-- none of the bodies is met
none-met : (s : Setting) (e : Env) (bs : List Inner) → lits_true s e (map (Any false) bs) ≡ not (list_any (is_met s e) bs)
none-met s e [] = refl
none-met s e (b ∷ bs) = ap₂ (λ x y. x && y) (any_true s e false b.vars b.lits) (none-met s e bs) ∙ go (is_met s e b) (list_any (is_met s e) bs)
  where
    go : (x y : Bool) → (not x && not y) ≡ not (x || y)
    go true y = refl
    go false y = refl

first-total : (s : Setting) (e : Env) (before bs : List Inner) → total (λ a. bit (lits_true s e a)) (first_met before bs) ≡ bit (list_any (is_met s e) bs && not (list_any (is_met s e) before))
first-total s e before [] = refl
first-total s e before (b ∷ bs) =
    ap₂ (λ x y. bit x + y) (ap₂ (λ x y. x && y) (any_true s e true b.vars b.lits) (none-met s e before)) (first-total s e (before ++ b ∷ []) bs ∙ ap (λ x. bit (list_any (is_met s e) bs && not x)) (list_any-append (is_met s e) before (b ∷ [])))
    ∙ go (is_met s e b) (list_any (is_met s e) before) (list_any (is_met s e) bs)
  where
    go : (x y z : Bool) → bit (x && not y) + bit (z && not (y || (x || false))) ≡ bit ((x || z) && not y)
    go true true true = refl
    go true true false = refl
    go true false true = refl
    go true false false = refl
    go false true true = refl
    go false true false = refl
    go false false true = refl
    go false false false = refl

-- exactly one alternative is true where some body is met, or none, as the literal asks
pub spread-total : (s : Setting) (e : Env) (held : Bool) (bs : List Inner) → total (λ a. bit (lits_true s e a)) (spread held bs) ≡ bit (comes_out held (list_any (is_met s e) bs))
spread-total s e true bs = first-total s e [] bs ∙ ap bit (go (list_any (is_met s e) bs))
  where
    go : (x : Bool) → (x && true) ≡ x
    go true = refl
    go false = refl
spread-total s e false bs = ap (λ x. bit x + 0) (none-met s e bs) ∙ omega arith

positive-bit : (b : Bool) → positive (bit b) ≡ b
positive-bit true = refl
positive-bit false = refl

-- some element passes where just so many do
pub any-by_bit : {X : Type 0} (p : X → Bool) (xs : List X) (b : Bool) → total (λ x. bit (p x)) xs ≡ bit b → list_any p xs ≡ b
any-by_bit p xs b h = any_is_positive p xs ∙ ap positive h ∙ positive-bit b

-- some alternative is true
pub spread-any : (s : Setting) (e : Env) (held : Bool) (bs : List Inner) → list_any (lits_true s e) (spread held bs) ≡ comes_out held (list_any (is_met s e) bs)
spread-any s e held bs = any-by_bit (lits_true s e) (spread held bs) (comes_out held (list_any (is_met s e) bs)) (spread-total s e held bs)

pub spread-one : (held : Bool) (bodies : List Inner) (alternatives : List (List Lit)) → alternatives ≡ spread held bodies → OneIsTrue held bodies alternatives
spread-one held bodies alternatives h = record { by = λ s e. ap (total (λ a. bit (lits_true s e a))) h ∙ spread-total s e held bodies }

-- ---- lists

-- a list around its literal of number i
split-at : (lits : List Lit) (i : ℕ) → i < length lits → lits ≡ take i lits ++ (lit_at lits i ∷ drop (i + 1) lits)
split-at lits i h = sym (take-append-drop i lits) ∙ ap (λ r. take i lits ++ r) (rw add-one (drop-cons lits i (Other 0 0) h))

split-true : (s : Setting) (e : Env) (a b : List Lit) (l : List Lit) → lits_true s e (a ++ (l ++ b)) ≡ (lits_true s e (a ++ b) && lits_true s e l)
split-true s e a b l =
    lits-append s e a (l ++ b) ∙ ap (λ x. lits_true s e a && x) (lits-append s e l b)
    ∙ go (lits_true s e a) (lits_true s e l) (lits_true s e b) ∙ ap (λ x. x && lits_true s e l) (sym (lits-append s e a b))
  where
    go : (x y z : Bool) → (x && (y && z)) ≡ ((x && z) && y)
    go true true true = refl
    go true true false = refl
    go true false true = refl
    go true false false = refl
    go false y z = refl

-- a list is true where its other literals and the literal are
pub at-true : (s : Setting) (e : Env) (lits : List Lit) (i : ℕ) → i < length lits → lits_true s e lits ≡ (lits_true s e (others lits i) && lit_true s e (lit_at lits i))
at-true s e lits i h =
    ap (lits_true s e) (split-at lits i h) ∙ split-true s e (take i lits) (drop (i + 1) lits) (lit_at lits i ∷ [])
    ∙ ap (λ x. lits_true s e (others lits i) && x) (go (lit_true s e (lit_at lits i)))
  where
    go : (x : Bool) → (x && true) ≡ x
    go true = refl
    go false = refl

-- how many of the lists with alternatives are true
pub put-total : (s : Setting) (e : Env) (lits : List Lit) (i : ℕ) (alts : List (List Lit)) → total (λ a. bit (lits_true s e a)) (put_at lits i alts) ≡ when (lits_true s e (others lits i)) (total (λ a. bit (lits_true s e a)) alts)
put-total s e lits i [] = go (lits_true s e (others lits i))
  where
    go : (x : Bool) → 0 ≡ when x 0
    go true = refl
    go false = refl
put-total s e lits i (a ∷ alts) =
    ap₂ (λ x y. bit x + y) (split-true s e (take i lits) (drop (i + 1) lits) a) (put-total s e lits i alts)
    ∙ go (lits_true s e (others lits i)) (lits_true s e a) (total (λ a. bit (lits_true s e a)) alts)
  where
    go : (x y : Bool) (n : ℕ) → bit (x && y) + when x n ≡ when x (bit y + n)
    go true y n = refl
    go false y n = omega arith

-- whether some is
pub put-any : (s : Setting) (e : Env) (lits : List Lit) (i : ℕ) (alts : List (List Lit)) → list_any (lits_true s e) (put_at lits i alts) ≡ (lits_true s e (others lits i) && list_any (lits_true s e) alts)
put-any s e lits i [] = go (lits_true s e (others lits i))
  where
    go : (x : Bool) → false ≡ (x && false)
    go true = refl
    go false = refl
put-any s e lits i (a ∷ alts) =
    ap₂ (λ x y. x || y) (split-true s e (take i lits) (drop (i + 1) lits) a) (put-any s e lits i alts)
    ∙ go (lits_true s e (others lits i)) (lits_true s e a) (list_any (lits_true s e) alts)
  where
    go : (x y z : Bool) → (x && y || x && z) ≡ (x && (y || z))
    go true y z = refl
    go false y z = refl

-- ---- bodies in turn

-- the alternative of one body more
pub first-more : (bodies : List Inner) (i : ℕ) (item : List Lit) (done new : List (List Lit)) → i < length bodies → ((d : Inner) → item ≡ Any true (slice_index_or bodies i d) ∷ map (Any false) (take i bodies)) → new ≡ done ++ item ∷ [] → first_met [] bodies ≡ done ++ first_met (take i bodies) (drop i bodies) → first_met [] bodies ≡ new ++ first_met (take (i + 1) bodies) (drop (i + 1) bodies)
first-more bodies i item done new h its made so_far =
    let d : Inner = record { vars = []; lits = [] } in
    let b = slice_index_or bodies i d in
    let dropped : drop i bodies ≡ b ∷ drop (i + 1) bodies = rw add-one (drop-cons bodies i d h) in
    so_far ∙ ap (λ (bs : List Inner). done ++ first_met (take i bodies) bs) dropped
    ∙ ap₂ (λ (x : List Lit) (before : List Inner). done ++ (x ∷ first_met before (drop (i + 1) bodies))) (sym (its d)) (sym (take_more bodies i d h))
    ∙ sym (append_assoc done (item ∷ []) (first_met (take (i + 1) bodies) (drop (i + 1) bodies)))
    ∙ ap (λ (l : List (List Lit)). l ++ first_met (take (i + 1) bodies) (drop (i + 1) bodies)) (sym made)

-- Whether some choice of rows passes: variables taken in turn, one taken away, and bodies as hosts.
use Rattle.std.proofs.Common.{◌≡◌, Bool, true, false, ◌||◌, List, [], ◌∷◌, ◌++◌, map, refl, sym, ap, ap₂, ◌∙◌}
use Rattle.std.specs.List.{list_any}
use Rattle.std.proofs.lemmas.List.{map-append}
use Rattle.std.proofs.lemmas.List.Folds.{list_any-append}
use Rattle.mig_meaning.specs.Lists.{product}
use Rattle.mig_meaning.proofs.Maps.{any-map}
use Rattle.mig_meaning.proofs.Within.{each-weaker}
use Rattle.mig_algebra.specs.declared.atoms.Var.{Var}
use Rattle.mig_algebra.specs.declared.literals.Lit.{Lit}
use Rattle.mig_algebra.specs.declared.literals.Lit.TheVariants.{Any}
use Rattle.mig_algebra.specs.Meaning.{Setting, Env, comes_out, choices, lit_true}
use Rattle.mig_algebra.proofs.Some.{positive, any-each, any-same}
use Rattle.mig_algebra.proofs.Products.{Picks, product_picks, among_any}
use Rattle.mig_algebra.proofs.Bodies.{any_true}
use Rattle.mig_algebra.proofs.Hosts.{host_sum, met-by_sum}

any-none : {X : Type 0} (xs : List X) → list_any (λ x. false) xs ≡ false
any-none [] = refl
any-none (x ∷ xs) = any-none xs

-- one of two tests
pub any-or : {X : Type 0} (p q : X → Bool) (xs : List X) → list_any (λ x. p x || q x) xs ≡ (list_any p xs || list_any q xs)
any-or p q [] = refl
any-or p q (x ∷ xs) = ap (λ b. (p x || q x) || b) (any-or p q xs) ∙ go (p x) (q x) (list_any p xs) (list_any q xs)
  where
    go : (a b c d : Bool) → ((a || b) || (c || d)) ≡ ((a || c) || (b || d))
    go true b c d = refl
    go false true true d = refl
    go false true false d = refl
    go false false c d = refl

-- two lists exchanged
pub any-swap : {X Y : Type 0} (p : X → Y → Bool) (xs : List X) (ys : List Y) → list_any (λ x. list_any (p x) ys) xs ≡ list_any (λ y. list_any (λ x. p x y) xs) ys
any-swap p [] ys = sym (any-none ys)
any-swap p (x ∷ xs) ys = ap (λ b. list_any (p x) ys || b) (any-swap p xs ys) ∙ sym (any-or (p x) (λ y. list_any (λ z. p z y) xs) ys)

-- ---- products

-- the first list's element first
pub any-product : {X : Type 0} (f : List X → Bool) (xs : List X) (more : List (List X)) → list_any f (product (xs ∷ more)) ≡ list_any (λ x. list_any (λ c. f (x ∷ c)) (product more)) xs
any-product f [] more = refl
any-product f (x ∷ xs) more =
    list_any-append f (map (λ c. x ∷ c) (product more)) _
    ∙ ap₂ (λ a b. a || b) (any-map f (λ c. x ∷ c) (λ c. f (x ∷ c)) (λ c. refl) (product more)) (any-product f xs more)

-- some lists, then more
pub any-product_append : {X : Type 0} (f : List X → Bool) (xss yss : List (List X)) → list_any f (product (xss ++ yss)) ≡ list_any (λ c. list_any (λ d. f (c ++ d)) (product yss)) (product xss)
any-product_append f [] yss = go (list_any f (product yss))
  where
    go : (b : Bool) → b ≡ (b || false)
    go true = refl
    go false = refl
any-product_append f (xs ∷ xss) yss =
    any-product f xs (xss ++ yss)
    ∙ any-same _ _ (λ x. any-product_append (λ c. f (x ∷ c)) xss yss) xs
    ∙ sym (any-product (λ c. list_any (λ d. f (c ++ d)) (product yss)) xs xss)

-- a choice that passes
pub picked-any : {X : Type 0} (f : List X → Bool) (xss : List (List X)) (c : List X) → Picks xss c → f c ≡ true → list_any f (product xss) ≡ true
picked-any f [] [] p t = ap (λ b. b || false) t
picked-any f [] (x ∷ c) p t = absurd p
picked-any f (xs ∷ xss) [] p t = absurd p
picked-any f (xs ∷ xss) (x ∷ c) p t =
    any-product f xs xss ∙ among_any (λ y. list_any (λ d. f (y ∷ d)) (product xss)) x xs p.0 (picked-any (λ d. f (x ∷ d)) xss c p.1 t)

-- ---- choices

-- some variables, then more
pub any-choices_append : (s : Setting) (f : Env → Bool) (vs ws : List Var) → list_any f (choices s (vs ++ ws)) ≡ list_any (λ c. list_any (λ d. f (c ++ d)) (choices s ws)) (choices s vs)
any-choices_append s f vs ws = ap (λ l. list_any f (product l)) (map-append s.rows vs ws) ∙ any-product_append f (map s.rows vs) (map s.rows ws)

-- a variable in the middle innermost
pub any-split : (s : Setting) (f : Env → Bool) (vs : List Var) (v : Var) (ws : List Var) → list_any f (choices s (vs ++ (v ∷ ws))) ≡ list_any (λ c. list_any (λ d. list_any (λ p. f (c ++ (p ∷ d))) (s.rows v)) (choices s ws)) (choices s vs)
any-split s f vs v ws =
    any-choices_append s f vs (v ∷ ws)
    ∙ any-same _ _ (λ c. any-product (λ d. f (c ++ d)) (s.rows v) (map s.rows ws) ∙ any-swap (λ p d. f (c ++ (p ∷ d))) (s.rows v) (choices s ws)) (choices s vs)

-- a variable of which some row passes wherever the rest does
pub any-without : (s : Setting) (f g : Env → Bool) (vs : List Var) (v : Var) (ws : List Var) → ((c d : Env) → Picks (map s.rows vs) c → Picks (map s.rows ws) d → list_any (λ p. f (c ++ (p ∷ d))) (s.rows v) ≡ g (c ++ d)) → list_any f (choices s (vs ++ (v ∷ ws))) ≡ list_any g (choices s (vs ++ ws))
any-without s f g vs v ws h =
    any-split s f vs v ws
    ∙ any-each _ _ (choices s vs) (each-weaker _ _ (λ c p. any-each _ _ (choices s ws) (each-weaker _ _ (λ d q. h c d p q) (choices s ws) (product_picks (map s.rows ws)))) (choices s vs) (product_picks (map s.rows vs)))
    ∙ sym (any-choices_append s g vs ws)

-- ---- bodies

-- two bodies whose sums are equal are true at the same choices
pub any-by_hosts : (s : Setting) (e : Env) (held : Bool) (vars vars' : List Var) (lits lits' : List Lit) → host_sum s e (λ _. 1) vars lits ≡ host_sum s e (λ _. 1) vars' lits' → lit_true s e (Any held (record { vars = vars; lits = lits })) ≡ lit_true s e (Any held (record { vars = vars'; lits = lits' }))
any-by_hosts s e held vars vars' lits lits' same =
    any_true s e held vars lits
    ∙ ap (comes_out held) (met-by_sum s e vars lits ∙ ap positive same ∙ sym (met-by_sum s e vars' lits'))
    ∙ sym (any_true s e held vars' lits')

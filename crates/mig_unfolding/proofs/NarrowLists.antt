-- Narrowed bodies by the lists of their literals, and narrowed variables by number.
use Rattle.std.proofs.Common.{◌≡◌, ℕ, zero, suc, ◌+◌, Bool, cond, not, ◌&&◌, List, [], ◌∷◌, ◌++◌, length, take, drop, Some, refl, sym, ap, ap₂, ◌∙◌, arith}
use Rattle.std.specs.Prelude.{slice_get}
use Rattle.std.specs.List.{list_any}
use Rattle.std.proofs.lemmas.Bool.{eq-eqb}
use denote.Hole.Carrier.{hidden}
use Rattle.mig_algebra.specs.declared.atoms.Var.{Var}
use Rattle.mig_algebra.specs.declared.literals.Inner.{Inner}
use Rattle.mig_algebra.specs.declared.literals.Lit.{Lit, items-the_row-Lit}
use Rattle.mig_algebra.specs.declared.literals.Lit.TheBlock.{hidden-the_row-Lit-0}
use Rattle.mig_algebra.specs.declared.literals.Lit.TheVariants.{Any}
use Rattle.mig_steps.specs.Variables.{leaving_out}
use Rattle.mig_unfolding.specs.Hosts.{var_before}
use Rattle.mig_unfolding.specs.Narrowed.{parts, parts_two, is_same, narrowed, narrow_lit, narrow_row, narrow_list, lit_narrows, row_narrows, list_narrows}

-- ---- bodies

items-list : (xs : List Lit) → items-the_row-Lit _ (hidden-the_row-Lit-0 xs) ≡ xs
unfolding hidden-the_row-Lit-0 hidden
items-list [] = refl
items-list (x ∷ xs) = ap (λ l. x ∷ l) (items-list xs)

narrow-row-list : (u : Var) (v n : ℕ) (xs : List Lit) → narrow_row u v n (hidden-the_row-Lit-0 xs) ≡ narrow_list u v n xs
unfolding hidden-the_row-Lit-0 hidden
narrow-row-list u v n [] = refl
narrow-row-list u v n (x ∷ xs) = ap (λ l. cond (parts v x) l (narrow_lit u v n x ∷ l)) (narrow-row-list u v n xs)

row-narrows-list : (u : Var) (v : ℕ) (all seen : List Var) (xs : List Lit) → row_narrows u v all seen (hidden-the_row-Lit-0 xs) ≡ list_narrows u v all seen xs
unfolding hidden-the_row-Lit-0 hidden
row-narrows-list u v all seen [] = refl
row-narrows-list u v all seen (x ∷ xs) = ap (λ b. lit_narrows u v all seen x && b) (row-narrows-list u v all seen xs)

-- a body by its list
pub narrow-any : (u : Var) (v n : ℕ) (held : Bool) (vars : List Var) (xs : List Lit) → narrow_lit u v n (Any held (record { vars = vars; lits = xs })) ≡ Any held (record { vars = narrowed u v n xs vars; lits = narrow_list u v (n + length vars) xs })
narrow-any u v n held vars xs =
    ap₂ (λ (ys ls : List Lit). Any held (record { vars = narrowed u v n ys vars; lits = ls })) (items-list xs) (narrow-row-list u v (n + length vars) xs)

pub any-narrows : (u : Var) (v : ℕ) (all seen : List Var) (held : Bool) (vars : List Var) (xs : List Lit) → lit_narrows u v all seen (Any held (record { vars = vars; lits = xs })) ≡ list_narrows u v (all ++ vars) (all ++ narrowed u v (length all) xs vars) xs
any-narrows u v all seen held vars xs =
    row-narrows-list u v (all ++ vars) (all ++ narrowed u v (length all) (items-the_row-Lit _ (hidden-the_row-Lit-0 xs)) vars) xs
    ∙ ap (λ (ys : List Lit). list_narrows u v (all ++ vars) (all ++ narrowed u v (length all) ys vars) xs) (items-list xs)

-- ---- variables

pub narrowed_length : (u : Var) (v n : ℕ) (lits : List Lit) (vars : List Var) → length (narrowed u v n lits vars) ≡ length vars
narrowed_length u v n lits [] = refl
narrowed_length u v n lits (x ∷ xs) = ap suc (narrowed_length u v (n + 1) lits xs)

-- the variable itself is not narrowed
pub narrowed-get : (u : Var) (v n i : ℕ) (lits : List Lit) (vars : List Var) → slice_get vars i ≡ Some u → n + i ≡ v → slice_get (narrowed u v n lits vars) i ≡ Some u
narrowed-get u v n i lits [] h at = cc
narrowed-get u v n zero lits (x ∷ xs) h at =
    let e : x ≡ u = cc in
    ap (λ b. Some (cond ((not b && list_any (parts_two v n) lits) && is_same u x) (var_before x) x)) (eq-eqb v n (omega (arith, at))) ∙ ap Some e
narrowed-get u v n (suc i) lits (x ∷ xs) h at = narrowed-get u v (n + 1) i lits xs h (omega (arith, at))

-- a list without the item behind so many
pub leaving-middle : {X : Type 0} (xs : List X) (y : X) (zs : List X) (i : ℕ) → length xs ≡ i → leaving_out i (xs ++ (y ∷ zs)) ≡ xs ++ zs
leaving-middle [] y zs zero h = refl
leaving-middle [] y zs (suc i) h = absurd (omega (arith, h))
leaving-middle (x ∷ xs) y zs zero h = absurd (omega (arith, h))
leaving-middle (x ∷ xs) y zs (suc i) h =
    let e : suc i + 1 ≡ suc (i + 1) = omega arith in
    ap (λ n. x ∷ (take i (xs ++ (y ∷ zs)) ++ drop n (x ∷ (xs ++ (y ∷ zs))))) e
    ∙ ap (λ l. x ∷ l) (leaving-middle xs y zs i (omega (arith, h)))

-- ---- what code makes

pub narrow-made : (u : Var) (v n m : ℕ) (l : Lit) (held : Bool) (inner : Inner) (vars : List Var) (lits lits0 : List Lit) → l ≡ Any held inner → vars ≡ narrowed u v n lits0 inner.vars → lits ≡ narrow_list u v m lits0 → m ≡ n + length inner.vars → lits0 ≡ inner.lits → Any held (record { vars = vars; lits = lits }) ≡ narrow_lit u v n l
narrow-made u v n m l held inner vars lits lits0 is x y z w =
    ap₂ (λ (vs : List Var) (ls : List Lit). Any held (record { vars = vs; lits = ls })) (x ∙ ap (λ (ys : List Lit). narrowed u v n ys inner.vars) w) (y ∙ ap₂ (λ k (ys : List Lit). narrow_list u v k ys) z w)
    ∙ sym (narrow-any u v n held inner.vars inner.lits) ∙ ap (narrow_lit u v n) (sym is)

pub narrows-made : (u : Var) (v : ℕ) (all seen : List Var) (l : Lit) (held : Bool) (inner : Inner) (b : Bool) (more more-seen all0 vars0 : List Var) (lits0 : List Lit) → l ≡ Any held inner → b ≡ list_narrows u v more more-seen lits0 → more ≡ all0 ++ vars0 → more-seen ≡ all0 ++ narrowed u v (length all0) lits0 vars0 → all0 ≡ all → vars0 ≡ inner.vars → lits0 ≡ inner.lits → b ≡ lit_narrows u v all seen l
narrows-made u v all seen l held inner b more more-seen all0 vars0 lits0 is x y z w ws ls =
    x ∙ ap₂ (λ (xs ys : List Var). list_narrows u v xs ys lits0) y z
    ∙ ap (λ (xs : List Var). list_narrows u v (xs ++ vars0) (xs ++ narrowed u v (length xs) lits0 vars0) lits0) w
    ∙ ap₂ (λ (vs : List Var) (ks : List Lit). list_narrows u v (all ++ vs) (all ++ narrowed u v (length all) ks vs) ks) ws ls
    ∙ sym (any-narrows u v all seen held inner.vars inner.lits) ∙ ap (lit_narrows u v all seen) (sym is)

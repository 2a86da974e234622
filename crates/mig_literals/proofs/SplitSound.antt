-- A body without variables that is not held may become one alternative for each of its literals.
use Rattle.std.proofs.Common.{◌≡◌, ℕ, ◌+◌, ◌≤◌, Bool, true, false, not, ◌&&◌, ◌||◌, List, [], ◌∷◌, ◌++◌, Option, Some, None, refl, sym, subst, ap, ap₂, ◌∙◌, arith}
use Rattle.std.specs.List.{list_all}
use Rattle.std.proofs.lemmas.Bool.{and_parts, and_from}
use Rattle.std.proofs.lemmas.List.{append-nil}
use Rattle.std.proofs.lemmas.Option.{same_Some}
use mathlib.Core.Former.{list_count, this}
use Rattle.mig_schema.specs.declared.tables.Kind.{Kind}
use Rattle.mig_schema.specs.declared.programs.Op.{Op}
use Rattle.mig_schema.specs.declared.programs.Op.TheVariants.{Eq, Ne, Lt, Le, Gt, Ge}
use Rattle.mig_schema.specs.declared.tables.Kind.TheVariants as kind
use Rattle.mig_schema.specs.Columns.{same_kind}
use Rattle.mig_schema.specs.Typed.{is_order}
use Rattle.mig_meaning.specs.declared.relating.Invariant.{Invariant}
use Rattle.mig_meaning.specs.Lists.{Each, total, bit}
use Rattle.mig_algebra.specs.declared.atoms.Var.{Var}
use Rattle.mig_algebra.specs.declared.literals.Lit.{Lit, Cmp, Other, Any', Row_of-Lit, items-the_row-Lit}
use Rattle.mig_algebra.specs.Atoms.{oriented}
use Rattle.mig_algebra.specs.Meaning.{Setting, Env, lit_true, row_true, lits_true}
use Rattle.mig_algebra.specs.Proper.{Sides, cmp_fits, atom_kind, lit_fits, row_fits, lit_oriented}
use Rattle.mig_algebra.proofs.Bodies.{row_as_list}
use Rattle.mig_algebra.proofs.OrientedFits.{oriented-fits, oriented-oriented}
use Rattle.mig_algebra.proofs.Truth.{lits-append}
use Rattle.mig_classes.specs.Given.{negated, has_complement, complement}
use Rattle.mig_classes.proofs.Contradicted.{complement-law}
use Rattle.mig_replacing.specs.Replaced.{FitIn}
use Rattle.mig_replacing.proofs.Alternatives.{any-by_bit}
use Rattle.mig_replacing.proofs.Replacing.{literal-replaced}
use Rattle.mig_obligations.specs.Settings.{setting_of}
use Rattle.mig_literals.specs.Split.{first_false, split_lit, split}
use Rattle.mig_steps.specs.Spots.{Seen}
use Rattle.mig_steps.specs.Bodies.{is_body}
use Rattle.mig_steps.specs.Sound.{IsSoundAtLiterals}
use Rattle.mig_steps.proofs.FitBodies.{row-fit, fits-at}
use Rattle.mig_steps.proofs.Options.{cond-then}
use Rattle.mig_steps.proofs.SpotPlaces.{place-of}

-- ---- truth

-- as many alternatives are true as the literals before them are, and those of the body are not
first_false-total : (s : Setting) (e : Env) (before lits : List Lit) → list_all has_complement lits ≡ true → total (λ a. bit (lits_true s e a)) (first_false before lits) ≡ bit (lits_true s e before && not (lits_true s e lits))
first_false-total s e before [] h = go (lits_true s e before)
  where
    go : (b : Bool) → 0 ≡ bit (b && false)
    go true = refl
    go false = refl
first_false-total s e before (l ∷ ls) h =
    let k = and_parts (has_complement l) (list_all has_complement ls) h in
    ap₂ (λ x y. bit x + y) (lits-append s e before (complement l ∷ []) ∙ ap (λ x. lits_true s e before && (x && true)) (complement-law.by s e l k.0))
    (first_false-total s e (before ++ l ∷ []) ls k.1 ∙ ap (λ x. bit (x && not (lits_true s e ls))) (lits-append s e before (l ∷ [])))
    ∙ go (lits_true s e before) (lit_true s e l) (lits_true s e ls)
  where
    go : (x y z : Bool) → bit (x && (not y && true)) + bit ((x && (y && true)) && not z) ≡ bit (x && not (y && z))
    go true true true = refl
    go true true false = refl
    go true false true = refl
    go true false false = refl
    go false true true = refl
    go false true false = refl
    go false false true = refl
    go false false false = refl

own-false : (s : Setting) (e : Env) (n : List (Unit {0})) (row : Row_of-Lit (list_count this n 0)) → lit_true s e (Any' false [] n row) ≡ not (lits_true s e (items-the_row-Lit _ row))
own-false s e n row = ap not (or-none (row_true s (e ++ []) row) ∙ ap (λ c. row_true s c row) (append-nil e) ∙ row_as_list s e row)
  where
    or-none : (b : Bool) → (b || false) ≡ b
    or-none true = refl
    or-none false = refl

split-total : (s : Setting) (e : Env) (l : Lit) (alts : List (List Lit)) → split_lit l ≡ Some alts → total (λ a. bit (lits_true s e a)) alts ≡ bit (lit_true s e l)
split-total s e (Any' false [] n row) alts g =
    let lits = items-the_row-Lit _ row in
    let k = cond-then (list_all has_complement lits) (Some (first_false [] lits)) alts g in
    ap (total (λ a. bit (lits_true s e a))) (sym (same_Some (first_false [] lits) alts k.1)) ∙ first_false-total s e [] lits k.0 ∙ ap bit (sym (own-false s e n row))
split-total s e (Any' false (v ∷ vars) n row) alts g = cc
split-total s e (Any' true vars n row) alts g = cc
split-total s e (Cmp op a b) alts g = cc
split-total s e (Other a b) alts g = cc

-- ---- kinds

order-negated : (op : Op) → is_order (negated op) ≡ is_order op
order-negated Eq = refl
order-negated Ne = refl
order-negated Lt = refl
order-negated Le = refl
order-negated Gt = refl
order-negated Ge = refl

negated-fits : (op : Op) (x y : Option Kind) → cmp_fits (negated op) x y ≡ cmp_fits op x y
negated-fits op None y = refl
negated-fits op (Some a) None = refl
negated-fits op (Some a) (Some b) = ap (λ o. same_kind a b && (not o || same_kind a kind.Int)) (order-negated op)

complement-fits : (p : Sides) (scope : List Var) (l : Lit) → lit_fits p scope l ≡ true → lit_oriented l ≡ true → FitIn p scope (complement l ∷ [])
complement-fits p scope (Cmp op a b) f o = record {
  fits = and_from (lit_fits p scope (oriented (negated op) a b)) true (oriented-fits p scope (negated op) a b ∙ negated-fits op (atom_kind p scope a) (atom_kind p scope b) ∙ f) refl;
  oriented = and_from (lit_oriented (oriented (negated op) a b)) true (oriented-oriented (negated op) a b) refl;
}
complement-fits p scope (Other a b) f o = record { fits = and_from _ true f refl; oriented = refl }
complement-fits p scope (Any' held vars n row) f o = record { fits = and_from _ true f refl; oriented = and_from _ true o refl }

fit-append : (p : Sides) (scope : List Var) (xs ys : List Lit) → FitIn p scope xs → FitIn p scope ys → FitIn p scope (xs ++ ys)
fit-append p scope [] ys a b = b
fit-append p scope (x ∷ xs) ys a b =
    let f = and_parts (lit_fits p scope x) (list_all (lit_fits p scope) xs) a.fits in
    let o = and_parts (lit_oriented x) (list_all lit_oriented xs) a.oriented in
    let more = fit-append p scope xs ys (record { fits = f.1; oriented = o.1 }) b in
    record { fits = and_from (lit_fits p scope x) _ f.0 more.fits; oriented = and_from (lit_oriented x) _ o.0 more.oriented }

first_false-fits : (p : Sides) (scope : List Var) (before lits : List Lit) → FitIn p scope before → FitIn p scope lits → Each (FitIn p scope) (first_false before lits)
first_false-fits p scope before [] a b = tt
first_false-fits p scope before (l ∷ ls) a b =
    let f = and_parts (lit_fits p scope l) (list_all (lit_fits p scope) ls) b.fits in
    let o = and_parts (lit_oriented l) (list_all lit_oriented ls) b.oriented in (
      fit-append p scope before (complement l ∷ []) a (complement-fits p scope l f.0 o.0),
      first_false-fits p scope (before ++ l ∷ []) ls (fit-append p scope before (l ∷ []) a (record { fits = and_from _ true f.0 refl; oriented = and_from _ true o.0 refl })) (record { fits = f.1; oriented = o.1 }),
    )

split-fits : (p : Sides) (scope : List Var) (l : Lit) (alts : List (List Lit)) → split_lit l ≡ Some alts → lit_fits p scope l ≡ true → lit_oriented l ≡ true → Each (FitIn p scope) alts
split-fits p scope (Any' false [] n row) alts g f o =
    let lits = items-the_row-Lit _ row in
    let k = cond-then (list_all has_complement lits) (Some (first_false [] lits)) alts g in
    subst (Each (FitIn p scope)) (same_Some (first_false [] lits) alts k.1)
    (first_false-fits p scope [] lits (record { fits = refl; oriented = refl })
    (row-fit p scope row (ap (λ sc. row_fits p sc row) (sym (append-nil scope)) ∙ (and_parts true (row_fits p (scope ++ []) row) f).1) o))
split-fits p scope (Any' false (v ∷ vars) n row) alts g f o = cc
split-fits p scope (Any' true vars n row) alts g f o = cc
split-fits p scope (Cmp op a b) alts g f o = cc
split-fits p scope (Other a b) alts g f o = cc

-- ---- the rule

by-lit : (args : List ℕ) (s : Seen) (alts : List (List Lit)) → split args s ≡ Some alts → split_lit s.lit ≡ Some alts
by-lit [] s alts g = g
by-lit (a ∷ args) s alts g = cc

bit-most : (b : Bool) → bit b ≤ 1
bit-most true = omega arith
bit-most false = omega arith

pub split-sound : (p : Sides) (invs : List Invariant) → IsSoundAtLiterals p invs split
split-sound p invs = record {
  fits = λ kinds t path args s alts h is g.
      let there = place-of t path s is in
      let f = fits-at p kinds t path there.0 h there.1 in
      subst (λ sc. Each (FitIn p sc) alts) there.2.scope (split-fits p there.0.scope there.0.lit alts (ap split_lit there.2.lit ∙ by-lit args s alts g) f.0 f.1);
  bag = λ m at kinds t path args s alts h is g.
      let there = place-of t path s is in
      let its : split_lit there.0.lit ≡ Some alts = ap split_lit there.2.lit ∙ by-lit args s alts g in
      literal-replaced (setting_of p m) t path there.0 alts there.1
      (record { by = λ e r. any-by_bit (lits_true (setting_of p m) e) alts (lit_true (setting_of p m) e there.0.lit) (split-total (setting_of p m) e there.0.lit alts its) })
      (λ i e. record { by = λ c r. subst (λ n. n ≤ 1) (sym (split-total (setting_of p m) c there.0.lit alts its)) (bit-most (lit_true (setting_of p m) c there.0.lit)) });
}

-- the rule gives something at a body alone
pub split-is_body : (bs : List ℕ) (s : Seen) (alts : List (List Lit)) → split bs s ≡ Some alts → is_body s.lit ≡ true
split-is_body [] s alts h = go s.lit h
  where
    go : (l : Lit) → split_lit l ≡ Some alts → is_body l ≡ true
    go (Any' held vars n row) k = refl
    go (Cmp op a b) k = cc
    go (Other a b) k = cc
split-is_body (a ∷ bs) s alts h = cc

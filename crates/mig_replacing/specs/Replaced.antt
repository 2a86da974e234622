-- A literal at a path replaced by alternatives, each a list of literals, and what becomes of the bodies and of the term around it.
use Rattle.std.specs.Prelude.{◌≡◌, ℕ, ◌+◌, Bool, true, false, List, [], ◌∷◌, ◌++◌, map, take, drop, slice_index_or, Some}
use Rattle.std.specs.List.{list_all, list_any}
use Rattle.mig_schema.specs.declared.tables.Kind.{Kind}
use Rattle.mig_meaning.specs.Bags.{SameBag}
use Rattle.mig_meaning.specs.Lists.{Each, total, bit}
use Rattle.mig_algebra.specs.declared.atoms.Var.{Var}
use Rattle.mig_algebra.specs.declared.literals.Inner.{Inner}
use Rattle.mig_algebra.specs.declared.literals.Lit.{Lit, Cmp, Other, Any', items-the_row-Lit}
use Rattle.mig_algebra.specs.declared.literals.Lit.TheVariants.{Any}
use Rattle.mig_algebra.specs.declared.terms.Term.{Term}
use Rattle.mig_algebra.specs.Meaning.{Setting, Env, choices, comes_out, lits_true, terms_bag}
use Rattle.mig_algebra.specs.Proper.{Sides, lit_fits, lit_oriented, IsProperTerm}
use Rattle.mig_replacing.specs.Places.{Place, place_at}
use Rattle.mig_replacing.specs.Reaching.{Reaches, StandsFor, AtMostOne, MetAs, is_met}

-- each body held, and none of those before it
abbrev pub first_met : (before bodies : List Inner) → List (List Lit)
first_met before [] = []
first_met before (b ∷ bs) = (Any true b ∷ map (Any false) before) ∷ first_met (before ++ b ∷ []) bs

-- The alternatives of a literal whose body becomes these bodies. Where it is held, one for each body: that body held, and each earlier one not. Where it is not, one: none of the bodies is held.
abbrev pub spread : Bool → List Inner → List (List Lit)
spread true bodies = first_met [] bodies
spread false bodies = map (Any false) bodies ∷ []

-- exactly one of these alternatives is true at each choice of rows where one of the bodies can be met, or none can, as `held` asks, and none is elsewhere
pub record OneIsTrue (held : Bool) (bodies : List Inner) (alternatives : List (List Lit)) : Type 0 where
  pub by : (s : Setting) (e : Env) → total (λ a. bit (lits_true s e a)) alternatives ≡ bit (comes_out held (list_any (is_met s e) bodies))

-- a list, with each alternative in turn in place of its literal of number i
abbrev pub put_at : List Lit → ℕ → List (List Lit) → List (List Lit)
put_at lits i alternatives = map (λ a. take i lits ++ (a ++ drop (i + 1) lits)) alternatives

-- the literal of number i; past the end one that is never true
abbrev pub lit_at : List Lit → ℕ → Lit
lit_at lits i = slice_index_or lits i (Other 0 0)

-- a body with these variables and each of these lists
abbrev pub bodies_of : List Var → List (List Lit) → List Inner
bodies_of vars lists = map (λ (ls : List Lit). record { vars = vars; lits = ls }) lists

-- the alternatives of a literal, where those for the literal at a path in it are given
abbrev pub alternatives_at : (path : List ℕ) → List (List Lit) → Lit → List (List Lit)
alternatives_at [] alternatives l = alternatives
alternatives_at (j ∷ p) alternatives (Any' held vars n row) =
    let lits = items-the_row-Lit _ row in
    spread held (bodies_of vars (put_at lits j (alternatives_at p alternatives (lit_at lits j))))
alternatives_at (j ∷ p) alternatives (Cmp op a b) = []
alternatives_at (j ∷ p) alternatives (Other a b) = []

-- a term with these literals in place of its own
abbrev pub with_lits : Term → List Lit → Term
with_lits t lits = record { vars = t.vars; lits = lits; head = t.head }

-- the terms that a term becomes, where the literal at a path is replaced by alternatives
abbrev pub replaced : Term → (path : List ℕ) → List (List Lit) → List Term
replaced t [] alternatives = t ∷ []
replaced t (j ∷ p) alternatives = map (with_lits t) (put_at t.lits j (alternatives_at p alternatives (lit_at t.lits j)))

-- two sums of terms with the same bag, whatever terms stand before and behind
pub record SameAmong (s : Setting) (ts us : List Term) : Type 0 where
  pub by : (before behind : List Term) → SameBag (terms_bag s (before ++ (us ++ behind))) (terms_bag s (before ++ (ts ++ behind)))

-- ---- the law

-- Where, at each choice that reaches the literal at a path, it is true exactly where some alternative is, it may be replaced by the alternatives; directly in a term at most one alternative may be true at each such choice.
-- Where, at each choice that reaches the literal of a body, the body can be met exactly where some body of a list can, the list may take its place.
pub record ReplacementLaw : Type 0 where
  pub literal : (s : Setting) (t : Term) (path : List ℕ) (p : Place) (alternatives : List (List Lit)) → place_at t path ≡ Some p
      → StandsFor s p alternatives → ((i : ℕ) → path ≡ i ∷ [] → AtMostOne s p alternatives)
      → SameAmong s (t ∷ []) (replaced t path alternatives)
  pub body : (s : Setting) (t : Term) (path : List ℕ) (p : Place) (held : Bool) (body : Inner) (bodies : List Inner) → place_at t path ≡ Some p
      → p.lit ≡ Any held body → MetAs s p body bodies
      → SameAmong s (t ∷ []) (replaced t path (spread held bodies))

-- how many choices of rows for a body's variables meet its literals, at a choice for those in scope around it
abbrev pub met_count : Setting → Env → Inner → ℕ
met_count s e b = total (λ c. bit (lits_true s (e ++ c) b.lits)) (choices s b.vars)

-- Where, at each choice that reaches the literal of a body, the bodies of a list are met together by as many choices as the body, the list may take its place.
pub record CountLaw : Type 0 where
  pub by : (s : Setting) (t : Term) (path : List ℕ) (p : Place) (held : Bool) (body : Inner) (bodies : List Inner) → place_at t path ≡ Some p
      → p.lit ≡ Any held body → ((e : Env) → Reaches s p e → total (met_count s e) bodies ≡ met_count s e body)
      → SameAmong s (t ∷ []) (replaced t path (spread held bodies))

-- literals that fit among these variables, and are oriented
pub record FitIn (p : Sides) (scope : List Var) (lits : List Lit) : Type 0 where
  pub fits : list_all (lit_fits p scope) lits ≡ true
  pub oriented : list_all lit_oriented lits ≡ true

-- a proper term, a literal of which is replaced by alternatives that fit where it stands, becomes proper terms
pub record ProperLaw : Type 0 where
  pub by : (p : Sides) (kinds : List Kind) (t : Term) (path : List ℕ) (place : Place) (alternatives : List (List Lit)) → place_at t path ≡ Some place
      → IsProperTerm p kinds t → Each (FitIn p place.scope) alternatives → Each (IsProperTerm p kinds) (replaced t path alternatives)

-- Two terms that differ in a literal and its complement have together the rows of the term without it.
use Rattle.std.proofs.Common.{◌≡◌, ℕ, ◌+◌, Bool, true, false, not, ◌&&◌, List, ◌∷◌, ◌++◌, length, sym, ap, ap₂, ◌∙◌, arith}
use Rattle.mig_schema.specs.declared.values.Value.{Value}
use Rattle.mig_algebra.specs.declared.atoms.Var.{Var}
use Rattle.mig_algebra.specs.declared.atoms.Atom.{Atom}
use Rattle.mig_algebra.specs.declared.literals.Lit.{Lit}
use Rattle.mig_algebra.specs.declared.terms.Term.{Term}
use Rattle.mig_algebra.specs.Meaning.{Setting, Env, choices, lit_true, lits_true, head_of}
use Rattle.mig_algebra.proofs.Sums.{when, total-same, total-add}
use Rattle.mig_algebra.proofs.Truth.{lits-append}
use Rattle.mig_algebra.proofs.Weights.{weigh, weight}
use Rattle.mig_classes.specs.Given.{has_complement, complement}
use Rattle.mig_classes.proofs.Contradicted.{complement-law}

-- two terms are equal but for literal l, of which the second has the complement; without it both are the third
pub record Rejoin (l : ℕ) (t u both : Term) : Type 0 where
  pub front : List Lit
  pub lit : Lit
  pub back : List Lit
  pub here : length front ≡ l
  pub has : has_complement lit ≡ true
  pub first : t.lits ≡ front ++ (lit ∷ back)
  pub second : u.lits ≡ front ++ (complement lit ∷ back)
  pub vars : u.vars ≡ t.vars
  pub head : u.head ≡ t.head
  pub is : both ≡ record { vars = t.vars; lits = front ++ back; head = t.head }

module _ (s : Setting) (w : List Value → ℕ) where
  both-weigh : (vars : List Var) (head : List Atom) (front back : List Lit) (l : Lit) → has_complement l ≡ true → weigh s w vars (front ++ (l ∷ back)) head + weigh s w vars (front ++ (complement l ∷ back)) head ≡ weigh s w vars (front ++ back) head
  both-weigh vars head front back l h =
      sym (total-add (λ c. when (lits_true s c (front ++ (l ∷ back))) (w (head_of s head c))) (λ c. when (lits_true s c (front ++ (complement l ∷ back))) (w (head_of s head c))) (choices s vars))
      ∙ total-same _ _ (λ c. at c) (choices s vars)
    where
      go : (a x b : Bool) (n : ℕ) → when (a && (x && b)) n + when (a && (not x && b)) n ≡ when (a && b) n
      go true true true n = omega arith
      go true true false n = omega arith
      go true false true n = omega arith
      go true false false n = omega arith
      go false x b n = omega arith

      at : (c : Env) → when (lits_true s c (front ++ (l ∷ back))) (w (head_of s head c)) + when (lits_true s c (front ++ (complement l ∷ back))) (w (head_of s head c)) ≡ when (lits_true s c (front ++ back)) (w (head_of s head c))
      at c =
          ap₂ (λ (x y : Bool). when x (w (head_of s head c)) + when y (w (head_of s head c)))
          (lits-append s c front (l ∷ back))
          (lits-append s c front (complement l ∷ back) ∙ ap (λ (x : Bool). lits_true s c front && (x && lits_true s c back)) (complement-law.by s c l h))
          ∙ go (lits_true s c front) (lit_true s c l) (lits_true s c back) (w (head_of s head c))
          ∙ ap (λ (x : Bool). when x (w (head_of s head c))) (sym (lits-append s c front back))

  -- both terms weigh what the one that they come to weighs
  pub rejoin-weighs : (l : ℕ) (t u both : Term) → Rejoin l t u both → weight s w t + weight s w u ≡ weight s w both
  rejoin-weighs l t u both r =
      ap₂ (λ (x y : ℕ). x + y)
      (ap (λ (ls : List Lit). weigh s w t.vars ls t.head) r.first)
      (ap₂ (λ (vs : List Var) (hs : List Atom). weigh s w vs u.lits hs) r.vars r.head ∙ ap (λ (ls : List Lit). weigh s w t.vars ls t.head) r.second)
      ∙ both-weigh t.vars t.head r.front r.back r.lit r.has
      ∙ ap (weight s w) (sym r.is)

-- A test of all that a body names, by the list of its literals.
use Rattle.std.proofs.Common.{◌≡◌, ℕ, Bool, true, ◌&&◌, List, [], ◌∷◌, length, refl, sym, ap, ◌∙◌}
use Rattle.std.specs.Prelude.{◌↔◌, nat_lt}
use Rattle.std.specs.List.{list_all}
use Rattle.std.proofs.lemmas.Bool.{and_parts, and_from, ltb-true, lt-ltb}
use denote.Hole.Carrier.{hidden}
use Rattle.mig_algebra.specs.declared.atoms.Atom.{Atom}
use Rattle.mig_algebra.specs.declared.literals.Inner.{Inner}
use Rattle.mig_algebra.specs.declared.literals.Lit.{Lit}
use Rattle.mig_algebra.specs.declared.literals.Lit.TheBlock.{hidden-the_row-Lit-0}
use Rattle.mig_algebra.specs.declared.literals.Lit.TheVariants.{Any}
use Rattle.mig_algebra.specs.declared.terms.Term.{Term}
use Rattle.mig_algebra.specs.Rename.{lit_all, row_all, is_not}
use Rattle.mig_classes.specs.Substituted.{column_within, is_of_others, MayGo}

row-all : (a : Atom → Bool) (v : ℕ → Bool) (xs : List Lit) → row_all a v (hidden-the_row-Lit-0 xs) ≡ list_all (lit_all a v) xs
unfolding hidden-the_row-Lit-0 hidden
row-all a v [] = refl
row-all a v (x ∷ xs) = ap (λ b. lit_all a v x && b) (row-all a v xs)

-- a body
pub body-all : (a : Atom → Bool) (v : ℕ → Bool) (held : Bool) (body : Inner) → lit_all a v (Any held body) ≡ list_all (lit_all a v) body.lits
body-all a v held body = row-all a v body.lits

-- a test that was made of a copy of its literals
pub all-any : (a : Atom → Bool) (v : ℕ → Bool) (l : Lit) (held : Bool) (body : Inner) (lits : List Lit) (b : Bool) → l ≡ Any held body → lits ≡ body.lits → b ≡ list_all (lit_all a v) lits → b ≡ lit_all a v l
all-any a v l held body lits b is copy made = made ∙ ap (list_all (lit_all a v)) copy ∙ sym (body-all a v held body) ∙ ap (lit_all a v) (sym is)

-- what is asked of a variable that goes, by four tests
pub may-go : (i : ℕ) (atoms : List Atom) (t : Term) (a b c d r : Bool) → a ≡ nat_lt i (length t.vars) → b ≡ list_all (lit_all (column_within i (length atoms)) (is_not i)) t.lits → c ≡ list_all (column_within i (length atoms)) t.head → d ≡ list_all (is_of_others i (length t.vars)) atoms → r ≡ (a && (b && (c && d))) → (r ≡ true) ↔ MayGo i atoms t
may-go i atoms t a b c d r ea eb ec ed er = (to, from)
  where
    to : r ≡ true → MayGo i atoms t
    to h =
        let k = and_parts a (b && (c && d)) (sym er ∙ h) in
        let l = and_parts b (c && d) k.1 in
        let m = and_parts c d l.1 in
        record { own = ltb-true i (length t.vars) (sym ea ∙ k.0); lits = sym eb ∙ l.0; head = sym ec ∙ m.0; others = sym ed ∙ m.1 }

    from : MayGo i atoms t → r ≡ true
    from m =
        er ∙ and_from a (b && (c && d)) (ea ∙ lt-ltb i (length t.vars) m.own) (and_from b (c && d) (eb ∙ m.lits) (and_from c d (ec ∙ m.head) (ed ∙ m.others)))

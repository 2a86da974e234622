-- What reading all tokens, or some and no more, says of texts.
use Rattle.std.proofs.Common.{◌≡◌, ℕ, ◌+◌, ◌<◌, Bool, List, [], ◌∷◌, ◌++◌, length, take, get_or, Option, Some, None, refl, sym, ap, ◌∙◌, subst}
use Rattle.std.proofs.lemmas.List.{take_more, map-append}
use Rattle.mig_dimacs.specs.declared.token.Token.{Token}
use Rattle.mig_dimacs.specs.declared.token.Piece.{Piece}
use Rattle.mig_dimacs.specs.declared.text.Text.{Text}
use Rattle.mig_dimacs.specs.declared.place.Place.{Place}
use Rattle.mig_dimacs.specs.declared.place.Place.TheVariants as at
use Rattle.mig_dimacs.specs.declared.reader.Reader.{Reader}
use Rattle.mig_dimacs.specs.Texts.{text_tokens, tokens_of, IsWhole, IsFront, Spells}
use Rattle.mig_dimacs.specs.Reading.{next, fresh}
use Rattle.mig_dimacs.proofs.Running.{run, run-none, run-append, takes}
use Rattle.mig_dimacs.proofs.Fronts.{begins_one}
use Rattle.mig_dimacs.proofs.Sounding.{IsGood, spelled, steps, none_some}

-- one token more
pub tokens_more : (ps : List Piece) (i : ℕ) (d : Piece) → i < length ps → tokens_of (take (i + 1) ps) ≡ tokens_of (take i ps) ++ (get_or ps i d).token ∷ []
tokens_more ps i d lt = ap tokens_of (take_more ps i d lt) ∙ map-append (λ (p : Piece). p.token) (take i ps) (get_or ps i d ∷ [])

-- the reader behind one token more
pub goes_on : (w : Bool) (ps : List Piece) (i : ℕ) (d : Piece) (r : Reader) (o : Option Reader) → i < length ps → run (tokens_of (take i ps)) (Some (fresh w)) ≡ Some r
    → o ≡ next r (get_or ps i d).token → run (tokens_of (take (i + 1) ps)) (Some (fresh w)) ≡ o
goes_on w ps i d r o lt is more =
    ap (λ (ts : List Token). run ts (Some (fresh w))) (tokens_more ps i d lt)
    ∙ run-append (tokens_of (take i ps)) ((get_or ps i d).token ∷ []) (Some (fresh w))
    ∙ ap (λ (q : Option Reader). run ((get_or ps i d).token ∷ []) q) is
    ∙ sym more

-- tokens that no reader takes begin no text
pub begins_none : (w : Bool) (ts : List Token) → run ts (Some (fresh w)) ≡ None → IsFront w ts → ⊥
begins_none w ts is (t, more, whole, same) =
    none_some _ (sym (run-none more) ∙ ap (run more) (sym is) ∙ sym (run-append ts more (Some (fresh w))) ∙ ap (λ (k : List Token). run k (Some (fresh w))) (sym same) ∙ takes w t whole)

-- tokens that a reader took to the end are those of what it read
pub spells_all : (w : Bool) (ps : List Piece) (r : Reader) (t : Text) → run (tokens_of ps) (Some (fresh w)) ≡ Some r → r.place ≡ at.Ended t.head → t.clauses ≡ r.clauses → Spells w ps t
spells_all w ps r t is place same =
    let all = steps w (tokens_of ps) (fresh w) r (record { kind = refl; none = refl; nothing = refl; free = refl }) is in
    let good : IsGood w (at.Ended t.head) r.clauses r.current r.soft = subst (λ (p : Place). IsGood w p r.clauses r.current r.soft) place all.0 in
    let told : spelled (at.Ended t.head) r.clauses r.current ≡ tokens_of ps = subst (λ (p : Place). spelled p r.clauses r.current ≡ tokens_of ps) place all.1 in
    record {
      whole = subst (λ (cs : _). IsWhole w (record { head = t.head; clauses = cs })) (sym same) good;
      tokens = sym told ∙ ap (λ (cs : _). text_tokens (record { head = t.head; clauses = cs })) (sym same);
    }

-- tokens that a reader took begin some text
pub begins_some : (w : Bool) (ts : List Token) (r : Reader) → run ts (Some (fresh w)) ≡ Some r → IsFront w ts
begins_some w ts r is =
    let all = steps w ts (fresh w) r (record { kind = refl; none = refl; nothing = refl; free = refl }) is in
    subst (λ (k : List Token). IsFront w k) all.1 (begins_one w r.place r.clauses r.current r.soft all.0)

-- The tests of two programs' functions tell whether they are the same functions.
use Rattle.std.proofs.Common.{◌≡◌, ℕ, zero, suc, ◌<◌, true, false, ◌&&◌, List, [], ◌∷◌, map, length, get_or, refl, ap, ap₂, arith, Some}
use Rattle.std.specs.Prelude.{slice_get}
use Rattle.std.specs.Str.{bytes_eq}
use Rattle.std.proofs.lemmas.Bool.{and_parts, eqb-true, not-false}
use Rattle.std.proofs.lemmas.Slice.Eq.{bytes_eq-Decides}
use Rattle.mig_schema.specs.declared.tables.ColId.{ColId}
use Rattle.mig_schema.specs.declared.tables.Kind.{Kind}
use Rattle.mig_schema.specs.declared.tables.Kind.TheVariants as kind
use Rattle.mig_schema.specs.declared.tables.Schema.{Schema}
use Rattle.mig_schema.specs.declared.programs.Param.{Param}
use Rattle.mig_schema.specs.declared.programs.Body.{Body}
use Rattle.mig_schema.specs.declared.programs.Body.TheVariants.{Update, Query}
use Rattle.mig_schema.specs.declared.programs.Function.{Function}
use Rattle.mig_schema.specs.Columns.{kind_of, same_kind}
use Rattle.mig_meaning.specs.Functions.{SameSort, SameFunction}
use Rattle.mig_meaning.specs.Run.{no_function}
use Rattle.mig_obligations.specs.Shaped.{same_kinds}
use Rattle.mig_certificate.specs.declared.proofs.Claim.{Claim}
use Rattle.mig_certificate.specs.declared.proofs.Claim.TheVariants.{Holds, Answers}
use Rattle.mig_certificate.specs.BrokenPlace.{same_body, same_params, same_claim, differ}

same-kind : (j k : Kind) → same_kind j k ≡ true → j ≡ k
same-kind kind.Int kind.Int h = refl
same-kind kind.Text kind.Text h = refl
same-kind kind.Key kind.Key h = refl
same-kind _ _ h = cc

same-columns : (s s' : Schema) (cs ds : List ColId) → same_kinds s s' cs ds ≡ true → map (kind_of s) cs ≡ map (kind_of s') ds
same-columns s s' [] [] h = refl
same-columns s s' (c ∷ cs) (d ∷ ds) h =
    let k = and_parts (same_kind (kind_of s c) (kind_of s' d)) (same_kinds s s' cs ds) h in
    ap₂ (λ x xs. x ∷ xs) (same-kind (kind_of s c) (kind_of s' d) k.0) (same-columns s s' cs ds k.1)
same-columns s s' [] (d ∷ ds) h = cc
same-columns s s' (c ∷ cs) [] h = cc

same-bodies : (s s' : Schema) (a b : Body) → same_body s s' a b ≡ true → SameSort s s' a b
same-bodies s s' (Update a) (Update b) h = tt
same-bodies s s' (Query q) (Query r) h = same-columns s s' q.columns r.columns h
same-bodies s s' (Update a) (Query r) h = cc
same-bodies s s' (Query q) (Update b) h = cc

same-parameters : (ps qs : List Param) → same_params ps qs ≡ true → ps ≡ qs
same-parameters [] [] h = refl
same-parameters (p ∷ ps) (q ∷ qs) h =
    let k = and_parts (bytes_eq p.name q.name) (same_kind p.kind q.kind && same_params ps qs) h in
    let l = and_parts (same_kind p.kind q.kind) (same_params ps qs) k.1 in
    ap₂ (λ (x : Param) xs. x ∷ xs) (ap₂ (λ n c. record { name = n; kind = c }) ((bytes_eq-Decides p.name q.name).0 k.0) (same-kind p.kind q.kind l.0)) (same-parameters ps qs l.1)
same-parameters [] (q ∷ qs) h = cc
same-parameters (p ∷ ps) [] h = cc

-- two claims that pass the test are one
pub same-claims : (c d : Claim) → same_claim c d ≡ true → c ≡ d
same-claims (Holds k) (Holds l) h = ap Holds (eqb-true k l h)
same-claims Answers Answers h = refl
same-claims (Holds k) Answers h = cc
same-claims Answers (Holds l) h = cc

-- two functions that do not differ are the same
pub not-differ : (s s' : Schema) (f g : Function) → differ s s' (Some f) (Some g) ≡ false → SameFunction s s' f g
not-differ s s' f g h =
    let k = and_parts (bytes_eq f.name g.name) (same_params f.params g.params && same_body s s' f.body g.body) (not-false _ h) in
    let l = and_parts (same_params f.params g.params) (same_body s s' f.body g.body) k.1 in
    record { name = (bytes_eq-Decides f.name g.name).0 k.0; params = same-parameters f.params g.params l.0; sort = same-bodies s s' f.body g.body l.1 }

-- lists of functions that differ nowhere
pub same-count : (s s' : Schema) (fs gs : List Function) → ((n : ℕ) → differ s s' (slice_get fs n) (slice_get gs n) ≡ false) → length fs ≡ length gs
same-count s s' [] [] h = refl
same-count s s' (f ∷ fs) (g ∷ gs) h = ap suc (same-count s s' fs gs (λ n. h (suc n)))
same-count s s' [] (g ∷ gs) h = let e = h 0 in cc
same-count s s' (f ∷ fs) [] h = let e = h 0 in cc

pub same-each : (s s' : Schema) (fs gs : List Function) → ((n : ℕ) → differ s s' (slice_get fs n) (slice_get gs n) ≡ false) → (n : ℕ) → n < length fs → SameFunction s s' (get_or fs n no_function) (get_or gs n no_function)
same-each s s' [] gs h n l = absurd (omega arith)
same-each s s' (f ∷ fs) [] h n l = let e = h 0 in cc
same-each s s' (f ∷ fs) (g ∷ gs) h zero l = not-differ s s' f g (h 0)
same-each s s' (f ∷ fs) (g ∷ gs) h (suc n) l = same-each s s' fs gs (λ m. h (suc m)) n (omega (arith, l))

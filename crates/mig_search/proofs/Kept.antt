-- A completion has the job's functions, and a correspondence keeps kinds.
use Rattle.std.proofs.Common.{◌≡◌, ℕ, zero, suc, ◌<◌, Bool, true, List, [], ◌∷◌, length, get_or, refl, ap, sym, subst, arith, inl, inr}
use Rattle.std.specs.List.{AllZip, list_all}
use Rattle.std.specs.Prelude.{filter}
use Rattle.std.proofs.lemmas.Bool.{and_from, and_parts}
use Rattle.mig_schema.specs.declared.jobs.Job.{Job}
use Rattle.mig_schema.specs.declared.programs.Body.{Body}
use Rattle.mig_schema.specs.declared.programs.Body.TheVariants as body
use Rattle.mig_schema.specs.declared.programs.Function.{Function}
use Rattle.mig_schema.specs.declared.programs.Program.{Program}
use Rattle.mig_schema.specs.declared.tables.ColId.{ColId}
use Rattle.mig_schema.specs.declared.tables.Schema.{Schema}
use Rattle.mig_schema.specs.Columns.{kind_of, same_kind}
use Rattle.mig_schema.specs.Typed.{IsTyped}
use Rattle.mig_schema.specs.Within.{IsProgramWithin}
use Rattle.mig_listing.specs.Listing.{IsIn}
use Rattle.mig_listing.proofs.Members.{in_filter, in_flat_map, in_map}
use Rattle.mig_meaning.specs.Functions.{SameSort, SameFunction, SameFunctions}
use Rattle.mig_meaning.specs.Run.{function_at, no_function}
use Rattle.mig_invariant.specs.declared.corresp.ColPair.{ColPair}
use Rattle.mig_invariant.specs.declared.corresp.Corr.{Corr}
use Rattle.mig_invariant.specs.Columns.{all_columns}
use Rattle.mig_corresp.specs.Correspondences.{IsCorr, has}
use Rattle.mig_corresp.specs.Pairs.{pairs, pairs_among}
use Rattle.mig_prover.specs.Proving.{KeepsKinds}
use Rattle.mig_sketch.specs.Completed.{IsCompletion, IsSound, KeepsBody, KeepsFunction, has_columns, keeps_kinds}

-- ---- completions

sort_same : (schema schema' : Schema) (a b : Body) → KeepsBody schema schema' a b → SameSort schema schema' a b
sort_same schema schema' (body.Update a) (body.Update b) h = tt
sort_same schema schema' (body.Query q) (body.Query r) h = sym h.kinds
sort_same schema schema' (body.Update a) (body.Query r) h = absurd h
sort_same schema schema' (body.Query q) (body.Update b) h = absurd h

same_function : (schema schema' : Schema) (f g : Function) → KeepsFunction schema schema' f g → SameFunction schema schema' f g
same_function schema schema' f g h = record { name = sym h.name; params = sym h.params; sort = sort_same schema schema' f.body g.body h.body }

zip_length : {A B : Type 0} (R : A → B → Type 0) (xs : List A) (ys : List B) → AllZip R xs ys → length xs ≡ length ys
zip_length R [] [] h = refl
zip_length R [] (y ∷ ys) h = absurd h
zip_length R (x ∷ xs) [] h = absurd h
zip_length R (x ∷ xs) (y ∷ ys) h = ap suc (zip_length R xs ys h.1)

zip_at : {A B : Type 0} (R : A → B → Type 0) (xs : List A) (ys : List B) (n : ℕ) (d : A) (e : B) → AllZip R xs ys → n < length xs → R (get_or xs n d) (get_or ys n e)
zip_at R [] [] n d e h lt = absurd (omega (arith, lt))
zip_at R [] (y ∷ ys) n d e h lt = absurd h
zip_at R (x ∷ xs) [] n d e h lt = absurd h
zip_at R (x ∷ xs) (y ∷ ys) zero d e h lt = h.0
zip_at R (x ∷ xs) (y ∷ ys) (suc n) d e h lt = zip_at R xs ys n d e h.1 (omega (arith, lt))

pub completion_same : (job : Job) (p : Program) → IsCompletion job p → SameFunctions job.source job.target job.program p
completion_same job p c = record {
  count = zip_length (KeepsFunction job.source job.target) job.program.functions p.functions c.keeps;
  each = λ n lt. same_function job.source job.target (function_at job.program n) (function_at p n) (zip_at (KeepsFunction job.source job.target) job.program.functions p.functions n no_function no_function c.keeps lt);
}

-- ---- correspondences

all_from : {A : Type 0} (t : A → Bool) (xs : List A) → ((x : A) → IsIn x xs → t x ≡ true) → list_all t xs ≡ true
all_from t [] h = refl
all_from t (x ∷ xs) h = and_from (t x) (list_all t xs) (h x (inl refl)) (all_from t xs (λ y i. h y (inr i)))

pair_kinds : (job : Job) (p : ColPair) → IsIn p (pairs job) → same_kind (kind_of job.source p.source) (kind_of job.target p.target) ≡ true
pair_kinds job p i =
    let f = in_flat_map (pairs_among job (all_columns job.target)) (all_columns job.source) p i in
    let c : ColId = f.0 in
    let m = in_map (λ (d : ColId). record { source = c; target = d }) (filter (λ (d : ColId). same_kind (kind_of job.source c) (kind_of job.target d)) (all_columns job.target)) p f.2 in
    let k = in_filter (λ (d : ColId). same_kind (kind_of job.source c) (kind_of job.target d)) (all_columns job.target) m.0 m.1 in
    subst (λ (q : ColPair). same_kind (kind_of job.source q.source) (kind_of job.target q.target) ≡ true) (sym m.2) k.1

pub corr_kinds : (job : Job) (corr : Corr) → IsCorr job corr → keeps_kinds job corr ≡ true
corr_kinds job corr c = all_from (λ (p : ColPair). same_kind (kind_of job.source p.source) (kind_of job.target p.target)) corr.pairs
    (λ p i. pair_kinds job p (in_filter (has corr) (pairs job) p (subst (IsIn p) c.ordered i)).0)

pub corr_sound : (job : Job) (corr : Corr) → IsTyped job → IsProgramWithin job.program → has_columns job.target ≡ true → IsCorr job corr → IsSound job corr
corr_sound job corr t w cs c = record { typed = t; within = w; columns = cs; kinds = corr_kinds job corr c }

all_to : {A : Type 0} (t : A → Bool) (xs : List A) (x : A) → list_all t xs ≡ true → IsIn x xs → t x ≡ true
all_to t [] x h i = absurd i
all_to t (y ∷ xs) x h i =
    let parts = and_parts (t y) (list_all t xs) h in
    elim i [ inl e ↦ subst (λ z. t z ≡ true) (sym e) parts.0 | inr j ↦ all_to t xs x parts.1 j ]

pub sound_kinds : (job : Job) (corr : Corr) → IsSound job corr → KeepsKinds job corr
sound_kinds job corr s = record { each = λ q i. all_to (λ (p : ColPair). same_kind (kind_of job.source p.source) (kind_of job.target p.target)) corr.pairs q s.kinds i }

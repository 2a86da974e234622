-- The completions of a plan of a typed job are typed, within the limits, and keep the old functions.
use Rattle.std.proofs.Common.{◌≡◌, ℕ, ◌+◌, ◌≤◌, suc, Bool, false, not, List, [], ◌∷◌, map, take, length, refl, sym, ap, ◌∙◌, subst, inl, inr, arith}
use Rattle.std.specs.Prelude.{Option, Some, None, slice_get, option_map}
use Rattle.std.specs.List.{list_any, AllByRecursion, AllZip, range_with_len}
use Rattle.std.specs.Option.{option_map_or}
use Rattle.std.specs.Str.{bytes_eq}
use Rattle.std.proofs.lemmas.List.{take-map}
use Rattle.std.proofs.lemmas.Option.{slice_get-map}
use Rattle.mig_base.specs.Lists.{numbered, again}
use Rattle.mig_listing.specs.Listing.{IsIn}
use Rattle.mig_listing.proofs.Members.{in_filter}
use Rattle.mig_schema.specs.Typed.{Piece, IsTypedPiece, IsTypedFunction, piece_of, pieces_of}
use Rattle.mig_schema.specs.Within.{IsPieceWithin, IsWithin}
use Rattle.mig_schema.specs.declared.jobs.Job.{Job}
use Rattle.mig_schema.specs.declared.programs.Body.{Body}
use Rattle.mig_schema.specs.declared.programs.Body.TheVariants as body
use Rattle.mig_schema.specs.declared.programs.Function.{Function}
use Rattle.mig_schema.specs.declared.programs.Query.{Query}
use Rattle.mig_schema.specs.declared.programs.Stmt.{Stmt}
use Rattle.mig_schema.specs.declared.tables.Schema.{Schema}
use Rattle.mig_schema.proofs.Anys.{any-map}
use Rattle.mig_invariant.specs.declared.corresp.Corr.{Corr}
use Rattle.mig_sketch.specs.declared.plans.Hole.{Hole}
use Rattle.mig_sketch.specs.declared.plans.Made.TheVariants as made
use Rattle.mig_sketch.specs.declared.plans.Part.{Part}
use Rattle.mig_sketch.specs.declared.plans.Part.TheVariants as part
use Rattle.mig_sketch.specs.declared.plans.Plan.{Plan}
use Rattle.mig_sketch.specs.Choices.{IsChoice, sizes_of}
use Rattle.mig_sketch.specs.Completed.{IsSound, KeepsBody, KeepsFunction, IsCompletion}
use Rattle.mig_sketch.specs.Filling.{picked_parts, stmts_of, query_of, body_with, filled_function, filled}
use Rattle.mig_sketch.specs.Labels.{body_uses, free_labels}
use Rattle.mig_sketch.specs.Made.{IsMade, parts_of, place_at}
use Rattle.mig_sketch.proofs.GoodParts.{piece_of_part, IsGood, option_good}
use Rattle.mig_sketch.proofs.Picking.{IsPicked, picked_at}
use Rattle.mig_sketch.proofs.Smalls.{length-numbered}
use Rattle.mig_sketch.proofs.Tests.{slice_in, in_range, each_to}

-- ---- numbered items

each_numbered : {A B : Type 0} (P : B → Type 0) (F : ℕ → A → B) (n : ℕ) (xs : List A) → ((i : ℕ) (x : A) → slice_get xs i ≡ Some x → P (F (n + i) x)) → AllByRecursion P (numbered F n xs)
each_numbered P F n [] h = tt
each_numbered {A} P F n (x ∷ xs) h =
    let here : n + 0 ≡ n = omega arith in
    (subst (λ k. P (F k x)) here (h 0 x refl), each_numbered P F (n + 1) xs (λ i y at. let k : n + suc i ≡ n + 1 + i = omega arith in subst (λ m. P (F m y)) k (h (suc i) y at)))

zip_numbered : {A B : Type 0} (R : A → B → Type 0) (F : ℕ → A → B) (n : ℕ) (xs : List A) → ((i : ℕ) (x : A) → slice_get xs i ≡ Some x → R x (F (n + i) x)) → AllZip R xs (numbered F n xs)
zip_numbered R F n [] h = tt
zip_numbered R F n (x ∷ xs) h =
    let here : n + 0 ≡ n = omega arith in
    (subst (λ k. R x (F k x)) here (h 0 x refl), zip_numbered R F (n + 1) xs (λ i y at. let k : n + suc i ≡ n + 1 + i = omega arith in subst (λ m. R y (F m y)) k (h (suc i) y at)))

-- names that stand again
again-map : {A B : Type 0} (q : B → B → Bool) (h : A → B) (xs : List A) (k : ℕ) → again (λ x y. q (h x) (h y)) xs k ≡ again q (map h xs) k
again-map {A} {B} q h xs k = go (slice_get xs k) ∙ ap (λ o. option_map_or (λ (y : B). list_any (λ z. q z y) (take k (map h xs))) o false) (sym (slice_get-map h xs k))
  where
    go : (o : Option A) → option_map_or (λ (x : A). list_any (λ y. q (h y) (h x)) (take k xs)) o false ≡ option_map_or (λ (y : B). list_any (λ z. q z y) (take k (map h xs))) (option_map h o) false
    go None = refl
    go (Some x) = sym (any-map (λ z. q z (h x)) h (take k xs)) ∙ ap (list_any (λ z. q z (h x))) (sym (take-map h k xs))

names-kept : (holes : List Hole) (picks : List ℕ) (n : ℕ) (xs : List Function) → map (λ (f : Function). f.name) (numbered (filled_function holes picks) n xs) ≡ map (λ (f : Function). f.name) xs
names-kept holes picks n [] = refl
names-kept holes picks n (x ∷ xs) = ap (λ names. x.name ∷ names) (names-kept holes picks (n + 1) xs)

-- ---- a function with other statements

retyped : (s : Schema) (f : Function) (b : Body) (p : Piece) → IsTypedPiece s f p → IsTypedPiece s (record { name = f.name; params = f.params; body = b }) p
retyped s f b p t = record {
  tables = t.tables;
  columns = t.columns;
  once = t.once;
  shape = t.shape;
  params = t.params;
  joined = t.joined;
  kinds = t.kinds;
  orders = t.orders;
  cover = t.cover;
}

-- each label that a body does not use is at most 15
free_low : (b : Body) (n : ℕ) → IsIn n (free_labels b) → n ≤ 15
free_low b n i = let h = in_range 0 16 n (in_filter (λ m. not (body_uses m b)) (range_with_len 0 16) n i).0 in omega (arith, h.1)

module _ (job : Job) (f : Function) where
  -- the parts of a typed body are typed, and within the limits
  parts_typed : (b : Body) → AllByRecursion (IsTypedPiece job.source f) (pieces_of b) → AllByRecursion IsPieceWithin (pieces_of b) → (p : Part) → IsIn p (parts_of b) → IsTypedPiece job.source f (piece_of_part p) × IsPieceWithin (piece_of_part p)
  parts_typed (body.Update stmts) t w p i = each stmts t w p i
    where
      each : (xs : List Stmt) → AllByRecursion (IsTypedPiece job.source f) (map piece_of xs) → AllByRecursion IsPieceWithin (map piece_of xs) → (p : Part) → IsIn p (map (λ s. part.Stmt s) xs) → IsTypedPiece job.source f (piece_of_part p) × IsPieceWithin (piece_of_part p)
      each [] t w p i = absurd i
      each (x ∷ xs) t w p i = elim i [
        | inl e ↦ subst (λ q. IsTypedPiece job.source f (piece_of_part q) × IsPieceWithin (piece_of_part q)) (sym e) (t.0, w.0)
        | inr j ↦ each xs t.1 w.1 p j
      ]
  parts_typed (body.Query q) t w p i = elim i [
    | inl e ↦ subst (λ r. IsTypedPiece job.source f (piece_of_part r) × IsPieceWithin (piece_of_part r)) (sym e) (t.0, w.0)
    | inr z ↦ absurd z
  ]

  -- ---- its new body

  -- what is known of a new body
  record IsNewBody (old new : Body) : Type 0 where
    count : length (pieces_of new) ≡ length (pieces_of old)
    typed : AllByRecursion (IsTypedPiece job.target f) (pieces_of new)
    within : AllByRecursion IsPieceWithin (pieces_of new)
    keeps : KeepsBody job.source job.target old new

  new_stmts : (xs : List Stmt) (ps : List Part) → AllZip (IsGood job f) (map (λ s. part.Stmt s) xs) ps → IsNewBody (body.Update xs) (body.Update (stmts_of ps))
  new_stmts [] [] z = record { count = refl; typed = tt; within = tt; keeps = tt }
  new_stmts [] (p ∷ ps) z = absurd z
  new_stmts (x ∷ xs) [] z = absurd z
  new_stmts (x ∷ xs) (part.Query q ∷ ps) z = absurd z.0.keeps
  new_stmts (x ∷ xs) (part.Stmt s ∷ ps) z =
      let rest = new_stmts xs ps z.1 in
      let size = rest.count in
      record {
        count = omega (arith, size);
        typed = (z.0.typed, rest.typed);
        within = (z.0.within, rest.within);
        keeps = (z.0.keeps, rest.keeps);
      }

  new_query : (q : Query) (ps : List Part) → AllZip (IsGood job f) (part.Query q ∷ []) ps → IsNewBody (body.Query q) (body.Query (query_of q ps))
  new_query q [] z = absurd z
  new_query q (part.Stmt s ∷ ps) z = absurd z.0.keeps
  new_query q (part.Query r ∷ []) z = record { count = refl; typed = (z.0.typed, tt); within = (z.0.within, tt); keeps = z.0.keeps }
  new_query q (part.Query r ∷ p ∷ ps) z = absurd z.1

  new_body : (b : Body) (ps : List Part) → AllZip (IsGood job f) (parts_of b) ps → IsNewBody b (body_with b ps)
  new_body (body.Update stmts) ps z = new_stmts stmts ps z
  new_body (body.Query q) ps z = new_query q ps z

module _ (job : Job) (corr : Corr) (sound : IsSound job corr) where
  -- what is picked for a function is good
  picked_good : (f : Function) (number n : ℕ) (xs : List Part) → ((p : Part) → IsIn p xs → IsTypedPiece job.source f (piece_of_part p) × IsPieceWithin (piece_of_part p)) → (ps : List Part) → AllZip (IsPicked job corr) (numbered (place_at number (free_labels f.body)) n xs) ps → AllZip (IsGood job f) xs ps
  picked_good f number n [] typed [] z = tt
  picked_good f number n [] typed (p ∷ ps) z = absurd z
  picked_good f number n (x ∷ xs) typed [] z = absurd z
  picked_good f number n (x ∷ xs) typed (p ∷ ps) z =
      let old = typed x (inl refl) in (
        option_good job corr sound f (free_labels f.body) (free_low f.body) n x old.0 old.1 z.0.options z.0.are p z.0.one,
        picked_good f number (n + 1) xs (λ q i. typed q (inr i)) ps z.1,
      )

  module _ (plan : Plan) (picks : List ℕ) (choice : IsChoice (sizes_of plan.holes) picks) (made : IsMade job corr (made.Plan plan)) where
    -- the new body of function n
    new : (n : ℕ) (f : Function) → slice_get job.program.functions n ≡ Some f → IsNewBody job f f.body (body_with f.body (picked_parts n plan.holes picks))
    new n f at =
        let i = slice_in job.program.functions n f at in
        let typed = each_to (IsTypedFunction job.source) job.program.functions f sound.typed.program.functions i in
        let within = each_to IsWithin job.program.functions f sound.within.each i in
        let same : n ≡ 0 + n = omega arith in
        new_body job f f.body (picked_parts n plan.holes picks)
        (picked_good f n 0 (parts_of f.body) (parts_typed job f f.body typed.pieces within.pieces) (picked_parts n plan.holes picks)
        (picked_at job corr n 0 n job.program.functions f plan.holes picks same at made.1 choice))

    typed_function : (n : ℕ) (f : Function) → slice_get job.program.functions n ≡ Some f → IsTypedFunction job.target (filled_function plan.holes picks n f)
    typed_function n f at = record {
      params = (each_to (IsTypedFunction job.source) job.program.functions f sound.typed.program.functions (slice_in job.program.functions n f at)).params;
      pieces = again_typed (pieces_of (body_with f.body (picked_parts n plan.holes picks))) (new n f at).typed;
    }
      where
        again_typed : (ps : List Piece) → AllByRecursion (IsTypedPiece job.target f) ps → AllByRecursion (IsTypedPiece job.target (filled_function plan.holes picks n f)) ps
        again_typed [] t = tt
        again_typed (p ∷ ps) t = (retyped job.target f (body_with f.body (picked_parts n plan.holes picks)) p t.0, again_typed ps t.1)

    function_within : (n : ℕ) (f : Function) → slice_get job.program.functions n ≡ Some f → IsWithin (filled_function plan.holes picks n f)
    function_within n f at =
        let within = each_to IsWithin job.program.functions f sound.within.each (slice_in job.program.functions n f at) in
        let few = within.statements in
        let count = (new n f at).count in
        record { params = within.params; statements = omega (arith, few, count); pieces = (new n f at).within }

    -- the completion with the old functions of the job
    of_job : IsCompletion job (record { functions = numbered (filled_function plan.holes picks) 0 job.program.functions })
    of_job = record {
      typed = record {
        once = λ k. again-map bytes_eq (λ (f : Function). f.name) (numbered (filled_function plan.holes picks) 0 job.program.functions) k
            ∙ ap (λ names. again bytes_eq names k) (names-kept plan.holes picks 0 job.program.functions)
            ∙ sym (again-map bytes_eq (λ (f : Function). f.name) job.program.functions k)
            ∙ sound.typed.program.once k;
        functions = each_numbered (IsTypedFunction job.target) (filled_function plan.holes picks) 0 job.program.functions (λ i f at. from_zero i (λ n. IsTypedFunction job.target (filled_function plan.holes picks n f)) (typed_function i f at));
      };
      within = record {
        functions = let few = sound.within.functions in let size = length-numbered (filled_function plan.holes picks) 0 job.program.functions in omega (arith, few, size);
        each = each_numbered IsWithin (filled_function plan.holes picks) 0 job.program.functions (λ i f at. from_zero i (λ n. IsWithin (filled_function plan.holes picks n f)) (function_within i f at));
      };
      keeps = zip_numbered (KeepsFunction job.source job.target) (filled_function plan.holes picks) 0 job.program.functions (λ i f at. from_zero i (λ n. KeepsFunction job.source job.target f (filled_function plan.holes picks n f)) (record { name = refl; params = refl; body = (new i f at).keeps }));
    }
      where
        from_zero : (i : ℕ) (P : ℕ → Type 0) → P i → P (0 + i)
        from_zero i P h = let e : i ≡ 0 + i = omega arith in subst P e h

    pub completed : IsCompletion job (filled plan picks)
    completed = subst (λ (fs : List Function). IsCompletion job (record { functions = numbered (filled_function plan.holes picks) 0 fs })) (sym made.0) of_job

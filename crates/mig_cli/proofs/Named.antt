-- What is spelled of a certificate of spelled functions, and labels of functions within the limits.
use Rattle.std.proofs.Common.{◌≡◌, ◌<◌, true, ◌&&◌, List, [], ◌∷◌, length, refl, ap, ◌∙◌, arith}
use Rattle.std.specs.List.{list_all, AllByRecursion}
use Rattle.std.proofs.lemmas.Bool.{and_from, and_parts}
use Rattle.mig_schema.specs.declared.tables.Schema.{Schema}
use Rattle.mig_schema.specs.declared.programs.Function.{Function}
use Rattle.mig_schema.specs.declared.programs.Program.{Program}
use Rattle.mig_schema.specs.declared.jobs.Job.{Job}
use Rattle.mig_schema.specs.Within.{IsProgramWithin}
use Rattle.mig_meaning.specs.declared.relating.Invariant.{Invariant}
use Rattle.mig_meaning.specs.declared.relating.Invariant.TheVariants.{Views, Unique, Apart, Within}
use Rattle.mig_meaning.specs.Lists.{Each}
use Rattle.mig_meaning.specs.States.{labels_fit}
use Rattle.mig_store.specs.Runs.{IsCallable}
use Rattle.mig_store.proofs.Callable.{callable}
use Rattle.mig_certificate.specs.declared.proofs.PairProof.{PairProof}
use Rattle.mig_certificate.specs.Valid.{AreProofsOf}
use Rattle.mig_search.specs.Finds.{HasOutputs}
use Rattle.mig_spelling.specs.Spellable.{has_items, is_name, param_spelled, body_spelled, function_spelled, invariant_spelled}

-- a list that is not empty has an item
some-items : {A : Type 0} (xs : List A) → 0 < length xs → has_items xs ≡ true
some-items [] h = absurd (omega (arith, h))
some-items (x ∷ xs) h = refl

view-spelled : (job : Job) (i : Invariant) → HasOutputs job i → invariant_spelled i ≡ true
view-spelled job (Views source target) h = and_from (has_items source.outs) (has_items target.outs) (some-items source.outs h.0) (some-items target.outs h.2)
view-spelled job (Unique side column) h = refl
view-spelled job (Apart side left right) h = refl
view-spelled job (Within side left right) h = refl

-- invariants whose views have outputs are spelled
pub views-spelled : (job : Job) (is : List Invariant) → AllByRecursion (HasOutputs job) is → list_all invariant_spelled is ≡ true
views-spelled job [] h = refl
views-spelled job (i ∷ is) h = and_from (invariant_spelled i) (list_all invariant_spelled is) (view-spelled job i h.0) (views-spelled job is h.1)

-- the proofs of pairs of functions have the names of functions that are spelled
pub pairs-spelled : (s s' : Schema) (invs : List Invariant) (fs gs : List Function) (xs : List PairProof) → AreProofsOf s s' invs fs gs xs → list_all function_spelled fs ≡ true → list_all (λ (x : PairProof). is_name x.name) xs ≡ true
pairs-spelled s s' invs [] [] [] p h = refl
pairs-spelled s s' invs [] [] (x ∷ xs) p h = absurd p
pairs-spelled s s' invs [] (g ∷ gs) xs p h = absurd p
pairs-spelled s s' invs (f ∷ fs) [] xs p h = absurd p
pairs-spelled s s' invs (f ∷ fs) (g ∷ gs) [] p h = absurd p
pairs-spelled s s' invs (f ∷ fs) (g ∷ gs) (x ∷ xs) p h =
    let both = and_parts (function_spelled f) (list_all function_spelled fs) h in
    let name = and_parts (is_name f.name) (list_all param_spelled f.params && body_spelled f.body) both.0 in
    and_from (is_name x.name) (list_all (λ (y : PairProof). is_name y.name) xs) (ap is_name p.0.name ∙ name.0) (pairs-spelled s s' invs fs gs xs p.1 both.1)

each-label : (fs : List Function) → Each IsCallable fs → list_all labels_fit fs ≡ true
each-label [] h = refl
each-label (f ∷ fs) h = and_from (labels_fit f) (list_all labels_fit fs) h.0.labels (each-label fs h.1)

-- functions within the limits have labels up to 15
pub labels-within : (p : Program) → IsProgramWithin p → list_all labels_fit p.functions ≡ true
labels-within p w = each-label p.functions (callable p w)

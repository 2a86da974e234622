-- Lists that are made of the first items of others, one item more.
use Rattle.std.proofs.Common.{◌≡◌, ℕ, ◌+◌, ◌<◌, List, [], ◌∷◌, ◌++◌, take, length, get_or, refl, sym, ap, ◌∙◌, append_assoc, append-nil}
use Rattle.std.specs.Prelude.{filter}
use Rattle.std.specs.List.{flat_map}
use Rattle.std.proofs.lemmas.Grind.{flat_map-append}
use Rattle.std.proofs.lemmas.List.{take_more}
use Rattle.std.proofs.lemmas.List.Elements.{filter-append}
use Rattle.mig_sketch.specs.declared.images.Imaged.{Imaged}
use Rattle.mig_sketch.specs.Imaging.{image_sets}
use Rattle.mig_sketch.specs.Needs.{has_any}

pub flat-step : {A B : Type 0} (f : A → List B) (xs : List A) (i : ℕ) (d : A) → i < length xs → flat_map f (take (i + 1) xs) ≡ flat_map f (take i xs) ++ f (get_or xs i d)
flat-step f xs i d lt =
    ap (flat_map f) (take_more xs i d lt)
    ∙ flat_map-append f (take i xs) (get_or xs i d ∷ [])
    ∙ ap (λ ys. flat_map f (take i xs) ++ ys) (append-nil (f (get_or xs i d)))

sets-append : (xs ys : List Imaged) → image_sets (xs ++ ys) ≡ image_sets xs ++ image_sets ys
sets-append [] ys = refl
sets-append (x ∷ xs) ys = ap (λ zs. x.images ∷ zs) (sets-append xs ys)

-- the images of one more column, where it has one
pub any-step : (xs : List Imaged) (i : ℕ) (x : Imaged) → i < length xs → x ≡ get_or xs i x → filter has_any (image_sets (take (i + 1) xs)) ≡ filter has_any (image_sets (take i xs)) ++ filter has_any (x.images ∷ [])
any-step xs i x lt is =
    ap (λ ys. filter has_any (image_sets ys)) (take_more xs i x lt)
    ∙ ap (filter has_any) (sets-append (take i xs) (get_or xs i x ∷ []))
    ∙ filter-append has_any (image_sets (take i xs)) ((get_or xs i x).images ∷ [])
    ∙ ap (λ (y : Imaged). filter has_any (image_sets (take i xs)) ++ filter has_any (y.images ∷ [])) (sym is)

-- two parts more
pub two-more : {A : Type 0} (old mid new xs ls rs : List A) → mid ≡ (old ++ xs) ++ ls → new ≡ mid ++ rs → new ≡ old ++ (xs ++ (ls ++ rs))
two-more old mid new xs ls rs a b = b ∙ ap (λ ys. ys ++ rs) a ∙ append_assoc (old ++ xs) ls rs ∙ append_assoc old xs (ls ++ rs)

-- The tokens of texts that are put together.
use Rattle.std.proofs.Common.{◌≡◌, ℕ, List, [], ◌∷◌, ◌++◌, map, false, refl, sym, ap, ◌∙◌, subst, subst₂, append_assoc}
use Rattle.std.specs.List.{AllByRecursion, flat_map, join_by}
use Rattle.mig_tokens.specs.declared.token.Token.{Token}
use Rattle.mig_tokens.specs.Bytes.{is_name_byte, first_is}
use Rattle.mig_tokens.specs.Forms.{Before, behind, numbered, led}
use Rattle.mig_tokens.specs.Marked.{Marked, bare}
use Rattle.mig_tokens.specs.Tokens.{Lexes}

-- ---- what stands behind a text

-- no name and no int goes on with these bytes
abbrev pub Breaks : List ℕ → Type 0
Breaks rest = first_is is_name_byte rest ≡ false

-- no name and no int goes on with these bytes, nor with what stands behind them
abbrev pub Starts : List ℕ → Type 0
Starts bytes = (rest : List ℕ) → Breaks rest → Breaks (bytes ++ rest)

-- the bytes are these tokens, whatever stands behind them
abbrev pub Ends : List ℕ → List Marked → Type 0
Ends bytes ms = (rest : List ℕ) (more : List Token) → Lexes rest more → Lexes (bytes ++ rest) (bare ms ++ more)

-- the bytes are these tokens, where no name and no int goes on behind them
abbrev pub Prints : List ℕ → List Marked → Type 0
Prints bytes ms = (rest : List ℕ) (more : List Token) → Breaks rest → Lexes rest more → Lexes (bytes ++ rest) (bare ms ++ more)

-- ---- two texts

bare_joined : (ms ns : List Marked) → bare (ms ++ ns) ≡ bare ms ++ bare ns
bare_joined [] ns = refl
bare_joined (m ∷ ms) ns = ap (λ (ts : List Token). m.0 ∷ ts) (bare_joined ms ns)

regroup : (a b rest : List ℕ) (ms ns : List Marked) (more : List Token) → Lexes (a ++ (b ++ rest)) (bare ms ++ (bare ns ++ more)) → Lexes ((a ++ b) ++ rest) (bare (ms ++ ns) ++ more)
regroup a b rest ms ns more h =
    subst₂ Lexes (sym (append_assoc a b rest)) (sym (append_assoc (bare ms) (bare ns) more) ∙ ap (λ (ts : List Token). ts ++ more) (sym (bare_joined ms ns))) h

pub as_prints : (a : List ℕ) (ms : List Marked) → Ends a ms → Prints a ms
as_prints a ms f rest more br h = f rest more h

pub ends_ends : (a b : List ℕ) (ms ns : List Marked) → Ends a ms → Ends b ns → Ends (a ++ b) (ms ++ ns)
ends_ends a b ms ns f g rest more h = regroup a b rest ms ns more (f (b ++ rest) (bare ns ++ more) (g rest more h))

pub ends_prints : (a b : List ℕ) (ms ns : List Marked) → Ends a ms → Prints b ns → Prints (a ++ b) (ms ++ ns)
ends_prints a b ms ns f g rest more br h = regroup a b rest ms ns more (f (b ++ rest) (bare ns ++ more) (g rest more br h))

pub prints_prints : (a b : List ℕ) (ms ns : List Marked) → Prints a ms → Starts b → Prints b ns → Prints (a ++ b) (ms ++ ns)
prints_prints a b ms ns f s g rest more br h = regroup a b rest ms ns more (f (b ++ rest) (bare ns ++ more) (s rest br) (g rest more br h))

-- a text that begins so that the one before it ends, whatever stands behind both
abbrev pub Cuts : List ℕ → Type 0
Cuts bytes = (rest : List ℕ) → Breaks (bytes ++ rest)

pub prints_ends : (a b : List ℕ) (ms ns : List Marked) → Prints a ms → Cuts b → Ends b ns → Ends (a ++ b) (ms ++ ns)
prints_ends a b ms ns f s g rest more h = regroup a b rest ms ns more (f (b ++ rest) (bare ns ++ more) (s rest) (g rest more h))

-- ---- lists

pub starts_flat : {A : Type 0} (text : A → List ℕ) → ((x : A) → Cuts (text x)) → (xs : List A) → Starts (flat_map text xs)
starts_flat text cuts [] rest br = br
starts_flat text cuts (x ∷ xs) rest br = subst Breaks (sym (append_assoc (text x) (flat_map text xs) rest)) (cuts x (flat_map text xs ++ rest))

module _ {A B : Type 0} (Good : A → Type 0) (f : A → B) (takes : B → ℕ) (text : A → List ℕ) (spell : Before → B → List Marked) where
  pub ends_flat : ((s : Before) (x : A) → Good x → Ends (text x) (spell s (f x))) → (s : Before) (xs : List A) → AllByRecursion Good xs → Ends (flat_map text xs) (numbered takes spell s (map f xs))
  ends_flat one s [] good = λ rest more h. h
  ends_flat one s (x ∷ xs) good =
      ends_ends (text x) (flat_map text xs) (spell s (f x)) (numbered takes spell (behind (takes (f x)) s) (map f xs)) (one s x good.0) (ends_flat one (behind (takes (f x)) s) xs good.1)

  pub prints_flat : ((x : A) → Cuts (text x)) → ((s : Before) (x : A) → Good x → Prints (text x) (spell s (f x))) → (s : Before) (xs : List A) → AllByRecursion Good xs → Prints (flat_map text xs) (numbered takes spell s (map f xs))
  prints_flat cuts one s [] good = λ rest more br h. h
  prints_flat cuts one s (x ∷ xs) good =
      prints_prints (text x) (flat_map text xs) (spell s (f x)) (numbered takes spell (behind (takes (f x)) s) (map f xs)) (one s x good.0) (starts_flat text cuts xs) (prints_flat cuts one (behind (takes (f x)) s) xs good.1)

-- items with a separator between each two
pub prints_joined : {A B : Type 0} (Good : A → Type 0) (f : A → B) (takes : B → ℕ) (text : A → List ℕ) (separator : List ℕ) (first other : Before → B → List Marked)
    → ((x : A) → Cuts (separator ++ text x)) → ((s : Before) (x : A) → Good x → Prints (text x) (first s (f x))) → ((s : Before) (x : A) → Good x → Prints (separator ++ text x) (other s (f x)))
    → (s : Before) (xs : List A) → AllByRecursion Good xs → Prints (join_by text separator xs) (led takes first other s (map f xs))
prints_joined Good f takes text separator first other cuts one two s [] good = λ rest more br h. h
prints_joined {A} Good f takes text separator first other cuts one two s (x ∷ xs) good =
    prints_prints (text x) (flat_map (λ (y : A). separator ++ text y) xs) (first s (f x)) (numbered takes other (behind (takes (f x)) s) (map f xs)) (one s x good.0)
    (starts_flat (λ (y : A). separator ++ text y) cuts xs) (prints_flat Good f takes (λ (y : A). separator ++ text y) other cuts two (behind (takes (f x)) s) xs good.1)

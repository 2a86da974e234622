-- The lists that the functions build hold all link trees that serve a need, in order.
use Rattle.std.proofs.Common.{◌≡◌, ℕ, ◌+◌, ◌<◌, true, List, length, refl, ap, sym, ◌∙◌, subst, inl, inr, arith, [], ◌∷◌, false}
use Rattle.std.specs.Prelude.{filter}
use Rattle.std.proofs.lemmas.Bool.{false≢true}
use Rattle.mig_listing.specs.Listing.{IsIn, IsListOf}
use Rattle.mig_listing.specs.Orders.{Less, Lex}
use Rattle.mig_listing.specs.Choices.{IsChoice, numbers, choices}
use Rattle.mig_listing.proofs.Rising.{rises_filter}
use Rattle.mig_listing.proofs.Listings.{listed_as, listed_flat_map, listed_map, listed_filter}
use Rattle.mig_listing.proofs.Choices.{choices_listed, numbers_below, in_numbers, numbers_rise, listed_numbers}
use Rattle.mig_schema.specs.declared.tables.ColId.{ColId}
use Rattle.mig_schema.specs.declared.tables.Schema.{Schema}
use Rattle.mig_trees.specs.Trees.{Tree, TreeBefore}
use Rattle.mig_trees.specs.Answer.{IsServing}
use Rattle.mig_trees.specs.Inside.{is_inside, inside, serves}
use Rattle.mig_trees.specs.Making.{tree_of, is_tree, trees_over, trees_of, trees_below}
use Rattle.mig_trees.proofs.Within.{inside_to, inside_from, serves_to, serves_from}
use Rattle.mig_trees.proofs.Covering.{connects_to, connects_from}

-- a tree of so many links over these tables
abbrev pub IsOver : Schema → ℕ → List ℕ → Tree → Type 0
IsOver schema count tables t = (links : List ℕ) × (IsChoice count (inside schema tables) links × (is_tree schema tables links ≡ true)) × (t ≡ tree_of tables links)

-- the trees over these tables are listed in order
pub listed_over : (schema : Schema) (count : ℕ) (tables : List ℕ) → IsListOf (IsOver schema count tables) TreeBefore (trees_over schema count tables)
listed_over schema count tables =
    let pool = inside schema tables in
    let rising = rises_filter Less (is_inside schema tables) (numbers (length schema.links)) (numbers_rise (length schema.links)) in
    listed_map {P = λ links. IsChoice count (inside schema tables) links × (is_tree schema tables links ≡ true)} {R = Lex Less} {S = TreeBefore} (tree_of tables) (filter (is_tree schema tables) (choices count (inside schema tables)))
    (listed_filter {P = IsChoice count (inside schema tables)} {R = Lex Less} (is_tree schema tables) (choices count (inside schema tables)) (choices_listed count (inside schema tables) rising))
    (λ a b r. inr (refl, inr (refl, r)))

-- a list in which nothing stands is empty
pub none_of : {A : Type 0} (xs : List A) → ((x : A) → IsIn x xs → ⊥) → xs ≡ []
none_of [] h = refl
none_of (x ∷ xs) h = absurd (h x (inl refl))

-- where the links inside do not connect the tables together, no choice of them does
pub is_tree_more : (schema : Schema) (tables links more : List ℕ) → ((n : ℕ) → IsIn n links → IsIn n more) → is_tree schema tables links ≡ true → is_tree schema tables more ≡ true
is_tree_more schema tables links more within e = connects_from schema tables more (λ part closed. connects_to schema tables links e part (λ n l i is. closed n l (within n i) is))

-- so there are no trees over such tables
pub none_over : (schema : Schema) (count : ℕ) (tables : List ℕ) → is_tree schema tables (inside schema tables) ≡ false → trees_over schema count tables ≡ []
none_over schema count tables f = none_of (trees_over schema count tables) (λ t i.
    let over = (listed_over schema count tables).holds t i in
    false≢true (sym f ∙ is_tree_more schema tables over.0 (inside schema tables) over.1.0.from over.1.1))

-- a set of tables for so many links that serves the need
abbrev pub IsFor : Schema → List (List ColId) → ℕ → List ℕ → Type 0
IsFor schema need count tables = IsChoice (count + 1) (numbers (length schema.tables)) tables × (serves need tables ≡ true)

-- a tree of so many links that serves the need
abbrev pub IsSized : Schema → List (List ColId) → ℕ → Tree → Type 0
IsSized schema need count t = (tables : List ℕ) × IsFor schema need count tables × IsOver schema count tables t

-- the trees of so many links that serve are listed in order
pub listed_sized : (schema : Schema) (need : List (List ColId)) (count : ℕ) → IsListOf (IsSized schema need count) TreeBefore (trees_of schema need count)
listed_sized schema need count =
    let pool = numbers (length schema.tables) in
    listed_flat_map {P = IsFor schema need count} {R = Lex Less} {Q = IsOver schema count} {S = TreeBefore} (trees_over schema count) (filter (serves need) (choices (count + 1) (numbers (length schema.tables))))
    (listed_filter {P = IsChoice (count + 1) (numbers (length schema.tables))} {R = Lex Less} (serves need) (choices (count + 1) (numbers (length schema.tables))) (choices_listed (count + 1) (numbers (length schema.tables)) (numbers_rise (length schema.tables))))
    (λ tables s. listed_over schema count tables)
    (λ a b u v p q r l m. subst (λ z. TreeBefore z v) (sym l.2) (subst (λ z. TreeBefore (tree_of a l.0) z) (sym m.2) (inr (p.0.sized ∙ sym q.0.sized, inl r))))

-- a tree has one table more than links
pub size_of : (schema : Schema) (need : List (List ColId)) (count : ℕ) (t : Tree) → IsSized schema need count t → length t.tables ≡ count + 1
size_of schema need count t h = ap (λ (s : Tree). length s.tables) h.2.2 ∙ h.1.0.sized

-- a tree of fewer than four links that serves is a link tree that serves, and back
pub sized_to : (schema : Schema) (need : List (List ColId)) (count : ℕ) (t : Tree) → count < 4 → IsSized schema need count t → IsServing schema need t
sized_to schema need count t small h =
    let size = h.1.0.sized in
    let links_size = h.2.1.0.sized in
    subst (IsServing schema need) (sym h.2.2) (
      record {
        rising = h.1.0.rising;
        known = λ n i. numbers_below (length schema.tables) n (h.1.0.from n i);
        rising_links = h.2.1.0.rising;
        within = λ n i. inside_to schema h.0 n (h.2.1.0.from n i);
        few = omega (arith, size, small);
        one_less = omega (arith, size, links_size);
        connects = connects_to schema h.0 h.2.0 h.2.1.1;
      },
      serves_to need h.0 h.1.1,
    )

-- a link tree that serves is a tree of as many links as it has
pub sized_from : (schema : Schema) (need : List (List ColId)) (t : Tree) → IsServing schema need t → IsSized schema need (length t.links) t
sized_from schema need t s =
    let is = s.0 in
    let size = is.one_less in (
      t.tables,
      (record { rising = s.0.rising; sized = sym size; from = λ n i. in_numbers (length schema.tables) n (s.0.known n i) }, serves_from need t.tables s.1),
      (
        t.links,
        (record { rising = s.0.rising_links; sized = refl; from = λ n i. inside_from schema t.tables n (s.0.within n i) }, connects_from schema t.tables t.links s.0.connects),
        refl,
      ),
    )

-- a tree of fewer tables stands first
pub fewer_first : (s t : Tree) (m n : ℕ) → length s.tables ≡ m + 1 → length t.tables ≡ n + 1 → m < n → TreeBefore s t
fewer_first s t m n e f h = inl (omega (arith, e, f, h))

-- all link trees that serve are listed in order
pub all_listed : (schema : Schema) (need : List (List ColId)) → IsListOf (IsServing schema need) TreeBefore (trees_below schema need 4)
all_listed schema need =
    listed_as {P = λ t. (n : ℕ) × (n < 4) × IsSized schema need n t} {Q = IsServing schema need} (trees_below schema need 4)
    (listed_flat_map {P = λ n. n < 4} {R = Less} {Q = IsSized schema need} {S = TreeBefore} (trees_of schema need) (numbers 4) (listed_numbers 4)
    (λ n small. listed_sized schema need n)
    (λ m n s t p q r k l. fewer_first s t m n (size_of schema need m s k) (size_of schema need n t l) r))
    (λ t h. sized_to schema need h.0 t h.1 h.2)
    (λ t s. let few = s.0.few in let size = s.0.one_less in (length t.links, omega (arith, few, size), sized_from schema need t s))

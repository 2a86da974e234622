-- Tests of a set of tables, and what they say: its links, and the needed columns that it holds.
use Rattle.std.proofs.Common.{◌≡◌, ℕ, Bool, true, List, [], ◌∷◌, length, refl, ap, sym, ◌∙◌, inl, inr}
use Rattle.std.specs.Prelude.{slice_get}
use Rattle.std.specs.List.{list_any, list_all}
use Rattle.std.proofs.lemmas.Option.{slice_get_within}
use Rattle.std.proofs.lemmas.Bool.{or_cases, or_left, or_right, and_parts, and_from, false≢true}
use Rattle.mig_listing.specs.Listing.{IsIn}
use Rattle.mig_listing.specs.Choices.{numbers}
use Rattle.mig_listing.proofs.Members.{in_filter, from_filter}
use Rattle.mig_listing.proofs.Choices.{in_numbers}
use Rattle.mig_schema.specs.Joins.{is_among}
use Rattle.mig_schema.specs.declared.tables.ColId.{ColId}
use Rattle.mig_schema.specs.declared.tables.Schema.{Schema}
use Rattle.mig_trees.specs.Trees.{IsWithin, Serves}
use Rattle.mig_trees.specs.Inside.{has_ends_in, is_inside, inside, has_one, serves}
use Rattle.mig_trees.proofs.Reach.{cases_option, among_to, among_from}

-- list_all, both ways
pub all_to : {A : Type 0} (p : A → Bool) (xs : List A) (x : A) → list_all p xs ≡ true → IsIn x xs → p x ≡ true
all_to p [] x e i = absurd i
all_to p (y ∷ xs) x e i = let parts = and_parts _ _ e in elim i [ inl same ↦ ap p same ∙ parts.0 | inr j ↦ all_to p xs x parts.1 j ]

-- where each item passes, all do
pub all_from : {A : Type 0} (p : A → Bool) (xs : List A) → ((x : A) → IsIn x xs → p x ≡ true) → list_all p xs ≡ true
all_from p [] h = refl
all_from p (y ∷ xs) h = and_from _ _ (h y (inl refl)) (all_from p xs (λ x i. h x (inr i)))

-- list_any, both ways
pub any_to : {A : Type 0} (p : A → Bool) (xs : List A) → list_any p xs ≡ true → (x : A) × IsIn x xs × (p x ≡ true)
any_to p [] e = absurd (false≢true e)
any_to p (y ∷ xs) e = elim (or_cases _ _ e) [
  | inl h ↦ (y, inl refl, h)
  | inr h ↦ let rest = any_to p xs h in (rest.0, inr rest.1, rest.2)
]

-- where an item passes, some does
pub any_from : {A : Type 0} (p : A → Bool) (xs : List A) (x : A) → IsIn x xs → p x ≡ true → list_any p xs ≡ true
any_from p [] x i e = absurd i
any_from p (y ∷ xs) x i e = elim i [
  | inl same ↦ or_left (p y) (list_any p xs) (ap p (sym same) ∙ e)
  | inr j ↦ or_right (p y) (list_any p xs) (any_from p xs x j e)
]

-- the links inside are those with both ends in the tables
pub inside_to : (schema : Schema) (tables : List ℕ) (n : ℕ) → IsIn n (inside schema tables) → IsWithin schema tables n
inside_to schema tables n i =
    let test : has_ends_in tables (slice_get schema.links n) ≡ true = (in_filter (is_inside schema tables) (numbers (length schema.links)) n i).1 in
    elim (cases_option (slice_get schema.links n)) [
      | inl none ↦ absurd (false≢true (sym (ap (has_ends_in tables) none) ∙ test))
      | inr some ↦
          let parts = and_parts _ _ (sym (ap (has_ends_in tables) some.1) ∙ test) in
          (some.0, some.1, among_to (some.0).left.table tables parts.0, among_to (some.0).right.table tables parts.1)
    ]

-- a link within the tables is one of those inside
pub inside_from : (schema : Schema) (tables : List ℕ) (n : ℕ) → IsWithin schema tables n → IsIn n (inside schema tables)
inside_from schema tables n w = from_filter (is_inside schema tables) (numbers (length schema.links)) n
    (in_numbers (length schema.links) n (slice_get_within schema.links n w.0 w.1))
    (ap (has_ends_in tables) w.1 ∙ and_from _ _ (among_from (w.0).left.table tables w.2) (among_from (w.0).right.table tables w.3))

-- the test of a need is right, both ways
pub serves_to : (need : List (List ColId)) (tables : List ℕ) → serves need tables ≡ true → Serves need tables
serves_to need tables e = λ set i. let one = any_to (λ (c : ColId). is_among c.table tables) set (all_to (has_one tables) need set e i) in (one.0, one.1, among_to (one.0).table tables one.2)

-- tables that hold a column of each set pass the test
pub serves_from : (need : List (List ColId)) (tables : List ℕ) → Serves need tables → serves need tables ≡ true
serves_from need tables h = all_from (has_one tables) need (λ set i. let one = h set i in any_from (λ (c : ColId). is_among c.table tables) set one.0 one.1 (among_from (one.0).table tables one.2))

-- What grammars are made of: tokens, and lists of things that are counted.
use Rattle.std.specs.Prelude.{ℕ, ◌+◌, ◌-◌, List, [], ◌∷◌, ◌++◌, codes, None}
use Rattle.std.specs.List.{AllByRecursion}
use Rattle.mig_tokens.specs.declared.token.Token.TheVariants.{Word, Sign}
use Rattle.mig_tokens.specs.Limits.{name_mark}
use Rattle.mig_tokens.specs.Marked.{Marked}

-- ---- tokens

-- a reserved word that passes no limit
abbrev pub word : List ℕ → Marked
word w = (Word w, None)

-- a sign, which passes no limit
abbrev pub sign : List ℕ → Marked
sign s = (Sign s, None)

-- a name that is not counted
abbrev pub name : List ℕ → Marked
name v = (Word v, name_mark v)

-- ---- lists

-- what stands before a thing in a list: how many others, and the room that is left for what is counted over several lists
abbrev pub Before : Type 0
Before = ℕ × ℕ

-- where a list begins in which nothing is counted over several lists
abbrev pub start : Before
start = (0, 0)

-- before the next thing, where this one takes so much of the room
abbrev pub behind : ℕ → Before → Before
behind taken s = (s.0 + 1, s.1 - taken)

-- none of it
abbrev pub no_room : {A : Type 0} → A → ℕ
no_room x = 0

-- items one after the other
abbrev pub numbered : {A : Type 0} → (A → ℕ) → (Before → A → List Marked) → Before → List A → List Marked
numbered takes spell s [] = []
numbered takes spell s (x ∷ xs) = spell s x ++ numbered takes spell (behind (takes x) s) xs

-- an item behind a comma
abbrev pub behind_comma : {A : Type 0} → (Before → A → List Marked) → Before → A → List Marked
behind_comma spell s x = sign (codes ",") ∷ spell s x

-- a first item, and others
abbrev pub led : {A : Type 0} → (A → ℕ) → (Before → A → List Marked) → (Before → A → List Marked) → Before → List A → List Marked
led takes first other s [] = []
led takes first other s (x ∷ xs) = first s x ++ numbered takes other (behind (takes x) s) xs

-- item { "," item }, or nothing
abbrev pub listed : {A : Type 0} → (A → ℕ) → (Before → A → List Marked) → Before → List A → List Marked
listed takes spell s xs = led takes spell (behind_comma spell) s xs

-- one and more
abbrev pub AllOfSome : {A : Type 0} → (A → Type 0) → List A → Type 0
AllOfSome Fits [] = ⊥
AllOfSome Fits (x ∷ xs) = Fits x × AllByRecursion Fits xs

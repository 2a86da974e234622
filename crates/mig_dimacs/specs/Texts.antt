-- Which tokens spell which clauses, with weights or without, and the first line at which a text spells none.
use Rattle.std.specs.Prelude.{◌≡◌, ℕ, ◌+◌, ◌<◌, ◌^◌, Bool, true, false, not, ◌&&◌, ◌||◌, ◌==◌, nat_le, nat_lt, if◌then◌else◌, List, [], ◌∷◌, ◌++◌, length, map, take, Option, Some, None, is_some, slice_get}
use Rattle.std.specs.List.{list_all, flat_map, sum_by}
use Rattle.mig_dimacs.specs.declared.token.Number.{Number as Signed}
use Rattle.mig_dimacs.specs.declared.token.Token.{Token}
use Rattle.mig_dimacs.specs.declared.token.Token.TheVariants.{Problem, Plain, Weighted, Number, End}
use Rattle.mig_dimacs.specs.declared.token.Piece.{Piece}
use Rattle.mig_dimacs.specs.declared.text.Head.{Head}
use Rattle.mig_dimacs.specs.declared.text.Text.{Text}
use Rattle.mig_dimacs.specs.declared.fault.ReadError.{ReadError}
use Rattle.mig_dimacs.specs.declared.fault.ReadError.TheVariants as error

-- a number that is not negative
abbrev pub plain : ℕ → Token
plain n = Number (record { negative = false; size = n })

-- the header: p cnf VARIABLES CLAUSES, or p wcnf VARIABLES CLAUSES TOP
abbrev pub top_tokens : Option ℕ → ℕ → ℕ → List Token
top_tokens None v c = Problem ∷ Plain ∷ plain v ∷ plain c ∷ []
top_tokens (Some t) v c = Problem ∷ Weighted ∷ plain v ∷ plain c ∷ plain t ∷ []

-- the header of a text
abbrev pub head_tokens : Head → List Token
head_tokens h = top_tokens h.top h.vars h.count

-- a clause: its numbers, and a 0
abbrev pub clause_tokens : List Signed → List Token
clause_tokens c = map Number c ++ plain 0 ∷ []

-- the header, the clauses and the end
abbrev pub text_tokens : Text → List Token
text_tokens t = head_tokens t.head ++ (flat_map clause_tokens t.clauses ++ End ∷ [])

-- a literal of one of the variables, which count from 1
abbrev pub is_lit : ℕ → Signed → Bool
is_lit vars n = nat_lt 0 n.size && nat_le n.size vars

-- a weight from 1 to the top
abbrev pub is_weight : ℕ → Signed → Bool
is_weight top n = not n.negative && (nat_lt 0 n.size && nat_le n.size top)

-- Without weights a clause has literals. With weights its weight comes first; a clause that weighs less than the top is soft, and has one literal.
abbrev pub is_clause_of : Option ℕ → ℕ → List Signed → Bool
is_clause_of None vars c = list_all (is_lit vars) c
is_clause_of (Some top) vars [] = false
is_clause_of (Some top) vars (w ∷ ls) = is_weight top w && (list_all (is_lit vars) ls && ((w.size == top) || (length ls == 1)))

-- a clause under this header
abbrev pub is_clause : Head → List Signed → Bool
is_clause h c = is_clause_of h.top h.vars c

-- what a clause of this weight costs if it is soft; nothing if it is hard
abbrev pub soft_weight : Option ℕ → Signed → ℕ
soft_weight None w = 0
soft_weight (Some top) w = if w.size == top then 0 else w.size

-- what a clause costs if it is soft
abbrev pub clause_weight : Option ℕ → List Signed → ℕ
clause_weight top [] = 0
clause_weight top (w ∷ ls) = soft_weight top w

-- what the soft clauses cost together
abbrev pub soft_sum : Option ℕ → List (List Signed) → ℕ
soft_sum top cs = sum_by (clause_weight top) cs

-- the top is at least 1
abbrev pub is_top : Option ℕ → Bool
is_top None = true
is_top (Some t) = nat_lt 0 t

-- With a top exactly where clauses have weights. The variables are numbered by u32, the top is at least 1, there are as many
-- clauses as the header says, and the soft ones cost less than 2^62 together.
pub record IsWhole (weighted : Bool) (t : Text) : Type 0 where
  pub kind : is_some t.head.top ≡ weighted
  pub vars : t.head.vars < 2 ^ 32
  pub top : is_top t.head.top ≡ true
  pub count : length t.clauses ≡ t.head.count
  pub clauses : list_all (is_clause t.head) t.clauses ≡ true
  pub soft : soft_sum t.head.top t.clauses < 2 ^ 62

-- the tokens without their lines
abbrev pub tokens_of : List Piece → List Token
tokens_of ps = map (λ (p : Piece). p.token) ps

-- these tokens, with lines, are those of the text
pub record Spells (weighted : Bool) (pieces : List Piece) (t : Text) : Type 0 where
  pub whole : IsWhole weighted t
  pub tokens : tokens_of pieces ≡ text_tokens t

-- the tokens of some text begin with these
abbrev pub IsFront : Bool → List Token → Type 0
IsFront weighted tokens = (t : Text) × (more : List Token) × IsWhole weighted t × (text_tokens t ≡ tokens ++ more)

-- The line of the first refused token: some text begins with the tokens before it, and none with it as well.
pub record IsFirstRefused (weighted : Bool) (pieces : List Piece) (line : ℕ) : Type 0 where
  pub place : ℕ
  pub token : Token
  pub here : slice_get pieces place ≡ Some (record { line = line; token = token })
  pub before : IsFront weighted (tokens_of (take place pieces))
  pub refused : IsFront weighted (tokens_of (take (place + 1) pieces)) → ⊥

-- why a text was not read
abbrev pub IsRefusal : Bool → List Piece → ReadError → Type 0
IsRefusal weighted pieces error.Memory = Unit {0}
IsRefusal weighted pieces (error.Refused line) = IsFirstRefused weighted pieces line

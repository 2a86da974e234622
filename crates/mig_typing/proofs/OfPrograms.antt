-- A program breaks no rule exactly where it is typed.
use Rattle.std.proofs.Common.{◌≡◌, ℕ, ◌<◌, ◌≤◌, Bool, true, false, ◌&&◌, List, [], ◌∷◌, length, get_or, refl, sym, ap, ◌∙◌, ⊎_elim, arith}
use Rattle.std.specs.Prelude.{◌==◌, Some, None}
use Rattle.std.specs.List.{list_any, range_with_len, slice_get}
use Rattle.std.specs.Str.{bytes_eq}
use Rattle.std.proofs.lemmas.Bool.{and_left, both_ways, false_from_ne_true, cases_lt}
use Rattle.std.proofs.lemmas.Option.{slice_get_cases}
use Rattle.mig_schema.specs.declared.faults.ProgramRule.{ProgramRule}
use Rattle.mig_schema.specs.declared.faults.ProgramRule.TheVariants.{FunctionTwice, ParameterTwice, UnknownTable, UnknownColumn, JoinedTwice, OnShape, UnknownParameter, NotJoined, KindDiffers, OrderKind, InsertCover}
use Rattle.mig_schema.specs.declared.faults.TypeFault.{TypeFault}
use Rattle.mig_schema.specs.declared.faults.TypeFault.TheVariants as fault
use Rattle.mig_schema.specs.declared.tables.Schema.{Schema}
use Rattle.mig_schema.specs.declared.programs.Param.{Param}
use Rattle.mig_schema.specs.declared.programs.Function.{Function}
use Rattle.mig_schema.specs.declared.programs.Program.{Program}
use Rattle.mig_schema.specs.Typed.{Piece, IsTypedPiece, IsTypedFunction, IsTypedProgram, pieces_of, function_twice, parameter_twice}
use Rattle.mig_typing.specs.First.{Before, IsFirstBroken}
use Rattle.mig_typing.specs.Broken.{program_rank, numbers, item_has, parameters_meet, piece_broken, function_broken, program_broken, program_breaks}
use Rattle.mig_typing.proofs.Items.{left_of, item_at, each_item, items_clear}
use Rattle.mig_typing.proofs.Firsts.{none_in_range, some_in_range, again_past}

module _ (s : Schema) where
  piece_clear : (f : Function) (p : Piece) → IsTypedPiece s f p → (r : ProgramRule) → piece_broken s f r p ≡ false
  piece_clear f p typed FunctionTwice = refl
  piece_clear f p typed ParameterTwice = refl
  piece_clear f p typed UnknownTable = typed.tables
  piece_clear f p typed UnknownColumn = typed.columns
  piece_clear f p typed JoinedTwice = typed.once
  piece_clear f p typed OnShape = typed.shape
  piece_clear f p typed UnknownParameter = typed.params
  piece_clear f p typed NotJoined = typed.joined
  piece_clear f p typed KindDiffers = typed.kinds
  piece_clear f p typed OrderKind = typed.orders
  piece_clear f p typed InsertCover = typed.cover

  pieces_clear : (f : Function) → IsTypedFunction s f → (r : ProgramRule) (k : ℕ) → item_has (piece_broken s f r) (pieces_of f.body) k ≡ false
  pieces_clear f typed r k = items_clear (IsTypedPiece s f) (piece_broken s f r) (pieces_of f.body) (λ p is. piece_clear f p is r) typed.pieces k

  function_clear : (twice : Bool) (f : Function) → twice ≡ false → IsTypedFunction s f → (r : ProgramRule) (k : ℕ) → function_broken s twice f r k ≡ false
  function_clear twice f once typed FunctionTwice k = and_left twice (k == 0) once
  function_clear twice f once typed ParameterTwice k = and_left (parameters_meet f) (k == 0) (none_in_range (parameter_twice f) 0 (length f.params) typed.params)
  function_clear twice f once typed UnknownTable k = pieces_clear f typed UnknownTable k
  function_clear twice f once typed UnknownColumn k = pieces_clear f typed UnknownColumn k
  function_clear twice f once typed JoinedTwice k = pieces_clear f typed JoinedTwice k
  function_clear twice f once typed OnShape k = pieces_clear f typed OnShape k
  function_clear twice f once typed UnknownParameter k = pieces_clear f typed UnknownParameter k
  function_clear twice f once typed NotJoined k = pieces_clear f typed NotJoined k
  function_clear twice f once typed KindDiffers k = pieces_clear f typed KindDiffers k
  function_clear twice f once typed OrderKind k = pieces_clear f typed OrderKind k
  function_clear twice f once typed InsertCover k = pieces_clear f typed InsertCover k

  parameters_apart : (f : Function) → parameters_meet f ≡ false → (k : ℕ) → parameter_twice f k ≡ false
  parameters_apart f none k =
      ⊎_elim
      (λ (lt : k < length f.params). false_from_ne_true (parameter_twice f k) (λ is. both_ways (parameters_meet f) none (some_in_range (parameter_twice f) 0 (length f.params) k is (omega arith) (omega arith))))
      (λ (past : length f.params ≤ k). again_past (λ (a b : Param). bytes_eq a.name b.name) f.params k past)
      (cases_lt k (length f.params))

  piece_typed : (f : Function) (p : Piece) → ((r : ProgramRule) → piece_broken s f r p ≡ false) → IsTypedPiece s f p
  piece_typed f p none = record {
    tables = none UnknownTable;
    columns = none UnknownColumn;
    once = none JoinedTwice;
    shape = none OnShape;
    params = none UnknownParameter;
    joined = none NotJoined;
    kinds = none KindDiffers;
    orders = none OrderKind;
    cover = none InsertCover;
  }

  statement_none : (twice : Bool) (f : Function) → ((r : ProgramRule) (k : ℕ) → function_broken s twice f r k ≡ false) → (k : ℕ) (p : Piece) → slice_get (pieces_of f.body) k ≡ Some p → (r : ProgramRule) → piece_broken s f r p ≡ false
  statement_none twice f none k p e FunctionTwice = refl
  statement_none twice f none k p e ParameterTwice = refl
  statement_none twice f none k p e UnknownTable = sym (item_at (piece_broken s f UnknownTable) (pieces_of f.body) k p e) ∙ none UnknownTable k
  statement_none twice f none k p e UnknownColumn = sym (item_at (piece_broken s f UnknownColumn) (pieces_of f.body) k p e) ∙ none UnknownColumn k
  statement_none twice f none k p e JoinedTwice = sym (item_at (piece_broken s f JoinedTwice) (pieces_of f.body) k p e) ∙ none JoinedTwice k
  statement_none twice f none k p e OnShape = sym (item_at (piece_broken s f OnShape) (pieces_of f.body) k p e) ∙ none OnShape k
  statement_none twice f none k p e UnknownParameter = sym (item_at (piece_broken s f UnknownParameter) (pieces_of f.body) k p e) ∙ none UnknownParameter k
  statement_none twice f none k p e NotJoined = sym (item_at (piece_broken s f NotJoined) (pieces_of f.body) k p e) ∙ none NotJoined k
  statement_none twice f none k p e KindDiffers = sym (item_at (piece_broken s f KindDiffers) (pieces_of f.body) k p e) ∙ none KindDiffers k
  statement_none twice f none k p e OrderKind = sym (item_at (piece_broken s f OrderKind) (pieces_of f.body) k p e) ∙ none OrderKind k
  statement_none twice f none k p e InsertCover = sym (item_at (piece_broken s f InsertCover) (pieces_of f.body) k p e) ∙ none InsertCover k

  function_typed : (twice : Bool) (f : Function) → ((r : ProgramRule) (k : ℕ) → function_broken s twice f r k ≡ false) → IsTypedFunction s f
  function_typed twice f none = record {
    params = parameters_apart f (left_of (parameters_meet f) (none ParameterTwice 0));
    pieces = each_item (IsTypedPiece s f) (pieces_of f.body) (λ k p e. piece_typed f p (statement_none twice f none k p e));
  }

module _ (s : Schema) (prog : Program) where
  function_none : ((p : ProgramRule × ℕ × ℕ) → program_broken s prog p.0 p.1 p.2 ≡ false) → (i : ℕ) (f : Function) → slice_get prog.functions i ≡ Some f → (r : ProgramRule) (k : ℕ) → function_broken s (function_twice prog i) f r k ≡ false
  function_none none i f e r k = sym (item_at (λ f. function_broken s (function_twice prog i) f r k) prog.functions i f e) ∙ none (r, i, k)

  once_typed : ((p : ProgramRule × ℕ × ℕ) → program_broken s prog p.0 p.1 p.2 ≡ false) → (i : ℕ) → function_twice prog i ≡ false
  once_typed none i =
      ⊎_elim
      (λ (h : (f : Function) × (i < length prog.functions) × (slice_get prog.functions i ≡ Some f) × (get_or prog.functions i f ≡ f)). left_of (function_twice prog i) (function_none none i h.0 h.2 FunctionTwice 0))
      (λ (h : (length prog.functions ≤ i) × (slice_get prog.functions i ≡ None)). again_past (λ (f g : Function). bytes_eq f.name g.name) prog.functions i h.0)
      (slice_get_cases prog.functions i).1

  pub program_typed : ((p : ProgramRule × ℕ × ℕ) → program_broken s prog p.0 p.1 p.2 ≡ false) → IsTypedProgram s prog
  program_typed none = record { once = once_typed none; functions = each_item (IsTypedFunction s) prog.functions (λ i f e. function_typed s (function_twice prog i) f (function_none none i f e)) }

  program_clear : IsTypedProgram s prog → (r : ProgramRule) (i k : ℕ) → program_broken s prog r i k ≡ false
  program_clear typed r i k = items_clear (IsTypedFunction s) (λ f. function_broken s (function_twice prog i) f r k) prog.functions (λ f is. function_clear s (function_twice prog i) f (typed.once i) is r k) typed.functions i

  pub program_none : ((p : ProgramRule × ℕ × ℕ) → program_broken s prog p.0 p.1 p.2 ≡ false) → (f : TypeFault) → program_breaks s prog f ≡ false
  program_none none fault.Memory = refl
  program_none none (fault.Schema on r a b) = refl
  program_none none (fault.Program r i k) = none (r, i, k)
  program_none none (fault.Hint r k) = refl

  pub typed_none : IsTypedProgram s prog → (f : TypeFault) → program_breaks s prog f ≡ false
  typed_none typed f = program_none (λ p. program_clear typed p.0 p.1 p.2) f

  program_before : (p : ProgramRule × ℕ × ℕ) → IsFirstBroken (λ (p : ProgramRule × ℕ × ℕ). p.1 ∷ p.2 ∷ program_rank p.0 ∷ []) (λ p. program_broken s prog p.0 p.1 p.2) p
      → (f : TypeFault) → Before (numbers f) (numbers (fault.Program p.0 p.1 p.2)) → program_breaks s prog f ≡ false
  program_before p first fault.Memory lt = refl
  program_before p first (fault.Schema on r a b) lt = refl
  program_before p first (fault.Program r i k) lt = first.before (r, i, k) lt
  program_before p first (fault.Hint r k) lt = refl

  pub program_first : (p : ProgramRule × ℕ × ℕ) → IsFirstBroken (λ (p : ProgramRule × ℕ × ℕ). p.1 ∷ p.2 ∷ program_rank p.0 ∷ []) (λ p. program_broken s prog p.0 p.1 p.2) p
      → IsFirstBroken numbers (program_breaks s prog) (fault.Program p.0 p.1 p.2)
  program_first p first = record { here = first.here; before = program_before p first }

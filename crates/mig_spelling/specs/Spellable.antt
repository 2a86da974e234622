-- Programs and certificates that the grammar of answers spells: names are names, texts are texts, and what it has at least one of is there.
use Rattle.std.specs.Prelude.{◌≡◌, ℕ, ℤ, pos, negsuc, ◌^◌, nat_lt, Bool, true, false, not, ◌&&◌, ◌||◌, List, [], ◌∷◌}
use Rattle.std.specs.List.{list_all}
use Rattle.std.specs.Str.{is_utf8}
use Rattle.mig_schema.specs.declared.programs.Assign.{Assign}
use Rattle.mig_schema.specs.declared.programs.Scalar.{Scalar}
use Rattle.mig_schema.specs.declared.programs.Scalar.TheVariants as scalar
use Rattle.mig_schema.specs.declared.programs.Item.{Item}
use Rattle.mig_schema.specs.declared.programs.Item.TheVariants as item
use Rattle.mig_schema.specs.declared.programs.Cmp.{Cmp}
use Rattle.mig_schema.specs.declared.programs.Cond.{Cond}
use Rattle.mig_schema.specs.declared.programs.Stmt.{Stmt}
use Rattle.mig_schema.specs.declared.programs.Stmt.TheVariants.{Insert, Delete, Set}
use Rattle.mig_schema.specs.declared.programs.Body.{Body}
use Rattle.mig_schema.specs.declared.programs.Body.TheVariants as body
use Rattle.mig_schema.specs.declared.programs.Param.{Param}
use Rattle.mig_schema.specs.declared.programs.Function.{Function}
use Rattle.mig_schema.specs.declared.programs.Program.{Program}
use Rattle.mig_schema.specs.Plain.{is_no_where}
use Rattle.mig_tokens.specs.Bytes.{is_letter, is_name_byte, first_is}
use Rattle.mig_tokens.specs.Words.{is_reserved}
use Rattle.mig_grammar.specs.Shapes.{is_param_kind}
use Rattle.mig_meaning.specs.declared.relating.Invariant.{Invariant}
use Rattle.mig_meaning.specs.declared.relating.Invariant.TheVariants.{Views, Unique, Apart, Within}
use Rattle.mig_certificate.specs.declared.proofs.PairProof.{PairProof}
use Rattle.mig_certificate.specs.declared.proofs.Certificate.{Certificate}

-- whether a list has an item
abbrev pub has_items : {A : Type 0} → List A → Bool
has_items [] = false
has_items (x ∷ xs) = true

-- a letter or an underscore, and then letters, digits and underscores; no reserved word
abbrev pub is_name : List ℕ → Bool
is_name w = first_is is_letter w && (list_all is_name_byte w && not (is_reserved w))

-- an int is one of 64 bits
abbrev pub fits_i64 : ℤ → Bool
fits_i64 (pos n) = nat_lt n (2 ^ 63)
fits_i64 (negsuc n) = nat_lt n (2 ^ 63)

-- an int is in range, a text is UTF-8, and a label at most 15
abbrev pub scalar_spelled : Scalar → Bool
scalar_spelled (scalar.Param p) = true
scalar_spelled (scalar.Int i) = fits_i64 i
scalar_spelled (scalar.Text t) = is_utf8 t
scalar_spelled (scalar.Fresh n) = nat_lt n 16

abbrev pub item_spelled : Item → Bool
item_spelled (item.Col c) = true
item_spelled (item.Scalar x) = scalar_spelled x

-- there is no `where`, or there are cases, each with a comparison
abbrev pub cond_spelled : Cond → Bool
cond_spelled test =
    is_no_where test
    || (has_items test.cases && list_all (λ case. has_items case && list_all (λ (c : Cmp). item_spelled c.left && item_spelled c.right) case) test.cases)

-- an insert has a value, and a delete lists a table
abbrev pub stmt_spelled : Stmt → Bool
stmt_spelled (Insert join values) = has_items values && list_all (λ (a : Assign). scalar_spelled a.value) values
stmt_spelled (Delete tables join test) = has_items tables && cond_spelled test
stmt_spelled (Set column x join test) = scalar_spelled x && cond_spelled test

-- an update has a statement, and a query selects a column
abbrev pub body_spelled : Body → Bool
body_spelled (body.Update stmts) = has_items stmts && list_all stmt_spelled stmts
body_spelled (body.Query q) = has_items q.columns && cond_spelled q.cond

-- a parameter has a name, and a kind that parameters may have
abbrev pub param_spelled : Param → Bool
param_spelled p = is_name p.name && is_param_kind p.kind

abbrev pub function_spelled : Function → Bool
function_spelled f = is_name f.name && (list_all param_spelled f.params && body_spelled f.body)

-- a view has outputs on both sides
abbrev pub invariant_spelled : Invariant → Bool
invariant_spelled (Views source target) = has_items source.outs && has_items target.outs
invariant_spelled (Unique side column) = true
invariant_spelled (Apart side left right) = true
invariant_spelled (Within side left right) = true

-- the grammar spells the functions, the invariants and the names of the pairs
pub record IsSpellable (p : Program) (c : Certificate) : Type 0 where
  pub functions : list_all function_spelled p.functions ≡ true
  pub invariants : list_all invariant_spelled c.invariants.list ≡ true
  pub pairs : list_all (λ (x : PairProof). is_name x.name) c.pairs ≡ true

-- The laws of parameters, bodies and functions.
use Rattle.std.proofs.Common.{◌≡◌, ℕ, true, false, List, [], ◌∷◌, ◌++◌, Option, None, codes, ◌⊎◌, inl, inr, refl, sym, ap, ◌∙◌, subst}
use Rattle.std.specs.List.{AllByRecursion}
use Rattle.std.proofs.lemmas.List.{append-nil}
use Rattle.mig_schema.specs.declared.tables.Kind.{Kind}
use Rattle.mig_schema.specs.declared.programs.Param.{Param}
use Rattle.mig_tokens.specs.declared.token.Token.{Token}
use Rattle.mig_tokens.specs.declared.token.Token.TheVariants.{Word, Sign}
use Rattle.mig_schema.specs.declared.limits.Limit.TheVariants as limit
use Rattle.mig_tokens.specs.Marked.{Marked, bare, head as first, first_is}
use Rattle.mig_tokens.specs.Forms.{Before, start, no_room, name, sign, listed, led, numbered, AllOfSome}
use Rattle.mig_tokens.specs.Limits.{over, first_of, name_mark}
use Rattle.mig_tokens.specs.Words.{IsName}
use Rattle.mig_tokens.specs.Reading.{Read, token_at, give, bind_at}
use Rattle.mig_tokens.specs.Pieces.{reads_sign, reads_name, begins_sign, sign_at, name_at}
use Rattle.mig_grammar.specs.declared.tree.StmtTree.{StmtTree}
use Rattle.mig_grammar.specs.declared.tree.SelectTree.{SelectTree}
use Rattle.mig_grammar.specs.declared.tree.BodyTree.{BodyTree}
use Rattle.mig_grammar.specs.declared.tree.BodyTree.TheVariants as body
use Rattle.mig_grammar.specs.declared.tree.FunctionTree.{FunctionTree}
use Rattle.mig_grammar.specs.declared.functions.Head.{Head}
use Rattle.mig_grammar.specs.declared.functions.Head.TheVariants as head
use Rattle.mig_grammar.specs.Spelling.{kind_word, body_word, param_tokens, stmt_tokens, select_tokens, body_tokens, function_tokens}
use Rattle.mig_grammar.specs.Shapes.{is_param_kind, IsParam, IsStmt, IsSelect, IsBody, IsFunction}
use Rattle.mig_grammar.specs.ReadingFunctions.{param_at, params_at, update_body_at, query_body_at, body_at, function_at, functions_at}
use Rattle.mig_grammar.specs.ReadingTokens.{reads_param_kind, reads_head, begins_function, param_kind_at, head_at}
use Rattle.mig_tokens.proofs.Laws.{Any}
use Rattle.mig_tokens.proofs.Steps.{Part, refit, made, valued, fixed, whole, whole_known}
use Rattle.mig_tokens.proofs.ListParts.{many_part}
use Rattle.mig_tokens.proofs.CommaParts.{listed_part}
use Rattle.mig_tokens.proofs.Choice.{either, respell}
use Rattle.mig_tokens.proofs.TokenParts.{sign_reader, name_reader}
use Rattle.mig_tokens.proofs.Firsts.{NotAt, AtSign, other_sign}
use Rattle.mig_grammar.proofs.Readers.{param_kind_reader, head_reader, head_word}
use Rattle.mig_grammar.proofs.SelectParts.{select_part}
use Rattle.mig_grammar.proofs.StatementParts.{NoStmt, stmts_part}

-- ---- parameters

abbrev param_of : List ℕ → Kind → Param
param_of n k = record { name = n; kind = k }

param_part : (s : Before) → Part (param_at s) (param_tokens s) IsParam Any
unfolding param_at sign_at name_at param_kind_at
param_part s =
    let chain = valued (λ (p : Param). p.name) (λ p. Unit {0}) reads_name (λ v. Word v) IsName (λ v. first_of (over limit.Parameters 8 s.0) (name_mark v)) name_reader
    (λ n. fixed (λ (p : Param). (p.name ≡ n) × Unit {0}) (reads_sign (codes ":")) (Sign (codes ":")) None (sign_reader (codes ":"))
    (valued (λ (p : Param). p.kind) (λ p. (p.name ≡ n) × Unit {0}) reads_param_kind (λ d. Word (kind_word d)) (λ d. is_param_kind d ≡ true) (λ d. None) param_kind_reader
    (λ d. made (param_of n d) (λ (p : Param). (p.kind ≡ d) × ((p.name ≡ n) × Unit {0})) Any (refl, (refl, tt)) (λ p e. ap (λ x. param_of x p.kind) e.1.0 ∙ ap (λ x. param_of n x) e.0)))) in
    refit (param_at s) (param_tokens s) (λ p. Unit {0} × (IsName p.name × ((is_param_kind p.kind ≡ true) × Unit {0}))) IsParam Any
    (λ p h. record { name = h.1.0; kind = h.1.1.0 }) (λ p h. (tt, (h.name, (h.kind, tt)))) chain

-- a closing bracket is next
abbrev AtClose : Option Token → Type 0
AtClose = AtSign (codes ")")

abbrev listed_params : List Param → List Marked
listed_params = listed no_room param_tokens start

abbrev IsNone : List Param → Type 0
IsNone ps = (ps ≡ []) × Unit {0}

to_params : (ps : List Param) → IsNone ps ⊎ AllOfSome IsParam ps → AllByRecursion IsParam ps
to_params [] h = tt
to_params (p ∷ ps) (inl h) = absurd (let e : p ∷ ps ≡ [] = h.0 in cc)
to_params (p ∷ ps) (inr h) = h

from_params : (ps : List Param) → AllByRecursion IsParam ps → IsNone ps ⊎ AllOfSome IsParam ps
from_params [] h = inl (refl, tt)
from_params (p ∷ ps) h = inr h

closes : (ps : List Param) (rest : List Token) → IsNone ps → AtClose (first rest) → first_is (begins_sign (codes ")")) (bare (listed_params ps) ++ rest) ≡ true
closes ps rest h n = subst (λ (qs : List Param). first_is (begins_sign (codes ")")) (bare (listed_params qs) ++ rest) ≡ true) (sym h.0) n

no_close : (ps : List Param) (rest : List Token) → AllOfSome IsParam ps → AtClose (first rest) → first_is (begins_sign (codes ")")) (bare (listed_params ps) ++ rest) ≡ false
no_close [] rest h n = absurd h
no_close (p ∷ ps) rest h n = refl

params_part : Part params_at listed_params (AllByRecursion IsParam) AtClose
params_part = either (begins_sign (codes ")"))
    (respell listed_params (λ ps h. ap listed_params (sym h.0)) (made [] (λ ps. ps ≡ []) AtClose refl (λ ps e. e)))
    (listed_part param_at param_tokens IsParam Any param_part no_room AtClose (λ o h. tt) (λ o h. tt) (other_sign (codes ")") (codes ",") refl) start)
    to_params from_params closes no_close

-- ---- bodies

-- the sort of a function with this body
abbrev sort : BodyTree → Head
sort (body.Update stmts) = head.Update
sort (body.Query select) = head.Query

abbrev body_stmts : BodyTree → List StmtTree
body_stmts (body.Update stmts) = stmts
body_stmts (body.Query select) = []

abbrev body_select : BodyTree → SelectTree
body_select (body.Update stmts) = record { columns = []; rows = record { join = record { first = []; more = [] }; cases = [] } }
body_select (body.Query select) = select

abbrev led_stmts : List StmtTree → List Marked
led_stmts = led no_room stmt_tokens stmt_tokens start

update_is : (ss : List StmtTree) (y : BodyTree) → (body_stmts y ≡ ss) × (sort y ≡ head.Update) → y ≡ body.Update ss
update_is ss (body.Update stmts) e = ap body.Update e.0
update_is ss (body.Query select) e = absurd cc

query_is : (s : SelectTree) (y : BodyTree) → (body_select y ≡ s) × (sort y ≡ head.Query) → y ≡ body.Query s
query_is s (body.Update stmts) e = absurd cc
query_is s (body.Query select) e = ap body.Query e.0

abbrev IsUpdate : BodyTree → Type 0
IsUpdate y = (sort y ≡ head.Update) × (AllOfSome IsStmt (body_stmts y) × Unit {0})

abbrev IsQuery : BodyTree → Type 0
IsQuery y = (sort y ≡ head.Query) × (IsSelect (body_select y) × Unit {0})

update_spelt : (y : BodyTree) → IsUpdate y → led_stmts (body_stmts y) ++ [] ≡ body_tokens y
update_spelt (body.Update stmts) h = append-nil (led_stmts stmts)
update_spelt (body.Query select) h = absurd cc

query_spelt : (y : BodyTree) → IsQuery y → select_tokens (body_select y) ++ [] ≡ body_tokens y
query_spelt (body.Update stmts) h = absurd cc
query_spelt (body.Query select) h = append-nil (select_tokens select)

to_update : (y : BodyTree) → IsUpdate y → (sort y ≡ head.Update) × IsBody y
to_update (body.Update stmts) h = (h.0, h.1.0)
to_update (body.Query select) h = absurd cc

from_update : (y : BodyTree) → (sort y ≡ head.Update) × IsBody y → IsUpdate y
from_update (body.Update stmts) h = (h.0, (h.1, tt))
from_update (body.Query select) h = absurd cc

to_query : (y : BodyTree) → IsQuery y → (sort y ≡ head.Query) × IsBody y
to_query (body.Update stmts) h = absurd cc
to_query (body.Query select) h = (h.0, h.1.0)

from_query : (y : BodyTree) → (sort y ≡ head.Query) × IsBody y → IsQuery y
from_query (body.Update stmts) h = absurd cc
from_query (body.Query select) h = (h.0, (h.1, tt))

update_part : Part update_body_at body_tokens (λ y. (sort y ≡ head.Update) × IsBody y) NoStmt
unfolding update_body_at
update_part =
    let chain = whole body_stmts (λ y. sort y ≡ head.Update) stmts_part
    (λ ss. made (body.Update ss) (λ y. (body_stmts y ≡ ss) × (sort y ≡ head.Update)) NoStmt (refl, refl) (update_is ss))
    (λ y rest g n. n) in
    refit update_body_at body_tokens IsUpdate (λ y. (sort y ≡ head.Update) × IsBody y) NoStmt to_update from_update (respell body_tokens update_spelt chain)

query_part : Part query_body_at body_tokens (λ y. (sort y ≡ head.Query) × IsBody y) NoStmt
unfolding query_body_at
query_part =
    let chain = whole body_select (λ y. sort y ≡ head.Query) select_part
    (λ s. made (body.Query s) (λ y. (body_select y ≡ s) × (sort y ≡ head.Query)) NoStmt (refl, refl) (query_is s))
    (λ y rest g n. tt) in
    refit query_body_at body_tokens IsQuery (λ y. (sort y ≡ head.Query) × IsBody y) NoStmt to_query from_query (respell body_tokens query_spelt chain)

body_part : (h : Head) → Part (body_at h) body_tokens (λ y. (sort y ≡ h) × IsBody y) NoStmt
body_part head.Update = update_part
body_part head.Query = query_part

-- ---- functions

abbrev function_of : List ℕ → List Param → BodyTree → FunctionTree
function_of n ps y = record { name = n; params = ps; body = y }

-- what is known behind the parameters
abbrev Known : Head → List ℕ → List Param → FunctionTree → Type 0
Known h n ps f = (f.params ≡ ps) × ((f.name ≡ n) × ((sort f.body ≡ h) × Unit {0}))

function_is : (h : Head) (n : List ℕ) (ps : List Param) (y : BodyTree) (f : FunctionTree) → (f.body ≡ y) × Known h n ps f → f ≡ function_of n ps y
function_is h n ps y f e = ap (λ x. function_of x f.params f.body) e.1.1.0 ∙ ap (λ x. function_of n x f.body) e.1.0 ∙ ap (λ x. function_of n ps x) e.0

-- what stands behind the opening brace; the first word says the sort of the body
abbrev rest_at : Head → List ℕ → List Param → List Token → Read FunctionTree
rest_at h n ps = bind_at (body_at h) (λ y. bind_at (token_at (reads_sign (codes "}")) (λ u. None)) (λ u. give (function_of n ps y)))

abbrev rest_tokens : FunctionTree → List Marked
rest_tokens f = body_tokens f.body ++ sign (codes "}") ∷ []

rest_part : (h : Head) (n : List ℕ) (ps : List Param) → Part (rest_at h n ps) rest_tokens (λ f. Known h n ps f × (IsBody f.body × Unit {0})) Any
rest_part h n ps =
    let chain = whole_known (λ (f : FunctionTree). f.body) (Known h n ps) (body_part h)
    (λ y known. fixed (λ (f : FunctionTree). (f.body ≡ y) × Known h n ps f) (reads_sign (codes "}")) (Sign (codes "}")) None (sign_reader (codes "}"))
    (made (function_of n ps y) (λ (f : FunctionTree). (f.body ≡ y) × Known h n ps f) Any (refl, (refl, (refl, (known.0, tt)))) (function_is h n ps y)))
    (λ f rest g k. refl) in
    refit (rest_at h n ps) rest_tokens (λ f. Known h n ps f × (((sort f.body ≡ h) × IsBody f.body) × Unit {0})) (λ f. Known h n ps f × (IsBody f.body × Unit {0})) Any
    (λ f k. (k.0, (k.1.0.1, tt))) (λ f k. (k.0, ((k.0.1.1.0, k.1.0), tt))) chain

-- the chain spells the first word by the sort of the body
abbrev headed_tokens : Before → FunctionTree → List Marked
headed_tokens s f = (Word (head_word (sort f.body)), over limit.Functions 32 s.0) ∷ name f.name ∷ sign (codes "(") ∷ (listed_params f.params ++ sign (codes ")") ∷ sign (codes "{") ∷ rest_tokens f)

head_spelt : (y : BodyTree) → head_word (sort y) ≡ body_word y
head_spelt (body.Update stmts) = refl
head_spelt (body.Query select) = refl

abbrev IsHeaded : FunctionTree → Type 0
IsHeaded f = Unit {0} × (Unit {0} × (IsName f.name × (AllByRecursion IsParam f.params × (IsBody f.body × Unit {0}))))

function_part : (s : Before) → Part (function_at s) (function_tokens s) IsFunction Any
unfolding function_at sign_at name_at head_at
function_part s =
    let chain = valued (λ (f : FunctionTree). sort f.body) (λ f. Unit {0}) reads_head (λ h. Word (head_word h)) (λ h. Unit {0}) (λ h. over limit.Functions 32 s.0) head_reader
    (λ h. valued (λ (f : FunctionTree). f.name) (λ f. (sort f.body ≡ h) × Unit {0}) reads_name (λ v. Word v) IsName (λ v. first_of None (name_mark v)) name_reader
    (λ n. fixed (λ (f : FunctionTree). (f.name ≡ n) × ((sort f.body ≡ h) × Unit {0})) (reads_sign (codes "(")) (Sign (codes "(")) None (sign_reader (codes "("))
    (whole (λ (f : FunctionTree). f.params) (λ f. (f.name ≡ n) × ((sort f.body ≡ h) × Unit {0})) params_part
    (λ ps. fixed (Known h n ps) (reads_sign (codes ")")) (Sign (codes ")")) None (sign_reader (codes ")"))
    (fixed (Known h n ps) (reads_sign (codes "{")) (Sign (codes "{")) None (sign_reader (codes "{")) (rest_part h n ps)))
    (λ f rest g o. refl)))) in
    respell (function_tokens s) (λ f h. ap (λ w. (Word w, over limit.Functions 32 s.0) ∷ name f.name ∷ sign (codes "(") ∷ (listed_params f.params ++ sign (codes ")") ∷ sign (codes "{") ∷ rest_tokens f)) (head_spelt f.body))
    (refit (function_at s) (headed_tokens s) IsHeaded IsFunction Any
    (λ f h. record { name = h.1.1.0; params = h.1.1.1.0; body = h.1.1.1.1.0 }) (λ f h. (tt, (tt, (h.name, (h.params, (h.body, tt)))))) chain)

function_word : (y : BodyTree) → begins_function (Word (body_word y)) ≡ true
function_word (body.Update stmts) = refl
function_word (body.Query select) = refl

pub functions_part : Part functions_at (numbered no_room function_tokens start) (AllByRecursion IsFunction) (NotAt begins_function)
functions_part = many_part begins_function no_room function_at function_tokens IsFunction Any (NotAt begins_function) function_part (λ s f rest h. function_word f.body) (λ o h. tt) (λ o h. tt) (λ o h. h) start

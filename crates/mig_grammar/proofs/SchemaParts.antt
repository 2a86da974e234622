-- The laws of columns, tables, links and schemas.
use Rattle.std.proofs.Common.{◌≡◌, ℕ, List, [], ◌++◌, Option, None, codes, refl, sym, ap, ◌∙◌, subst}
use Rattle.std.specs.List.{AllByRecursion}
use Rattle.std.proofs.lemmas.List.{append-nil}
use Rattle.mig_schema.specs.declared.tables.Kind.{Kind}
use Rattle.mig_schema.specs.declared.tables.Column.{Column}
use Rattle.mig_schema.specs.declared.tables.Table.{Table}
use Rattle.mig_tokens.specs.declared.token.Token.{Token}
use Rattle.mig_tokens.specs.declared.token.Token.TheVariants.{Word, Sign}
use Rattle.mig_schema.specs.declared.limits.Limit.{Limit}
use Rattle.mig_schema.specs.declared.limits.Limit.TheVariants as limit
use Rattle.mig_tokens.specs.Marked.{Marked, bare, head}
use Rattle.mig_tokens.specs.Forms.{Before, start, no_room, listed, numbered, AllOfSome}
use Rattle.mig_tokens.specs.Limits.{over, first_of, name_mark}
use Rattle.mig_tokens.specs.Words.{IsName}
use Rattle.mig_tokens.specs.Reading.{many_at}
use Rattle.mig_tokens.specs.Pieces.{reads_word, reads_sign, reads_name, begins_word, begins_sign, next, word_at, sign_at, name_at, listed_at}
use Rattle.mig_grammar.specs.declared.tree.ColName.{ColName}
use Rattle.mig_grammar.specs.declared.tree.LinkTree.{LinkTree}
use Rattle.mig_grammar.specs.declared.tree.SchemaTree.{SchemaTree}
use Rattle.mig_grammar.specs.Spelling.{key_of, keys_of, kind_word, kind_mark, column_tokens, table_tokens, col_marked, link_tokens, schema_tokens}
use Rattle.mig_grammar.specs.Shapes.{IsColumn, IsTable, IsCol, IsLink, IsSchema}
use Rattle.mig_grammar.specs.ReadingSchemas.{column_at, table_at, col_at, link_at, schema_at}
use Rattle.mig_grammar.specs.ReadingTokens.{reads_kind, kind_at}
use Rattle.mig_tokens.proofs.Laws.{Any}
use Rattle.mig_tokens.proofs.Steps.{Part, refit, made, valued, fixed, whole}
use Rattle.mig_tokens.proofs.ListParts.{many_part, many_fence}
use Rattle.mig_tokens.proofs.CommaParts.{listed_part}
use Rattle.mig_tokens.proofs.Choice.{respell}
use Rattle.mig_tokens.proofs.TokenParts.{word_reader, sign_reader, name_reader}
use Rattle.mig_tokens.proofs.Firsts.{NotAt, other_word}
use Rattle.mig_grammar.proofs.Readers.{kind_reader}

-- ---- tables

abbrev column_of : List ℕ → Kind → Column
column_of n k = record { name = n; kind = k }

column_part : (s : Before) → Part (column_at s) (column_tokens s) IsColumn Any
unfolding column_at sign_at name_at kind_at
column_part s =
    let chain = valued (λ (c : Column). c.name) (λ c. Unit {0}) reads_name (λ v. Word v) IsName (λ v. first_of (over limit.Columns 12 s.0) (name_mark v)) name_reader
    (λ n. fixed (λ (c : Column). (c.name ≡ n) × Unit {0}) (reads_sign (codes ":")) (Sign (codes ":")) None (sign_reader (codes ":"))
    (valued (λ (c : Column). c.kind) (λ c. (c.name ≡ n) × Unit {0}) reads_kind (λ d. Word (kind_word d)) (λ d. Unit {0}) (kind_mark s.1) kind_reader
    (λ d. made (column_of n d) (λ (c : Column). (c.kind ≡ d) × ((c.name ≡ n) × Unit {0})) Any (refl, (refl, tt)) (λ c e. ap (λ x. column_of x c.kind) e.1.0 ∙ ap (λ x. column_of n x) e.0)))) in
    refit (column_at s) (column_tokens s) (λ c. Unit {0} × (IsName c.name × (Unit {0} × Unit {0}))) IsColumn Any (λ c h. h.1.0) (λ c h. (tt, (h, (tt, tt)))) chain

columns_part : (s : Before) → Part (listed_at key_of column_at s) (listed key_of column_tokens s) (AllOfSome IsColumn) (NotAt (begins_sign (codes ",")))
columns_part = listed_part column_at column_tokens IsColumn Any column_part key_of (NotAt (begins_sign (codes ","))) (λ o h. tt) (λ o h. tt) (λ o h. h)

abbrev table_of : List ℕ → List Column → Table
table_of n cs = record { name = n; columns = cs }

table_part : (s : Before) → Part (table_at s) (table_tokens s) IsTable Any
unfolding table_at word_at sign_at name_at
table_part s =
    let chain = fixed (λ (t : Table). Unit {0}) (reads_word (codes "table")) (Word (codes "table")) (over limit.Tables 16 s.0) (word_reader (codes "table"))
    (valued (λ (t : Table). t.name) (λ t. Unit {0}) reads_name (λ v. Word v) IsName (λ v. first_of None (name_mark v)) name_reader
    (λ n. fixed (λ (t : Table). (t.name ≡ n) × Unit {0}) (reads_sign (codes "{")) (Sign (codes "{")) None (sign_reader (codes "{"))
    (whole (λ (t : Table). t.columns) (λ t. (t.name ≡ n) × Unit {0}) (columns_part (0, s.1))
    (λ cs. fixed (λ (t : Table). (t.columns ≡ cs) × ((t.name ≡ n) × Unit {0})) (reads_sign (codes "}")) (Sign (codes "}")) None (sign_reader (codes "}"))
    (made (table_of n cs) (λ (t : Table). (t.columns ≡ cs) × ((t.name ≡ n) × Unit {0})) Any (refl, (refl, tt)) (λ t e. ap (λ x. table_of x t.columns) e.1.0 ∙ ap (λ x. table_of n x) e.0)))
    (λ t rest g n. refl)))) in
    refit (table_at s) (table_tokens s) (λ t. Unit {0} × (IsName t.name × (AllOfSome IsColumn t.columns × Unit {0}))) IsTable Any
    (λ t h. record { name = h.1.0; columns = h.1.1.0 }) (λ t h. (tt, (h.name, (h.columns, tt)))) chain

-- ---- columns by their names, and links

abbrev col_of : List ℕ → List ℕ → ColName
col_of t c = record { table = t; column = c }

pub col_part : (mark : Option Limit) → Part (col_at mark) (col_marked mark) IsCol Any
unfolding col_at sign_at name_at
col_part mark =
    let chain = valued (λ (c : ColName). c.table) (λ c. Unit {0}) reads_name (λ v. Word v) IsName (λ v. first_of mark (name_mark v)) name_reader
    (λ t. fixed (λ (c : ColName). (c.table ≡ t) × Unit {0}) (reads_sign (codes ".")) (Sign (codes ".")) None (sign_reader (codes "."))
    (valued (λ (c : ColName). c.column) (λ c. (c.table ≡ t) × Unit {0}) reads_name (λ v. Word v) IsName (λ v. first_of None (name_mark v)) name_reader
    (λ n. made (col_of t n) (λ (c : ColName). (c.column ≡ n) × ((c.table ≡ t) × Unit {0})) Any (refl, (refl, tt)) (λ c e. ap (λ x. col_of x c.column) e.1.0 ∙ ap (λ x. col_of t x) e.0)))) in
    refit (col_at mark) (col_marked mark) (λ c. Unit {0} × (IsName c.table × (IsName c.column × Unit {0}))) IsCol Any
    (λ c h. record { table = h.1.0; column = h.1.1.0 }) (λ c h. (tt, (h.table, (h.column, tt)))) chain

abbrev link_of : ColName → ColName → LinkTree
link_of a b = record { left = a; right = b }

link_part : (s : Before) → Part (link_at s) (link_tokens s) IsLink Any
unfolding link_at word_at sign_at
link_part s =
    let chain = fixed (λ (l : LinkTree). Unit {0}) (reads_word (codes "link")) (Word (codes "link")) (over limit.Links 32 s.0) (word_reader (codes "link"))
    (whole (λ (l : LinkTree). l.left) (λ l. Unit {0}) (col_part None)
    (λ a. fixed (λ (l : LinkTree). (l.left ≡ a) × Unit {0}) (reads_sign (codes "=")) (Sign (codes "=")) None (sign_reader (codes "="))
    (whole (λ (l : LinkTree). l.right) (λ l. (l.left ≡ a) × Unit {0}) (col_part None)
    (λ b. fixed (λ (l : LinkTree). (l.right ≡ b) × ((l.left ≡ a) × Unit {0})) (reads_sign (codes ";")) (Sign (codes ";")) None (sign_reader (codes ";"))
    (made (link_of a b) (λ (l : LinkTree). (l.right ≡ b) × ((l.left ≡ a) × Unit {0})) Any (refl, (refl, tt)) (λ l e. ap (λ x. link_of x l.right) e.1.0 ∙ ap (λ x. link_of a x) e.0)))
    (λ l rest g n. tt)))
    (λ l rest g n. tt)) in
    refit (link_at s) (link_tokens s) (λ l. Unit {0} × (IsCol l.left × (IsCol l.right × Unit {0}))) IsLink Any
    (λ l h. record { left = h.1.0; right = h.1.1.0 }) (λ l h. (tt, (h.left, (h.right, tt)))) chain

-- ---- schemas

abbrev NoTable : Option Token → Type 0
NoTable = NotAt (begins_word (codes "table"))

-- neither a table nor a link is next
abbrev pub SchemaEnd : Option Token → Type 0
SchemaEnd o = NoTable o × NotAt (begins_word (codes "link")) o

tables_part : Part (many_at (begins_word (codes "table")) table_at (next keys_of) (0, 24)) (numbered keys_of table_tokens (0, 24)) (AllByRecursion IsTable) NoTable
tables_part = many_part (begins_word (codes "table")) keys_of table_at table_tokens IsTable Any NoTable table_part (λ s t rest h. refl) (λ o h. tt) (λ o h. tt) (λ o h. h) (0, 24)

links_part : Part (many_at (begins_word (codes "link")) link_at (next no_room) start) (numbered no_room link_tokens start) (AllByRecursion IsLink) SchemaEnd
links_part = many_part (begins_word (codes "link")) no_room link_at link_tokens IsLink Any SchemaEnd link_part (λ s l rest h. refl) (λ o h. tt) (λ o h. tt) (λ o h. h.1) start

-- behind the tables stands a link, or what follows the schema
no_table : (s : SchemaTree) (rest : List Token) → AllByRecursion IsLink s.links × Unit {0} → SchemaEnd (head rest) → NoTable (head (bare (numbered no_room link_tokens start s.links ++ []) ++ rest))
no_table s rest f e =
    subst (λ (m : List Marked). NoTable (head (bare m ++ rest))) (sym (append-nil (numbered no_room link_tokens start s.links)))
    (many_fence (begins_word (codes "link")) no_room link_at link_tokens IsLink NoTable SchemaEnd (λ k l r h. refl) (other_word (codes "link") (codes "table") refl) (λ o h. h.0) start s.links rest f.0 e)

abbrev schema_of : List Table → List LinkTree → SchemaTree
schema_of ts ls = record { tables = ts; links = ls }

abbrev chained_schema : SchemaTree → List Marked
chained_schema s = numbered keys_of table_tokens (0, 24) s.tables ++ (numbered no_room link_tokens start s.links ++ [])

pub schema_part : Part schema_at schema_tokens IsSchema SchemaEnd
unfolding schema_at
schema_part =
    let chain = whole (λ (s : SchemaTree). s.tables) (λ s. Unit {0}) tables_part
    (λ ts. whole (λ (s : SchemaTree). s.links) (λ s. (s.tables ≡ ts) × Unit {0}) links_part
    (λ ls. made (schema_of ts ls) (λ (s : SchemaTree). (s.links ≡ ls) × ((s.tables ≡ ts) × Unit {0})) SchemaEnd (refl, (refl, tt)) (λ s e. ap (λ x. schema_of x s.links) e.1.0 ∙ ap (λ x. schema_of ts x) e.0))
    (λ s rest g n. n))
    no_table in
    respell schema_tokens (λ s h. ap (λ m. numbered keys_of table_tokens (0, 24) s.tables ++ m) (append-nil (numbered no_room link_tokens start s.links)))
    (refit schema_at chained_schema (λ s. Unit {0} × (AllByRecursion IsTable s.tables × (AllByRecursion IsLink s.links × Unit {0}))) IsSchema SchemaEnd
    (λ s h. record { tables = h.1.0; links = h.1.1.0 }) (λ s h. (tt, (h.tables, (h.links, tt)))) chain)

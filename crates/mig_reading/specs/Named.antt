-- From names to numbers: the certificate that a tree of names says over a job.
use Rattle.std.specs.Prelude.{List, map}
use Rattle.mig_schema.specs.declared.faults.Side.{Side}
use Rattle.mig_schema.specs.declared.jobs.Job.{Job}
use Rattle.mig_schema.specs.declared.tables.ColId.{ColId}
use Rattle.mig_schema.specs.declared.tables.Table.{Table}
use Rattle.mig_grammar.specs.declared.tree.ColName.{ColName}
use Rattle.mig_syntax.specs.Naming.{col_of, join_of}
use Rattle.mig_meaning.specs.declared.relating.View.{View}
use Rattle.mig_meaning.specs.declared.relating.Invariant.{Invariant}
use Rattle.mig_meaning.specs.declared.relating.Invariant.TheVariants as invariant
use Rattle.mig_answer.specs.AnswerText.{schema_of}
use Rattle.mig_certificate.specs.declared.proofs.Certificate.{Certificate}
use Rattle.mig_reading.specs.declared.tree.ViewTree.{ViewTree}
use Rattle.mig_reading.specs.declared.tree.Relation.{Relation}
use Rattle.mig_reading.specs.declared.tree.Relation.TheVariants.{Apart, Within}
use Rattle.mig_reading.specs.declared.tree.FactTree.{FactTree}
use Rattle.mig_reading.specs.declared.tree.FactTree.TheVariants.{Views, Unique, Columns}
use Rattle.mig_reading.specs.declared.tree.CertificateTree.{CertificateTree}

-- a view over these tables
abbrev pub view_of : List Table → ViewTree → View
view_of tables v = record { join = join_of tables v.join; outs = map (col_of tables) v.outs }

-- a relation of two columns
abbrev pub related : Relation → Side → (left right : ColId) → Invariant
related Apart side left right = invariant.Apart side left right
related Within side left right = invariant.Within side left right

-- the column of a side that has this name
abbrev pub column_of : Job → Side → ColName → ColId
column_of j side c = col_of (schema_of j side).tables c

-- an invariant
abbrev pub invariant_of : Job → FactTree → Invariant
invariant_of j (Views source target) = invariant.Views (view_of j.source.tables source) (view_of j.target.tables target)
invariant_of j (Unique side column) = invariant.Unique side (column_of j side column)
invariant_of j (Columns relation side left right) = related relation side (column_of j side left) (column_of j side right)

-- a certificate; a name that its schema doesn't have is read as 4294967295
abbrev pub certificate_of : Job → CertificateTree → Certificate
certificate_of j c = record { invariants = record { list = map (invariant_of j) c.invariants }; pairs = c.pairs }

-- The pieces of an update are those of its statements.
use Rattle.std.proofs.Common.{arith}
use Rattle.std.proofs.lemmas.Grind.{common_steps}
use Rattle.mig_schema.specs.Typed.{piece_of}
use Rattle.mig_schema.proofs.Anys.{any-map}
use Rattle.mig_corresp.specs.Used.{is_used_by}
use Rattle.mig_corresp.proofs.using.body_uses.Goals as goal

pub returns-in-Update : goal.returns-in-Update
returns-in-Update c = grind (arith, common_steps, any-map (is_used_by c.args.column) piece_of c.in-Update.stmts)

use Rattle.std.proofs.Common.{refl, sym}
use Rattle.mig_schema.specs.declared.values.Value.{Value}
use Rattle.mig_storage.proofs.Numbered.{changed-set}
use Rattle.mig_storage.proofs.values.with_value.Goals as goal

pub returns : goal.returns
returns c =
    rw (c.from_vec.ensures, c.put_value.ensures, c.into_vec-values.ensures, c.in_ok-twin.ensures)
    (sym (changed-set (λ (x : Value). c.args.value) c.args.column c.args.row.now.values c.args.value c.args.value refl))

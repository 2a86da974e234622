use Rattle.std.proofs.Common.{◌≡◌, ◌∷◌, [], ◌+◌, ap, sym, ◌∙◌, rules}
use Rattle.std.specs.Fmt.{decimal}
use Rattle.std.proofs.lemmas.Result.{IfOk-weaker}
use Rattle.mig_schema.specs.declared.tables.Kind.TheVariants as kind
use Rattle.mig_schema.specs.declared.values.Value.TheVariants as value
use Rattle.mig_failing.specs.Tests.{argument}
use Rattle.mig_failing.proofs.Made.{one_digit}
use Rattle.mig_failing.proofs.variants.text_of.Goals as goal

pub returns-in_default : goal.returns-in_default
returns-in_default c =
    let two : argument c.args.variant c.args.no_int c.args.position kind.Text ≡ value.Text (116 ∷ decimal c.args.position) = search rules in
    IfOk-weaker c.from_slice-in_default.result (λ s. s ≡ 116 ∷ ((48 + c.args.position) ∷ [])) (λ t. argument c.args.variant c.args.no_int c.args.position kind.Text ≡ value.Text t)
    (λ t h. two ∙ ap value.Text (ap (λ ds. 116 ∷ ds) (one_digit c.args.position c.requires) ∙ sym h)) c.from_slice-in_default.ensures

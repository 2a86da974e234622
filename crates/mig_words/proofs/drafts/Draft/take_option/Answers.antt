use Rattle.std.proofs.Common.{refl, sym, ◌∙◌}
use Rattle.mig_words.specs.Drafts as spec
use Rattle.mig_words.proofs.drafts.Draft.take_option.Goals as goal

pub returns-in-Some-clause-refused : goal.returns-in-Some-clause-refused
returns-in-Some-clause-refused c = spec.twice c.args.setting c.in-Some.field-0 c.requires.free c.requires.named (sym c.given.ensures ∙ c.in-Some.is) refl

pub returns-in-None-clause-taken : goal.returns-in-None-clause-taken
returns-in-None-clause-taken c = spec.as_option c.args.setting c.requires.free c.requires.named (sym c.given.ensures ∙ c.in-None.is) refl

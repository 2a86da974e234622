use Rattle.std.proofs.Common.{ℕ, ap, ◌∙◌, refl}
use Rattle.mig_words.specs.Drafts as spec
use Rattle.mig_words.specs.Words.{number_of}
use Rattle.mig_words.specs.Settings.{takes}
use Rattle.mig_words.proofs.Ranking.{chosen, unchosen}
use Rattle.mig_words.proofs.drafts.Draft.take_number.Goals as goal

pub returns-in-Some-clause-taken : goal.returns-in-Some-clause-taken
returns-in-Some-clause-taken c =
    let k = chosen (takes c.args.setting c.args.word.now) c.in-Some.number (number_of c.args.word.now) c.in-Some.ensures in
    spec.as_number c.args.setting c.requires k.0 (c.give.ensures ∙ ap (λ (n : ℕ). spec.with_number c.args.setting n c.args.self.now) k.1)

pub returns-in-None-clause-refused : goal.returns-in-None-clause-refused
returns-in-None-clause-refused c = spec.no_number c.args.setting c.requires (unchosen (takes c.args.setting c.args.word.now) (number_of c.args.word.now) c.in-None.ensures) refl

use Rattle.std.proofs.Common.{ℕ, List, ◌++◌, codes, ap, ◌∙◌, append_assoc}
use Rattle.mig_messages.specs.Lines.{place}
use Rattle.mig_messages.proofs.lines.not_expected.Goals as goal

pub returns : goal.returns
returns c =
    let name = c.in_ok-out.ensures ∙ c.as_slice.ensures in
    c.in_ok-put.ensures
    ∙ ap (λ (t : List ℕ). t ++ codes ": not expected\n") (c.in_ok-put_place-2.ensures ∙ ap (λ (t : List ℕ). t ++ place c.args.column) (c.in_ok-put_place.ensures ∙ ap (λ (t : List ℕ). t ++ place c.args.line) name))
    ∙ append_assoc (c.args.file.now ++ place c.args.line) (place c.args.column) (codes ": not expected\n")
    ∙ append_assoc c.args.file.now (place c.args.line) (place c.args.column ++ codes ": not expected\n")

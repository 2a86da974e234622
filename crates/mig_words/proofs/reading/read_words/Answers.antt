use Rattle.std.proofs.Common.{◌≡◌, ◌⊎◌, ℕ, List, IfOk, IfErr, subst}
use Rattle.mig_words.specs.declared.command.WordFault.TheVariants.{Memory}
use Rattle.mig_words.specs.Commands.{IsCommand}
use Rattle.mig_words.specs.Faults.{IsFault}
use Rattle.mig_words.proofs.Fixed.{first-named}
use Rattle.mig_words.proofs.Single.{only-found, only-fault}
use Rattle.mig_words.proofs.reading.read_words.Goals as goal

pub returns-in-len1-up-clause-only : goal.returns-in-len1-up-clause-only
returns-in-len1-up-clause-only c =
    let all = first-named c.name-item.result c.args.words.now c.in-len1-up.len_at_least c.name-item.is in
    only-found c.args.words.now c.read_named.result (subst (λ (ws : List (List ℕ)). IfOk c.read_named.result (IsCommand ws)) all c.read_named.ensures.found)
    (subst (λ (ws : List (List ℕ)). IfErr c.read_named.result (λ e. (e ≡ Memory) ⊎ IsFault ws e)) all c.read_named.ensures.fault)

pub returns-in-len1-up-clause-only_fault : goal.returns-in-len1-up-clause-only_fault
returns-in-len1-up-clause-only_fault c =
    let all = first-named c.name-item.result c.args.words.now c.in-len1-up.len_at_least c.name-item.is in
    only-fault c.args.words.now c.read_named.result (subst (λ (ws : List (List ℕ)). IfOk c.read_named.result (IsCommand ws)) all c.read_named.ensures.found)
    (subst (λ (ws : List (List ℕ)). IfErr c.read_named.result (λ e. (e ≡ Memory) ⊎ IsFault ws e)) all c.read_named.ensures.fault)

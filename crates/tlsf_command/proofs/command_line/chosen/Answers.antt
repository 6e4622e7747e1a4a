use Rattle.tlsf_command.proofs.Common.{◌≡◌, ◌∙◌, None, false, codes, rules, sym, bytes_eq, IfOk-weaker, texts_of, rivals_given}
use Rattle.tlsf_command.proofs.ChosenCommands.{asked_by_run, reads_trace}
use Rattle.tlsf_command.proofs.command_line.chosen.Goals as goal

pub returns-in-None : goal.returns-in-None
returns-in-None c =
    let name = c.args.name.now in
    let no_classes : bytes_eq name (codes "classes") ≡ false = search rules in
    let no_size : bytes_eq name (codes "size") ≡ false = search rules in
    let reads = reads_trace name c.requires no_classes no_size in
    let none : rivals_given name (texts_of c.args.given.now) ≡ None = sym c.rivals_given.ensures ∙ c.in-None.is in
    IfOk-weaker c.run_given.result _ _ (λ choice is. asked_by_run choice name (texts_of c.args.given.now) reads none is) (rw c.run_of.ensures at c.run_given.ensures)

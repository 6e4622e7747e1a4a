use Rattle.tlsf_command.proofs.Notes.{other_note}
use Rattle.tlsf_command.proofs.commands.note_on.Goals as goal

pub returns-in-Check : goal.returns-in-Check
returns-in-Check c = rw c.in-Check.is (λ text noted. noted)

pub returns-in_default : goal.returns-in_default
returns-in_default c = λ text noted. other_note c.args.tips c.args.ran c.args.answer.now text c.tip_on.result.now c.in_default.not-Check c.tip_on.ensures

use Rattle.tlsf_class.proofs.Common.{◌+◌, ◌*◌, sym, ◌∙◌, arith, one_shl}
use Rattle.tlsf_class.proofs.ClassByBits.{tops}
use Rattle.tlsf_class.proofs.class.most_words.Goals as goal

pub returns : goal.returns
returns g c = one_shl (4 * g.row.SLI + 4) 32 (omega (arith, c.requires.most)) ∙ sym (tops g.row.SLI c.requires).words

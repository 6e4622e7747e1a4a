use Rattle.tlsf_held.proofs.Common.{ap, sym, ◌∙◌, arith, with_words, level_of, Header}
use Rattle.tlsf_held.proofs.LeastFound.{with_other}
use Rattle.tlsf_held.proofs.Measured.{run_told}
use Rattle.tlsf_held.proofs.least.replayed.Goals as goal

pub returns-clause-run : goal.returns-clause-run
returns-clause-run g c = λ trace is.
    let other = with_words c.args.words trace in
    let is_other = with_other c.args.script.now trace c.args.words is in
    let plays = c.in_ok-entries.ensures.plays 0 other is_other (c.in_ok-player.ensures.stands other is_other) in
    let level = ap (λ (h : Header). level_of h.version) (sym is.header) ∙ c.requires.ready.level in
    run_told other _ c.step_to.new.self c.in_ok-entries.entries.items _ level is_other (omega (arith, c.requires.ready.lines)) plays

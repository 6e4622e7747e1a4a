use Rattle.std.proofs.Common.{◌∙◌, map, sym}
use Rattle.clap.specs.Matches.{found_of}
use Rattle.clap.specs.Walk.{rows_of}
use Rattle.tlsf_command.proofs.ChosenCommands.{asks, entered_by, is_named}
use Rattle.tlsf_command.proofs.Faultless.{is_command}
use Rattle.tlsf_command.proofs.command_line.choose.Goals as goal

pub unreachable-requires : goal.unreachable-requires
unreachable-requires g c =
    is_named (map g.S.AsStr.text c.args.words.now) c.in_ok-matches.matches c.in_ok-matches.ensures.kinds c.in_ok-matches.ensures.named (sym c.in_default.ensures.name)

pub chosen-requires : goal.chosen-requires
chosen-requires g c =
    let matches = c.in_ok-matches.matches in
    let name = c.in-Some.name.now in
    let rows = rows_of (found_of c.in-Some.given.now) in
    is_command (map g.S.AsStr.text c.args.words.now) name rows c.in_ok-matches.ensures.kinds
    (sym c.in_ok-matches.ensures.named ∙ entered_by matches name rows c.in-Some.ensures.name c.in-Some.ensures.rows)

pub returns-clause-asked : goal.returns-clause-asked
returns-clause-asked g c =
    let matches = c.in_ok-matches.matches in
    let name = c.in-Some.name.now in
    let given = c.in-Some.given.now in
    asks (map g.S.AsStr.text c.args.words.now) matches given name c.in_ok-chosen.field-0 c.in_ok-matches.ensures.kinds c.in_ok-matches.ensures.named
    (entered_by matches name (rows_of (found_of given)) c.in-Some.ensures.name c.in-Some.ensures.rows) c.in_ok-chosen.ensures

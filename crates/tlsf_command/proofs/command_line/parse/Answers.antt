use Rattle.tlsf_command.proofs.ChosenCommands.{parsed_fails, parsed_named}
use Rattle.tlsf_command.proofs.command_line.parse.Goals as goal

pub returns-clause-named : goal.returns-clause-named
returns-clause-named g c =
    let parsed = c.try_get_matches_from in
    parsed_named parsed.result _ _ c.in_ok-tlsf_command.ensures parsed.ensures.matches

pub returns-clause-kinds : goal.returns-clause-kinds
returns-clause-kinds g c =
    let parsed = c.try_get_matches_from in
    parsed_fails parsed.result _ _ c.in_ok-tlsf_command.ensures parsed.ensures.kinds

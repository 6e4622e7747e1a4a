use Rattle.tlsf_command.proofs.Common.{◌∙◌, ap, IfOk-weaker}
use Rattle.clap.specs.Simple.{app_of_fields}
use Rattle.tlsf_command.proofs.command_line.tlsf_command.Goals as goal

pub returns : goal.returns
returns c =
    let first = c.in_ok-replaying.ensures _ _ c.bare_command.ensures c.replay_command.ensures in
    let second = c.in_ok-racing.ensures _ _ first c.race_command.ensures in
    let third = c.in_ok-counting.ensures _ _ second c.classes_command.ensures in
    let fourth = c.in_ok-sizing.ensures _ _ third c.size_command.ensures in
    let fifth = c.in_ok-mapping.ensures _ _ fourth c.map_command.ensures in
    let sixth = c.in_ok-plotting.ensures _ _ fifth c.plot_command.ensures in
    let seventh = c.in_ok-with_command.ensures _ _ sixth c.check_command.ensures in
    IfOk-weaker c.bin_name.result _ _ (λ command named. ap app_of_fields named.0 ∙ seventh) c.bin_name.ensures

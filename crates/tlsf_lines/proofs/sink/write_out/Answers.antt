use Rattle.tlsf_lines.proofs.Common.{arith, common_steps}
use Rattle.tlsf_lines.proofs.PrefixSteps.{prefix_grows}
use Rattle.tlsf_lines.proofs.sink.write_out.Goals as goal

pub loop-done-preserved : goal.loop-done-preserved
loop-done-preserved g c = record {
  within = omega (arith, c.in-Ok.ensures.bound);
  written = prefix_grows _ _ _ c.loop-done.done c.in-Ok.count c.args.text.now _ c.loop-done.invariant.written (grind (arith, common_steps)) c.in-Ok.ensures.bytes;
}

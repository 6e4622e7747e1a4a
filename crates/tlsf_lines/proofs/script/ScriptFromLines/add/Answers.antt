use Rattle.tlsf_lines.proofs.Common.{ap, arith, refl, Header}
use Rattle.tlsf_lines.proofs.ScriptSteps.{add_holds, calls_few}
use Rattle.tlsf_lines.proofs.script.ScriptFromLines.add.Goals as goal

pub add_events-requires : goal.add_events-requires
add_events-requires c =
    let few = c.requires in
    omega (arith, calls_few few.0.workers few.1 few.2 c.args.self.now few.3.1, few.4)

pub returns : goal.returns
returns c = λ header before lines has made.
    let same = ap (λ (h : Header). h.workers) has.0 in
    add_holds header before lines c.args.line.now c.args.self.now c.add_events.new.self _ has (c.in_ok-add_events.ensures before (rw same made))
    refl refl refl refl (rw c.len.ensures at c.in_ok-push.ensures.items) (rw c.request.ensures at c.in_ok-push-2.ensures.items)

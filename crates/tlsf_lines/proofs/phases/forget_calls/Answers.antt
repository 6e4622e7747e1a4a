use Rattle.tlsf_lines.proofs.Common.{[], take, ◌∙◌, All-more, All-weaker, RecallsCall, RecallsCallOf, label_in, Allocate}
use Rattle.tlsf_lines.proofs.LabelSteps.{IfSome-weaker}
use Rattle.tlsf_lines.proofs.phases.forget_calls.Goals as goal

pub loop-line-preserved : goal.loop-line-preserved
loop-line-preserved c =
    let inv = c.loop-line.invariant in
    let i = c.loop-line.line-index in
    let lines = c.args.lines.now in
    let old = c.loop-line.names.calls in
    let new = c.forget.new.self.calls in
    let still = All-weaker (RecallsCallOf old []) (RecallsCallOf new [])
    (λ l. IfSome-weaker (RecallsCall old []) (RecallsCall new []) c.in_ok-forget.ensures.still (label_in l)) (take i lines) inv.none in
    record {
      names = c.forget.ensures.names ∙ inv.names;
      none = All-more (RecallsCallOf new []) lines i (Allocate 0 0 0) c.loop-line-test.true still c.in_ok-forget.ensures.none;
    }

use Rattle.tlsf_c.proofs.Common.{arith, ap, ◌∙◌, length, take, List, ltb-true, posts_sent}
use Rattle.tlsf_c.specs.declared.names.BlockName.{BlockName}
use Rattle.tlsf_c.proofs.Putting.{sent_more}
use Rattle.tlsf_c.proofs.lane_calls.put_names.Goals as goal

pub loop-count-preserved : goal.loop-count-preserved
loop-count-preserved c =
    let i = c.loop-count.invariant in
    let put = c.put_slice-sent.ensures in
    let some = c.split_at-in-loop-count in
    record {
      lane = λ t is. put.lane t (i.lane t is);
      most = omega (arith, i.most, put.most, some.ensures.front_len, c.min.ensures, c.split_at.ensures.back_len);
      sent = sent_more (posts_sent c.args.end.now) (posts_sent c.loop-count.end) (posts_sent c.put_slice-sent.new.end) c.args.names.now some.result.0.now
          c.loop-count.count c.put_slice-sent.result c.min.result
          (some.ensures.front ∙ ap (λ (l : List BlockName). take c.min.result l) c.split_at.ensures.back)
          (omega (arith, put.most, some.ensures.front_len)) i.sent put.sent;
      slots = omega (arith, i.slots, put.slots);
      full = λ fewer. omega (arith, put.succeeds (ltb-true c.put_slice-sent.result (length some.result.0.now) fewer), i.slots);
    }

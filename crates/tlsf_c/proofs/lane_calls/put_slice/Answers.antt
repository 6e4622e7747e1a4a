use Rattle.tlsf_c.proofs.Common.{◌≡◌, ℕ, ◌∙◌, arith, ap, sym, length, take, posts_sent}
use Rattle.std.proofs.Common.{rules}
use Rattle.tlsf_c.proofs.Putting.{sent_named}
use Rattle.tlsf_c.proofs.lane_calls.put_slice.Goals as goal

pub returns : goal.returns
returns c =
    let all : c.loop-k.k ≡ length c.args.names.now = omega (arith, c.loop-k.auto.k-end, c.loop-k-test.false) in
    let put = c.put_all.ensures in
    let few = c.split_at.ensures.front_len in
    record {
      lane = search rules;
      most = omega (arith, all, put.most, few);
      sent = sent_named (posts_sent c.args.end.now) (posts_sent c.put_all.new.self) c.loop-k.posts c.split_at.result.0.now c.args.names.now
          c.put_all.result c.loop-k.k (c.split_at.ensures.front ∙ ap (λ (n : ℕ). take n c.loop-k.posts) (sym all)) c.loop-k.invariant.named
          (omega (arith, all, put.most, few)) put.sent;
      slots = put.slots;
      succeeds = λ fewer. put.succeeds (omega (arith, fewer, few));
    }

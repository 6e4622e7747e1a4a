use Rattle.tlsf_c.proofs.Common.{◌≡◌, ◌++◌, arith, ap, sym, subst, inl, inr, ◌∙◌, List, length, length-append, cases_lt, Post}
use Rattle.tlsf_post.specs.Lanes.{taken, ready}
use mathlib.Core.List.{IsPrefix}
use Rattle.tlsf_c.proofs.Draining.{taken_more, still_ready}
use Rattle.tlsf_c.proofs.DrainSteps.{drains_more}
use Rattle.tlsf_c.proofs.lane_calls.drain_names.Goals as goal

pub loop-left-preserved : goal.loop-left-preserved
loop-left-preserved c =
    let i = c.loop-left.invariant in
    let took = c.take_slice-came.ensures in
    let names = c.split_at.result.0.now in
    let front = c.split_at.ensures.front in
    let many : length names ≡ c.take_slice-came.result = c.split_at.ensures.front_len in
    let still = still_ready (ready c.loop-left.end) (ready c.take_slice-came.new.self) names
    (subst (λ l. IsPrefix (ready c.loop-left.end) (l ++ ready c.take_slice-came.new.self)) (sym front) took.came.1) in
    record {
      few = omega (arith, i.few, c.left_after-left.ensures.most);
      ended = λ lt. elim (cases_lt c.take_slice-came.result c.min-wanted.result) [
        | inl fewer ↦ omega (arith, i.ready, still, many, ap length (took.left (omega (arith, fewer, c.split_at_mut-places.ensures.front_len))).0)
        | inr all ↦ omega (arith, i.ended (omega (arith, lt, c.left_after-left.ensures.all (omega (arith, all, took.most, c.split_at_mut-places.ensures.front_len)))))
      ];
      posts = (
        i.posts.0 ++ names,
        (
          taken_more (taken c.args.end.now) (taken c.loop-left.end) (taken c.take_slice-came.new.self) i.posts.0 names i.posts.1.0 (took.came.0 ∙ ap (λ (l : List Post). taken c.loop-left.end ++ l) (sym front)),
          omega (arith, length-append i.posts.0 names, i.posts.1.1, many),
        ),
        drains_more c.args.heap.now c.loop-left.heap c.release_posts.new.heap i.posts.0 names i.posts.2 c.release_posts.ensures,
      );
      ready = omega (arith, i.ready, still, many);
      lane = λ p is. took.lane p (i.lane p is);
    }

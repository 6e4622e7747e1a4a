use Rattle.tlsf_c.proofs.Common.{rules, arith, [], ◌∷◌, ◌++◌, length-append}
use Rattle.tlsf_post.specs.Mailboxes.{got_by}
use Rattle.tlsf_c.proofs.Draining.{taken_more}
use Rattle.tlsf_c.proofs.DrainSteps.{drains_more}
use Rattle.tlsf_c.proofs.queue_calls.drain_names.Goals as goal

pub loop-left-preserved-then-drain_one : goal.loop-left-preserved-then-drain_one
loop-left-preserved-then-drain_one c =
    let i = c.loop-left.invariant in
    let came = c.drain_one.ensures.came c.if-drain_one.true in
    let more = came.0 ∷ [] in
    record {
      few = search rules;
      kept = search rules;
      posts = (
        i.posts.0 ++ more,
        (taken_more (got_by c.args.end.now.owner) (got_by c.loop-left.end.owner) (got_by c.drain_one.new.end.owner) i.posts.0 more i.posts.1.0 came.1, omega (arith, length-append i.posts.0 more, i.posts.1.1)),
        drains_more c.args.heap.now c.loop-left.heap c.drain_one.new.heap i.posts.0 more i.posts.2 came.2,
      );
    }

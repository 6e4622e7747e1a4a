use Rattle.tlsf_crew.proofs.Common.{◌<◌, length, arith, get_or, set, sym, slice_get-get_or, get_or-set_other, length-set, Worker, Lanes}
use Rattle.tlsf_crew.proofs.lemmas.lanes.NewLanes.{lane_laid}
use Rattle.tlsf_crew.proofs.lanes.opening.lay_lane.Goals as goal

pub returns : goal.returns
returns g c =
    let us = set c.args.workers.now c.args.i c.set_post_end.new.worker in
    let n = length-set c.args.workers.now c.args.i c.set_post_end.new.worker in
    let j_in : c.args.j < length us = omega (arith, c.requires.two.inside.1) in
    let e = c.in_ok-post.ensures in
    lane_laid c.args.workers.now _ _ _ _ _ _ _ c.requires.laid (record {
      near = (c.requires.two.inside.0, c.requires.two.inside.1, c.requires.two.apart);
      poster = get_or c.args.workers.now c.args.i c.index-workers-i.result;
      taker = get_or us c.args.j c.index-workers-j.result;
      post = c.in_ok-post.post;
      take = c.in_ok-post.take;
      poster_is = slice_get-get_or c.args.workers.now c.args.i c.index-workers-i.result c.requires.two.inside.0;
      posts = c.set_post_end.ensures.posts;
      poster_same = c.set_post_end.ensures.same;
      taker_is = slice_get-get_or us c.args.j c.index-workers-j.result j_in;
      takes = c.set_take_end.ensures.takes;
      taker_same = c.set_take_end.ensures.same;
      lane = e.lane;
      size = (e.post.2, e.post.1);
      unsent = e.post.0;
      untaken = e.take;
    })

pub set_post_end-requires : goal.set_post_end-requires
set_post_end-requires g c = (
  omega arith,
  let ws = c.args.workers.now in
      let a : Worker g.row.SLI Lanes = get_or ws c.args.i c.index-workers-i.result in
      let s = c.requires.laid.slots c.args.i a (slice_get-get_or ws c.args.i c.index-workers-i.result c.requires.two.inside.0) in
      omega (arith, a.ports.posts.ok, s.0, c.requires.two.inside.1),
)

pub set_take_end-requires : goal.set_take_end-requires
set_take_end-requires g c = (
  omega arith,
  let ws = c.args.workers.now in
      let d = c.index-workers-j.result in
      let a : Worker g.row.SLI Lanes = get_or ws c.args.j d in
      let s = c.requires.laid.slots c.args.j a (slice_get-get_or ws c.args.j d c.requires.two.inside.1) in
      rw (get_or-set_other ws c.args.i c.args.j c.set_post_end.new.worker d (λ e. c.requires.two.apart (sym e))) (omega (arith, a.ports.takes.ok, s.1, c.requires.two.inside.0)),
)

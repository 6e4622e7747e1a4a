use Rattle.tlsf_crew.proofs.Common.{length-set, [], ◌≡◌, ◌∙◌, ◌<◌, ap, sym, arith, length, refl, List, Option, Some, get_or, slice_get, slice_get-get_or, Name, target_name, Worker, Lanes, id_of}
use Rattle.tlsf_crew.proofs.lemmas.replays.Exact.{Run, settles, limit_room, replied}
use Rattle.tlsf_crew.proofs.lemmas.lanes.LaneSlots.{shown_other, shown_same}
use Rattle.tlsf_crew.proofs.lemmas.lanes.LanesOfOne.{each_knows, own_number}
use Rattle.tlsf_crew.proofs.replays.replay.reply_in_yard.Given.{Over}
use Rattle.tlsf_crew.proofs.replays.replay.reply_in_yard.Goals as goal

pub reply_to-reply-requires : goal.reply_to-reply-requires
reply_to-reply-requires g c =
    let e = c.settle_for-journal.ensures in
    let r = limit_room c.args.workers.now c.settle_for-journal.new.workers c.args.event.now c.settle_for-journal.result e.limits e.keeps.world in
    let room = c.requires.room in
    (omega arith, omega arith)

run_of : (g : Over) (c : goal.After-workers-2-1 g) (made : List (Option Name)) → target_name made c.args.event.now.call ≡ c.args.name → Run g.row.SLI
run_of g c made known =
    let vs = c.settle_for-journal.new.workers in
    let e = c.settle_for-journal.ensures in
    let n = e.keeps.count in
    let p = c.requires.has.inside in
    let lt : c.args.event.now.worker < length vs = omega arith in
    let a : Worker g.row.SLI Lanes = get_or vs c.args.event.now.worker c.index-workers-event.result in
    let is : slice_get vs c.args.event.now.worker ≡ Some a = slice_get-get_or vs c.args.event.now.worker c.index-workers-event.result lt in
    let own : id_of a ≡ c.args.event.now.worker = own_number vs c.args.event.now.worker a e.keeps.yard is in
    record {
      vs = vs;
      a = a;
      v = c.reply_to-reply.new.worker;
      made = made;
      es = c.args.journal.now.entries.items;
      longer = c.reply_to-reply.new.journal.entries.items;
      limits = c.settle_for-journal.result;
      left = c.reply_to-reply.new.journal.limits;
      call = c.args.event.now.call;
      reply = c.reply_to-reply.result;
      yard = e.keeps.yard;
      is = ap (slice_get vs) own ∙ is;
      knows = each_knows (length vs) vs refl e.keeps.yard c.args.event.now.worker c.index-workers-event.result lt;
      step = c.reply_to-reply.ensures.stepped (length vs) made known (each_knows (length vs) vs refl e.keeps.yard c.args.event.now.worker c.index-workers-event.result lt);
    }

pub settle_for-requires : goal.settle_for-requires
settle_for-requires g c = (
  omega arith,
  record {
    yard = let vs = c.settle_for-journal.new.workers in
        let e = c.settle_for-journal.ensures in
        let n = e.keeps.count in
        let p = c.requires.has.inside in
        let lt : c.args.event.now.worker < length vs = omega arith in
        let a : Worker g.row.SLI Lanes = get_or vs c.args.event.now.worker c.index-workers-event.result in
        let is : slice_get vs c.args.event.now.worker ≡ Some a = slice_get-get_or vs c.args.event.now.worker c.index-workers-event.result lt in
        let step = c.reply_to-reply.ensures.stepped (length vs) c.requires.meant.0 c.requires.meant.1 (each_knows (length vs) vs refl e.keeps.yard c.args.event.now.worker c.index-workers-event.result lt) in
        let m = step.step.moved [] in
        m.yard vs c.args.event.now.worker is e.keeps.yard;
    inside = let vs = c.settle_for-journal.new.workers in
        let n = c.settle_for-journal.ensures.keeps.count in
        let p = c.requires.has.inside in
        omega (arith, length-set vs c.args.event.now.worker c.reply_to-reply.new.worker);
  },
)

pub returns-clause-replied : goal.returns-clause-replied
unfolding run_of
returns-clause-replied g c = λ made known.
    let vs = c.settle_for-journal.new.workers in
    let e = c.settle_for-journal.ensures in
    let f = c.settle_for.ensures in
    let n = e.keeps.count in
    let p = c.requires.has.inside in
    let lt : c.args.event.now.worker < length vs = omega arith in
    let a : Worker g.row.SLI Lanes = get_or vs c.args.event.now.worker c.index-workers-event.result in
    let is : slice_get vs c.args.event.now.worker ≡ Some a = slice_get-get_or vs c.args.event.now.worker c.index-workers-event.result lt in
    let own : id_of a ≡ c.args.event.now.worker = own_number vs c.args.event.now.worker a e.keeps.yard is in
    let s = settles (run_of g c made known) c.args.workers.now c.settle_for.new.workers c.args.event.now.worker own e.keeps.count (e.settled made known) (f.settled made known) (λ may i t near q. e.limits.all may i t near q) f.keeps.yard f.keeps.count f.keeps.world in
    replied (run_of g c made known) c.args.workers.now c.settle_for.new.workers c.args.event.now s e.keeps.world (sym own) refl

pub returns-clause-others : goal.returns-clause-others
returns-clause-others g c = λ x ne.
    shown_same _ _ x c.settle_for.ensures.keeps.heaps
    ∙ (shown_other c.settle_for-journal.new.workers c.args.event.now.worker x c.reply_to-reply.new.worker ne ∙ shown_same c.args.workers.now _ x c.settle_for-journal.ensures.keeps.heaps)

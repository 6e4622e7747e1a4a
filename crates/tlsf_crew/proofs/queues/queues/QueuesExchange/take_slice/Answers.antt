use Rattle.tlsf_crew.proofs.Common.{Some, arith, refl, ap, ◌∙◌, ◌∷◌, subst, sym, take, length-set, take_more_set, poster_extent, extent_of, end_extents, Queues, AsksQueue, PortsInTurn}
use Rattle.tlsf_crew.proofs.lemmas.worker.Slices.{ports_more}
use Rattle.tlsf_crew.proofs.queues.queues.QueuesExchange.take_slice.Goals as goal

pub loop-count-preserved : goal.loop-count-preserved
loop-count-preserved g c =
    let i = c.loop-count.invariant in
    let places = c.loop-count.places in
    let count = c.loop-count.count in
    let post = c.in-Some.post in
    let e = c.in-Some.ensures in
    let old = c.loop-count.self in
    let new : Queues = record old { own = c.take.new.self } in
    let took : AsksQueue old new c.args._source (Some post) = record { same = refl; mailbox = e.mailbox; some = e.some; waited = e.waited; from = e.from; none = e.none } in
    record {
      few = omega (arith, c.loop-count-test.true, length-set places count post);
      turns = subst (λ posts. PortsInTurn AsksQueue c.args.self.now new c.args._source posts) (sym (take_more_set places count post c.loop-count-test.true))
          (ports_more AsksQueue c.args.self.now old new c.args._source (take count places) post i.turns took);
      stays = ap (λ own. own ∷ extent_of old.posts ∷ end_extents poster_extent old.posts.items) e.stays ∙ i.stays;
    }

pub returns-after-loop-count : goal.returns-after-loop-count
returns-after-loop-count g c =
    let i = c.loop-count.invariant in
    record {
      most = omega (arith, i.few, c.loop-count.auto.places);
      came = record { last = c.loop-count.self; turns = i.turns; full = λ all. refl; short = λ fewer. absurd (omega (arith, fewer, c.loop-count-test.false, c.loop-count.auto.places)) };
      still = tt;
      stays = i.stays;
    }

pub returns-in_default : goal.returns-in_default
returns-in_default g c =
    let i = c.loop-count.invariant in
    let e = c.in_default.ensures in
    record {
      most = omega (arith, i.few, c.loop-count.auto.places);
      came = record {
        last = c.loop-count.self;
        turns = i.turns;
        full = λ all. absurd (omega (arith, all, c.loop-count-test.true, c.loop-count.auto.places));
        short = λ fewer. record { same = refl; mailbox = e.mailbox; some = e.some; waited = e.waited; from = e.from; none = e.none };
      };
      still = tt;
      stays = ap (λ own. own ∷ extent_of c.loop-count.self.posts ∷ end_extents poster_extent c.loop-count.self.posts.items) e.stays ∙ i.stays;
    }

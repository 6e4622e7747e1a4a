use Rattle.tlsf_crew.proofs.Common.{refl, ◌∙◌, ◌+◌, ◌*◌, [], ◌++◌, inl, inr, arith, sym, subst, length, IsCountOf, TakeRules, EachTakeNoted}
use Rattle.tlsf_crew.proofs.lemmas.worker.Slices.{slice_noted, noted_then, may_fewer}
use Rattle.tlsf_crew.proofs.lemmas.worker.SourceTurns.{counted_few, counts_then}
use Rattle.tlsf_crew.proofs.lemmas.worker.Works.{works_none, works_ports, works_then}
use Rattle.tlsf_crew.proofs.worker.worker.drain_source.Goals as goal

pub loop-drained-init : goal.loop-drained-init
loop-drained-init g c = record {
  source = c.requires.source;
  notes = record { room = c.requires.room; kept = refl };
  takes = ([], (refl, refl), (refl, refl));
  few = omega arith;
  within = works_none _ _ _;
}

pub loop-drained-preserved : goal.loop-drained-preserved
loop-drained-preserved g c =
    let i = c.loop-drained.invariant in
    let a = c.loop-drained.worker in
    let x = c.loop-drained.notes in
    let v = c.release_posts-freed.new.worker in
    let z = c.release_posts-freed.new.notes in
    let e = c.release_posts-freed.ensures in
    let slice = c.take_slice-came in
    let many = c.split_at_mut-wanted_places.ensures.front_len in
    let n = c.split_at.ensures.front_len in
    let by : TakeRules _ _ = record { hears = g.P.Ports.hears; takes = g.P.Exchange.takes; stops = g.P.Exchange.stops; sent_by = g.P.Ports.sent_by; admitted = g.N.Notes.admitted; noted = g.N.Notes.noted } in
    let s = slice_noted by a v slice.new.self x z c.args.source _ slice.result _ e.released.0 slice.ensures.came (e.released.2 ∙ c.split_at.ensures.front) e.released.1 e.ports in
    let counts = counts_then c.loop-drained.drained (record { taken = length c.split_at.result.0.now; freed = c.release_posts-freed.result }) i.takes.0 e.released.0 i.takes.2 e.released.3 in
    record {
      source = subst (λ p. g.P.Ports.hears p c.args.source) (sym e.ports) slice.ensures.still;
      notes = record { room = e.notes.room; kept = e.notes.kept ∙ i.notes.kept };
      takes = (
        i.takes.0 ++ e.released.0,
        noted_then by c.args.worker.now a v c.args.notes.now x z c.args.source i.takes.0 e.released.0 i.takes.1
            (subst (λ w. EachTakeNoted by a w x z c.args.source e.released.0) (sym (s.full (omega (arith, c.if-came-wanted.false, slice.ensures.most, many)))) s.turns),
        (omega (arith, counts.0, n), counts.1),
      );
      few = omega (arith, c.admits-wanted.ensures.few, c.min.ensures, slice.ensures.most, many);
      within = works_then _ _ _ _ _ _ _ (works_then _ _ 0 (64 * c.loop-drained.drained.taken) _ _ _ i.within (works_ports _ _ _ _ slice.ensures.stays) (omega arith)) e.within (omega (arith, n));
    }

pub returns-after-loop-drained : goal.returns-after-loop-drained
returns-after-loop-drained g c =
    let i = c.loop-drained.invariant in
    record {
      drained = (i.takes.0, record { last = c.loop-drained.worker; turns = i.takes.1; end = inl (omega (arith, i.takes.2.0, i.few), refl) }, i.takes.2);
      bounds = record {
        few = record { most = i.few; freed = counted_few c.loop-drained.drained i.takes.0 i.takes.2 };
        notes = i.notes;
        within = i.within;
      };
    }

pub returns-then-wanted-eq0 : goal.returns-then-wanted-eq0
returns-then-wanted-eq0 g c =
    let i = c.loop-drained.invariant in
    record {
      drained = (i.takes.0, record { last = c.loop-drained.worker; turns = i.takes.1; end = inr (omega (arith, i.takes.2.0), inl (c.admits-wanted.ensures.no c.if-wanted-eq0.true, (refl, refl), c.stop.ensures.stopped)) }, i.takes.2);
      bounds = record {
        few = record { most = i.few; freed = counted_few c.loop-drained.drained i.takes.0 i.takes.2 };
        notes = i.notes;
        within = works_then _ _ 0 (64 * c.loop-drained.drained.taken) _ _ _ i.within (works_ports _ _ _ _ c.stop.ensures.stays) (omega arith);
      };
    }

pub returns-then-came-wanted : goal.returns-then-came-wanted
returns-then-came-wanted g c =
    let i = c.loop-drained.invariant in
    let a = c.loop-drained.worker in
    let x = c.loop-drained.notes in
    let v = c.release_posts-freed.new.worker in
    let z = c.release_posts-freed.new.notes in
    let e = c.release_posts-freed.ensures in
    let slice = c.take_slice-came in
    let many = c.split_at_mut-wanted_places.ensures.front_len in
    let n = c.split_at.ensures.front_len in
    let by : TakeRules _ _ = record { hears = g.P.Ports.hears; takes = g.P.Exchange.takes; stops = g.P.Exchange.stops; sent_by = g.P.Ports.sent_by; admitted = g.N.Notes.admitted; noted = g.N.Notes.noted } in
    let s = slice_noted by a v slice.new.self x z c.args.source _ slice.result _ e.released.0 slice.ensures.came (e.released.2 ∙ c.split_at.ensures.front) e.released.1 e.ports in
    let counts = counts_then c.loop-drained.drained (record { taken = length c.split_at.result.0.now; freed = c.release_posts-freed.result }) i.takes.0 e.released.0 i.takes.2 e.released.3 in
    let count : IsCountOf (record { taken = c.loop-drained.drained.taken + slice.result; freed = c.loop-drained.drained.freed + c.release_posts-freed.result }) (i.takes.0 ++ e.released.0) = (omega (arith, counts.0, n), counts.1) in
    record {
      drained = (
        i.takes.0 ++ e.released.0,
        record {
          last = s.last;
          turns = noted_then by c.args.worker.now a s.last c.args.notes.now x z c.args.source i.takes.0 e.released.0 i.takes.1 s.turns;
          end = inr (omega (arith, counts.0, n, c.if-came-wanted.true, c.admits-wanted.ensures.few, c.min.ensures), inr (s.short (omega (arith, c.if-came-wanted.true, many))));
        },
        count,
      );
      bounds = record {
        few = record { most = omega (arith, c.if-came-wanted.true, c.admits-wanted.ensures.few, c.min.ensures); freed = counted_few _ (i.takes.0 ++ e.released.0) count };
        notes = record { room = e.notes.room; kept = e.notes.kept ∙ i.notes.kept };
        within = works_then _ _ _ _ _ _ _ (works_then _ _ 0 (64 * c.loop-drained.drained.taken) _ _ _ i.within (works_ports _ _ _ _ slice.ensures.stays) (omega arith)) e.within (omega (arith, n));
      };
    }

pub take_slice-came-requires : goal.take_slice-came-requires
take_slice-came-requires g c = record {
  source = c.loop-drained.invariant.source;
  places = omega (arith, c.if-wanted-eq0.false, c.split_at_mut-wanted_places.ensures.front_len);
}

pub release_posts-freed-requires : goal.release_posts-freed-requires
release_posts-freed-requires g c =
    let n = c.split_at.ensures.front_len in
    let many = c.split_at_mut-wanted_places.ensures.front_len in (
      omega arith,
      (
        may_fewer g.N.Notes.admitted g.N.Notes.noted c.loop-drained.notes c.args.source _ _ (omega (arith, n, c.take_slice-came.ensures.most, many)) c.admits-wanted.ensures.yes,
        (c.loop-drained.invariant.notes.room, omega (arith, n, c.take_slice-came.ensures.most, many, c.admits-wanted.ensures.few, c.min.ensures)),
      ),
    )

use Rattle.tlsf_crew.proofs.Common.{◌≡◌, ◌∙◌, ◌++◌, ◌-◌, [], refl, arith, subst, TakeRules, SourceNoted, EachNoted}
use Rattle.tlsf_crew.proofs.lemmas.worker.SourceTurns.{counted_few, counts_then, turn_more, turn_none}
use Rattle.tlsf_crew.proofs.lemmas.worker.Works.{works_none, works_then}
use Rattle.tlsf_crew.proofs.worker.worker.drain_each.Goals as goal
use Rattle.tlsf_crew.proofs.worker.worker.drain_each.Goals.{then-has_source, else-has_source}

pub loop-source-init : goal.loop-source-init
loop-source-init g c = record {
  notes = record { room = c.requires.room; kept = refl };
  each = ([], (refl, refl, refl), (refl, refl));
  few = omega arith;
  within = works_none _ _ _;
}

pub loop-source-preserved : goal.loop-source-preserved
loop-source-preserved g c =
    let a = c.args.worker.now in
    let b = c.loop-source.worker in
    let by : TakeRules _ _ = record { hears = g.P.Ports.hears; takes = g.P.Exchange.takes; stops = g.P.Exchange.stops; sent_by = g.P.Ports.sent_by; admitted = g.N.Notes.admitted; noted = g.N.Notes.noted } in
    let i = c.loop-source.invariant in
    let l = i.each in
    elim c.if-has_source.branch [
      | then-has_source w ↦
          let e = w.drain_source-here.ensures in
          let v = w.drain_source-here.new.worker in
          let z = w.drain_source-here.new.notes in
          let t = e.drained in
          let lane = subst (λ n. SourceNoted by b v c.loop-source.notes z c.loop-source.source (c.args.most - n) t.0) l.2.0 t.1 in
          record {
            notes = rw w.notes-is (record { room = e.bounds.notes.room; kept = e.bounds.notes.kept ∙ i.notes.kept });
            each = rw (w.worker-is, w.notes-is, w.drained-is) (
              l.0 ++ t.0,
              turn_more by a b v c.args.notes.now c.loop-source.notes z c.args.most c.loop-source.source l.0 t.0 l.1 (c.has_source.ensures.yes w.if-has_source.true) lane,
              counts_then c.loop-source.drained w.drain_source-here.result l.0 t.0 l.2 t.2,
            );
            few = rw w.drained-is (omega (arith, e.bounds.few.most, i.few));
            within = rw (w.worker-is, w.drained-is) (works_then _ _ _ _ _ _ _ i.within e.bounds.within (omega arith));
          }
      | else-has_source w ↦ record {
        notes = rw w.notes-is i.notes;
        each = rw (w.worker-is, w.notes-is, w.drained-is) (l.0, turn_none by a b c.args.notes.now c.loop-source.notes c.args.most c.loop-source.source l.0 l.1 (c.has_source.ensures.no w.if-has_source.false), l.2);
        few = rw w.drained-is i.few;
        within = rw (w.worker-is, w.drained-is) i.within;
      }
    ]

pub returns-clause-drained : goal.returns-clause-drained
returns-clause-drained g c =
    let l = c.loop-source.invariant.each in
    let e : c.loop-source.source ≡ g.P.Ports.sources c.args.worker.now.ports = omega (arith, c.source_count-source-end.ensures) in
    record {
      tooks = l.0;
      each = subst (λ n. EachNoted (record { hears = g.P.Ports.hears; takes = g.P.Exchange.takes; stops = g.P.Exchange.stops; sent_by = g.P.Ports.sent_by; admitted = g.N.Notes.admitted; noted = g.N.Notes.noted }) c.args.worker.now c.loop-source.worker c.args.notes.now c.loop-source.notes c.args.most n l.0) e l.1;
      count = l.2;
    }

pub returns-clause-bounds : goal.returns-clause-bounds
returns-clause-bounds g c =
    let i = c.loop-source.invariant in
    record { few = record { most = i.few; freed = counted_few c.loop-source.drained i.each.0 i.each.2 }; notes = i.notes; within = i.within }

pub overflow_add-drained-then-has_source : goal.overflow_add-drained-then-has_source
overflow_add-drained-then-has_source g c =
    let few = counted_few c.loop-source.drained c.loop-source.invariant.each.0 c.loop-source.invariant.each.2 in
    omega (arith, few, c.drain_source-here.ensures.bounds.few.most, c.drain_source-here.ensures.bounds.few.freed, c.loop-source.invariant.few)

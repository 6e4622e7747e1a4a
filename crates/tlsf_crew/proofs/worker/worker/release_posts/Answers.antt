use Rattle.tlsf_crew.proofs.Common.{◌≡◌, ◌≢◌, ◌-◌, ◌+◌, Some, refl, ◌∙◌, [], ◌∷◌, ◌++◌, arith, sym, subst, length, take_all, AfterTake}
use Rattle.tlsf_crew.proofs.lemmas.worker.Slices.{released_more, may_one, may_next, posts_more}
use Rattle.tlsf_crew.proofs.lemmas.worker.SourceTurns.{counts_then, one_freed, one_kept}
use Rattle.tlsf_crew.proofs.lemmas.worker.Works.{works_none, works_then}
use Rattle.tlsf_crew.proofs.worker.worker.release_posts.Goals as goal
use Rattle.tlsf_crew.proofs.worker.worker.release_posts.Goals.{then-is_ok, else-is_ok}

pub loop-post-init : goal.loop-post-init
loop-post-init g c = record {
  notes = record { room = c.requires.room; kept = refl };
  may = let all : length c.args.posts.now - 0 ≡ length c.args.posts.now = omega arith in rw all c.requires.admitted;
  ports = refl;
  released = ([], (refl, refl), refl, (refl, refl));
  within = works_none _ _ _;
}

pub note-requires : goal.note-requires
note-requires g c =
    let i = c.loop-post.invariant in
    let some : length c.args.posts.now - c.loop-post.post-index ≢ 0 = λ none. omega (arith, none, c.loop-post-test.true) in
    record { admitted = may_one g.N.Notes.admitted g.N.Notes.noted c.loop-post.notes c.args.source _ some i.may; room = i.notes.room }

pub loop-post-preserved : goal.loop-post-preserved
loop-post-preserved g c =
    let i = c.loop-post.invariant in
    let at = c.loop-post.post-index in
    let posts = c.args.posts.now in
    let took = c.release_post-took.result in
    let e = c.release_post-took.ensures in
    let note = c.note.ensures in
    record {
      notes = record { room = note.room; kept = note.most ∙ i.notes.kept };
      may = may_next g.N.Notes.admitted g.N.Notes.noted c.loop-post.notes c.note.new.self c.args.source (length posts - at) (length posts - (at + 1)) _ _ took (omega (arith, c.loop-post-test.true)) i.may note.noted;
      ports = e.ports ∙ i.ports;
      released = (
        i.released.0 ++ took ∷ [],
        released_more g.P.Ports.sent_by g.N.Notes.noted c.args.worker.now c.loop-post.worker c.release_post-took.new.worker c.args.notes.now c.loop-post.notes c.note.new.self c.args.source i.released.0 took i.released.1
            (subst (λ p. AfterTake c.loop-post.worker c.release_post-took.new.worker (Some p) (Some took)) (sym e.post) e.released)
            (subst (λ o. g.N.Notes.noted c.loop-post.notes c.release_post-took.new.worker.id c.args.source o took c.note.new.self) c.sender.ensures note.noted),
        posts_more i.released.0 took posts at _ i.released.2 c.loop-post-test.true e.post,
        elim c.if-is_ok.branch [
          | then-is_ok w ↦ rw w.freed-is (counts_then (record { taken = at; freed = c.loop-post.freed }) (record { taken = 1; freed = 1 }) i.released.0 (took ∷ []) i.released.3 (one_freed took (sym w.if-is_ok.ensures.value)))
          | else-is_ok w ↦ rw w.freed-is (
              let n = counts_then (record { taken = at; freed = c.loop-post.freed }) (record { taken = 1; freed = 0 }) i.released.0 (took ∷ []) i.released.3 (one_kept took (sym w.if-is_ok.ensures.value)) in
              (n.0, omega (arith, n.1)))
        ],
      );
      within = works_then _ _ 64 _ _ _ _ i.within e.within (omega arith);
    }

pub returns : goal.returns
returns g c =
    let i = c.loop-post.invariant in
    let all : c.loop-post.post-index ≡ length c.args.posts.now = omega (arith, c.loop-post-test.false) in
    record {
      released = (
        i.released.0,
        i.released.1,
        i.released.2 ∙ take_all c.loop-post.post-index c.args.posts.now (omega (arith, all)),
        (sym all ∙ i.released.3.0, i.released.3.1),
      );
      ports = i.ports;
      notes = i.notes;
      within = rw (← all) i.within;
    }

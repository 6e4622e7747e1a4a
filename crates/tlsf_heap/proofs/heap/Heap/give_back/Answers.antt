use Rattle.tlsf_heap.proofs.Common.{rules, ◌≡◌, ◌≢◌, ℕ, sym, ap, ◌∙◌, subst, Ok, arith, IsLawful, IsTagOf, site_at, Shown, state_of, released_by_place, last_tick}
use Rattle.tlsf_heap.specs.ByPlace.{IsPlaceCheck}
use Rattle.tlsf_heap.proofs.lemmas.calls.Allocate.{awaits_tick}
use Rattle.tlsf_heap.proofs.lemmas.calls.ByPlace.{released_here}
use Rattle.tlsf_heap.proofs.lemmas.blocks.Lawful.{with_region}
use Rattle.tlsf_heap.proofs.lemmas.words.Says.{at_index}
use Rattle.tlsf_heap.specs.WordsInUse.{words_used}
use Rattle.tlsf_heap.proofs.lemmas.blocks.Used.{coalesced_used}
use Rattle.tlsf_heap.proofs.lemmas.laws.WordsInUse.{words_part}
use Rattle.tlsf_heap.proofs.lemmas.calls.Kept.{keeps_stored, less_use}
use Rattle.tlsf_heap.proofs.heap.Heap.give_back.Given.{Over}
use Rattle.tlsf_heap.proofs.heap.Heap.give_back.Goals as goal

pub coalesce-requires : goal.coalesce-requires
coalesce-requires g c =
    let l = subst (λ (s : Shown). IsPlaceCheck s.heap c.args.at (Ok c.args.own)) (sym c.self.view_is) c.requires.live in
    let is = c.self.invariant in
    let own = λ (i : ℕ). IsTagOf c.self.inside.region.words (site_at c.self.inside.region.blocks i) c.args.own in
    (omega arith, (awaits_tick g.row.SLI c.self.inside is, ((l.0, l.1.stands, l.1.live), (λ i stands. at_index is.shows own (l.0, l.1.stands, l.2) stands, subst (λ (s : Shown). s.heap.tick ≢ last_tick) (sym c.self.view_is) c.requires.tick))))

-- the block's words are in use
pub take_back-requires : goal.take_back-requires
take_back-requires g c =
    let l = subst (λ (s : Shown). IsPlaceCheck s.heap c.args.at (Ok c.args.own)) (sym c.self.view_is) c.requires.live in
    omega (arith, words_part (state_of g.row.SLI c.self.inside) l.1, c.size.ensures.value, l.2.size, c.self.invariant.in_use)

freed : (g : Over) (c : goal.After-coalesce g) → (released_by_place c.args.self.now.heap c.args.at ≡ record { answer = Ok tt; heap = with_region (state_of g.row.SLI c.self.inside) c.coalesce.new.tick c.coalesce.new.region }) × IsLawful (with_region (state_of g.row.SLI c.self.inside) c.coalesce.new.tick c.coalesce.new.region)
freed g c =
    let l = subst (λ (s : Shown). IsPlaceCheck s.heap c.args.at (Ok c.args.own)) (sym c.self.view_is) c.requires.live in
    let e = c.coalesce.ensures in
    let done = released_here (state_of g.row.SLI c.self.inside) c.args.at l.0 c.coalesce.new.tick c.coalesce.new.region c.self.invariant.lawful l.1 e.relists.edits.words (e.blocks l.0 l.1.stands) (subst (λ (s : Shown). s.heap.tick ≢ last_tick) (sym c.self.view_is) c.requires.tick) e.tick in
    (sym (ap (λ (s : Shown). released_by_place s.heap c.args.at) c.self.view_is) ∙ done.0, done.1)

pub returns-clause-answer : goal.returns-clause-answer
returns-clause-answer g c = rw (freed g c).0

pub returns-clause-heap : goal.returns-clause-heap
returns-clause-heap g c = rw (freed g c).0

pub invariant_of-self : goal.invariant_of-self
invariant_of-self g c =
    let e = c.coalesce.ensures in
    let l = subst (λ (s : Shown). IsPlaceCheck s.heap c.args.at (Ok c.args.own)) (sym c.self.view_is) c.requires.live in
    let sum = coalesced_used c.self.inside.region.blocks c.self.inside.tick l.1.stands l.1.live in
    let used = less_use g.row.SLI c.self.inside c.self.view_is c.self.invariant c.coalesce.new.region.blocks c.size.result c.take_back.new.self (omega (arith, sum, ap words_used (e.blocks l.0 l.1.stands), c.size.ensures.value, l.2.size)) c.take_back.ensures in record {
      lawful = (freed g c).1;
      shows = c.coalesce.ensures.relists.edits.shows;
      linked = c.coalesce.ensures.relists.edits.linked;
      bits = c.coalesce.ensures.relists.edits.bits;
      level = c.self.invariant.level;
      small = omega (arith, c.coalesce.ensures.relists.edits.words, c.self.invariant.small);
      listed = c.coalesce.ensures.relists.listed;
      in_use = used.words;
      most_in_use = used.most;
    }

pub returns-clause-frame : goal.returns-clause-frame
returns-clause-frame g c = record { keeps = keeps_stored g.row.SLI c.self.inside c.self.view_is c.self.invariant _ (invariant_of-self g c) c.coalesce.ensures.relists.edits.rise c.coalesce.ensures.relists.edits.stays; most = search rules; touches = search rules; groups = search rules }

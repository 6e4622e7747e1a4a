use Rattle.tlsf_heap.proofs.Common.{refl, arith, rules, want, ap, sym, subst, ◌∙◌, HeapState, lying, with_payload, IsLiveWord, GiveFrom, Fill, words_in_use}
use Rattle.tlsf_heap.proofs.lemmas.calls.AllocateAligned.{Gives, has_live, has_room, from_has, from_gives, gives_name, gives_payload, gives_others}
use Rattle.tlsf_heap.specs.Aligned.{words_from}
use Rattle.tlsf_heap.specs.Unset.{GivesUnset}
use Rattle.tlsf_heap.proofs.lemmas.calls.AllocateFrom.{free_not_wild}
use Rattle.tlsf_heap.proofs.lemmas.laws.WordsInUse.{words_set}
use Rattle.tlsf_heap.proofs.lemmas.calls.Leaves.{live_step}
use Rattle.tlsf_words.proofs.Touching.{more_groups, groups_then}
use Rattle.tlsf_heap.proofs.heap.Heap.allocate_from.Given.{Over}
use Rattle.tlsf_heap.proofs.heap.Heap.allocate_from.Goals as goal

-- ---- the block has its payload

pub set_length-requires : goal.set_length-requires
set_length-requires g c =
    let h = c.args.self.now.heap in
    let k = c.words_from.new.self.heap in
    let gives : Gives h k c.in-Ok.name c.want.result = subst (λ (s : HeapState). Gives h s c.in-Ok.name c.want.result) (sym c.words_from.ensures.heap) (from_gives h c.args.at c.want.result c.in-Ok.name c.in-Ok.ensures.answer) in
    let room = has_room k c.in-Ok.name c.want.result c.words_from.ensures.frame.keeps.lawful gives.has in
    (omega arith, (has_live k c.in-Ok.name c.want.result gives.has, omega (arith, room, c.want.ensures)))

gives : (g : Over) (c : goal.After-set_length g) → Gives c.args.self.now.heap c.words_from.new.self.heap c.in-Ok.name c.want.result
gives g c =
    let h = c.args.self.now.heap in
    subst (λ (s : HeapState). Gives h s c.in-Ok.name c.want.result) (sym c.words_from.ensures.heap) (from_gives h c.args.at c.want.result c.in-Ok.name c.in-Ok.ensures.answer)

pub returns-in-Err-clause-allocates : goal.returns-in-Err-clause-allocates
returns-in-Err-clause-allocates g c =
    record {
      answer_is = search rules;
      gives = search rules;
      place = search rules;
      cases = rw c.want.ensures at c.in-Err.ensures.cases;
      unchanged = search rules;
      touches = search rules;
      rise = search rules;
      leaves = λ k live. c.words_from.ensures.leaves k live;
      wild = search rules;
      unread = search rules;
    }

-- the name is live, with the bytes that lie there
given : (g : Over) (c : goal.After-set_length g) → GivesUnset c.args.self.now.heap c.set_length.new.self.heap c.set_length.new.self.stored (words_from c.args.self.now.heap c.args.at (want c.args.len)).heap c.args.len c.in-Ok.name
given g c =
    let h = c.args.self.now.heap in
    let name = c.in-Ok.name in
    let bytes = lying c.set_length.new.self.stored name.at c.args.len in
    let lawful = c.words_from.ensures.frame.keeps.was_lawful in
    let is = c.set_length.ensures.heap in
    record {
      heap = is ∙ ap (λ (s : HeapState). with_payload s name bytes) (rw c.want.ensures at c.words_from.ensures.heap);
      given = gives_name h c.words_from.new.self.heap name c.want.result (gives g c) lawful bytes c.set_length.new.self.heap is;
      payload = gives_payload h c.words_from.new.self.heap name c.want.result (gives g c) lawful bytes c.set_length.new.self.heap is;
      others = gives_others h c.words_from.new.self.heap name c.want.result (gives g c) lawful bytes c.set_length.new.self.heap is;
    }

-- its place is one of the region
pub returns-clause-allocates : goal.returns-clause-allocates
returns-clause-allocates g c =
    let h = c.args.self.now.heap in
    let e = c.words_from.ensures in
    let room = (c.in-Ok.ensures.cases.ok.0 refl).0 in
    record {
      answer_is = search rules;
      gives = given g c;
      place = (from_has h c.args.at c.want.result c.in-Ok.name (sym c.in-Ok.ensures.answer)).1;
      cases = rw c.want.ensures at c.in-Ok.ensures.cases;
      unchanged = tt;
      touches = search rules;
      rise = search rules;
      leaves = λ k live. c.set_length.ensures.leaves k (subst (λ (s : HeapState). IsLiveWord s.blocks k) (sym e.heap) (live_step h k live 0 (GiveFrom c.args.at c.want.result) tt)) ∙ e.leaves k live;
      wild = free_not_wild refl e.frame.keeps.was_lawful (room.0, room.1) _ _;
      unread = λ none. absurd (none (room.0, room.1.stands));
    }

pub returns-clause-frame : goal.returns-clause-frame
returns-clause-frame g c = record {
  err = search rules;
  keeps = search rules;
  peak =
      let bytes = lying c.set_length.new.self.stored c.in-Ok.name.at c.args.len in
      omega (arith, ap words_in_use c.set_length.ensures.heap, (words_set g.row.SLI c.words_from.new.self.heap (Fill c.in-Ok.name bytes) tt).0, c.words_from.ensures.frame.peak, c.set_length.ensures.frame.most);
  groups = groups_then c.words_from.ensures.frame.groups c.set_length.ensures.frame.groups;
}

-- ---- groups of eight words

pub returns-in-Err-clause-frame : goal.returns-in-Err-clause-frame
returns-in-Err-clause-frame g c = record { err = search rules; keeps = search rules; peak = search rules; groups = more_groups (omega arith) c.words_from.ensures.frame.groups }

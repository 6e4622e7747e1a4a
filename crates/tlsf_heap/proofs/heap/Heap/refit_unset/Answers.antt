use Rattle.tlsf_heap.proofs.Common.{rules, ◌≡◌, ℕ, ◌+◌, ◌≤◌, length, min, sym, ap, ◌∙◌, subst, Ok, arith, err_from_is_err_and, HeapState, want, words_for, Outcome, named, resized, resized_words, payload_words_at, Shows, payload_of, IsLawful, IsLive, IsNameCheck, lying, unset_from, with_payload, Name, Tag, IsOthersWord, IsLiveWord, Fit, Fill, words_in_use}
use Rattle.tlsf_heap.proofs.lemmas.calls.Named.{live_is}
use Rattle.tlsf_heap.proofs.lemmas.calls.OtherBytes.{resized_answers}
use Rattle.tlsf_heap.proofs.lemmas.calls.Unset.{shorter_lives, left_answer, left_room, resized_unset}
use Rattle.tlsf_heap.proofs.lemmas.laws.WordsInUse.{words_set}
use Rattle.tlsf_heap.proofs.lemmas.words.Footprint.{any_word}
use Rattle.tlsf_heap.proofs.lemmas.calls.Leaves.{word_step}
use Rattle.tlsf_words.proofs.Touching.{more_groups, groups_then}
use Rattle.tlsf_heap.proofs.heap.Heap.refit_unset.Goals as goal

pub length-requires : goal.length-requires
length-requires g c = (omega arith, live_is c.args.self.now.heap c.args.name c.requires.0)

pub refit-requires : goal.refit-requires
refit-requires g c =
    let value = c.length.ensures.value in
    (omega arith, (omega (arith, c.want.ensures, c.min-kept.ensures), (rw c.length.ensures.frame.same.heap c.requires, rw c.length.ensures.frame.same.heap (λ kept. omega (arith, value, c.min-kept.ensures)))))

-- the resize is one of the same heap, to the words that are wanted
asked : (h k : HeapState) (name : Name) (n len kept : ℕ) → k ≡ h → n ≡ want len → resized_words k name n kept ≡ resized_words h name (want len) kept
asked h k name n len kept same wanted = ap (λ (s : HeapState). resized_words s name n kept) same ∙ ap (λ (m : ℕ). resized_words h name m kept) wanted

-- ---- the resize is refused

pub returns-in_err-refit-clause-answer : goal.returns-in_err-refit-clause-answer
returns-in_err-refit-clause-answer g c =
    let h = c.args.self.now.heap in
    let p = err_from_is_err_and c.from_residual.result c.from_residual.ensures.1 in
    rw (p.1, p.2) (c.in_err-refit.ensures.answer
    ∙ ap (λ (o : Outcome (Unit {0})). o.answer) (asked h c.length.new.self.heap c.args.name c.want.result c.args.len c.min-kept.result c.length.ensures.frame.same.heap c.want.ensures)
    ∙ resized_answers h c.args.name (want c.args.len) c.min-kept.result c.args.len)

pub returns-in_err-refit-clause-others : goal.returns-in_err-refit-clause-others
returns-in_err-refit-clause-others g c = record {
  leaves = λ k o. c.in_err-refit.ensures.others.leaves k (subst (λ (s : HeapState). IsOthersWord s.blocks c.args.name.at k) (sym c.length.ensures.frame.same.heap) o) ∙ c.length.ensures.frame.leaves k (any_word c.args.self.now.heap.blocks c.args.name.at k o);
  refused = rw (err_from_is_err_and c.from_residual.result c.from_residual.ensures.1).1 (λ k live. c.in_err-refit.ensures.others.refused k (subst (λ (s : HeapState). IsLiveWord s.blocks k) (sym c.length.ensures.frame.same.heap) live) ∙ c.length.ensures.frame.leaves k live);
}

pub returns-in_err-refit-clause-refused_groups : goal.returns-in_err-refit-clause-refused_groups
returns-in_err-refit-clause-refused_groups g c =
    rw (err_from_is_err_and c.from_residual.result c.from_residual.ensures.1).1 (groups_then c.length.ensures.frame.groups c.in_err-refit.ensures.refused_groups)

pub returns-in_err-refit-clause-frame : goal.returns-in_err-refit-clause-frame
returns-in_err-refit-clause-frame g c = record { err = search rules; keeps = search rules; peak = search rules; groups = more_groups (omega arith) (groups_then c.length.ensures.frame.groups c.in_err-refit.ensures.refused_groups) }

-- ---- the bytes lie there

-- it was done, with as many bytes of the payload as stay
record Shortens (h k : HeapState) (name : Name) (len kept : ℕ) : Type 0 where
  lawful : IsLawful h
  live : IsLive h name
  least : kept ≡ min (length (payload_of h name)) len
  answer : (resized_words h name (want len) kept).answer ≡ Ok tt
  heap : k ≡ (resized_words h name (want len) kept).heap

shortens : (h k l : HeapState) (name : Name) (own : Tag) (n len held kept : ℕ) → IsNameCheck h name (Ok own) → IsLawful h → held ≡ length (payload_of h name) → kept ≡ min held len → k ≡ h → n ≡ want len
    → Ok tt ≡ (resized_words k name n kept).answer → l ≡ (resized_words k name n kept).heap → Shortens h l name len kept
shortens h k l name own n len held kept found lawful many least same wanted answer heap =
    let is = asked h k name n len kept same wanted in
    record {
      lawful = lawful;
      live = live_is h name found.0;
      least = omega (arith, least, many);
      answer = sym (answer ∙ ap (λ (o : Outcome (Unit {0})). o.answer) is);
      heap = heap ∙ ap (λ (o : Outcome (Unit {0})). o.heap) is;
    }

pub set_length-requires : goal.set_length-requires
set_length-requires g c =
    let name = c.args.name in
    let s = shortens c.args.self.now.heap c.length.new.self.heap c.refit.new.self.heap name c.args.own c.want.result c.args.len c.length.result c.min-kept.result
    c.requires c.length.ensures.frame.keeps.was_lawful c.length.ensures.value c.min-kept.ensures c.length.ensures.frame.same.heap c.want.ensures c.in_ok-refit.ensures.answer c.in_ok-refit.ensures.heap in (
      omega arith,
      subst (λ (l : HeapState). IsLive l name × (words_for c.args.len ≤ 3 + payload_words_at (named name l.blocks))) (sym s.heap)
          (shorter_lives _ name c.args.len _ s.lawful s.live s.least s.answer, left_room _ name c.args.len _ s.lawful s.live s.least s.answer),
    )

pub returns-clause-answer : goal.returns-clause-answer
returns-clause-answer g c =
    let s = shortens c.args.self.now.heap c.length.new.self.heap c.refit.new.self.heap c.args.name c.args.own c.want.result c.args.len c.length.result c.min-kept.result
    c.requires c.length.ensures.frame.keeps.was_lawful c.length.ensures.value c.min-kept.ensures c.length.ensures.frame.same.heap c.want.ensures c.in_ok-refit.ensures.answer c.in_ok-refit.ensures.heap in
    sym (left_answer _ c.args.name c.args.len _ s.lawful s.live s.least s.answer)

pub returns-clause-heap : goal.returns-clause-heap
returns-clause-heap g c =
    let name = c.args.name in
    let h = c.args.self.now.heap in
    let m = c.set_length.new.self.stored in
    let len = c.args.len in
    let s = shortens h c.length.new.self.heap c.refit.new.self.heap name c.args.own c.want.result len c.length.result c.min-kept.result
    c.requires c.length.ensures.frame.keeps.was_lawful c.length.ensures.value c.min-kept.ensures c.length.ensures.frame.same.heap c.want.ensures c.in_ok-refit.ensures.answer c.in_ok-refit.ensures.heap in
    c.set_length.ensures.heap
    ∙ ap (λ (l : HeapState). with_payload l name (lying m name.at len)) s.heap
    ∙ resized_unset h name len c.min-kept.result s.lawful s.live s.least s.answer c.refit.new.self.stored m (subst (λ (l : HeapState). Shows c.refit.new.self.stored l.blocks) s.heap c.in_ok-refit.ensures.frame.keeps.shows) c.set_length.ensures.lies
    ∙ ap (λ (k : ℕ). unset_from (resized h name len).heap name m k len) s.least

pub returns-clause-touches : goal.returns-clause-touches
returns-clause-touches g c =
    let before = ap (λ (s : HeapState). length (payload_of s c.args.name)) c.length.ensures.frame.same.heap in
    omega (arith, before, c.length.ensures.value, c.min-kept.ensures, c.length.ensures.frame.touches, c.refit.ensures.grown, c.set_length.ensures.frame.touches)

pub returns-clause-frame : goal.returns-clause-frame
returns-clause-frame g c = record {
  err = search rules;
  keeps = search rules;
  peak =
      let name = c.args.name in
      let bytes = lying c.set_length.new.self.stored name.at c.args.len in
      omega (arith, ap words_in_use c.set_length.ensures.heap, (words_set g.row.SLI c.refit.new.self.heap (Fill name bytes) tt).0, c.length.ensures.frame.same.most_in_use, c.refit.ensures.frame.peak, c.set_length.ensures.frame.most);
  groups =
      let before = ap (λ (s : HeapState). length (payload_of s c.args.name)) c.length.ensures.frame.same.heap in
      more_groups (omega (arith, before, c.length.ensures.value, c.min-kept.ensures))
      (groups_then (groups_then c.length.ensures.frame.groups c.in_ok-refit.ensures.frame.groups) c.set_length.ensures.frame.groups);
}

-- ---- the payloads of other blocks

pub returns-clause-others : goal.returns-clause-others
returns-clause-others g c = record {
  leaves = λ k o.
      let h = c.args.self.now.heap in
      let name = c.args.name in
      let was = subst (λ (s : HeapState). IsOthersWord s.blocks name.at k) (sym c.length.ensures.frame.same.heap) o in
      let left = word_step c.length.new.self.heap name.at k was 0 (Fit name c.want.result c.min-kept.result) was.4 in
      c.set_length.ensures.leaves k (subst (λ (s : HeapState). IsLiveWord s.blocks k) (sym c.in_ok-refit.ensures.heap) (any_word _ name.at k left))
      ∙ c.in_ok-refit.ensures.others.leaves k was
      ∙ c.length.ensures.frame.leaves k (any_word h.blocks name.at k o);
  refused = search rules;
}

use Rattle.tlsf_c.proofs.Common.{◌≡◌, ℕ, Ok, Err, refl, HeapState, Refusal, ap, ◌∙◌, arith, seen, words_in_use}
use Rattle.tlsf_heap.proofs.lemmas.calls.Filled.{filled, mid_lives, mid_length}
use Rattle.tlsf_heap.proofs.lemmas.laws.WordsInUse.{words_set}
use Rattle.tlsf_heap.specs.Steps.{Fill}
use Rattle.std.proofs.Common.{replicate, sym}
use Rattle.tlsf_heap.specs.Calls.{allocated_words}
use Rattle.tlsf_heap.proofs.lemmas.calls.Outcomes.{by_allocated_words}
use Rattle.tlsf_c.proofs.Counted.{requested}
use Rattle.tlsf_c.proofs.refused.Refused.allocate.Goals as goal

pub zero_payload-requires : goal.zero_payload-requires
zero_payload-requires g c =
    let given = c.allocate_unset-answer.ensures in
    let kept = given.frame.keeps in
    let unset = rw c.in-Ok.is at given.allocates in
    (omega arith, (mid_lives g.row.SLI _ c.args.len kept.level (omega arith) kept.was_lawful kept.lawful unset, mid_length g.row.SLI _ c.args.len kept.level (omega arith) kept.was_lawful kept.lawful unset))

pub returns-clause-allocates : goal.returns-clause-allocates
returns-clause-allocates g c =
    let given = c.allocate_unset-answer.ensures in
    let kept = given.frame.keeps in
    let zeros = c.zero_payload.ensures in
    filled g.row.SLI _ c.args.len kept.level (omega arith) kept.was_lawful kept.lawful (rw c.in-Ok.is at given.allocates) (seen c.zero_payload.new.self) zeros.heap zeros.frame.touches zeros.frame.keeps.touches_rise zeros.leaves

pub returns-clause-counts : goal.returns-clause-counts
returns-clause-counts g c =
    let given = c.allocate_unset-answer.ensures in
    let zeros = c.zero_payload.ensures in
    let words = ap words_in_use zeros.heap ∙ (words_set g.row.SLI c.allocate_unset-answer.new.self.heap (Fill c.in-Ok.new (replicate c.args.len 0)) tt).0 in
    requested c.args.heap.now c.zero_payload.new.self c.args.self.now c.note.new.self (Ok c.in-Ok.new) c.args.len (rw c.in-Ok.is at c.note.ensures) (omega (arith, words, zeros.frame.most, given.frame.peak)) tt

-- a refused one leaves the heap
left : (sli : ℕ) (h : HeapState) (n len : ℕ) (why : Refusal) → Err why ≡ (allocated_words sli h n len).answer → (allocated_words sli h n len).heap ≡ h
left sli h n len why answer = by_allocated_words sli (λ o. Err why ≡ o.answer → o.heap ≡ h) h n len (λ why e. refl) (λ s site fit e. cc) answer

pub returns-in-Err-clause-allocates : goal.returns-in-Err-clause-allocates
returns-in-Err-clause-allocates g c =
    let unset = rw c.in-Err.is at c.allocate_unset-answer.ensures.allocates in
    record {
      answer_is = unset.answer_is;
      heap = unset.unchanged ∙ sym (left g.row.SLI c.args.heap.now.heap _ c.args.len c.in-Err.why unset.answer_is);
      no_fit = unset.no_fit;
      ok = unset.ok;
      touches = omega (arith, unset.touches);
      few = omega (arith, unset.touches);
      rise = unset.rise;
      leaves = unset.leaves;
    }

-- A heap that is one free block.
use Rattle.tlsf_heap.proofs.Common.{◌≡◌, ℕ, ◌+◌, ◌-◌, ◌≤◌, [], refl, sym, ap, ◌∙◌, arith, HeapState, opened, class_of, most_words, IsLevel, list_in}
use Rattle.tlsf_heap.proofs.lemmas.blocks.Lawful.{opened_lawful}
use Rattle.tlsf_heap.proofs.lemmas.lists.FreeLists.{listed_first}
use Rattle.tlsf_heap.specs.Regions.{IsAlone}
use Rattle.tlsf_heap.specs.Stored.{IsStored}
use Rattle.tlsf_heap.specs.WordsInUse.{words_used}
use Rattle.tlsf_heap.specs.declared.heap.Heap.TheInside.{Inside}

-- it is stored whole
pub stored_alone : (sli words stamp : ℕ) (h : Inside sli) → IsLevel sli → words ≤ most_words sli → IsAlone sli words stamp h.region → h.tick ≡ stamp + 1 → h.usage.words ≡ 0 → IsStored sli h
stored_alone sli words stamp h level small alone tick unused = record {
  level = level;
  lawful = rw (alone.words, alone.blocks, tick) (opened_lawful h.id words stamp alone.least);
  shows = alone.shows;
  small = omega (arith, alone.words, small);
  listed = rw alone.blocks (listed_first sli words stamp (class_of sli words) (λ class. []) (list_in h.region.lists) (λ class. refl) refl alone.list alone.others);
  linked = alone.linked;
  bits = alone.bits;
  in_use = unused ∙ sym (ap words_used alone.blocks);
  most_in_use = omega (arith, unused);
}

-- what is as if opened at a tick was opened at the tick before its own
pub opened_again : (h : HeapState) (id words more first : ℕ) → h ≡ opened id words first → opened h.id more (h.tick - 1) ≡ opened id more first
opened_again h id words more first e =
    let tick : h.tick - 1 ≡ first = omega (arith, ap (λ (s : HeapState). s.tick) e) in
    rw (ap (λ (s : HeapState). s.id) e, tick) refl

pub opened_before : (h : HeapState) (id words first : ℕ) → h ≡ opened id words first → h ≡ opened h.id words (h.tick - 1)
opened_before h id words first e = e ∙ sym (opened_again h id words words first e)

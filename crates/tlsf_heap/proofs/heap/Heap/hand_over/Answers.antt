use Rattle.tlsf_heap.proofs.Common.{rules, ◌≡◌, ℕ, List, take, min, length, ap, ◌∙◌, sym, subst, arith, HeapState, IsLive, released, written, payload_of, Name, IsOthersWord, IsLiveWord, Put}
use Rattle.tlsf_heap.specs.Moved.{copied}
use Rattle.tlsf_heap.proofs.lemmas.calls.ResizeOrMove.{written_tick}
use Rattle.tlsf_heap.proofs.lemmas.laws.Live.{kept_others}
use Rattle.tlsf_heap.proofs.lemmas.words.Footprint.{any_word}
use Rattle.tlsf_heap.proofs.lemmas.calls.Leaves.{word_step}
use Rattle.tlsf_words.proofs.Touching.{more_groups, groups_then}
use Rattle.tlsf_heap.proofs.heap.Heap.hand_over.Goals as goal

-- ---- the block is still live once its payload is copied

still : (sli : ℕ) (h l : HeapState) (name new : Name) (bytes : List ℕ) → IsLive h name → l ≡ (written h new 0 bytes).heap → IsLive l name
still sli h l name new bytes live is = subst (λ (s : HeapState). IsLive s name) (sym is) (kept_others sli h name (Put new 0 bytes) tt live)

pub release_live-requires : goal.release_live-requires
release_live-requires g c =
    let h = c.args.self.now.heap in
    let same = c.length-2.ensures.frame.same.heap ∙ c.length.ensures.frame.same.heap in
    let bytes = take c.min-len.result (payload_of c.length-2.new.self.heap c.args.name) in
    let tick = ap (λ (s : HeapState). s.tick) c.copy.ensures.heap ∙ written_tick c.length-2.new.self.heap c.args.new bytes ∙ ap (λ (s : HeapState). s.tick) same in (
      omega arith,
      (
        still g.row.SLI h c.copy.new.self.heap c.args.name c.args.new bytes c.requires.from (c.copy.ensures.heap ∙ ap (λ (s : HeapState). (written s c.args.new 0 bytes).heap) same),
        λ worn. c.requires.tick (sym tick ∙ worn),
      ),
    )

-- the copy is one of the bytes for which both have room
copy_is : (h once twice copy : HeapState) (name new : Name) (n a b : ℕ) → once ≡ h → twice ≡ once → a ≡ length (payload_of h name) → b ≡ length (payload_of once new) → n ≡ min a b
    → copy ≡ (written twice new 0 (take n (payload_of twice name))).heap → copy ≡ (copied h name new).heap
copy_is h once twice copy name new n a b first second many room least is =
    let held = ap (λ (s : HeapState). length (payload_of s new)) first in
    let some : n ≡ min (length (payload_of h name)) (length (payload_of h new)) = omega (arith, held, least, many, room) in
    is ∙ ap (λ (s : HeapState). (written s new 0 (take n (payload_of s name))).heap) (second ∙ first) ∙ ap (λ (m : ℕ). (written h new 0 (take m (payload_of h name))).heap) some

pub returns-clause-heap : goal.returns-clause-heap
returns-clause-heap g c = c.release_live.ensures.releases.heap ∙ ap (λ (s : HeapState). (released s c.args.name).heap) (copy_is c.args.self.now.heap c.length.new.self.heap c.length-2.new.self.heap c.copy.new.self.heap c.args.name c.args.new c.min-len.result c.length.result c.length-2.result
    c.length.ensures.frame.same.heap c.length-2.ensures.frame.same.heap c.length.ensures.value c.length-2.ensures.value c.min-len.ensures c.copy.ensures.heap)

-- ---- the payloads of other blocks

pub returns-clause-leaves : goal.returns-clause-leaves
returns-clause-leaves g c k o p =
    let h = c.args.self.now.heap in
    let name = c.args.name in
    let new = c.args.new in
    let once = c.length.ensures.frame.same.heap in
    let same = c.length-2.ensures.frame.same.heap ∙ once in
    let was = subst (λ (s : HeapState). IsOthersWord s.blocks name.at k) (sym same) o in
    let last = subst (λ (s : HeapState). IsOthersWord s.blocks name.at k) (sym c.copy.ensures.heap) (word_step c.length-2.new.self.heap name.at k was 0 (Put new 0 _) tt) in
    c.release_live.ensures.releases.leaves k last
    ∙ c.copy.ensures.leaves k was (subst (λ (s : HeapState). IsOthersWord s.blocks new.at k) (sym same) p)
    ∙ c.length-2.ensures.frame.leaves k (subst (λ (s : HeapState). IsLiveWord s.blocks k) (sym once) (any_word h.blocks name.at k o))
    ∙ c.length.ensures.frame.leaves k (any_word h.blocks name.at k o)

-- ---- groups of eight words

pub returns-clause-frame : goal.returns-clause-frame
returns-clause-frame g c = record {
  keeps = search rules;
  most = search rules;
  touches = search rules;
  groups =
      let held = ap (λ (s : HeapState). length (payload_of s c.args.new)) c.length.ensures.frame.same.heap in
      more_groups (omega (arith, held, c.min-len.ensures, c.length.ensures.value, c.length-2.ensures.value))
      (groups_then (groups_then (groups_then c.length.ensures.frame.groups c.length-2.ensures.frame.groups) c.copy.ensures.frame.groups) c.release_live.ensures.frame.groups);
}

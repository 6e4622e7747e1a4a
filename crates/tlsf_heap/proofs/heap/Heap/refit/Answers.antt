use Rattle.tlsf_heap.proofs.Common.{rules, ◌≡◌, ℕ, Bool, false, bytes_of, block_at, Name, IsNamed, ◌+◌, ◌-◌, ◌/◌, ◌≤◌, List, length, sym, ap, ◌∙◌, subst, arith, HeapState, words_for, payload_words_at, named, site_at, IsTagOf, Shown, state_of, payload_of, InGroups, IsOthersWord, refl}
use Rattle.tlsf_class.proofs.TwoLevels.{most_words_any}
use Rattle.tlsf_heap.proofs.lemmas.calls.Alter.{payload_is}
use Rattle.tlsf_heap.proofs.lemmas.calls.Allocate.{in_order, awaits_tick, tick_read}
use Rattle.tlsf_heap.proofs.lemmas.calls.LeftBlock.{Found, found, room_with, room_small, resizes_short, resizes_worn, resizes_done, payload_left}
use Rattle.tlsf_heap.proofs.lemmas.calls.Named.{named_stands, named_live}
use Rattle.tlsf_heap.proofs.lemmas.words.Says.{at_index}
use Rattle.tlsf_heap.proofs.lemmas.calls.Kept.{keeps_stored, less_use, more_use, stored_read}
use Rattle.tlsf_heap.proofs.lemmas.calls.Leaves.{seen_live}
use Rattle.tlsf_heap.proofs.lemmas.blocks.Used.{used_small}
use Rattle.tlsf_heap.proofs.lemmas.words.Footprint.{any_word}
use Rattle.tlsf_words.proofs.Touching.{more_groups, groups_then}
use Rattle.tlsf_heap.proofs.lemmas.calls.Frames.{found_none, found_read, same_peak, settles_found, spares_found}
use Rattle.tlsf_heap.proofs.heap.Heap.refit.Goals as goal

-- ---- the words that it has are enough, and the tick is at its last value

pub returns-then-self-clause-answer : goal.returns-then-self-clause-answer
returns-then-self-clause-answer g c =
    let same : state_of g.row.SLI c.self.inside ≡ c.args.self.now.heap = ap (λ (s : Shown). s.heap) c.self.view_is in
    let f : Found (state_of g.row.SLI c.self.inside) c.args.name c.args.own = found same c.requires.found in
    (resizes_worn g.row.SLI f same c.self.invariant.lawful c.args.words c.args.len c.requires.payload c.self.inside.region refl refl (omega (arith, c.if-words-held.true, c.size-held.ensures.value, f.is_own.size)) c.if-self.true).is_answer

pub returns-then-self-clause-heap : goal.returns-then-self-clause-heap
returns-then-self-clause-heap g c =
    let same : state_of g.row.SLI c.self.inside ≡ c.args.self.now.heap = ap (λ (s : Shown). s.heap) c.self.view_is in
    let f : Found (state_of g.row.SLI c.self.inside) c.args.name c.args.own = found same c.requires.found in
    sym same ∙ (resizes_worn g.row.SLI f same c.self.invariant.lawful c.args.words c.args.len c.requires.payload c.self.inside.region refl refl (omega (arith, c.if-words-held.true, c.size-held.ensures.value, f.is_own.size)) c.if-self.true).is_heap

pub returns-then-self-clause-frame : goal.returns-then-self-clause-frame
returns-then-self-clause-frame g c =
    let look = found_none g.row.SLI c.self.inside c.self.view_is c.self.invariant in
    settles_found (omega arith) (same_peak look.same look.keeps) look

-- ---- they are enough

-- the block that has the name has the payload that the name has
shorter : {h k : HeapState} {name : Name} {grows : Bool} {len : ℕ} → h ≡ k → (is_named : IsNamed h name) → (grows ≡ false → len ≤ length (payload_of k name)) → grows ≡ false → len ≤ length (bytes_of (block_at h.blocks is_named.1.0))
shorter {h = h} {name = name} same is_named least kept =
    let less = least kept in
    omega (arith, less, ap (λ (l : List ℕ). length l) (ap (λ (s : HeapState). payload_of s name) (sym same) ∙ payload_is h name is_named))

pub shrink-left-requires : goal.shrink-left-requires
shrink-left-requires g c =
    let h = state_of g.row.SLI c.self.inside in
    let same : h ≡ c.args.self.now.heap = ap (λ (s : Shown). s.heap) c.self.view_is in
    let f : Found h c.args.name c.args.own = found same c.requires.found in
    let stands = named_stands _ _ _ _ f.named.1.1 in (
      omega arith,
      (
        awaits_tick g.row.SLI c.self.inside c.self.invariant,
        (
          omega (arith, c.requires.payload),
          (
            omega (arith, c.requires.payload),
            (
              (f.named.1.0, stands, named_live _ _ _ _ f.named.1.1),
              (
                λ i there. at_index c.self.invariant.shows (λ (i : ℕ). c.args.grows ≡ false → c.args.len ≤ length (bytes_of (block_at c.self.inside.region.blocks i)))
                    (f.named.1.0, stands, shorter same f.named c.requires.grows) there,
                (
                  λ i there. at_index c.self.invariant.shows (λ (i : ℕ). IsTagOf c.self.inside.region.words (site_at c.self.inside.region.blocks i) c.args.own) (f.named.1.0, stands, f.is_own) there,
                  omega (arith, c.if-words-held.true, c.size-held.ensures.value),
                ),
              ),
            ),
          ),
        ),
      ),
    )

pub invariant_of-self : goal.invariant_of-self
invariant_of-self g c =
    let h = state_of g.row.SLI c.self.inside in
    let same : h ≡ c.args.self.now.heap = ap (λ (s : Shown). s.heap) c.self.view_is in
    let f : Found h c.args.name c.args.own = found same c.requires.found in
    let e = c.shrink-left.ensures in
    let done = resizes_done g.row.SLI f same c.self.invariant.lawful c.args.words c.args.len c.requires.payload (omega (arith, c.if-words-held.true, c.size-held.ensures.value, f.is_own.size)) c.if-self.false
    c.shrink-left.new.region e.edits.words (e.blocks f.named.1.0 (named_stands _ _ _ _ f.named.1.1)) in
    let used = less_use g.row.SLI c.self.inside c.self.view_is c.self.invariant c.shrink-left.new.region.blocks (c.size-held.result - c.shrink-left.result) c.take_back.new.self (omega (arith, e.used, e.less, c.size-held.ensures.value)) c.take_back.ensures in
    record {
      lawful = done.lawful;
      shows = e.edits.shows;
      linked = e.edits.linked;
      bits = e.edits.bits;
      level = c.self.invariant.level;
      small = omega (arith, e.edits.words, c.self.invariant.small);
      listed = e.listed;
      in_use = used.words;
      most_in_use = used.most;
    }

pub returns-then-words-held-clause-answer : goal.returns-then-words-held-clause-answer
returns-then-words-held-clause-answer g c =
    let h = state_of g.row.SLI c.self.inside in
    let same : h ≡ c.args.self.now.heap = ap (λ (s : Shown). s.heap) c.self.view_is in
    let f : Found h c.args.name c.args.own = found same c.requires.found in
    let e = c.shrink-left.ensures in
    (resizes_done g.row.SLI f same c.self.invariant.lawful c.args.words c.args.len c.requires.payload (omega (arith, c.if-words-held.true, c.size-held.ensures.value, f.is_own.size)) c.if-self.false
    c.shrink-left.new.region e.edits.words (e.blocks f.named.1.0 (named_stands _ _ _ _ f.named.1.1))).is_answer

pub returns-then-words-held-clause-heap : goal.returns-then-words-held-clause-heap
returns-then-words-held-clause-heap g c =
    let h = state_of g.row.SLI c.self.inside in
    let same : h ≡ c.args.self.now.heap = ap (λ (s : Shown). s.heap) c.self.view_is in
    let f : Found h c.args.name c.args.own = found same c.requires.found in
    let e = c.shrink-left.ensures in
    (resizes_done g.row.SLI f same c.self.invariant.lawful c.args.words c.args.len c.requires.payload (omega (arith, c.if-words-held.true, c.size-held.ensures.value, f.is_own.size)) c.if-self.false
    c.shrink-left.new.region e.edits.words (e.blocks f.named.1.0 (named_stands _ _ _ _ f.named.1.1))).is_heap

pub returns-then-words-held-clause-frame : goal.returns-then-words-held-clause-frame
returns-then-words-held-clause-frame g c = record {
  err = search rules;
  keeps = keeps_stored g.row.SLI c.self.inside c.self.view_is c.self.invariant _ (invariant_of-self g c) c.shrink-left.ensures.edits.rise c.shrink-left.ensures.edits.stays;
  peak = search rules;
  groups =
      let h = state_of g.row.SLI c.self.inside in
      let same : h ≡ c.args.self.now.heap = ap (λ (s : Shown). s.heap) c.self.view_is in
      let f : Found h c.args.name c.args.own = found same c.requires.found in
      let held = ap (λ (l : List ℕ). length l) (ap (λ (s : HeapState). payload_of s c.args.name) (sym same) ∙ payload_is h c.args.name f.named) in
      subst (λ (s : Shown). InGroups (13 + (c.args.len - length (payload_of c.args.self.now.heap c.args.name)) / 64) s.touched c.shrink-left.new.region.touched) c.self.view_is
      (more_groups (omega (arith, held)) (c.shrink-left.ensures.groups f.named.1.0 (named_stands _ _ _ _ f.named.1.1)));
}

-- twenty-one to cut the block, and the payload: of that only what grows
pub returns-then-words-held-clause-touches : goal.returns-then-words-held-clause-touches
returns-then-words-held-clause-touches g c =
    let h = state_of g.row.SLI c.self.inside in
    let same : h ≡ c.args.self.now.heap = ap (λ (s : Shown). s.heap) c.self.view_is in
    let f : Found h c.args.name c.args.own = found same c.requires.found in
    let e = c.shrink-left.ensures in
    let left : words_for c.args.len ≤ 3 + payload_words_at (named c.args.name c.shrink-left.new.region.blocks) = payload_left g.row.SLI f same c.self.invariant.lawful c.args.words c.args.len c.requires.payload (omega (arith, c.if-words-held.true, c.size-held.ensures.value, f.is_own.size)) c.if-self.false
    c.shrink-left.new.region e.edits.words (e.blocks f.named.1.0 (named_stands _ _ _ _ f.named.1.1)) c.self.invariant.small in
    omega (arith, left, e.edits.touches, ap (λ (s : Shown). s.touches) c.self.view_is)

pub returns-then-words-held-clause-grown : goal.returns-then-words-held-clause-grown
returns-then-words-held-clause-grown g c =
    let h = state_of g.row.SLI c.self.inside in
    let same : h ≡ c.args.self.now.heap = ap (λ (s : Shown). s.heap) c.self.view_is in
    let f : Found h c.args.name c.args.own = found same c.requires.found in
    let held = ap (λ (l : List ℕ). words_for (length l)) (ap (λ (s : HeapState). payload_of s c.args.name) (sym same) ∙ payload_is h c.args.name f.named) in
    omega (arith, c.shrink-left.ensures.grown f.named.1.0 (named_stands _ _ _ _ f.named.1.1), held, ap (λ (s : Shown). s.touches) c.self.view_is)

-- ---- more are wanted: the block behind

pub look_behind-next-requires : goal.look_behind-next-requires
look_behind-next-requires g c =
    let f : Found (state_of g.row.SLI c.self.inside) c.args.name c.args.own = found (ap (λ (s : Shown). s.heap) c.self.view_is) c.requires.found in
    (omega arith, ((f.named.1.0, named_stands _ _ _ _ f.named.1.1, f.is_own), in_order g.row.SLI c.self.inside c.self.invariant))

pub overflow_add-room : goal.overflow_add-room
overflow_add-room g c =
    let same : state_of g.row.SLI c.self.inside ≡ c.args.self.now.heap = ap (λ (s : Shown). s.heap) c.self.view_is in
    let f : Found (state_of g.row.SLI c.self.inside) c.args.name c.args.own = found same c.requires.found in
    omega (arith, c.size-held.ensures.value, c.size.ensures.value, room_with f c.look_behind-next.ensures.tag, room_small g.row.SLI f same c.self.invariant.lawful c.args.words c.args.len c.requires.payload, c.self.invariant.small, most_words_any g.row.SLI)

-- ---- there is no room

pub returns-then-room-words-clause-answer : goal.returns-then-room-words-clause-answer
returns-then-room-words-clause-answer g c =
    let same : state_of g.row.SLI c.self.inside ≡ c.args.self.now.heap = ap (λ (s : Shown). s.heap) c.self.view_is in
    let f : Found (state_of g.row.SLI c.self.inside) c.args.name c.args.own = found same c.requires.found in
    let reads = c.look_behind-next.ensures.reads in
    (resizes_short g.row.SLI f same c.self.invariant.lawful c.args.words c.args.len c.requires.payload c.look_behind-next.new.region reads.words reads.blocks (omega (arith, c.if-room-words.true, c.size-held.ensures.value, c.size.ensures.value, room_with f c.look_behind-next.ensures.tag))).is_answer

pub returns-then-room-words-clause-heap : goal.returns-then-room-words-clause-heap
returns-then-room-words-clause-heap g c =
    let same : state_of g.row.SLI c.self.inside ≡ c.args.self.now.heap = ap (λ (s : Shown). s.heap) c.self.view_is in
    let f : Found (state_of g.row.SLI c.self.inside) c.args.name c.args.own = found same c.requires.found in
    let reads = c.look_behind-next.ensures.reads in
    (resizes_short g.row.SLI f same c.self.invariant.lawful c.args.words c.args.len c.requires.payload c.look_behind-next.new.region reads.words reads.blocks (omega (arith, c.if-room-words.true, c.size-held.ensures.value, c.size.ensures.value, room_with f c.look_behind-next.ensures.tag))).is_heap

pub returns-then-room-words-clause-frame : goal.returns-then-room-words-clause-frame
returns-then-room-words-clause-frame g c =
    let look = found_read g.row.SLI c.self.inside c.self.view_is c.self.invariant _ c.look_behind-next.ensures.reads c.look_behind-next.ensures.touched c.look_behind-next.ensures.groups in
    settles_found (omega arith) (same_peak look.same look.keeps) look

-- ---- the tick is at its last value

pub invariant_of-self-then-self-2 : goal.invariant_of-self-then-self-2
invariant_of-self-then-self-2 g c = stored_read g.row.SLI c.self.inside c.self.view_is c.self.invariant _ c.look_behind-next.ensures.reads

pub returns-then-self-2-clause-answer : goal.returns-then-self-2-clause-answer
returns-then-self-2-clause-answer g c =
    let same : state_of g.row.SLI c.self.inside ≡ c.args.self.now.heap = ap (λ (s : Shown). s.heap) c.self.view_is in
    let f : Found (state_of g.row.SLI c.self.inside) c.args.name c.args.own = found same c.requires.found in
    let reads = c.look_behind-next.ensures.reads in
    (resizes_worn g.row.SLI f same c.self.invariant.lawful c.args.words c.args.len c.requires.payload c.look_behind-next.new.region reads.words reads.blocks (omega (arith, c.if-room-words.false, c.size-held.ensures.value, c.size.ensures.value, room_with f c.look_behind-next.ensures.tag)) c.if-self-2.true).is_answer

pub returns-then-self-2-clause-heap : goal.returns-then-self-2-clause-heap
returns-then-self-2-clause-heap g c =
    let same : state_of g.row.SLI c.self.inside ≡ c.args.self.now.heap = ap (λ (s : Shown). s.heap) c.self.view_is in
    let f : Found (state_of g.row.SLI c.self.inside) c.args.name c.args.own = found same c.requires.found in
    let reads = c.look_behind-next.ensures.reads in
    (resizes_worn g.row.SLI f same c.self.invariant.lawful c.args.words c.args.len c.requires.payload c.look_behind-next.new.region reads.words reads.blocks (omega (arith, c.if-room-words.false, c.size-held.ensures.value, c.size.ensures.value, room_with f c.look_behind-next.ensures.tag)) c.if-self-2.true).is_heap

pub returns-then-self-2-clause-frame : goal.returns-then-self-2-clause-frame
returns-then-self-2-clause-frame g c =
    let look = found_read g.row.SLI c.self.inside c.self.view_is c.self.invariant _ c.look_behind-next.ensures.reads c.look_behind-next.ensures.touched c.look_behind-next.ensures.groups in
    settles_found (omega arith) (same_peak look.same look.keeps) look

pub returns-then-self-2-clause-others : goal.returns-then-self-2-clause-others
returns-then-self-2-clause-others g c =
    spares_found (found_read g.row.SLI c.self.inside c.self.view_is c.self.invariant _ c.look_behind-next.ensures.reads c.look_behind-next.ensures.touched c.look_behind-next.ensures.groups)

-- ---- the block grows

pub grow-left-requires : goal.grow-left-requires
grow-left-requires g c =
    let h = state_of g.row.SLI c.self.inside in
    let f : Found h c.args.name c.args.own = found (ap (λ (s : Shown). s.heap) c.self.view_is) c.requires.found in
    let stands = named_stands _ _ _ _ f.named.1.1 in
    let reads = c.look_behind-next.ensures.reads in (
      omega arith,
      (
        tick_read (awaits_tick g.row.SLI c.self.inside c.self.invariant) reads,
        (
          omega (arith, c.requires.payload),
          (
            omega (arith, c.requires.payload),
            (
              rw reads.blocks (f.named.1.0, stands, named_live _ _ _ _ f.named.1.1),
              (
                rw reads.blocks (λ i there. at_index c.self.invariant.shows (λ (i : ℕ). c.args.grows ≡ false → c.args.len ≤ length (bytes_of (block_at c.self.inside.region.blocks i)))
                    (f.named.1.0, stands, shorter (ap (λ (s : Shown). s.heap) c.self.view_is) f.named c.requires.grows) there),
                (
                  rw (reads.blocks, reads.words) (λ i there. at_index c.self.invariant.shows (λ (i : ℕ). IsTagOf c.self.inside.region.words (site_at c.self.inside.region.blocks i) c.args.own) (f.named.1.0, stands, f.is_own) there),
                  (
                    rw (reads.blocks, reads.words) c.look_behind-next.ensures.tag,
                    (
                      omega (arith, c.if-words-held.false, c.size-held.ensures.value),
                      (
                        omega (arith, c.if-room-words.false, c.size-held.ensures.value, c.size.ensures.value),
                        rw reads.blocks c.self.invariant.lawful.rooms,
                      ),
                    ),
                  ),
                ),
              ),
            ),
          ),
        ),
      ),
    )

-- more words are in use, and no more than the region has
pub give-requires : goal.give-requires
give-requires g c =
    let e = c.grow-left.ensures in
    omega (arith, used_small e.edits.shows, (rw c.look_behind-next.ensures.reads.blocks at e.used), e.more, c.size-held.ensures.value, c.self.invariant.in_use)

pub invariant_of-self-2 : goal.invariant_of-self-2
invariant_of-self-2 g c =
    let h = state_of g.row.SLI c.self.inside in
    let same : h ≡ c.args.self.now.heap = ap (λ (s : Shown). s.heap) c.self.view_is in
    let f : Found h c.args.name c.args.own = found same c.requires.found in
    let reads = c.look_behind-next.ensures.reads in
    let e = c.grow-left.ensures in
    let done = resizes_done g.row.SLI f same c.self.invariant.lawful c.args.words c.args.len c.requires.payload (omega (arith, c.if-room-words.false, c.size-held.ensures.value, c.size.ensures.value, room_with f c.look_behind-next.ensures.tag)) c.if-self-2.false
    c.grow-left.new.region (e.edits.words ∙ reads.words) ((rw reads.blocks at e.blocks) f.named.1.0 (named_stands _ _ _ _ f.named.1.1)) in
    let used = more_use g.row.SLI c.self.inside c.self.view_is c.self.invariant c.grow-left.new.region.blocks (c.grow-left.result - c.size-held.result) c.give.new.self (omega (arith, (rw reads.blocks at e.used), e.more, c.size-held.ensures.value)) c.give.ensures in
    record {
      lawful = done.lawful;
      shows = e.edits.shows;
      linked = e.edits.linked;
      bits = e.edits.bits;
      level = c.self.invariant.level;
      small = omega (arith, e.edits.words, reads.words, c.self.invariant.small);
      listed = e.listed;
      in_use = used.words;
      most_in_use = used.most;
    }

pub returns-clause-answer : goal.returns-clause-answer
returns-clause-answer g c =
    let h = state_of g.row.SLI c.self.inside in
    let same : h ≡ c.args.self.now.heap = ap (λ (s : Shown). s.heap) c.self.view_is in
    let f : Found h c.args.name c.args.own = found same c.requires.found in
    let reads = c.look_behind-next.ensures.reads in
    let e = c.grow-left.ensures in
    (resizes_done g.row.SLI f same c.self.invariant.lawful c.args.words c.args.len c.requires.payload (omega (arith, c.if-room-words.false, c.size-held.ensures.value, c.size.ensures.value, room_with f c.look_behind-next.ensures.tag)) c.if-self-2.false
    c.grow-left.new.region (e.edits.words ∙ reads.words) ((rw reads.blocks at e.blocks) f.named.1.0 (named_stands _ _ _ _ f.named.1.1))).is_answer

pub returns-clause-heap : goal.returns-clause-heap
returns-clause-heap g c =
    let h = state_of g.row.SLI c.self.inside in
    let same : h ≡ c.args.self.now.heap = ap (λ (s : Shown). s.heap) c.self.view_is in
    let f : Found h c.args.name c.args.own = found same c.requires.found in
    let reads = c.look_behind-next.ensures.reads in
    let e = c.grow-left.ensures in
    (resizes_done g.row.SLI f same c.self.invariant.lawful c.args.words c.args.len c.requires.payload (omega (arith, c.if-room-words.false, c.size-held.ensures.value, c.size.ensures.value, room_with f c.look_behind-next.ensures.tag)) c.if-self-2.false
    c.grow-left.new.region (e.edits.words ∙ reads.words) ((rw reads.blocks at e.blocks) f.named.1.0 (named_stands _ _ _ _ f.named.1.1))).is_heap

pub returns-clause-frame : goal.returns-clause-frame
returns-clause-frame g c = record {
  err = search rules;
  keeps = keeps_stored g.row.SLI c.self.inside c.self.view_is c.self.invariant _ (invariant_of-self-2 g c) (omega (arith, c.grow-left.ensures.edits.rise, c.look_behind-next.ensures.reads.rise)) (c.grow-left.ensures.edits.stays ∙ c.look_behind-next.ensures.reads.stays);
  peak = search rules;
  groups =
      let h = state_of g.row.SLI c.self.inside in
      let same : h ≡ c.args.self.now.heap = ap (λ (s : Shown). s.heap) c.self.view_is in
      let f : Found h c.args.name c.args.own = found same c.requires.found in
      let held = ap (λ (l : List ℕ). length l) (ap (λ (s : HeapState). payload_of s c.args.name) (sym same) ∙ payload_is h c.args.name f.named) in
      let fitted = (rw c.look_behind-next.ensures.reads.blocks at c.grow-left.ensures.groups) f.named.1.0 (named_stands _ _ _ _ f.named.1.1) in
      subst (λ (s : Shown). InGroups (13 + (c.args.len - length (payload_of c.args.self.now.heap c.args.name)) / 64) s.touched c.grow-left.new.region.touched) c.self.view_is
      (more_groups (omega (arith, held)) (groups_then c.look_behind-next.ensures.groups fitted));
}

-- one for the tag behind, twenty to cut the block, and the payload: of that only what grows
pub returns-clause-touches : goal.returns-clause-touches
returns-clause-touches g c =
    let h = state_of g.row.SLI c.self.inside in
    let same : h ≡ c.args.self.now.heap = ap (λ (s : Shown). s.heap) c.self.view_is in
    let f : Found h c.args.name c.args.own = found same c.requires.found in
    let reads = c.look_behind-next.ensures.reads in
    let e = c.grow-left.ensures in
    let left : words_for c.args.len ≤ 3 + payload_words_at (named c.args.name c.grow-left.new.region.blocks) = payload_left g.row.SLI f same c.self.invariant.lawful c.args.words c.args.len c.requires.payload (omega (arith, c.if-room-words.false, c.size-held.ensures.value, c.size.ensures.value, room_with f c.look_behind-next.ensures.tag)) c.if-self-2.false
    c.grow-left.new.region (e.edits.words ∙ reads.words) ((rw reads.blocks at e.blocks) f.named.1.0 (named_stands _ _ _ _ f.named.1.1)) c.self.invariant.small in
    omega (arith, left, e.edits.touches, reads.touches, ap (λ (s : Shown). s.touches) c.self.view_is)

pub returns-clause-grown : goal.returns-clause-grown
returns-clause-grown g c =
    let h = state_of g.row.SLI c.self.inside in
    let same : h ≡ c.args.self.now.heap = ap (λ (s : Shown). s.heap) c.self.view_is in
    let f : Found h c.args.name c.args.own = found same c.requires.found in
    let reads = c.look_behind-next.ensures.reads in
    let held = ap (λ (l : List ℕ). words_for (length l)) (ap (λ (s : HeapState). payload_of s c.args.name) (sym same) ∙ payload_is h c.args.name f.named) in
    omega (arith, (rw reads.blocks at c.grow-left.ensures.grown) f.named.1.0 (named_stands _ _ _ _ f.named.1.1), held, reads.touches, ap (λ (s : Shown). s.touches) c.self.view_is)

pub returns-clause-others : goal.returns-clause-others
returns-clause-others g c = record {
  leaves = λ k o.
      let same = ap (λ (s : Shown). s.heap) c.self.view_is in
      let reads = c.look_behind-next.ensures.reads in
      (rw reads.blocks at c.grow-left.ensures.touched) k (subst (λ (h : HeapState). IsOthersWord h.blocks c.args.name.at k) (sym same) o)
      ∙ seen_live g.row.SLI c.self.inside c.self.view_is _ c.look_behind-next.ensures.touched k (any_word c.args.self.now.heap.blocks c.args.name.at k o);
  refused = search rules;
}

pub returns-then-room-words-clause-others : goal.returns-then-room-words-clause-others
returns-then-room-words-clause-others g c =
    spares_found (found_read g.row.SLI c.self.inside c.self.view_is c.self.invariant _ c.look_behind-next.ensures.reads c.look_behind-next.ensures.touched c.look_behind-next.ensures.groups)

-- The region of a new heap is lengthened, and its tick stays.
use Rattle.tlsf_heap.proofs.Common.{◌≡◌, ℕ, ◌+◌, ◌-◌, ◌∷◌, [], List, ap, ◌∙◌, subst, arith, list_in, opened, Block, Free, HeapState, AreFreeLists, Shown, state_of}
use Rattle.tlsf_class.proofs.Tables.{class_of-first}
use Rattle.tlsf_heap.proofs.lemmas.calls.Alone.{stored_alone}
use Rattle.tlsf_heap.proofs.lemmas.lists.FreeLists.{stored_lists, listed_alone}
use Rattle.tlsf_heap.specs.WordsInUse.{words_used}
use Rattle.tlsf_heap.proofs.heap.Heap.begin.Goals as goal

-- a heap that is as if opened at the tick before its own
record IsNew (h now : HeapState) : Type 0 where
  same : h ≡ now
  words : h.words ≡ 4
  blocks : h.blocks ≡ Free 4 (now.tick - 1) ∷ []
  tick : now.tick ≡ now.tick - 1 + 1
  stamp : h.tick - 1 ≡ now.tick - 1

is_new : (h now : HeapState) → h ≡ now → now ≡ opened now.id 4 (now.tick - 1) → IsNew h now
is_new h now same new = record {
  same = same;
  words = ap (λ (s : HeapState). s.words) (same ∙ new);
  blocks = ap (λ (s : HeapState). s.blocks) (same ∙ new);
  tick = ap (λ (s : HeapState). s.tick) new;
  stamp = ap (λ (s : HeapState). s.tick - 1) same;
}

pub overflow_sub-stamp : goal.overflow_sub-stamp
overflow_sub-stamp g c =
    let new = is_new (state_of g.row.SLI c.self.inside) c.args.self.now.heap (ap (λ (s : Shown). s.heap) c.self.view_is) c.requires.new in
    omega (arith, new.tick, ap (λ (s : HeapState). s.tick) new.same)

pub lengthen-requires : goal.lengthen-requires
lengthen-requires g c =
    let new = is_new (state_of g.row.SLI c.self.inside) c.args.self.now.heap (ap (λ (s : Shown). s.heap) c.self.view_is) c.requires.new in
    let lists = list_in c.self.inside.region.lists in (
      omega arith,
      (
        c.self.invariant.level,
        (
          omega (arith, new.words, c.requires.words.0),
          (
            c.requires.words.1,
            (
              omega (arith, c.requires.words_room, ap (λ (s : Shown). s.extents.words.capacity) c.self.view_is),
              (
                omega (arith, c.requires.starts_room, ap (λ (s : Shown). s.extents.starts.capacity) c.self.view_is),
                λ other n.
                    listed_alone g.row.SLI 4 (c.args.self.now.heap.tick - 1) lists (subst (λ (bs : List Block). AreFreeLists g.row.SLI bs lists) new.blocks c.self.invariant.listed) other (λ e. n (e ∙ class_of-first g.row.SLI c.self.invariant.level)),
              ),
            ),
          ),
        ),
      ),
    )

pub invariant_of-self : goal.invariant_of-self
invariant_of-self g c =
    let new = is_new (state_of g.row.SLI c.self.inside) c.args.self.now.heap (ap (λ (s : Shown). s.heap) c.self.view_is) c.requires.new in
    stored_alone g.row.SLI c.args.words (c.self.inside.tick - 1) _ c.self.invariant.level c.requires.words.1 c.lengthen.ensures.alone
    (omega (arith, new.tick, ap (λ (s : HeapState). s.tick) new.same)) (c.self.invariant.in_use ∙ ap words_used new.blocks)

pub returns-clause-heap : goal.returns-clause-heap
returns-clause-heap g c =
    let now = c.args.self.now.heap in
    let new = is_new (state_of g.row.SLI c.self.inside) now (ap (λ (s : Shown). s.heap) c.self.view_is) c.requires.new in
    let alone = c.lengthen.ensures.alone in
    let at : HeapState → HeapState = λ h. record { id = h.id; words = c.args.words; tick = h.tick; blocks = Free c.args.words (h.tick - 1) ∷ [] } in
    let ticks : ℕ → HeapState = λ t. record { id = now.id; words = c.args.words; tick = t; blocks = Free c.args.words (now.tick - 1) ∷ [] } in
    rw (alone.words, alone.blocks) (ap at new.same ∙ ap ticks new.tick)

pub returns-clause-lawful : goal.returns-clause-lawful
returns-clause-lawful g c = (invariant_of-self g c).lawful

pub returns-clause-shows : goal.returns-clause-shows
returns-clause-shows g c = (invariant_of-self g c).shows

pub returns-clause-lists : goal.returns-clause-lists
returns-clause-lists g c = stored_lists g.row.SLI _ (invariant_of-self g c)

use Rattle.tlsf_heap.proofs.Common.{◌≡◌, ◌-◌, sym, ap, ◌∙◌, subst, arith, opened, HeapState, LedgerState}
use Rattle.tlsf_heap.proofs.ledger.ledgered.Ledgered.begin.Goals as goal

pub begin-requires : goal.begin-requires
begin-requires g c =
    let P : HeapState → Type 0 = λ h. h ≡ opened h.id 4 (h.tick - 1) in (
      omega arith,
      (
        subst P (sym (ap (λ (s : LedgerState _). s.heap) c.self.view_is)) c.requires.new,
        (
          c.requires.words,
          (
            omega (arith, c.requires.words_room, ap (λ (s : LedgerState _). s.extents.words.capacity) c.self.view_is),
            omega (arith, c.requires.starts_room, ap (λ (s : LedgerState _). s.extents.starts.capacity) c.self.view_is),
          ),
        ),
      ),
    )

pub returns-clause-heap : goal.returns-clause-heap
returns-clause-heap g c = c.begin.ensures.heap ∙ ap (λ (s : LedgerState _). opened s.heap.id c.args.words (s.heap.tick - 1)) c.self.view_is

pub invariant_of-self : goal.invariant_of-self
invariant_of-self g c = record { lawful = c.begin.ensures.lawful; holds = rw (returns-clause-heap g c) c.requires.holds }

pub returns-clause-is : goal.returns-clause-is
returns-clause-is g c = invariant_of-self g c

use Rattle.tlsf_heap.proofs.Common.{◌≡◌, ◌∙◌, ℕ, Result, Ok, Err, ap, sym, subst, rules, HeapState, allocated_words, allocate_touches, Allocates, seen_by, Seen, seen, Name, Refusal, LeavesLive, LedgerState}
use Rattle.tlsf_heap.proofs.ledger.ledgered.Ledgered.allocate.Goals as goal

pub invariant_of-self-2 : goal.invariant_of-self-2
invariant_of-self-2 g c =
    let e = c.in-Ok-allocate_words.ensures in
    let h = c.self.inside.heap.heap in
    let takes = c.words-words.ensures.takes in
    let heap = e.allocates.heap ∙ ap (λ (n : ℕ). (allocated_words g.row.SLI h n c.args.len).heap) takes in
    let answer = e.allocates.answer_is ∙ ap (λ (n : ℕ). (allocated_words g.row.SLI h n c.args.len).answer) takes in record {
      lawful = e.frame.keeps.lawful;
      holds = subst (λ (k : HeapState). g.L.Ledger.holds g.row.SLI k c.give.new.self) (sym heap) (c.give.ensures.holds g.row.SLI _ c.in-Ok-allocate_words.name c.self.invariant.holds answer);
    }

pub returns-clause-frame : goal.returns-clause-frame
returns-clause-frame g c = record { limits = search rules; err = tt; keeps = record { was = search rules; is = invariant_of-self-2 g c; stays = search rules; touches_rise = search rules } }

pub returns-clause-tells : goal.returns-clause-tells
returns-clause-tells g c =
    let law = c.laws.ensures.tells g.row.SLI c.self.inside.heap.heap c.self.inside.ledger c.args.len c.self.invariant.holds in
    let answer = c.in-Ok-allocate_words.ensures.allocates.answer_is ∙ ap (λ (n : ℕ). (allocated_words g.row.SLI c.self.inside.heap.heap n c.args.len).answer) c.words-words.ensures.takes in
    let is = ap (g.L.Ledger.answered c.self.inside.ledger c.args.len) (sym answer) ∙ c.give.ensures.answer c.in-Ok-allocate_words.name in
    let here = subst (λ r. g.L.Ledger.tells g.row.SLI c.self.inside.heap.heap c.self.inside.ledger c.args.len r) is law in
    subst (λ s. g.L.Ledger.tells g.row.SLI s.heap s.ledger c.args.len (Ok c.in-Ok-allocate_words.name)) c.self.view_is here

pub returns-in-Err-clause-tells : goal.returns-in-Err-clause-tells
returns-in-Err-clause-tells g c =
    let law = c.laws.ensures.tells g.row.SLI c.self.inside.heap.heap c.self.inside.ledger c.args.len c.self.invariant.holds in
    let here = subst (λ r. g.L.Ledger.tells g.row.SLI c.self.inside.heap.heap c.self.inside.ledger c.args.len r) (c.in-Err.ensures.refuses.1 _) law in
    subst (λ s. g.L.Ledger.tells g.row.SLI s.heap s.ledger c.args.len (Err c.in-Err.why)) c.self.view_is here

-- an allocate of equally many words is one of the same
asked : (most sli n m len : ℕ) (old new : Seen) (answer : Result Name Refusal) → n ≡ m → Allocates most sli n len old new answer → Allocates most sli m len old new (allocated_words sli old.heap m len).answer
asked most sli n m len old new answer same r = subst (λ (k : ℕ). Allocates most sli k len old new (allocated_words sli old.heap k len).answer) same (subst (λ (a : Result Name Refusal). Allocates most sli n len old new a) r.answer_is r)

pub returns-in-Err-clause-allocates : goal.returns-in-Err-clause-allocates
returns-in-Err-clause-allocates g c admits = absurd (c.in-Err.ensures.refuses.0 (subst (λ (s : LedgerState _). g.L.Ledger.admits s.ledger c.args.len) (sym c.self.view_is) admits))

pub returns-in-Err-allocate_words-clause-allocates : goal.returns-in-Err-allocate_words-clause-allocates
returns-in-Err-allocate_words-clause-allocates g c admits =
    subst (λ (s : LedgerState _). Allocates allocate_touches g.row.SLI (g.L.Ledger.takes g.row.SLI s.ledger c.args.len) c.args.len (seen_by s) (seen c.allocate_words.new.self) (allocated_words g.row.SLI s.heap (g.L.Ledger.takes g.row.SLI s.ledger c.args.len) c.args.len).answer) c.self.view_is
    (asked allocate_touches g.row.SLI c.words-words.result _ c.args.len (seen c.self.inside.heap) (seen c.allocate_words.new.self) _ c.words-words.ensures.takes c.in-Err-allocate_words.ensures.allocates)

pub returns-clause-allocates : goal.returns-clause-allocates
returns-clause-allocates g c admits =
    subst (λ (s : LedgerState _). Allocates allocate_touches g.row.SLI (g.L.Ledger.takes g.row.SLI s.ledger c.args.len) c.args.len (seen_by s) (seen c.allocate_words.new.self) (allocated_words g.row.SLI s.heap (g.L.Ledger.takes g.row.SLI s.ledger c.args.len) c.args.len).answer) c.self.view_is
    (asked allocate_touches g.row.SLI c.words-words.result _ c.args.len (seen c.self.inside.heap) (seen c.allocate_words.new.self) _ c.words-words.ensures.takes c.in-Ok-allocate_words.ensures.allocates)

pub returns-clause-leaves : goal.returns-clause-leaves
returns-clause-leaves g c = subst (λ (s : LedgerState _). LeavesLive s.heap.blocks s.touched c.allocate_words.new.self.touched) c.self.view_is c.in-Ok-allocate_words.ensures.allocates.leaves

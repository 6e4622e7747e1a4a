use Rattle.tlsf_heap.proofs.Common.{◌∙◌, Outcome, Ok, Err, sym, ap, subst, rules, HeapState, released, Releases, seen_by, seen, LedgerState}
use Rattle.tlsf_heap.proofs.lemmas.calls.Release.{released_refused}
use Rattle.tlsf_heap.proofs.ledger.ledgered.Ledgered.release.Goals as goal
use Rattle.tlsf_heap.proofs.lemmas.calls.Looked.{looked_releases}

pub take_back-requires : goal.take_back-requires
take_back-requires g c =
    let answer = sym c.in_default.is ∙ (c.release.ensures.releases.answer_is ∙ ap (λ (h : HeapState). (released h c.args.name).answer) c.in-Ok.ensures.heap) in
    (g.row.SLI, c.self.inside.heap.heap, c.args.name, c.self.invariant.holds, c.in-Ok.ensures.answer, answer)

-- ---- the look refuses the name

pub returns-in-Err-clause-releases : goal.returns-in-Err-clause-releases
returns-in-Err-clause-releases g c =
    let none = released_refused c.self.inside.heap.heap c.args.name _ c.in-Err.ensures.answer in
    record {
      answer_is = sym (ap (λ (o : Outcome (Unit {0})). o.answer) none) ∙ ap (λ s. (released s.heap c.args.name).answer) c.self.view_is;
      heap = c.in-Err.ensures.heap ∙ sym (ap (λ (o : Outcome (Unit {0})). o.heap) none) ∙ ap (λ s. (released s.heap c.args.name).heap) c.self.view_is;
      touches = search rules;
      rise = search rules;
      leaves = search rules;
      refused = search rules;
      forged = search rules;
    }

-- ---- the look found the name, or touched nothing

pub returns-in-Err-release-clause-releases : goal.returns-in-Err-release-clause-releases
returns-in-Err-release-clause-releases g c =
    let e = c.in-Ok.ensures in
    subst (λ (s : LedgerState _). Releases _ (seen_by s) (seen c.release.new.self) c.args.name (Err c.in-Err-release.why)) c.self.view_is
    (looked_releases _ _ (seen c.self.inside.heap) (seen c.look.new.heap) (seen c.release.new.self) c.args.name _ c.self.invariant.lawful e.live (record { heap = e.heap; touches = e.touches; rise = e.rise; leaves = e.leaves }) c.in-Err-release.ensures.releases)

pub returns-clause-releases : goal.returns-clause-releases
returns-clause-releases g c =
    let e = c.in-Ok.ensures in
    subst (λ (s : LedgerState _). Releases _ (seen_by s) (seen c.release.new.self) c.args.name (Ok tt)) c.self.view_is
    (looked_releases _ _ (seen c.self.inside.heap) (seen c.look.new.heap) (seen c.release.new.self) c.args.name _ c.self.invariant.lawful e.live (record { heap = e.heap; touches = e.touches; rise = e.rise; leaves = e.leaves }) c.in_default.ensures.releases)

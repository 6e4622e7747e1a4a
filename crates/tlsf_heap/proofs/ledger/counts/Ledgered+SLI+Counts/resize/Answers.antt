use Rattle.tlsf_heap.proofs.Common.{rules, subst, want, resize_touches, Resizes, seen_by, seen, LedgerState}
use Rattle.tlsf_heap.proofs.LiveBlocks.{resized_counted}
use Rattle.tlsf_heap.proofs.ledger.counts.Ledgered+SLI+Counts.resize.Goals as goal

pub invariant_of-self : goal.invariant_of-self
invariant_of-self g c = let e = c.resize.ensures in record { lawful = e.frame.keeps.lawful; holds = resized_counted _ _ _ c.args.name c.args.len c.self.invariant.holds e.resizes.heap }

pub returns-clause-frame : goal.returns-clause-frame
returns-clause-frame g c = record { ledger = search rules; err = search rules; keeps = record { was = search rules; is = invariant_of-self g c; stays = search rules; touches_rise = search rules } }

pub returns-clause-resizes : goal.returns-clause-resizes
returns-clause-resizes g c = subst (λ (s : LedgerState _). Resizes resize_touches (want c.args.len) c.args.len (seen_by s) (seen c.resize.new.self) c.args.name c.resize.result) c.self.view_is c.resize.ensures.resizes

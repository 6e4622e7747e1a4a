use Rattle.tlsf_heap.proofs.Common.{subst, seen_by, seen, LedgerState}
use Rattle.tlsf_heap.specs.Effects.{AltersInPlace}
use Rattle.tlsf_heap.proofs.ledger.ledgered.Ledgered.alter.Goals as goal

pub returns-clause-alters : goal.returns-clause-alters
returns-clause-alters g c = subst (λ (s : LedgerState _). AltersInPlace g.F.FnOnce c.args.f (seen_by s) (seen c.alter.new.self) c.args.name c.alter.result) c.self.view_is c.alter.ensures.alters

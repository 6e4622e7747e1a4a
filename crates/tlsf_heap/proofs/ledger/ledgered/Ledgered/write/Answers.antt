use Rattle.tlsf_heap.proofs.Common.{length, subst, write_touches, Writes, seen_by, seen, LedgerState}
use Rattle.tlsf_heap.proofs.ledger.ledgered.Ledgered.write.Goals as goal

pub returns-clause-writes : goal.returns-clause-writes
returns-clause-writes g c = subst (λ (s : LedgerState _). Writes (write_touches (length c.args.bytes.now)) (seen_by s) (seen c.write.new.self) c.args.name c.args.at c.args.bytes.now c.write.result) c.self.view_is c.write.ensures.writes

use Rattle.tlsf_heap.proofs.lemmas.laws.Payloads.{stays_read, stays_run, not_given, stays_moved}
use Rattle.tlsf_heap.proofs.laws.payloads_stay.Goals as goal

pub returns : goal.returns
returns c = record { read = stays_read; run = stays_run; given = not_given; moved = stays_moved }

use Rattle.tlsf_heap.proofs.lemmas.laws.EvenPlaces.{even_opened, even_run, even_moved, even_aligned}
use Rattle.tlsf_heap.proofs.laws.even_blocks_stay_even.Goals as goal

pub returns : goal.returns
returns c = record { opened = even_opened; run = even_run; moved = even_moved; aligned = even_aligned }

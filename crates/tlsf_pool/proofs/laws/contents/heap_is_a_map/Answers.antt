use Rattle.tlsf_pool.proofs.lemmas.laws.Looks.{live, change, reads, write, back, history}
use Rattle.tlsf_pool.proofs.laws.contents.heap_is_a_map.Goals as goal

pub returns : goal.returns
returns c = record { live = live; change = change; read = reads; write = write; back = back; history = history }

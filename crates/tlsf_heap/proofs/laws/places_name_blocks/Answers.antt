use Rattle.tlsf_heap.proofs.lemmas.calls.ByPlace.{live_is_found, no_near}
use Rattle.tlsf_heap.proofs.laws.places_name_blocks.Goals as goal

pub returns : goal.returns
returns c = record {
  found = live_is_found;
  apart = λ h lawful at k here some few there. no_near h.blocks at k here.0 there.0 lawful.rooms here.1 there.1 some few;
}

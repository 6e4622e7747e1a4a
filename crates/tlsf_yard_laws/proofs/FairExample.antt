-- A small run that is fair.
use Rattle.tlsf_yard_laws.proofs.Common.{◌≡◌, [], ◌∷◌, Some, refl, arith, inl, inr, search_of, classes, low, class_of, Name, Event, Allocate, allocated, released, opened_world, after_drain, begun, drained_waiting, draining, posting, replies, IsFairRun, fair_entries, fair_events}
use Rattle.tlsf_crew.specs.model.World.{after}

abbrev allocates : Event
allocates = record { worker = 0; call = Allocate 8 }

abbrev first_name : Name
first_name = record { heap = 0; at = 0; serial = 1 }

first_made : (after (begun (opened_world {sli = 4} 2 64 4)) allocates).made ≡ Some first_name ∷ []
unfolding after allocated search_of classes low class_of
first_made = refl

pub run_is_fair : IsFairRun (opened_world {sli = 4} 2 64 4) fair_events
run_is_fair = record {
  empty = λ i j. refl;
  fair = (tt, (rw first_made ((0, omega arith, refl), λ g. elim g [ inl none ↦ none | inr x ↦ let e = x.1 in cc ]), (tt, tt)));
}

pub run_is_told : (replies (opened_world {sli = 4} 2 64 4) fair_events).entries ≡ fair_entries
unfolding replies after allocated released posting draining after_drain drained_waiting search_of classes low class_of
run_is_told = refl

use Rattle.tlsf_heap.proofs.lemmas.calls.Reset.{none_live, all_gone, still_gone, reset_ok, none_in_use}
use Rattle.tlsf_heap.proofs.laws.resets_end_all_names.Goals as goal

pub returns : goal.returns
returns c = record { none = none_live; gone = all_gone; serials = still_gone; ok = reset_ok; unused = none_in_use }

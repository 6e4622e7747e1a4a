use Rattle.tlsf_c.proofs.Common.{◌≡◌, ◌++◌, length, map, vec_len, vec_capacity}
use Rattle.std.specs.Vec.Iter.{into_iter_items, into_iter_len}
use Rattle.tlsf_c.specs.Ends.{idle_poster}
use Rattle.tlsf_c.proofs.queue_end.boxed.Given as goal

abbrev pub invariant-loop-end : goal.invariant-loop-end
invariant-loop-end l = (l.yielded ++ into_iter_items l.end-iterator ≡ into_iter_items l.initial.end-iterator)
    × (map (λ b. b.value) l.boxes.items ≡ map idle_poster l.yielded)
    × (into_iter_len l.end-iterator ≡ length (into_iter_items l.end-iterator))
    × (vec_len l.boxes ≡ length l.yielded)
    × (vec_capacity l.boxes ≡ length (into_iter_items l.initial.end-iterator))

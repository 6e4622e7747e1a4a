-- This many bytes are set, and lie where they lay.
use Rattle.std.proofs.Common.{◌≡◌, replicate}
use Rattle.tlsf_arena.proofs.husk.set_all.Given as goal

abbrev pub invariant-loop-at : goal.invariant-loop-at
invariant-loop-at l = (l.vec.items ≡ replicate l.at l.fn.value) × (l.vec.len ≡ l.at) × (l.vec.cap ≡ l.fn.size) × (l.vec.ptr ≡ l.fn.vec.ptr)

-- C's malloc: the bytes that it asks a heap for, and at which byte of the region the payload begins.
use Rattle.std.specs.Prelude.{ℕ, ◌+◌, ◌*◌, ◌/◌, ◌^◌, Result, Ok, Err}
use Rattle.tlsf_heap.specs.declared.name.Name.{Name}
use Rattle.tlsf_heap.specs.declared.refusal.Refusal.{Refusal}

-- the longest request for which a heap is asked: every region is shorter
abbrev pub longest : ℕ
longest = 2 ^ 27

-- the bytes that a heap is asked for where C asks for `len`: with the 24 of a header they are a multiple of 16
abbrev pub rounded : ℕ → ℕ
rounded len = (len + 7) / 16 * 16 + 8

-- the byte of the region at which the payload begins that was given, and 0 where none was
abbrev pub first_byte : Result Name Refusal → ℕ
first_byte (Ok name) = 8 * (name.at + 3)
first_byte (Err why) = 0

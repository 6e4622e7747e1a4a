-- The numbers that C's calls answer. A refusal that a trace has too has its number there, up to 18. One that C alone has a number
-- from 32 on.
use Rattle.std.specs.Prelude.{ℕ, Result, Ok, Err}
use Rattle.tlsf_heap.specs.Numbers.{number_of}
use Rattle.tlsf_heap.specs.declared.refusal.Refusal.{Refusal}
use Rattle.tlsf_c.specs.declared.call_fault.CallFault.{CallFault}
use Rattle.tlsf_c.specs.declared.call_fault.CallFault.TheVariants as fault

-- 0, or why a heap refuses
abbrev pub status_of : {A : Type 0} → Result A Refusal → ℕ
status_of (Ok answer) = 0
status_of (Err why) = number_of why

-- what was given doesn't fit: a region's words, a lane's capacity
abbrev pub bad_size : ℕ
bad_size = 5

-- the memory was not granted
abbrev pub no_memory : ℕ
no_memory = 6

-- the handle isn't open
abbrev pub closed : ℕ
closed = 32

-- the handle is open already
abbrev pub in_use : ℕ
in_use = 33

-- no heap has that level
abbrev pub bad_level : ℕ
bad_level = 34

-- the lane is full, as far as its end knows
abbrev pub full : ℕ
full = 8

-- the lane has nothing to take, as far as its end knows
abbrev pub empty : ℕ
empty = 35

-- a block is damaged
abbrev pub damage : ℕ
damage = 36

-- another thread was half through a step on the queue
abbrev pub busy : ℕ
busy = 37

-- as many blocks of a row of pools are held as may be
abbrev pub row_full : ℕ
row_full = 38

-- the handle is open with another kind of end, or of arena
abbrev pub other_kind : ℕ
other_kind = 40

abbrev pub call_number_of : CallFault → ℕ
call_number_of fault.BadSize = bad_size
call_number_of fault.NoMemory = no_memory
call_number_of fault.Closed = closed
call_number_of fault.InUse = in_use
call_number_of fault.BadLevel = bad_level
call_number_of fault.Full = full
call_number_of fault.Empty = empty
call_number_of fault.Damaged = damage
call_number_of fault.Busy = busy
call_number_of fault.RowFull = row_full
call_number_of fault.OtherKind = other_kind

-- The counts of a heap.
use Rattle.std.specs.Prelude.{ℕ, ◌+◌, ◌-◌, ◌^◌, ◌==◌, Result, Ok, Err, max, min, if◌then◌else◌}
use Rattle.tlsf_heap.specs.Blocks.{HeapState}
use Rattle.tlsf_heap.specs.WordsInUse.{words_in_use, words_at}
use Rattle.tlsf_heap.specs.declared.name.Name.{Name}
use Rattle.tlsf_heap.specs.declared.refusal.Refusal.{Refusal}
use Rattle.tlsf_heap.specs.declared.refusal.Refusal.TheVariants.{NoFit, Worn, Foreign, Stale, Range, NoRoom}
use Rattle.tlsf_c.specs.declared.heap_counts.HeapCounts.{HeapCounts}
use Rattle.tlsf_c.specs.declared.refused.Refused.{Refused}

-- nothing was counted
abbrev pub no_counts : HeapCounts
no_counts = record { words = 0; most_words = 0; refused = 0; longest_refused = 0 }

-- the counts where a call left this heap: its words in use, and the most there ever were
abbrev pub counted : HeapCounts → HeapState → HeapCounts
counted c h = record c { words = words_in_use h; most_words = max c.most_words (words_in_use h) }

-- those where only blocks were released: the most there ever were stays
abbrev pub recounted : HeapCounts → HeapState → HeapCounts
recounted c h = record c { words = words_in_use h }

-- the counts where a request of `len` bytes was refused for want of room
abbrev pub counted_refusal : HeapCounts → ℕ → HeapCounts
counted_refusal c len = record c { refused = min (c.refused + 1) (2 ^ 32 - 1); longest_refused = max c.longest_refused len }

-- a refused request of `len` bytes is counted where it was refused for want of room
abbrev pub counted_if : HeapCounts → ℕ → Refusal → HeapCounts
counted_if c len NoFit = counted_refusal c len
counted_if c len Worn = c
counted_if c len Foreign = c
counted_if c len Stale = c
counted_if c len Range = c
counted_if c len NoRoom = c

-- the counts where a request of `len` bytes was answered so and left this heap
abbrev pub counted_request : {A : Type 0} → HeapCounts → Result A Refusal → ℕ → HeapState → HeapCounts
counted_request c (Ok given) len h = counted c h
counted_request c (Err why) len h = counted_if c len why

-- the counts where a resize of the block at this place to `len` bytes was answered in this way and left this heap. While a block
-- moves, its old words are in use and the new ones too
abbrev pub counted_move : HeapCounts → ℕ → Result Name Refusal → ℕ → HeapState → HeapCounts
counted_move c at (Ok new) len h =
    if new.at == at then counted c h else counted (record c { most_words = max c.most_words (c.words + words_at h new.at) }) h
counted_move c at (Err why) len h = counted_if c len why

-- ---- how they are kept

abbrev pub none_refused : Refused
none_refused = record { requests = 0; longest = 0 }

-- the refused requests and one of `len` bytes, where that was refused for want of room
abbrev pub noted_if : Refused → ℕ → Refusal → Refused
noted_if r len NoFit = record { requests = min (r.requests + 1) (2 ^ 32 - 1); longest = max r.longest len }
noted_if r len Worn = r
noted_if r len Foreign = r
noted_if r len Stale = r
noted_if r len Range = r
noted_if r len NoRoom = r

abbrev pub noted : {A : Type 0} → Refused → Result A Refusal → ℕ → Refused
noted r (Ok given) len = r
noted r (Err why) len = noted_if r len why

-- the counts of a heap of which this many words were ever in use, and that refused these requests
abbrev pub counts_of : HeapState → ℕ → Refused → HeapCounts
counts_of h most r = record { words = words_in_use h; most_words = most; refused = r.requests; longest_refused = r.longest }

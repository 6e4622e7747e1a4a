-- How large the heap of a worker must be, by what the programs hold and by how much its lanes hold.
use Rattle.std.specs.Prelude.{◌≡◌, ℕ, ◌+◌, ◌*◌, ◌-◌, ◌<◌, ◌≤◌, List, [], ◌∷◌, Option, Some, None, length, filter, not, ◌==◌, ⊤, if◌then◌else◌}
use Rattle.tlsf_yard_laws.specs.Common.{AllByRecursion, most_words, want, IsRegion, Name, Post, mixed_words, IsServed, is_same, Inventory, inventory_after, World, replies, answer_told, answers_on, call_on_own, post_of_release, Entry, Event, Target, Allocate, Resize}
use Rattle.tlsf_heap.specs.Calls as heap
use Rattle.tlsf_yard_laws.specs.Carriers.{Carrier, OverLanes, OverQueues}
use Rattle.tlsf_yard_laws.specs.Yards.{IsNew}

-- the inventory after a call on the heap itself, where there is one
abbrev pub with_call : Inventory → Option heap.Call → Option heap.Answer → Inventory
with_call inventory (Some call) (Some answer) = inventory_after inventory call answer
with_call inventory (Some call) None = inventory
with_call inventory None answer = inventory

-- the inventory without the name of a post
abbrev pub without_post : Inventory → Option Post → Inventory
without_post inventory None = inventory
without_post inventory (Some post) = filter (λ entry. not (is_same post.name entry.0)) inventory

-- the blocks that the programs hold of heap j, after an entry. A block is held from the allocate that gave it until a release of
-- its name is accepted by anybody. The heap's own worker releases at once; where another does, it is the post that counts, not the
-- drain
abbrev pub unreleased_after : ℕ → List (Option Name) → Inventory → Entry → Inventory
unreleased_after j made inventory e =
    if e.worker == j
    then with_call inventory (call_on_own made e.worker e.call e.reply) (answer_told e.call e.reply)
    else without_post inventory (post_of_release j made e.worker e.call e.reply)

-- each request of worker j is for at most `len` bytes, and is made while the programs hold fewer than `most` blocks of its heap. It
-- resizes blocks to at most `len` bytes
abbrev pub IsSparing : ℕ → ℕ → ℕ → Inventory → Entry → Type 0
IsSparing j most len inventory e = e.worker ≡ j →
    ((n : ℕ) → e.call ≡ Allocate n → (n ≤ len) × (length inventory < most)) × ((target : Target) (n : ℕ) → e.call ≡ Resize target n → n ≤ len)

abbrev pub AreSparing : ℕ → ℕ → ℕ → List (Option Name) → Inventory → List Entry → Type 0
AreSparing j most len made inventory [] = ⊤
AreSparing j most len made inventory (e ∷ es) = IsSparing j most len inventory e × AreSparing j most len made (unreleased_after j made inventory e) es

-- the posts that may be under way to one worker: all that the lanes from each other worker hold, or that its queue holds
abbrev pub most_under_way : {sli : ℕ} → Carrier → World sli → ℕ
most_under_way OverLanes w = (length w.heaps - 1) * w.capacity
most_under_way OverQueues w = w.capacity

-- a heap with room for the blocks that the programs hold and for those under way serves each request of its worker. It does so
-- while the ticks last
abbrev pub SharedMixedSizesServe : ℕ → Type 0
SharedMixedSizesServe sli = (w : World sli) (es : List Event) (j words first most len : ℕ) → IsNew w j words first → ((i : ℕ) → length (w.waiting i j) ≤ w.capacity)
    → IsRegion sli words → want len ≤ most_words sli → mixed_words sli (most + most_under_way OverLanes w) len ≤ words
    → let r = replies w es in first + length r.entries < heap.last_tick → AreSparing j most len r.made [] r.entries → AllByRecursion IsServed (answers_on j r.entries)

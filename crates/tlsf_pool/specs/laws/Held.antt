-- How many blocks a program holds, told by what its calls were answered.
use Rattle.std.specs.Prelude.{◌≡◌, ℕ, ◌+◌, ◌-◌, ◌≤◌, List, [], ◌∷◌, Ok}
use Rattle.tlsf_heap.specs.Calls.{Call, Allocate, Release, Answer, Allocated, Released, opened, run}
use Rattle.tlsf_pool.specs.laws.Room.{live_count}

-- the blocks held after a call: one more after an accepted allocate, one fewer after an accepted release
abbrev pub held_after : ℕ → Call → Answer → ℕ
held_after held (Allocate len) (Allocated (Ok name)) = held + 1
held_after held (Release name) (Released (Ok done)) = held - 1
held_after held call answer = held

-- and after calls in turn
abbrev pub held_after_all : ℕ → List Call → List Answer → ℕ
held_after_all held [] answers = held
held_after_all held (call ∷ calls) [] = held
held_after_all held (call ∷ calls) (answer ∷ answers) = held_after_all (held_after held call answer) calls answers

-- as many blocks are live as are held: the accepted allocates less the accepted releases
abbrev pub HoldsWhatIsLive : ℕ → Type 0
HoldsWhatIsLive sli = (id words first : ℕ) (calls : List Call) → 4 ≤ words
    → let end = run sli (opened id words first) calls in live_count end.1 ≡ held_after_all 0 calls end.0

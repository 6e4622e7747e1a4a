-- Whether a handle serves, and how a call is refused before it begins.
use Rattle.std.specs.Prelude.{◌≡◌, ℕ, Bool, true, false}
use Rattle.tlsf_c.specs.Arenas.{is_arena_idle}
use Rattle.tlsf_c.specs.Levels.{IsLevel}
use Rattle.tlsf_c.specs.Refusals as why
use Rattle.tlsf_c.specs.declared.arena_slot.ArenaSlot.{ArenaSlot}

-- by whether it is open, and whether no call is using it
abbrev pub idle_if : Bool → Bool → Bool
idle_if false idle = false
idle_if true idle = idle

-- an open handle, whose arena no call is using
abbrev pub arena_serves : ArenaSlot → Bool
arena_serves h = idle_if h.is_open (is_arena_idle h.inner.value)

-- a call on a handle that has to serve and to hold one kind. Else it is refused, as Closed or as OtherKind, and the handle stays as
-- it is. Where the handle serves and holds that kind, the call does this
pub record OnKind {H : Type 0} (serves holds : Bool) (old new : H) (answer : ℕ) (done : Type 0) : Type 0 where
  pub closed : serves ≡ false → (answer ≡ why.closed) × (new ≡ old)
  pub other : serves ≡ true → holds ≡ false → (answer ≡ why.other_kind) × (new ≡ old)
  pub does : serves ≡ true → holds ≡ true → done

-- a call that closes a handle of an arena, which has to be of that kind
abbrev pub ClosesArena : Bool → ArenaSlot → ArenaSlot → ℕ → Type 0
ClosesArena holds old new answer = OnKind (arena_serves old) holds old new answer ((answer ≡ 0) × (new.is_open ≡ false))

-- a call that opens a handle for what has to fit: why it is refused. It then leaves the handle as it is
pub record Opens {H : Type 0} (is_open : Bool) (fits : Type 0) (old new : H) (answer : ℕ) : Type 0 where
  pub in_use : is_open ≡ true → answer ≡ why.in_use
  pub bad_size : is_open ≡ false → ¬ fits → answer ≡ why.bad_size
  pub no_memory : is_open ≡ false → fits → ¬ (answer ≡ 0) → answer ≡ why.no_memory
  pub refused : ¬ (answer ≡ 0) → new ≡ old

-- so, for what has a level, 4 or 5
pub record OpensAtLevel {H : Type 0} (is_open : Bool) (level : ℕ) (fits : Type 0) (old new : H) (answer : ℕ) : Type 0 where
  pub in_use : is_open ≡ true → answer ≡ why.in_use
  pub bad_level : is_open ≡ false → ¬ (level ≡ 4) → ¬ (level ≡ 5) → answer ≡ why.bad_level
  pub bad_size : is_open ≡ false → IsLevel level → ¬ fits → answer ≡ why.bad_size
  pub no_memory : is_open ≡ false → IsLevel level → fits → ¬ (answer ≡ 0) → answer ≡ why.no_memory
  pub refused : ¬ (answer ≡ 0) → new ≡ old

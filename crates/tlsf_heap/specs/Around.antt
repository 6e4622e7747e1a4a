-- The findings of a look at the headers that one call is about to follow, in words that may hold anything.
use Rattle.std.specs.Prelude.{◌≡◌, ◌≢◌, ℕ, suc, ◌<◌, ◌≤◌, ◌==◌, if◌then◌else◌, List, length, slice_index, Option, MatchOption}
use Rattle.tlsf_words.specs.Fields.{size_in, back_in}
use Rattle.tlsf_heap.specs.Blocks.{Block, StandsAt}
use Rattle.tlsf_heap.specs.Checks.{Begins, BeginsFree, IsSound, end_at, place_or_first}
use Rattle.tlsf_heap.specs.Chosen.{IsChoice}
use Rattle.tlsf_heap.specs.Image.{Image}
use Rattle.tlsf_heap.specs.declared.checked.Checked.{Checked}
use Rattle.tlsf_heap.specs.declared.checked.Checked.TheVariants.{Sound, Damaged}

-- ---- a block and both its neighbours

-- the block at a place is sound, and so are the neighbours that it has
pub record AreSoundAround (m : Image) (at : ℕ) : Type 0 where
  pub own : IsSound m at
  pub next : end_at m at < length m.words → IsSound m (end_at m at)
  pub previous : 0 < at → IsSound m (back_in (slice_index m.words at))

-- a block that begins at a place isn't sound. It is the one that is looked around or, where that is sound, a neighbour of it
pub record IsDamagedAround (m : Image) (at found : ℕ) : Type 0 where
  pub begins : Begins m found
  pub damaged : ¬ (IsSound m found)
  pub own : found ≢ at → IsSound m at
  pub near : found ≢ at → found ≢ end_at m at → found ≡ back_in (slice_index m.words at)

-- what a look around a place tells. `next` is the place behind the block there, and 0 where the region ends there
abbrev pub TellsAround : Image → ℕ → Checked → Type 0
TellsAround m at (Sound next) = AreSoundAround m at × (next ≡ (if end_at m at == length m.words then 0 else end_at m at))
TellsAround m at (Damaged found) = IsDamagedAround m at found

-- what a look around a place answers: it tells of the block that begins there, and of none elsewhere
abbrev pub IsAroundCheck : Image → ℕ → Option Checked → Type 0
IsAroundCheck m at answer = MatchOption answer (¬ (Begins m at)) (λ checked. Begins m at × TellsAround m at checked)

-- the most touches of it. They are those of a look at three blocks, 1 for the first start bit, and 1 for the tag that names the block
-- before
abbrev pub around_touches : ℕ
around_touches = 41

-- ---- the free block that a request takes

-- a free block of this many words or more begins at a place
pub record IsTakable (m : Image) (at least : ℕ) : Type 0 where
  pub begins : BeginsFree m at
  pub room : least ≤ size_in (slice_index m.words at)

-- what a look at the block that a request of `least` words takes tells. Where the block can be taken, it is what a look around it
-- tells
abbrev pub TellsTaken : Image → ℕ → ℕ → Checked → Type 0
TellsTaken m at least (Sound next) = IsTakable m at least × TellsAround m at (Sound next)
TellsTaken m at least (Damaged found) = (IsTakable m at least → TellsAround m at (Damaged found)) × (¬ (IsTakable m at least) → found ≡ at)

-- the most touches of it: 2 to see that it is free, 1 for its size, and those of a look around it
abbrev pub taken_touches : ℕ
taken_touches = 44

-- the most touches where the block isn't known yet: 3 to find its class, and 1 for the head of its list
abbrev pub request_touches : ℕ
request_touches = 48

-- a look for a request of n words: it tells of the block that serves it, finds that sound, and names the place behind it
pub record FindsChoice (sli n : ℕ) (m : Image) (blocks : List Block) (checked : Checked) : Type 0 where
  pub index : ℕ
  pub at : ℕ
  pub choice : IsChoice sli n blocks index
  pub stands : StandsAt blocks at index
  pub tells : TellsTaken m at n checked
  pub told : checked ≡ Sound (place_or_first blocks (suc index))

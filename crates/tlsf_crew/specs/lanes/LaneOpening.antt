-- Facts about the ends of a new yard of lanes.
use Rattle.std.specs.Prelude.{◌≡◌, ℕ, List, [], Some}
use Rattle.tlsf_crew.specs.Common.{PostEnd, TakeEnd, posts_sent, free_slots, waited, taken, ready, Worker, Lanes}
use Rattle.tlsf_crew.specs.lanes.Yard.{post_at, take_at}

-- each end that posts knows this many free slots
abbrev pub KnowFree : {sli : ℕ} → List (Worker sli Lanes) → ℕ → Type 0
KnowFree ws capacity = (i j : ℕ) (p : PostEnd) → post_at ws i j ≡ Some p → free_slots p ≡ capacity

-- no end has sent or taken a post, and none waited or is ready for it to take
pub record AreFresh {sli : ℕ} (ws : List (Worker sli Lanes)) : Type 0 where
  pub sent : (i j : ℕ) (p : PostEnd) → post_at ws i j ≡ Some p → posts_sent p ≡ []
  pub taken : (i j : ℕ) (t : TakeEnd) → take_at ws i j ≡ Some t → (waited t ≡ []) × (taken t ≡ []) × (ready t ≡ [])

-- The notes of a drain on the posts that it takes. This serves the contracts and proofs of private functions alone.
use Rattle.std.specs.Prelude.{◌≡◌, ℕ, zero, suc, ◌-◌, ◌*◌, ◌<◌, ◌⊎◌, List, [], ◌∷◌, ◌++◌, length, Option, Some, None}
use Rattle.tlsf_crew.specs.Common.{Took, Post, Extent, Worker}
use Rattle.tlsf_calls.specs.declared.drained.Drained.{Drained}
use Rattle.tlsf_crew.specs.worker.Workers.{id_of, SameButPorts, WorksWithin}
use Rattle.tlsf_crew.specs.worker.Calls.{TakenFrom}
use Rattle.tlsf_crew.specs.worker.Drains.{AreFew, IsCountOf}
use Rattle.tlsf_crew.specs.worker.Slices.{KeepsRoom}

-- by what rules a drain takes posts over ports of some kind, and notes them
pub record TakeRules (P N : Type 0) : Type 1 where
  -- there is a source of that number
  pub hears : P → ℕ → Type 0
  -- the answer of a take of a source and the ports that it leaves. Also the ports after a drain that is to take no more of a source
  pub takes : P → P → ℕ → Option Post → Type 0
  pub stops : P → P → ℕ → Type 0
  -- the sender that the note of a take names, by the number that its post has: none where a source is one worker's
  pub sent_by : ℕ → Option ℕ
  -- one more post may be taken of that source, and the notes after a worker took one
  pub admitted : N → ℕ → Type 0
  pub noted : N → ℕ → ℕ → Option ℕ → Took → N → Type 0

-- worker a becomes v by takes from one source, which answered these one after another, and notes x become y
abbrev pub EachTakeNoted : {sli : ℕ} {P N : Type 0} → TakeRules P N → Worker sli P → Worker sli P → N → N → ℕ → List Took → Type 0
EachTakeNoted {sli} {P} {N} by a v x y source [] = (v ≡ a) × (y ≡ x)
EachTakeNoted {sli} {P} {N} by a v x y source (took ∷ tooks) =
    (b : Worker sli P) × (z : N) × TakenFrom by.takes a b source (Some took) × by.noted x (id_of b) source (by.sent_by took.from) took z × EachTakeNoted by b v z y source tooks

-- a drain of one source ends where `most` posts were taken, or where it stopped since the notes admit no more. Or it ends with a
-- take that found no post
abbrev pub SourceEnds : {sli : ℕ} {P N : Type 0} → TakeRules P N → Worker sli P → Worker sli P → N → ℕ → ℕ → ℕ → Type 0
SourceEnds by last v y source most count =
    ((count ≡ most) × (v ≡ last))
    ⊎ ((count < most) × (((¬ (by.admitted y source)) × SameButPorts last v × by.stops last.ports v.ports source) ⊎ TakenFrom by.takes last v source None))

pub record SourceNoted {sli : ℕ} {P N : Type 0} (by : TakeRules P N) (a v : Worker sli P) (x y : N) (source most : ℕ) (tooks : List Took) : Type 0 where
  pub last : Worker sli P
  pub turns : EachTakeNoted by a last x y source tooks
  pub end : SourceEnds by last v y source most (length tooks)

-- the turn of one source: it is drained; where there is none of that number, nothing happens
pub record TurnNoted {sli : ℕ} {P N : Type 0} (by : TakeRules P N) (a v : Worker sli P) (x y : N) (source most : ℕ) (tooks : List Took) : Type 0 where
  pub here : by.hears a.ports source → SourceNoted by a v x y source most tooks
  pub nowhere : ¬ (by.hears a.ports source) → (tooks ≡ []) × (v ≡ a) × (y ≡ x)

-- the turns of the sources below k, in rising order; each may take what `most` leaves
abbrev pub EachNoted : {sli : ℕ} {P N : Type 0} → TakeRules P N → Worker sli P → Worker sli P → N → N → ℕ → ℕ → List Took → Type 0
EachNoted {sli} {P} {N} by a v x y most zero tooks = (tooks ≡ []) × (v ≡ a) × (y ≡ x)
EachNoted {sli} {P} {N} by a v x y most (suc k) tooks =
    (b : Worker sli P) × (z : N) × (before : List Took) × (here : List Took)
    × (tooks ≡ before ++ here) × EachNoted by a b x z most k before × TurnNoted by b v z y k (most - length before) here

-- a drain of all sources below k
pub record AllNoted {sli : ℕ} {P N : Type 0} (by : TakeRules P N) (a v : Worker sli P) (x y : N) (k most : ℕ) (answer : Drained) : Type 0 where
  pub tooks : List Took
  pub each : EachNoted by a v x y most k tooks
  pub count : IsCountOf answer tooks

-- a drain takes no more posts than the limit, makes at most 64 touches for each, and keeps the room for notes
pub record DrainsWithin {sli : ℕ} {P N : Type 0} (extents : P → List Extent) (has_room : N → Type 0) (most : N → ℕ) (limit : ℕ) (a v : Worker sli P) (x y : N) (answer : Drained) : Type 0 where
  pub few : AreFew limit answer
  pub notes : KeepsRoom has_room most x y
  pub within : WorksWithin extents (64 * answer.taken) a v

-- The ports after a slice of posts that a drain takes at once. This serves the contracts and proofs of private functions alone.
use Rattle.std.specs.Prelude.{◌≡◌, ℕ, zero, suc, ◌<◌, List, [], ◌∷◌, Option, Some, None, ⊤}
use Rattle.tlsf_crew.specs.Common.{Took, Post, Worker}
use Rattle.tlsf_crew.specs.worker.Calls.{AfterTake}
use Rattle.tlsf_crew.specs.worker.Workers.{id_of}

-- the post that was taken
abbrev pub post_of : Took → Post
post_of took = record { from = took.from; name = took.name }

-- ports p become q by takes from one source, which answered these posts one after another
abbrev pub PortsInTurn : {P : Type 0} → (P → P → ℕ → Option Post → Type 0) → P → P → ℕ → List Post → Type 0
PortsInTurn {P} takes p q source [] = q ≡ p
PortsInTurn {P} takes p q source (post ∷ posts) = (r : P) × takes p r source (Some post) × PortsInTurn takes r q source posts

-- a slice of one source, of this many places: the posts came as by takes one after another. Where fewer came than there are places,
-- one take more shows no post
pub record SliceTaken {P : Type 0} (takes : P → P → ℕ → Option Post → Type 0) (p q : P) (source places count : ℕ) (posts : List Post) : Type 0 where
  pub last : P
  pub turns : PortsInTurn takes p last source posts
  pub full : count ≡ places → q ≡ last
  pub short : count < places → takes last q source None

-- worker a becomes v by the releases of posts of one source that were taken, one after another, and notes x become y
abbrev pub EachReleased : {sli : ℕ} {P N : Type 0} → (ℕ → Option ℕ) → (N → ℕ → ℕ → Option ℕ → Took → N → Type 0) → Worker sli P → Worker sli P → N → N → ℕ → List Took → Type 0
EachReleased {sli} {P} {N} sent_by noted a v x y source [] = (v ≡ a) × (y ≡ x)
EachReleased {sli} {P} {N} sent_by noted a v x y source (took ∷ tooks) =
    (b : Worker sli P) × (z : N) × AfterTake a b (Some (post_of took)) (Some took) × noted x (id_of b) source (sent_by took.from) took z × EachReleased sent_by noted b v z y source tooks

-- this many more posts of a source may be taken, one after another
abbrev pub MayTake : {N : Type 0} → (N → ℕ → Type 0) → (N → ℕ → ℕ → Option ℕ → Took → N → Type 0) → N → ℕ → ℕ → Type 0
MayTake {N} admitted noted x source zero = ⊤
MayTake {N} admitted noted x source (suc n) =
    admitted x source × ((at : ℕ) (sender : Option ℕ) (took : Took) (z : N) → noted x at source sender took z → MayTake admitted noted z source n)

-- the notes have room, of as many in all as before
pub record KeepsRoom {N : Type 0} (has_room : N → Type 0) (most : N → ℕ) (x y : N) : Type 0 where
  pub room : has_room y
  pub kept : most y ≡ most x

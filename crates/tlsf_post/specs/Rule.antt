-- The queue of a mailbox, and the knowledge of each of its passes.
use Rattle.std.specs.Prelude.{◌≡◌, ◌≢◌, ◌⊎◌, ℕ, ◌<◌, ◌≤◌, true, false, List, [], ◌∷◌, ◌++◌, ◌==◌, not, length, All}
use Rattle.std.specs.List.{filter}
use mathlib.Core.List.{IsPrefix}
use mathlib.Core.Option.{Option, some, none}
use lib.ListN.{get_elem?}
use Rattle.tlsf_post.specs.declared.post.Post.{Post}
use Rattle.tlsf_post.specs.declared.plan.Plan.{Plan}
use Rattle.tlsf_post.specs.declared.view.View.{View}

-- the posts of one poster, in order, and those of all others
abbrev pub posts_of : ℕ → List Post → List Post
posts_of p posts = filter (λ post. post.from == p) posts

abbrev pub posts_but : ℕ → List Post → List Post
posts_but p posts = filter (λ post. not (post.from == p)) posts

abbrev pub plan_for : ℕ → ℕ → ℕ → Plan
plan_for owner workers capacity = record { owner = owner; workers = workers; capacity = capacity }

-- the number is that of a worker who may put into the mailbox
abbrev pub MayPut : Plan → ℕ → Type 0
MayPut plan p = (p < plan.workers) × (p ≢ plan.owner)

abbrev pub AreOfPosters : Plan → List Post → Type 0
AreOfPosters plan posts = All (λ post. MayPut plan post.from) posts

-- what a poster knows: what it has put, and what was taken of that when it went out
abbrev pub poster_view : Plan → ℕ → List Post → List Post → View
poster_view plan number put gone = record { posts = true; takes = false; plan = plan; number = number; put = put; got = gone }

-- the knowledge of the owner: the posters of which numbers are out, but its own number. Also the posts that they had put when they
-- went out, and the posts taken
abbrev pub owner_view : Plan → ℕ → List Post → List Post → View
owner_view plan number known got = record { posts = false; takes = true; plan = plan; number = number; put = known; got = got }

-- nobody posts by that number: it isn't out yet, or the owner's own
abbrev pub IsIn : View → ℕ → Type 0
IsIn v p = (v.number ≤ p) ⊎ (v.plan.owner ≡ p)

abbrev pub idle : View
idle = record { posts = false; takes = false; plan = plan_for 0 0 0; number = 0; put = []; got = [] }

-- one pass alone posts for a number, and it knows all that was put for it, and a beginning of what was taken
abbrev pub FitsPoster : Plan → (ℕ → Option ℕ) → List Post → List Post → ℕ → View → Type 0
FitsPoster plan pass_of taken all pass v =
    v.posts ≡ true
    → (pass_of v.number ≡ some pass) × (v.put ≡ posts_of v.number all) × (v.plan ≡ plan) × IsPrefix v.got (posts_of v.number taken)

-- one pass alone takes. The posts that each poster has put begin with those that the owner knows, and are these where the poster
-- isn't out
abbrev pub FitsOwner : Plan → ℕ → (ℕ → Option ℕ) → List Post → List Post → ℕ → View → Type 0
FitsOwner plan owner pass_of taken all pass v =
    v.takes ≡ true
    → (pass ≡ owner) × (v.got ≡ taken)
    × ((p : ℕ) → IsPrefix (posts_of p v.put) (posts_of p all))
    × ((p : ℕ) → IsIn v p → (pass_of p ≡ none) × (posts_of p v.put ≡ posts_of p all))
    × (v.plan ≡ plan)

abbrev pub Fits : Plan → ℕ → (ℕ → Option ℕ) → List Post → List Post → ℕ → View → Type 0
Fits plan owner pass_of taken all pass v = FitsPoster plan pass_of taken all pass v × FitsOwner plan owner pass_of taken all pass v

-- the posts of each poster that were taken, and then those in the queue, are what its pass has put, in order. No more are in
-- the queue than it holds, and only posters' own
pub record Kept (items : List Post) (views : List View) : Type 0 where
  pub plan : Plan
  pub owner : ℕ
  pub pass_of : ℕ → Option ℕ
  pub taken : List Post
  pub few : length items ≤ plan.capacity
  pub from : AreOfPosters plan items
  pub fits : (pass : ℕ) (v : View) → get_elem? views pass ≡ some v → Fits plan owner pass_of taken (taken ++ items) pass v

-- the meaning of the owner's pass for the queue. Of each poster, the posts taken and those that wait begin with those that are
-- known to have been put. They are these where the poster isn't out
pub record Shows (v : View) (items : List Post) : Type 0 where
  pub few : length items ≤ v.plan.capacity
  pub from : AreOfPosters v.plan items
  pub known : (p : ℕ) → IsPrefix (posts_of p v.put) (posts_of p (v.got ++ items)) × (IsIn v p → posts_of p v.put ≡ posts_of p (v.got ++ items))

-- what a poster's pass shows of it: its posts there are the last of those that it has put, and those before them were taken
pub record ShowsOwn (v : View) (items : List Post) : Type 0 where
  pub few : length items ≤ v.plan.capacity
  pub from : AreOfPosters v.plan items
  pub taken : List Post
  pub own : v.put ≡ taken ++ posts_of v.number items
  pub known : IsPrefix v.got taken

-- a post went in after the others
abbrev pub HasPut : View → Post → View → Type 0
HasPut v x w = (w ≡ poster_view v.plan v.number (v.put ++ x ∷ []) v.got) × (others : List Post) × ShowsOwn w (others ++ x ∷ [])

-- a post came out, and the others stay
abbrev pub HasTaken : View → Post → View → Type 0
HasTaken v x w = (w ≡ owner_view v.plan v.number v.put (v.got ++ x ∷ [])) × (others : List Post) × Shows v (x ∷ others)

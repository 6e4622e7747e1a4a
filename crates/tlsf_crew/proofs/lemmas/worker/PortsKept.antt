-- A release and a post keep what another heap and what a put keep, over ports of any kind.
use Rattle.tlsf_crew.proofs.Common.{◌≡◌, ◌⊎◌, ℕ, Result, refl, sym, subst, inl, inr, cases_eq, Name, CrewRefusal, Released, Worker, heap_of, id_of, SameButHeap, SameButPorts, KeepsHeap, Posts, ReleasesOrPosts}
use Rattle.tlsf_heap.specs.Calls as heap
use Rattle.tlsf_crew.proofs.lemmas.worker.OwnHeaps.{call_keeps, same_heap_keeps}

-- what ports keep of the yards that a worker fits
pub record Keeping {sli : ℕ} {P : Type 0} (reaches : P → ℕ → Type 0) (puts : ℕ → P → P → Name → Result (Unit {0}) CrewRefusal → Type 0) (keeps : Worker sli P → Worker sli P → Type 0) : Type 0 where
  pub either : (p : P) (j : ℕ) → reaches p j ⊎ ¬ (reaches p j)
  pub heap : (a v : Worker sli P) → SameButHeap a v → KeepsHeap (heap_of a) (heap_of v) → keeps a v
  pub put : (a v : Worker sli P) (name : Name) (answer : Result (Unit {0}) CrewRefusal) → SameButPorts a v → puts (id_of a) a.ports v.ports name answer → keeps a v

pub keeping_same : {sli : ℕ} {P : Type 0} (reaches : P → ℕ → Type 0) (puts : ℕ → P → P → Name → Result (Unit {0}) CrewRefusal → Type 0) (keeps : Worker sli P → Worker sli P → Type 0) (k : Keeping reaches puts keeps)
    → (a v : Worker sli P) → v ≡ a → keeps a v
keeping_same reaches puts keeps k a v same = subst (keeps a) (sym same) (k.heap a a (refl, refl) (same_heap_keeps (heap_of a) (heap_of a) refl))

pub post_keeps : {sli : ℕ} {P : Type 0} (reaches : P → ℕ → Type 0) (puts : ℕ → P → P → Name → Result (Unit {0}) CrewRefusal → Type 0) (keeps : Worker sli P → Worker sli P → Type 0) (k : Keeping reaches puts keeps)
    → (a v : Worker sli P) (name : Name) (answer : Result (Unit {0}) CrewRefusal) → Posts reaches puts a v name answer → keeps a v
post_keeps reaches puts keeps k a v name answer posts = elim (cases_eq name.heap (id_of a)) [
  | inl is ↦ keeping_same reaches puts keeps k a v (posts.own is).1
  | inr ne ↦ elim (k.either a.ports name.heap) [
    | inl has ↦ let post = posts.there ne has in k.put a v name answer post.same post.through
    | inr none ↦ keeping_same reaches puts keeps k a v (posts.nowhere ne none).1
  ]
]

pub release_keeps : {sli : ℕ} {P : Type 0} (reaches : P → ℕ → Type 0) (puts : ℕ → P → P → Name → Result (Unit {0}) CrewRefusal → Type 0) (keeps : Worker sli P → Worker sli P → Type 0) (k : Keeping reaches puts keeps)
    → (a v : Worker sli P) (name : Name) (answer : Result Released CrewRefusal) → ReleasesOrPosts reaches puts a v name answer → keeps a v
release_keeps reaches puts keeps k a v name answer releases = elim (cases_eq name.heap (id_of a)) [
  | inl is ↦ let h = releases.here is in k.heap a v h.same (call_keeps (heap_of a) (heap_of v) (heap.Release name) h.releases.heap)
  | inr ne ↦ elim (k.either a.ports name.heap) [
    | inl has ↦ let t = releases.there ne has in k.put a v name t.posted t.post.same t.post.through
    | inr none ↦ keeping_same reaches puts keeps k a v (releases.nowhere ne none).1
  ]
]

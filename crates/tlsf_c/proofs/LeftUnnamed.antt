-- Which payloads a drain leaves: it goes on by some posts.
use Rattle.tlsf_c.proofs.Common.{◌≡◌, ℕ, suc, ◌+◌, ◌<◌, ◌++◌, [], ◌∷◌, List, length, take, ap, sym, ◌∙◌, subst, arith, Block, HeapState, released, IsOthersWord, LeavesPayloads, Name, Post, drained, LeavesUnnamed}
use Rattle.std.proofs.Math.Seq.{take-suc}
use lib.ListN.{get_or}
use Rattle.std.specs.List.{AllByRecursion}
use Rattle.tlsf_heap.specs.Steps.{Take}
use Rattle.tlsf_heap.proofs.lemmas.blocks.Lawful.{all_left, all_right}
use Rattle.tlsf_heap.proofs.lemmas.calls.Leaves.{word_step}
use Rattle.tlsf_heap.proofs.lemmas.words.Footprint.{one_place}

-- a word of another block than two is one of another than the first once the second is released
released_others : (h : HeapState) (to k : ℕ) → IsOthersWord h.blocks to k → (name : Name) → IsOthersWord h.blocks name.at k → IsOthersWord (released h name).heap.blocks to k
released_others h to k o name p =
    let same : o.1 ≡ p.1 = one_place h.blocks o.0 p.0 o.1 p.1 3 3 k o.2 p.2 in word_step h to k o 0 (Take name) (λ at. p.4 (sym same ∙ at))

-- and of others than those of several posts
abbrev Unnamed : HeapState → ℕ → List Post → Type 0
Unnamed h k posts = AllByRecursion (λ p. IsOthersWord h.blocks p.name.at k) posts

after_one : (h : HeapState) (k : ℕ) (name : Name) → IsOthersWord h.blocks name.at k → (posts : List Post) → Unnamed h k posts → Unnamed (released h name).heap k posts
after_one h k name o [] all = tt
after_one h k name o (p ∷ posts) all = (released_others h p.name.at k all.0 name o, after_one h k name o posts all.1)

after_drain : (h : HeapState) (k : ℕ) (gone posts : List Post) → Unnamed h k gone → Unnamed h k posts → Unnamed (drained h gone) k posts
after_drain h k [] posts first all = all
after_drain h k (p ∷ gone) posts first all = after_drain (released h p.name).heap k gone posts (after_one h k p.name first.0 gone first.1) (after_one h k p.name first.0 posts all)

pub leaves_more : (first last : HeapState) (posts more : List Post) (old mid new : List ℕ) → last ≡ drained first posts
    → LeavesUnnamed first.blocks posts old mid → LeavesUnnamed last.blocks more mid new → LeavesUnnamed first.blocks (posts ++ more) old new
leaves_more first last posts more old mid new is before after k all =
    let front : Unnamed first k posts = all_left (λ p. IsOthersWord first.blocks p.name.at k) posts more all in
    let back : Unnamed first k more = all_right (λ p. IsOthersWord first.blocks p.name.at k) posts more all in
    after k (subst (λ (s : HeapState). Unnamed s k more) (sym is) (after_drain first k posts more front back)) ∙ before k front

-- the release of one
pub leaves_one : (blocks : List Block) (p : Post) (old new : List ℕ) → LeavesPayloads blocks p.name.at old new → LeavesUnnamed blocks (p ∷ []) old new
leaves_one blocks p old new left k all = left k all.0

pub one_longer : (posts : List Post) (i : ℕ) (d : Post) → i < length posts → take (i + 1) posts ≡ take i posts ++ get_or posts i d ∷ []
one_longer posts i d inside = let next : i + 1 ≡ suc i = omega arith in ap (λ (n : ℕ). take n posts) next ∙ take-suc posts i d inside

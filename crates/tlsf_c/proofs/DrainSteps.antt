-- A drain goes on: what it did by some posts, and then by more.
use Rattle.tlsf_c.proofs.Common.{◌≡◌, ℕ, ◌+◌, ◌<◌, ◌++◌, [], ◌∷◌, List, Result, length, length-append, take, ap, sym, ◌∙◌, subst, arith, true, release_touches, Name, Refusal, Seen, Post, heap_in, touched_in, counts_in, serves, words_in_use, posts_named, post_of, name_of}
use lib.ListN.{get_or}
use Rattle.std.proofs.lemmas.List.{map_more}
use Rattle.tlsf_heap.specs.Effects.{Releases}
use Rattle.tlsf_c.specs.Drains.{Drains, ReleasesAll}
use Rattle.tlsf_c.specs.Handles.{ReleasesIn}
use Rattle.tlsf_c.specs.declared.heap_slot.HeapSlot.{HeapSlot}
use Rattle.tlsf_c.specs.declared.names.BlockName.{BlockName}
use Rattle.tlsf_c.proofs.Draining.{released_more, drained_none, counts_more}
use Rattle.tlsf_c.proofs.LeftUnnamed.{leaves_one, leaves_more, one_longer}

pub drains_more : (first last now : HeapSlot) (posts more : List Post) → Drains first last posts → Drains last now more → Drains first now (posts ++ more)
drains_more first last now posts more before after =
    let many = length-append posts more in
    record {
      stays = record {
        serves = after.stays.serves;
        heap = record {
          level = after.stays.heap.level ∙ before.stays.heap.level;
          stays = after.stays.heap.stays ∙ before.stays.heap.stays;
          touches_rise = omega (arith, before.stays.heap.touches_rise, after.stays.heap.touches_rise);
        };
        base = after.stays.base ∙ before.stays.base;
        number = after.stays.number ∙ before.stays.number;
        align = after.stays.align ∙ before.stays.align;
        mixed = after.stays.mixed ∙ before.stays.mixed;
      };
      drained = released_more (heap_in first) (heap_in last) (heap_in now) posts more before.drained after.drained;
      no_counts = λ none. after.no_counts (omega (arith, none, many)) ∙ before.no_counts (omega (arith, none, many));
      counts = λ some. counts_more (counts_in first) (counts_in last) (counts_in now) (words_in_use (heap_in last)) (words_in_use (heap_in now)) (length posts) (length more)
          before.no_counts before.counts after.no_counts (λ none. ap words_in_use (after.drained ∙ drained_none (heap_in last) more none)) after.counts (omega (arith, some, many));
      touches = omega (arith, before.touches, after.touches, many);
      leaves = leaves_more (heap_in first) (heap_in last) posts more (touched_in first) (touched_in last) (touched_in now) before.drained before.leaves after.leaves;
    }

-- the release of one
one_released : (old new : HeapSlot) (post : Post) (answer : ℕ) → serves old ≡ true → ReleasesIn old new post.name answer → Drains old new (post ∷ [])
one_released old new post answer idle gone =
    let effect = (gone.does idle).effect in
    record {
      stays = gone.stays idle;
      drained = effect.heap;
      no_counts = λ none. absurd (omega (arith, none));
      counts = λ some. gone.counts idle;
      touches = omega (arith, effect.touches);
      leaves = leaves_one (heap_in old).blocks post (touched_in old) (touched_in new) effect.leaves;
    }

-- one post more of several
pub drains_next : (posts : List Post) (i : ℕ) (d : Post) → i < length posts → (first last now : HeapSlot) (answer : ℕ) → Drains first last (take i posts)
    → ReleasesIn last now (get_or posts i d).name answer → Drains first now (take (i + 1) posts)
drains_next posts i d inside first last now answer before gone =
    subst (λ (l : List Post). Drains first now l) (sym (one_longer posts i d inside))
    (drains_more first last now (take i posts) (get_or posts i d ∷ []) before (one_released last now (get_or posts i d) answer before.stays.serves gone))

-- one name more of several
pub released_next : (names : List BlockName) (i : ℕ) (d : BlockName) → i < length names → (name : Name) → name ≡ name_of (get_or names i d) → (first last now : Seen) {answer : Result (Unit {0}) Refusal}
    → ReleasesAll first last (posts_named (take i names)) → Releases release_touches last now name answer → ReleasesAll first now (posts_named (take (i + 1) names))
released_next names i d inside name is first last now before gone =
    let one = post_of name in
    let some = posts_named (take i names) in
    let longer : posts_named (take (i + 1) names) ≡ some ++ one ∷ [] = map_more (λ n. post_of (name_of n)) names i d inside ∙ ap (λ (n : Name). some ++ post_of n ∷ []) (sym is) in
    subst (ReleasesAll first now) (sym longer) (record {
      heap = released_more first.heap last.heap now.heap some (one ∷ []) before.heap gone.heap;
      touches = omega (arith, before.touches, gone.touches, length-append some (one ∷ []));
      rise = omega (arith, before.rise, gone.rise);
      leaves = leaves_more first.heap last.heap some (one ∷ []) first.touched last.touched now.touched before.heap before.leaves (leaves_one last.heap.blocks one last.touched now.touched gone.leaves);
    })

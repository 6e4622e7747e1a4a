-- Maps of heaps, one heap after another.
use Rattle.tlsf_picture.proofs.Common.{◌≡◌, ℕ, ◌+◌, ◌<◌, List, [], ◌∷◌, ◌++◌, length, map, get_or, take, Option, refl, sym, subst, arith, AllZip, take_more, heap_of, HeapState, AreMaps, IsMap, IsMapBy, label_of, IsScript, level_in, Stands, Trace}
use Rattle.tlsf_heap.specs.declared.name.Name.{Name}
use Rattle.tlsf_map.specs.declared.mapped_heap.MappedHeap.{MappedHeap}
use Rattle.tlsf_lines.specs.Events.{labels_of}
use Rattle.tlsf_lines.specs.declared.script.Script.{Script}
use Rattle.tlsf_trace.specs.Moments.{moment_at, moment_of}
use Rattle.tlsf_trace.specs.declared.player.Player.{Player}
use Rattle.tlsf_trace.proofs.WholeOutput.{heaps_in}

-- one of each more
pub push_both : {A B : Type 0} (R : A → B → Type 0) (xs : List A) (ys : List B) (x : A) (y : B) → AllZip R xs ys → R x y → AllZip R (xs ++ x ∷ []) (ys ++ y ∷ [])
push_both R [] [] x y all one = (one, tt)
push_both R [] (b ∷ ys) x y all one = absurd all
push_both R (a ∷ xs) [] x y all one = absurd all
push_both R (a ∷ xs) (b ∷ ys) x y all one = (all.0, push_both R xs ys x y all.1 one)

-- there are as many maps as heaps
pub as_many : {A B : Type 0} (R : A → B → Type 0) (xs : List A) (ys : List B) → AllZip R xs ys → length ys ≡ length xs
as_many R [] [] all = refl
as_many R [] (b ∷ ys) all = absurd all
as_many R (a ∷ xs) [] all = absurd all
as_many R (a ∷ xs) (b ∷ ys) all = let e = as_many R xs ys all.1 in omega (arith, e)

-- the map of this heap after those of the heaps before
pub map_more : (sli : ℕ) (made : List (Option Name)) (labels : List (Option ℕ)) (heaps : List HeapState) (i : ℕ) (d heap : HeapState) (maps : List MappedHeap) (known : ℕ → Option ℕ) (mapped : MappedHeap)
    → i < length heaps → get_or heaps i d ≡ heap → heap.id ≡ i → known ≡ label_of i made labels → IsMapBy sli known heap mapped
    → AreMaps sli made labels (take i heaps) maps → AreMaps sli made labels (take (i + 1) heaps) (maps ++ mapped ∷ [])
map_more sli made labels heaps i d heap maps known mapped lt here id knows is so_far =
    let own : IsMap sli made labels heap mapped =
    subst (λ (n : ℕ). IsMapBy sli (label_of n made labels) heap mapped) (sym id) (subst (λ (f : ℕ → Option ℕ). IsMapBy sli f heap mapped) knows is) in
    subst (λ (l : List HeapState). AreMaps sli made labels l (maps ++ mapped ∷ [])) (sym (take_more heaps i d lt))
    (push_both (IsMap sli made labels) (take i heaps) maps (get_or heaps i d) mapped so_far (subst (λ (h : HeapState). IsMap sli made labels h mapped) (sym here) own))

-- maps of the heaps of a yard that stands after a line are maps of the heaps of its moment
pub maps_behind : {sli : ℕ} (line : ℕ) (trace : Trace) (script : Script) (player : Player sli) (maps : List MappedHeap) → level_in trace.header ≡ sli → IsScript script trace → Stands line trace player
    → AreMaps sli player.made.items script.labels.items (map heap_of player.workers.items) maps
    → AreMaps (level_in trace.header) (moment_of line trace).made (labels_of trace) (moment_of line trace).world.heaps maps
maps_behind {sli} line trace script player maps level is stands mapped =
    let heaps = map heap_of player.workers.items in
    subst (λ (n : ℕ). AreMaps n (moment_at n line trace).made (labels_of trace) (moment_at n line trace).world.heaps maps) (sym level)
    (subst (λ (hs : List HeapState). AreMaps sli (moment_at sli line trace).made (labels_of trace) hs maps) (heaps_in player.workers.items _ stands.world)
    (subst (λ (ls : List (Option ℕ)). AreMaps sli (moment_at sli line trace).made ls heaps maps) is.labels
    (subst (λ (names : List (Option Name)). AreMaps sli names script.labels.items heaps maps) stands.made mapped)))

use Rattle.tlsf_picture.proofs.Common.{◌≡◌, ◌+◌, ◌<◌, List, length, map, get_or, take, sym, ap, ◌∙◌, subst, arith, get_or_default, length-map, heap_of, no_heap, HeapState, AreMaps}
use Rattle.std.proofs.Math.ListN.{get_or-map}
use Rattle.std.proofs.Math.Seq.{map-set_same}
use Rattle.std.proofs.lemmas.Option.{slice_get-get_or}
use Rattle.tlsf_picture.proofs.Yards.{heap_left}
use Rattle.tlsf_picture.proofs.Maps.{map_more}
use Rattle.tlsf_picture.proofs.mapping.map_heaps.Goals as goal

pub map_heap-requires : goal.map_heap-requires
map_heap-requires g c =
    let ws = c.loop-number.workers in
    let i = c.loop-number.number in
    let found = c.index-workers-number.result in
    let heaps = map heap_of c.args.workers.now in
    let inv = c.loop-number.invariant in
    let len : length heaps ≡ length ws = ap length (sym inv.heaps) ∙ length-map ws heap_of in
    let count = length-map c.args.workers.now heap_of in
    let within : i < length heaps = omega (arith, len, c.loop-number-test.true) in
    let here : get_or heaps i no_heap ≡ heap_of (get_or ws i found) =
    get_or_default heaps i no_heap (heap_of found) within ∙ (ap (λ (l : List HeapState). get_or l i (heap_of found)) (sym inv.heaps) ∙ get_or-map heap_of ws i found) in
    (omega arith, ap (λ (h : HeapState). h.id) (sym here) ∙ (c.requires.heaps i (omega (arith, within, count))).0)

pub loop-number-preserved : goal.loop-number-preserved
loop-number-preserved g c =
    let ws = c.loop-number.workers in
    let i = c.loop-number.number in
    let found = c.index-workers-number.result in
    let heaps = map heap_of c.args.workers.now in
    let inv = c.loop-number.invariant in
    let len : length heaps ≡ length ws = ap length (sym inv.heaps) ∙ length-map ws heap_of in
    let count = length-map c.args.workers.now heap_of in
    let within : i < length heaps = omega (arith, len, c.loop-number-test.true) in
    let here : get_or heaps i no_heap ≡ heap_of (get_or ws i found) =
    get_or_default heaps i no_heap (heap_of found) within ∙ (ap (λ (l : List HeapState). get_or l i (heap_of found)) (sym inv.heaps) ∙ get_or-map heap_of ws i found) in
    let id = ap (λ (h : HeapState). h.id) (sym here) ∙ (c.requires.heaps i (omega (arith, within, count))).0 in
    let was = get_or ws i found in
    let is = slice_get-get_or ws i found (omega (arith, c.loop-number-test.true)) in
    record {
      shows = heap_left _ ws i was c.map_heap.new.worker inv.shows is c.map_heap.ensures.left;
      heaps = map-set_same heap_of ws i c.map_heap.new.worker found c.map_heap.ensures.left.heap ∙ inv.heaps;
      so_far = subst (AreMaps g.row.SLI c.args.made.now c.args.labels.now (take (i + 1) heaps)) (sym c.in_ok-push.ensures.items)
          (map_more g.row.SLI c.args.made.now c.args.labels.now heaps i no_heap (heap_of (get_or ws i found)) c.loop-number.maps.items _ c.in_ok-map_heap.field-0
          within here id c.in_ok-known.ensures c.in_ok-map_heap.ensures.mapped inv.so_far);
    }

pub returns-in_err-map_heap-clause-shows : goal.returns-in_err-map_heap-clause-shows
returns-in_err-map_heap-clause-shows g c =
    heap_left _ c.loop-number.workers c.loop-number.number _ c.map_heap.new.worker c.loop-number.invariant.shows
    (slice_get-get_or c.loop-number.workers c.loop-number.number c.index-workers-number.result (omega (arith, c.loop-number-test.true))) c.map_heap.ensures.left

pub returns-in_err-push-clause-shows : goal.returns-in_err-push-clause-shows
returns-in_err-push-clause-shows g c =
    heap_left _ c.loop-number.workers c.loop-number.number _ c.map_heap.new.worker c.loop-number.invariant.shows
    (slice_get-get_or c.loop-number.workers c.loop-number.number c.index-workers-number.result (omega (arith, c.loop-number-test.true))) c.map_heap.ensures.left

use Rattle.tlsf_picture.proofs.Common.{◌≡◌, map, take, heap_of, AreMaps, ShowsSame}
use Rattle.tlsf_picture.proofs.mapping.map_heaps.Given as goal

-- the heaps stay, and those below this number have their maps
abbrev pub invariant-loop-number : goal.invariant-loop-number
invariant-loop-number g l = record {
  shows : ShowsSame l.fn.workers l.workers;
  heaps : map heap_of l.workers ≡ map heap_of l.fn.workers;
  so_far : AreMaps g.row.SLI l.made l.labels (take l.number (map heap_of l.fn.workers)) l.maps.items;
}

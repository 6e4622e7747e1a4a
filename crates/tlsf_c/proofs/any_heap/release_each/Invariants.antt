use Rattle.tlsf_c.proofs.Common.{◌≡◌, take, posts_named, seen}
use Rattle.tlsf_c.specs.Drains.{ReleasesAll}
use Rattle.tlsf_c.proofs.any_heap.release_each.Given as goal

abbrev pub invariant-loop-block : goal.invariant-loop-block
invariant-loop-block g l = record {
  releases : ReleasesAll (seen l.fn.heap) (seen l.heap) (posts_named (take l.block-index l.names));
  stays : l.heap.extents ≡ l.fn.heap.extents;
  most : l.heap.most_in_use ≡ l.fn.heap.most_in_use;
}

use Rattle.tlsf_heap.proofs.Common.{◌+◌, ◌*◌, ◌≤◌, Begins, AreSound, OnlyLooks, OnlyHeaders, block_touches, image_of}
use Rattle.tlsf_heap.proofs.check.check_words.Given as goal

-- this many blocks, each of four words or more, are sound up to the place, where one more begins, and nothing was written
abbrev pub invariant-loop-count : goal.invariant-loop-count
invariant-loop-count l = record {
  sound : AreSound (image_of l.fn.words) l._count l.fn.from l.at;
  begins : Begins (image_of l.fn.words) l.at;
  far : l.fn.from + 4 * l._count ≤ l.at;
  looks : OnlyLooks l.fn.words l.words (1 + block_touches * l._count);
  touched : OnlyHeaders (image_of l.fn.words) l.fn.words.touched l.words.touched;
}

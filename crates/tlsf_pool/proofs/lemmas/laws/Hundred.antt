-- The words for a hundred blocks, and for a large block beside small ones, by computing.
use Rattle.tlsf_pool.proofs.Common.{refl, low, classes, search_of, ThousandsAndOne, HundredBlocks}

pub hundred : HundredBlocks
unfolding low classes search_of
hundred = refl

pub thousands_and_one : ThousandsAndOne
unfolding low classes search_of
thousands_and_one = refl

use Rattle.tlsf_pool.proofs.lemmas.laws.FixedCalls.{fixed_exact, fixed_serves, fixed_suffices, one_length}
use Rattle.tlsf_pool.proofs.lemmas.laws.FixedSize.{blocks_whole, fixed_kept, fixed_room, fixed_tight, new_fixed, sure_again}
use Rattle.tlsf_pool.proofs.lemmas.laws.FixedWords.{fewer_mixed, fewer_table, hundred_fixed}
use Rattle.tlsf_pool.proofs.laws.fixed_size.fixed_size_suffices.Goals as goal

pub returns : goal.returns
returns c = record {
  room = fixed_suffices;
  served = fixed_serves;
  exact = fixed_exact;
  lengths = one_length;
  begins = new_fixed;
  kept = fixed_kept;
  finds = fixed_room;
  tight = fixed_tight;
  whole = blocks_whole;
  sure = sure_again;
  mixed = fewer_mixed;
  table = fewer_table;
  example = hundred_fixed;
}

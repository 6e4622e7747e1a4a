use Rattle.std.proofs.Common.{refl}
use Rattle.tlsf_heap.proofs.lemmas.laws.WordsInUse.{in_use_allocated, in_use_released, in_use_resized, words_set, words_kept_run}
use Rattle.tlsf_heap.proofs.lemmas.laws.AlignedWords.{in_use_aligned}
use Rattle.tlsf_heap.proofs.lemmas.laws.MovedWords.{in_use_moved}
use Rattle.tlsf_heap.proofs.laws.words_in_use_add_up.Goals as goal

pub returns : goal.returns
returns c = record {
  allocated = in_use_allocated;
  released = in_use_released;
  resized = in_use_resized;
  moved = in_use_moved;
  aligned = λ sli level h n step skew lawful some least name. in_use_aligned sli level h n step skew lawful some least name;
  written = words_set;
  kept = λ sli level h name. words_kept_run sli level name h;
  opened = λ id words first. refl;
  reported = λ sli h. refl;
}

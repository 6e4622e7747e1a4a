use Rattle.tlsf_heap.proofs.lemmas.laws.NoFit.{no_fit_words, ok_words}
use Rattle.tlsf_heap.proofs.laws.refused_only_where_nothing_fits.Goals as goal

pub returns : goal.returns
returns c = record { no_fit = no_fit_words; ok = ok_words }

use Rattle.tlsf_heap.proofs.lemmas.laws.PayloadWords.{live_word, others_word, word_run}
use Rattle.tlsf_heap.proofs.laws.payload_words_stay.Goals as goal

pub returns : goal.returns
returns c = record { live = live_word; others = others_word; run = λ sli h name k. word_run name k sli h }

use Rattle.tlsf_heap.proofs.Common.{◌∙◌, sym}
use Rattle.tlsf_heap.proofs.lemmas.calls.GivenBack.{live_named}
use Rattle.tlsf_heap.proofs.lemmas.laws.WordsInUse.{words_live}
use Rattle.tlsf_heap.proofs.heap.Heap.words_of.Goals as goal

pub returns-clause-words : goal.returns-clause-words
returns-clause-words g c =
    let own = c.tag_of-own.ensures in
    let live = live_named c.args.self.now.heap c.args.name c.tag_of-own.result own.tag in
    c.size.ensures.value ∙ live.2.size ∙ sym (words_live c.args.self.now.heap own.frame.keeps.was_lawful.rooms live.1)

-- The header of the one block is written, and its links name none.
use Rattle.tlsf_heap.proofs.Common.{◌≡◌, ◌<◌, ℕ, true, Bool, List, length, set, get_or, get_or-set_same, get_or-set_other, length-set, length-replicate, sym, ap, ◌∙◌, arith, links_word, tag_word, nowhere, Extents}
use Rattle.tlsf_class.proofs.Tables.{class_of-first}
use Rattle.tlsf_heap.proofs.lemmas.words.Alone.{IsListed, alone_holds, is_alone}
use Rattle.tlsf_heap.proofs.region.Region.open_for.Given.{Over}
use Rattle.tlsf_heap.proofs.region.Region.open_for.Goals as goal
use Rattle.tlsf_heap.proofs.region.Region.open_for.Goals.{After-of_least}

listed : (g : Over) (c : After-of_least g) → IsListed g.row.SLI 4 c.args.stamp 4 c.set_links.new.self c.of_least.result
listed g c =
    let opened = c.in_ok-region.ensures in
    let header = c.first_header.ensures in
    let writes = c.set_links.ensures.writes in
    let words = c.first_header.new.words.words in
    let links = links_word nowhere nowhere in
    let four : length words ≡ 4 = header.only.length ∙ ap (length {A = ℕ}) opened.words ∙ length-replicate {A = ℕ} 4 0 in
    let size : length c.set_links.new.self.words ≡ 4 = ap (length {A = ℕ}) writes.words ∙ length-set words 2 links ∙ four in
    let inside : 2 < length words = omega arith in
    let own = c.of_least.ensures.least c.set_links.new.self.words (omega arith) (omega arith) (ap (λ (l : List ℕ). get_or l 2 0) writes.words ∙ get_or-set_same words 2 links 0 inside) in
    record {
      least = omega arith;
      most = omega arith;
      long = size;
      tag = ap (λ (l : List ℕ). get_or l 0 0) writes.words ∙ get_or-set_other words 2 0 links 0 (λ e. omega (arith, e)) ∙ header.header.tag ∙ ap (λ (l : List ℕ). tag_word (length l) true true nowhere) opened.words;
      mark = ap (λ (l : List ℕ). get_or l 1 0) writes.words ∙ get_or-set_other words 2 1 links 0 (λ e. omega (arith, e)) ∙ header.header.mark;
      starts = writes.starts ∙ header.starts ∙ ap (λ (l : List Bool). set l 0 true) opened.starts;
      threaded = own.threaded;
      is_class = sym (class_of-first g.row.SLI c.requires.level);
      list = own.list;
      others = own.others;
    }

pub invariant_of-result : goal.invariant_of-result
invariant_of-result g c = alone_holds g.row.SLI 4 c.args.stamp 4 c.set_links.new.self c.of_least.result (listed g c)

pub returns-clause-alone : goal.returns-clause-alone
returns-clause-alone g c = is_alone g.row.SLI 4 c.args.stamp 4 c.set_links.new.self c.of_least.result (listed g c)

-- the memory is that of the words
stays : (g : Over) (c : After-of_least g) → c.set_links.new.self.extents ≡ c.in_ok-region.region.extents
stays g c = c.set_links.ensures.writes.stays ∙ c.first_header.ensures.stays

pub returns-clause-words_room : goal.returns-clause-words_room
returns-clause-words_room g c = omega (arith, c.in_ok-region.ensures.words_room, ap (λ (e : Extents). e.words.capacity) (stays g c))

pub returns-clause-starts_room : goal.returns-clause-starts_room
returns-clause-starts_room g c = omega (arith, c.in_ok-region.ensures.starts_room, ap (λ (e : Extents). e.starts.capacity) (stays g c))

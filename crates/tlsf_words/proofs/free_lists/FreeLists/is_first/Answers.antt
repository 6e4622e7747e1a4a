use Rattle.tlsf_words.proofs.Common.{◌≡◌, Bool, true, false, not, refl, sym, ap, length, ◌∙◌, arith, first_of}
use Rattle.tlsf_words.proofs.Threads.{head-list_of, listed_within}
use Rattle.tlsf_words.proofs.Remove.{head_previous, none_before, previous_within}
use Rattle.tlsf_words.proofs.free_lists.FreeLists.is_first.Goals as goal

is_false : (b : Bool) → not b ≡ true → b ≡ false
is_false false e = refl
is_false true e = sym e

is_true : (b : Bool) → (b ≡ true → ⊥) → not b ≡ true
is_true false not_so = refl
is_true true not_so = absurd (not_so refl)

pub links-requires : goal.links-requires
links-requires g c = listed_within g.row.SLI c.args.self.now.heads c.args.self.now.members c.args.words.now.words c.requires.threaded c.requires.listed.0 c.args.at c.requires.listed.1

pub is_place-requires : goal.is_place-requires
is_place-requires g c = λ some.
    let links = c.links.ensures in
    omega (arith, links.reads.small, previous_within g.row.SLI c.args.self.now.heads c.args.self.now.members c.args.words.now.words c.requires.listed.0 c.args.at c.requires.threaded links.reads.small c.requires.listed.1 c.links.result.next c.links.result.previous links.next links.previous some)

pub returns-clause-first : goal.returns-clause-first
returns-clause-first g c class listed =
    let links = c.links.ensures in
    let heads = c.args.self.now.heads in
    let words = c.args.words.now.words in (
      λ first. none_before g.row.SLI heads c.args.self.now.members words class c.args.at c.requires.threaded links.reads.small listed (sym links.previous ∙ c.is_place.ensures.no (is_false c.is_place.result first)),
      λ is. is_true c.is_place.result (λ some. c.is_place.ensures.yes some (links.previous
          ∙ sym (head_previous g.row.SLI heads c.args.self.now.members words class c.args.at c.requires.threaded (λ none. let empty = ap length (sym is ∙ none) in omega (arith, empty)) (sym (head-list_of heads words class ∙ ap first_of is)) links.reads.small))),
    )

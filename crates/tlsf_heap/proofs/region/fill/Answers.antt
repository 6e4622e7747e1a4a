-- The one block is written, and then it is listed. Its links come after its tag and its stamp.
use Rattle.tlsf_heap.proofs.Common.{◌≡◌, ◌≢◌, ℕ, ◌<◌, [], ◌∷◌, class_of, true, Bool, List, length, set, get_or, ap, ◌∙◌, arith, list_of, times}
use Rattle.tlsf_words.proofs.Touching.{times_other}
use Rattle.tlsf_class.proofs.TwoLevels.{words_any}
use Rattle.tlsf_heap.proofs.lemmas.words.Alone.{IsListed, only_place, alone_holds, is_alone}
use Rattle.tlsf_heap.proofs.region.fill.Given.{Over}
use Rattle.tlsf_heap.proofs.region.fill.Goals as goal
use Rattle.tlsf_heap.proofs.region.fill.Goals.{After-push}

pub class_of-class-requires : goal.class_of-class-requires
class_of-class-requires g c = (omega arith, (c.requires.level, (c.len.ensures.least, omega (arith, c.requires.most, c.len.ensures.words))))

pub push-requires : goal.push-requires
push-requires g c = (
  omega arith,
  (
    omega arith,
    (
      c.requires.threaded c.first_header.new.words.words,
      (omega (arith, c.len.ensures.words, c.len.ensures.least, c.first_header.ensures.only.length), λ class listed. absurd (omega (arith, listed.1, ap (length {A = ℕ}) (c.requires.empty c.first_header.new.words.words class)))),
    ),
  ),
)

-- the head of its list is the only place in any
others : (g : Over) (c : After-push g) → (other : ℕ) → other ≢ c.class_of-class.result → list_of c.push.new.self.heads c.push.new.words.words other ≡ []
others g c other n = c.push.ensures.lists.others other n ∙ c.requires.empty c.first_header.new.words.words other

here : (g : Over) (c : After-push g) → list_of c.push.new.self.heads c.push.new.words.words c.class_of-class.result ≡ 0 ∷ []
here g c = c.push.ensures.lists.list ∙ ap (λ (places : List ℕ). 0 ∷ places) (c.requires.empty c.first_header.new.words.words c.class_of-class.result)

same_word : (g : Over) (c : After-push g) (k : ℕ) → k < 2 → get_or c.push.new.words.words k 0 ≡ get_or c.first_header.new.words.words k 0
same_word g c k low = c.push.ensures.lists.words k (λ class at there e. omega (arith, low, e, only_place (list_of c.push.new.self.heads c.push.new.words.words) c.class_of-class.result (here g c) (others g c) class at there))

listed : (g : Over) (c : After-push g) → IsListed g.row.SLI (length c.args.words.now.words) c.args.stamp c.class_of-class.result c.push.new.words c.push.new.self
listed g c =
    let header = c.first_header.ensures in
    let long : length c.first_header.new.words.words ≡ length c.args.words.now.words = header.only.length in
    record {
      least = omega (arith, c.len.ensures.words, c.len.ensures.least);
      most = words_any g.row.SLI (length c.args.words.now.words) c.requires.most;
      long = c.push.ensures.links.length ∙ long;
      tag = same_word g c 0 (omega arith) ∙ header.header.tag;
      mark = same_word g c 1 (omega arith) ∙ header.header.mark;
      starts = c.push.ensures.links.starts ∙ header.starts ∙ ap (λ (l : List Bool). set l 0 true) c.requires.starts;
      threaded = c.push.ensures.lists.threaded;
      is_class = c.class_of-class.ensures ∙ ap (class_of g.row.SLI) c.len.ensures.words;
      list = here g c;
      others = others g c;
    }

pub returns-clause-holds : goal.returns-clause-holds
returns-clause-holds g c = alone_holds g.row.SLI _ c.args.stamp _ c.push.new.words c.push.new.self (listed g c)

pub returns-clause-alone : goal.returns-clause-alone
returns-clause-alone g c = is_alone g.row.SLI _ c.args.stamp _ c.push.new.words c.push.new.self (listed g c)

pub returns-clause-stays : goal.returns-clause-stays
returns-clause-stays g c = c.push.ensures.links.stays ∙ c.first_header.ensures.stays

pub returns-clause-touches : goal.returns-clause-touches
returns-clause-touches g c = omega (arith, c.push.ensures.links.touches, c.first_header.ensures.touches)

pub returns-clause-rise : goal.returns-clause-rise
returns-clause-rise g c = omega (arith, c.push.ensures.links.rise, c.push.ensures.links.words_rise, c.first_header.ensures.touches)

pub returns-clause-touched : goal.returns-clause-touched
returns-clause-touched g c k past =
    let empty = c.requires.empty c.first_header.new.words.words in
    c.push.ensures.footprint.touched k (λ e. omega (arith, e, past)) (λ class other there. absurd (omega (arith, there.1, ap (length {A = ℕ}) (empty class))))
    ∙ ap (λ (l : List ℕ). times l k) c.first_header.ensures.touched
    ∙ times_other 1 k _ (λ e. omega (arith, e, past)) ∙ times_other 0 k _ (λ e. omega (arith, e, past))

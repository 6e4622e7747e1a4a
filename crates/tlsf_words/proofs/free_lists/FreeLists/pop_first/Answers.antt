use Rattle.tlsf_words.proofs.Common.{◌≡◌, ◌<◌, ◌+◌, ◌∷◌, ℕ, List, length, get_or, refl, ap, ◌∙◌, sym, subst, arith, Contains, without_member, ListHeads, nowhere, list_of, high_half, AreTied, times}
use Rattle.tlsf_words.proofs.Touching.{times_other, one_touch, one_word, groups_then}
use Rattle.tlsf_words.proofs.Threads.{listed_within}
use Rattle.tlsf_words.proofs.Remove.{RemoveWrites, next_within, next_listed, head_member, head_previous, head_then_left, removed}
use Rattle.tlsf_words.proofs.free_lists.FreeLists.pop_first.Given.{Over}
use Rattle.tlsf_words.proofs.free_lists.FreeLists.pop_first.Goals as goal

-- a head, by what the lists show
abbrev head_of : ℕ → ListHeads → ℕ
head_of class lists = get_or lists.heads class nowhere

pub links-next-requires : goal.links-next-requires
links-next-requires g c = listed_within g.row.SLI c.args.self.now.heads c.args.self.now.members c.args.words.now.words c.requires.threaded c.args.class c.place-head.result
    (head_member g.row.SLI c.args.self.now.heads c.args.self.now.members c.args.words.now.words c.args.class c.place-head.result c.requires.threaded c.requires.some (c.place-head.ensures.value ∙ ap (head_of c.args.class) c.self.view_is))

pub begin_at-requires : goal.begin_at-requires
begin_at-requires g c = (
  omega arith,
  (
    omega arith,
    λ some.
        let head : c.place-head.result ≡ head_of c.args.class c.args.self.now = c.place-head.ensures.value ∙ ap (head_of c.args.class) c.self.view_is in
        subst (λ (w : List ℕ). c.links-next.result.next + 2 < length w) (sym c.links-next.ensures.reads.words)
        (next_within g.row.SLI c.args.self.now.heads c.args.self.now.members c.args.words.now.words c.args.class c.place-head.result c.requires.threaded c.links-next.ensures.reads.small (head_member g.row.SLI c.args.self.now.heads c.args.self.now.members c.args.words.now.words c.args.class c.place-head.result c.requires.threaded c.requires.some head)
        c.links-next.result.next nowhere c.links-next.ensures.next (head_previous g.row.SLI c.args.self.now.heads c.args.self.now.members c.args.words.now.words c.args.class c.place-head.result c.requires.threaded c.requires.some head c.links-next.ensures.reads.small) some),
  ),
)

-- the place is the head
is_head : (g : Over) (c : goal.After-begin_at g) → c.place-head.result ≡ head_of c.args.class c.args.self.now
is_head g c = c.place-head.ensures.value ∙ ap (head_of c.args.class) c.self.view_is

-- so its list has it
is_member : (g : Over) (c : goal.After-begin_at g) → Contains (list_of c.args.self.now.heads c.args.words.now.words c.args.class) c.place-head.result
is_member g c = head_member g.row.SLI c.args.self.now.heads c.args.self.now.members c.args.words.now.words c.args.class c.place-head.result c.requires.threaded c.requires.some (is_head g c)

-- and none stands before it
none_before : (g : Over) (c : goal.After-begin_at g) → nowhere ≡ high_half (get_or c.args.words.now.words (c.place-head.result + 2) 0)
none_before g c = head_previous g.row.SLI c.args.self.now.heads c.args.self.now.members c.args.words.now.words c.args.class c.place-head.result c.requires.threaded c.requires.some (is_head g c) c.links-next.ensures.reads.small

-- what is written
writes : (g : Over) (c : goal.After-begin_at g) → RemoveWrites g.row.SLI c.args.self.now.heads c.args.self.now.members c.args.words.now.words c.args.class c.place-head.result c.links-next.result.next nowhere c.begin_at.new.self.heads c.begin_at.new.self.members c.begin_at.new.words.words
writes g c = record {
  next_is = c.links-next.ensures.next;
  previous_is = none_before g c;
  long = c.begin_at.ensures.links.length ∙ ap length c.links-next.ensures.reads.words;
  tied = subst (λ (w : List ℕ). AreTied w c.begin_at.new.words.words c.links-next.result.next nowhere) c.links-next.ensures.reads.words c.begin_at.ensures.tied;
  first = λ _. c.begin_at.ensures.head;
  later = λ some. absurd (some refl);
  heads_kept = λ k n. c.begin_at.ensures.heads k n ∙ ap (λ (ps : List ℕ). get_or ps k nowhere) c.place-head.ensures.places ∙ ap (head_of k) c.self.view_is;
  emptied = λ _ none. c.begin_at.ensures.emptied none ∙ ap (λ (f : ListHeads). without_member f.members c.args.class) c.self.view_is;
  left = λ some. c.begin_at.ensures.members (λ e. some refl e) ∙ ap (λ (f : ListHeads). f.members) c.self.view_is;
}

pub returns-clause-lists : goal.returns-clause-lists
returns-clause-lists g c = removed c.requires.threaded c.links-next.ensures.reads.small (is_member g c) (writes g c)

pub returns-clause-first : goal.returns-clause-first
returns-clause-first g c =
    head_then_left g.row.SLI c.args.self.now.heads c.args.self.now.members c.args.words.now.words c.args.class c.place-head.result c.requires.threaded c.requires.some (is_head g c)
    ∙ ap (λ (ps : List ℕ). c.place-head.result ∷ ps) (sym (returns-clause-lists g c).list)

pub returns-clause-footprint : goal.returns-clause-footprint
returns-clause-footprint g c = record {
  touched = λ k own others.
      c.begin_at.ensures.touched k
      (λ some. absurd (some refl))
      (λ some. others c.args.class c.links-next.result.next (next_listed g.row.SLI c.args.self.now.heads c.args.self.now.members c.args.words.now.words c.args.class c.place-head.result c.requires.threaded c.links-next.ensures.reads.small (is_member g c)
      c.links-next.result.next nowhere c.links-next.ensures.next (none_before g c) some))
      ∙ ap (λ (l : List ℕ). times l k) c.links-next.ensures.reads.touched ∙ times_other (c.place-head.result + 2) k c.args.words.now.touched own;
  groups = groups_then (one_touch (c.place-head.result + 2) c.links-next.ensures.reads.touched)
      (one_word (c.links-next.result.next + 2) (λ k next. c.begin_at.ensures.touched k (λ some. absurd (some refl)) (λ some. next)));
}

use Rattle.tlsf_words.proofs.Common.{◌<◌, ◌+◌, ℕ, List, length, refl, sym, ap, ◌∙◌, subst, arith, class_of, nowhere, AreTied, times}
use Rattle.tlsf_words.proofs.Threads.{listed_within}
use Rattle.tlsf_words.proofs.Touching.{times_other, one_touch, one_word, two_words, groups_then, more_groups}
use Rattle.tlsf_words.proofs.Remove.{RemoveWrites, next_within, previous_within, next_listed, previous_listed, neighbours_apart, removed}
use Rattle.tlsf_words.proofs.free_lists.FreeLists.unlink.Given.{Over}
use Rattle.tlsf_words.proofs.free_lists.FreeLists.unlink.Goals as goal
use Rattle.tlsf_words.proofs.free_lists.FreeLists.unlink.Goals.{After-begin_at, After-tie}

pub links-links-requires : goal.links-links-requires
links-links-requires g c = listed_within g.row.SLI c.args.self.now.heads c.args.self.now.members c.args.words.now.words c.requires.threaded (class_of g.row.SLI c.args.size) c.args.at c.requires.listed

pub is_place-requires : goal.is_place-requires
is_place-requires g c = λ some.
    omega (
      arith,
      c.links-links.ensures.reads.small,
      previous_within g.row.SLI c.args.self.now.heads c.args.self.now.members c.args.words.now.words (class_of g.row.SLI c.args.size) c.args.at c.requires.threaded c.links-links.ensures.reads.small c.requires.listed
          c.links-links.result.next c.links-links.result.previous c.links-links.ensures.next c.links-links.ensures.previous some,
    )

pub tie-requires-clause-next : goal.tie-requires-clause-next
tie-requires-clause-next g c = λ some.
    subst (λ (w : List ℕ). c.links-links.result.next + 2 < length w) (sym c.links-links.ensures.reads.words)
    (next_within g.row.SLI c.args.self.now.heads c.args.self.now.members c.args.words.now.words (class_of g.row.SLI c.args.size) c.args.at c.requires.threaded c.links-links.ensures.reads.small c.requires.listed
    c.links-links.result.next c.links-links.result.previous c.links-links.ensures.next c.links-links.ensures.previous some)

pub tie-requires-clause-some : goal.tie-requires-clause-some
tie-requires-clause-some g c = c.is_place.ensures.yes c.if-is_place.true

pub tie-requires-clause-previous : goal.tie-requires-clause-previous
tie-requires-clause-previous g c =
    subst (λ (w : List ℕ). c.links-links.result.previous + 2 < length w) (sym c.links-links.ensures.reads.words)
    (previous_within g.row.SLI c.args.self.now.heads c.args.self.now.members c.args.words.now.words (class_of g.row.SLI c.args.size) c.args.at c.requires.threaded c.links-links.ensures.reads.small c.requires.listed
    c.links-links.result.next c.links-links.result.previous c.links-links.ensures.next c.links-links.ensures.previous (c.is_place.ensures.yes c.if-is_place.true))

pub tie-requires-clause-apart : goal.tie-requires-clause-apart
tie-requires-clause-apart g c = neighbours_apart g.row.SLI c.args.self.now.heads c.args.self.now.members c.args.words.now.words (class_of g.row.SLI c.args.size) c.args.at c.requires.threaded c.links-links.ensures.reads.small c.requires.listed
    c.links-links.result.next c.links-links.result.previous c.links-links.ensures.next c.links-links.ensures.previous

pub begin_at-requires : goal.begin_at-requires
begin_at-requires g c = (
  omega arith,
  (
    omega arith,
    λ some.
        subst (λ (w : List ℕ). c.links-links.result.next + 2 < length w) (sym c.links-links.ensures.reads.words)
        (next_within g.row.SLI c.args.self.now.heads c.args.self.now.members c.args.words.now.words (class_of g.row.SLI c.args.size) c.args.at c.requires.threaded c.links-links.ensures.reads.small c.requires.listed
        c.links-links.result.next c.links-links.result.previous c.links-links.ensures.next c.links-links.ensures.previous some),
  ),
)

-- what is written where a place stands before it
writes_behind : (g : Over) (c : After-tie g) → RemoveWrites g.row.SLI c.args.self.now.heads c.args.self.now.members c.args.words.now.words (class_of g.row.SLI c.args.size) c.args.at c.links-links.result.next c.links-links.result.previous c.args.self.now.heads c.args.self.now.members c.tie.new.words.words
writes_behind g c =
    let some = c.is_place.ensures.yes c.if-is_place.true in
    record {
      next_is = c.links-links.ensures.next;
      previous_is = c.links-links.ensures.previous;
      long = c.tie.ensures.length ∙ ap length c.links-links.ensures.reads.words;
      tied = subst (λ (w : List ℕ). AreTied w c.tie.new.words.words c.links-links.result.next c.links-links.result.previous) c.links-links.ensures.reads.words c.tie.ensures.tied;
      first = λ none. absurd (some none);
      later = λ _. refl;
      heads_kept = λ _ _. refl;
      emptied = λ none _. absurd (some none);
      left = λ _. refl;
    }

-- and where it is the head
writes_first : (g : Over) (c : After-begin_at g) → RemoveWrites g.row.SLI c.args.self.now.heads c.args.self.now.members c.args.words.now.words (class_of g.row.SLI c.args.size) c.args.at c.links-links.result.next nowhere c.begin_at.new.self.heads c.begin_at.new.self.members c.begin_at.new.words.words
writes_first g c = subst (λ (class : ℕ). RemoveWrites g.row.SLI c.args.self.now.heads c.args.self.now.members c.args.words.now.words class c.args.at c.links-links.result.next nowhere c.begin_at.new.self.heads c.begin_at.new.self.members c.begin_at.new.words.words) c.class_of.ensures (record {
  next_is = c.links-links.ensures.next;
  previous_is = sym (c.is_place.ensures.no c.if-is_place.false) ∙ c.links-links.ensures.previous;
  long = c.begin_at.ensures.links.length ∙ ap length c.links-links.ensures.reads.words;
  tied = subst (λ (w : List ℕ). AreTied w c.begin_at.new.words.words c.links-links.result.next nowhere) c.links-links.ensures.reads.words c.begin_at.ensures.tied;
  first = λ _. c.begin_at.ensures.head;
  later = λ some. absurd (some refl);
  heads_kept = λ k n. c.begin_at.ensures.heads k n;
  emptied = λ _ none. c.begin_at.ensures.emptied none;
  left = λ some. c.begin_at.ensures.members (λ e. some refl e);
})

pub returns-then-is_place-clause-lists : goal.returns-then-is_place-clause-lists
returns-then-is_place-clause-lists g c = removed c.requires.threaded c.links-links.ensures.reads.small c.requires.listed (writes_behind g c)

pub returns-else-is_place-clause-lists : goal.returns-else-is_place-clause-lists
returns-else-is_place-clause-lists g c = removed c.requires.threaded c.links-links.ensures.reads.small c.requires.listed (writes_first g c)

pub returns-then-is_place-clause-footprint : goal.returns-then-is_place-clause-footprint
returns-then-is_place-clause-footprint g c = record {
  touched = λ k own others.
      c.tie.ensures.touched k
      (λ some. others (class_of g.row.SLI c.args.size) c.links-links.result.previous (previous_listed g.row.SLI c.args.self.now.heads c.args.self.now.members c.args.words.now.words (class_of g.row.SLI c.args.size) c.args.at c.requires.threaded c.links-links.ensures.reads.small c.requires.listed
      c.links-links.result.next c.links-links.result.previous c.links-links.ensures.next c.links-links.ensures.previous some))
      (λ some. others (class_of g.row.SLI c.args.size) c.links-links.result.next (next_listed g.row.SLI c.args.self.now.heads c.args.self.now.members c.args.words.now.words (class_of g.row.SLI c.args.size) c.args.at c.requires.threaded c.links-links.ensures.reads.small c.requires.listed
      c.links-links.result.next c.links-links.result.previous c.links-links.ensures.next c.links-links.ensures.previous some))
      ∙ ap (λ (l : List ℕ). times l k) c.links-links.ensures.reads.touched ∙ times_other (c.args.at + 2) k c.args.words.now.touched own;
  groups = groups_then (one_touch (c.args.at + 2) c.links-links.ensures.reads.touched)
      (two_words (c.links-links.result.next + 2) (c.links-links.result.previous + 2) (λ k next previous. c.tie.ensures.touched k (λ some. previous) (λ some. next)));
}

pub returns-else-is_place-clause-footprint : goal.returns-else-is_place-clause-footprint
returns-else-is_place-clause-footprint g c = record {
  touched = λ k own others.
      c.begin_at.ensures.touched k
      (λ some. absurd (some refl))
      (λ some. others (class_of g.row.SLI c.args.size) c.links-links.result.next (next_listed g.row.SLI c.args.self.now.heads c.args.self.now.members c.args.words.now.words (class_of g.row.SLI c.args.size) c.args.at c.requires.threaded c.links-links.ensures.reads.small c.requires.listed
      c.links-links.result.next c.links-links.result.previous c.links-links.ensures.next c.links-links.ensures.previous some))
      ∙ ap (λ (l : List ℕ). times l k) c.links-links.ensures.reads.touched ∙ times_other (c.args.at + 2) k c.args.words.now.touched own;
  groups = more_groups (omega arith) (groups_then (one_touch (c.args.at + 2) c.links-links.ensures.reads.touched)
      (one_word (c.links-links.result.next + 2) (λ k next. c.begin_at.ensures.touched k (λ some. absurd (some refl)) (λ some. next))));
}

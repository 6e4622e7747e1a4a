use Rattle.tlsf_words.proofs.Common.{◌≡◌, ◌≢◌, ◌+◌, ◌∷◌, ℕ, List, length, get_or, set, refl, sym, ap, ◌∙◌, subst, arith, length-set, with_member, links_word, ListHeads, nowhere, list_of, times, Contains}
use Rattle.tlsf_words.proofs.Threads.{head_listed}
use Rattle.tlsf_words.proofs.Touching.{times_other, one_touch, two_words, more_groups}
use Rattle.tlsf_words.proofs.Push.{IsAtHead, IsAtHead-alone, IsAtHead-more, class_in_use, next_within, next_apart, PushWrites, pushed}
use Rattle.tlsf_words.proofs.free_lists.FreeLists.push.Given.{Over}
use Rattle.tlsf_words.proofs.free_lists.FreeLists.push.Goals as goal
use Rattle.tlsf_words.proofs.free_lists.FreeLists.push.Goals.{After-set, After-link}

-- a head, by what the lists show
abbrev head_of : ℕ → ListHeads → ℕ
head_of class lists = get_or lists.heads class nowhere

pub is_place-requires : goal.is_place-requires
is_place-requires g c = λ some.
    let head : c.place-next.result ≡ head_of c.args.class c.args.self.now = c.place-next.ensures.value ∙ ap (head_of c.args.class) c.self.view_is in
    omega (arith, c.len-count.ensures.words, c.len-count.ensures.most, next_within g.row.SLI c.args.self.now.heads c.args.self.now.members c.args.words.now.words c.args.class c.place-next.result c.requires.threaded head some)

pub link-requires : goal.link-requires
link-requires g c =
    let head : c.place-next.result ≡ head_of c.args.class c.args.self.now = c.place-next.ensures.value ∙ ap (head_of c.args.class) c.self.view_is in
    record {
      at = c.requires.inside;
      next = next_within g.row.SLI c.args.self.now.heads c.args.self.now.members c.args.words.now.words c.args.class c.place-next.result c.requires.threaded head (c.is_place.ensures.yes c.if-not-is_place.false);
    }

-- what is written where the list was empty
writes_to_empty : (g : Over) (c : After-set g) → PushWrites g.row.SLI c.args.self.now.heads c.args.self.now.members c.args.words.now.words c.args.class c.args.at c.set_place.new.self.places c.set.new.self.members c.set_links.new.self.words
writes_to_empty g c =
    let head : c.place-next.result ≡ head_of c.args.class c.args.self.now = c.place-next.ensures.value ∙ ap (head_of c.args.class) c.self.view_is in
    record {
      level = c.set_place.ensures.level;
      small = c.set_links.ensures.writes.small;
      inside = c.requires.inside;
      unlisted = c.requires.unlisted;
      in_use = class_in_use g.row.SLI c.set_place.ensures.level c.args.class c.set_place.ensures.least c.set_place.ensures.most;
      long = ap length c.set_links.ensures.writes.words ∙ length-set c.args.words.now.words (c.args.at + 2) (links_word nowhere nowhere);
      at_head = subst (IsAtHead c.args.words.now.words c.set_links.new.self.words c.args.at) (sym (c.is_place.ensures.no c.if-not-is_place.true) ∙ head)
          (IsAtHead-alone c.args.words.now.words c.set_links.new.self.words c.args.at nowhere c.requires.inside c.set_links.ensures.writes.words refl);
      head = c.set_place.ensures.value;
      heads_kept = λ k n. c.set_place.ensures.others k n ∙ ap (λ (ps : List ℕ). get_or ps k nowhere) c.place-next.ensures.places ∙ ap (head_of k) c.self.view_is;
      was_empty = λ _. c.set.ensures.members ∙ ap (λ (f : ListHeads). with_member g.row.SLI f.members c.args.class) c.self.view_is;
      was_some = λ some. absurd (some (sym head ∙ c.is_place.ensures.no c.if-not-is_place.true));
    }

-- and where it had places
writes_to_more : (g : Over) (c : After-link g) → PushWrites g.row.SLI c.args.self.now.heads c.args.self.now.members c.args.words.now.words c.args.class c.args.at c.set_place.new.self.places c.self.inside.bitmaps.members c.link.new.self.words
writes_to_more g c =
    let head : c.place-next.result ≡ head_of c.args.class c.args.self.now = c.place-next.ensures.value ∙ ap (head_of c.args.class) c.self.view_is in
    let within = next_within g.row.SLI c.args.self.now.heads c.args.self.now.members c.args.words.now.words c.args.class c.place-next.result c.requires.threaded head (c.is_place.ensures.yes c.if-not-is_place.false) in
    record {
      level = c.set_place.ensures.level;
      small = c.link.ensures.writes.small;
      inside = c.requires.inside;
      unlisted = c.requires.unlisted;
      in_use = class_in_use g.row.SLI c.set_place.ensures.level c.args.class c.set_place.ensures.least c.set_place.ensures.most;
      long = ap length c.link.ensures.writes.words ∙ length-set (set c.args.words.now.words (c.args.at + 2) (links_word c.place-next.result nowhere)) (c.place-next.result + 2) _ ∙ length-set c.args.words.now.words (c.args.at + 2) (links_word c.place-next.result nowhere);
      at_head = subst (IsAtHead c.args.words.now.words c.link.new.self.words c.args.at) head
          (IsAtHead-more c.args.words.now.words (set c.args.words.now.words (c.args.at + 2) (links_word c.place-next.result nowhere)) c.link.new.self.words c.args.at c.place-next.result c.requires.inside within
          (next_apart c.args.self.now.heads c.args.words.now.words c.args.class c.args.at c.place-next.result c.requires.unlisted head (c.is_place.ensures.yes c.if-not-is_place.false))
          (c.is_place.ensures.yes c.if-not-is_place.false) refl c.link.ensures.writes.words);
      head = c.set_place.ensures.value;
      heads_kept = λ k n. c.set_place.ensures.others k n ∙ ap (λ (ps : List ℕ). get_or ps k nowhere) c.place-next.ensures.places ∙ ap (head_of k) c.self.view_is;
      was_empty = λ none. absurd ((c.is_place.ensures.yes c.if-not-is_place.false) (head ∙ none));
      was_some = λ _. ap (λ (f : ListHeads). f.members) c.self.view_is;
    }

pub returns-then-not-is_place-clause-lists : goal.returns-then-not-is_place-clause-lists
returns-then-not-is_place-clause-lists g c = pushed c.requires.threaded (writes_to_empty g c)

pub returns-else-not-is_place-clause-lists : goal.returns-else-not-is_place-clause-lists
returns-else-not-is_place-clause-lists g c = pushed c.requires.threaded (writes_to_more g c)

pub returns-then-not-is_place-clause-footprint : goal.returns-then-not-is_place-clause-footprint
returns-then-not-is_place-clause-footprint g c = record {
  touched = λ k own others.
      ap (λ (l : List ℕ). times l k) c.set_links.ensures.writes.touched ∙ times_other (c.args.at + 2) k c.args.words.now.touched own;
  groups = more_groups (omega arith) (one_touch (c.args.at + 2) c.set_links.ensures.writes.touched);
}

-- no word is touched there but the links of the two
untouched : (g : Over) (c : After-link g) (k : ℕ) → k ≢ c.args.at + 2 → k ≢ c.place-next.result + 2 → times c.link.new.self.touched k ≡ times c.args.words.now.touched k
untouched g c k own apart =
    let next = c.place-next.result + 2 in
    let place = c.args.at + 2 in
    ap (λ (l : List ℕ). times l k) c.link.ensures.writes.touched
    ∙ times_other next k (next ∷ place ∷ c.args.words.now.touched) apart
    ∙ times_other next k (place ∷ c.args.words.now.touched) apart
    ∙ times_other place k c.args.words.now.touched own

pub returns-else-not-is_place-clause-footprint : goal.returns-else-not-is_place-clause-footprint
returns-else-not-is_place-clause-footprint g c =
    let head : c.place-next.result ≡ head_of c.args.class c.args.self.now = c.place-next.ensures.value ∙ ap (head_of c.args.class) c.self.view_is in
    let listed : Contains (list_of c.args.self.now.heads c.args.words.now.words c.args.class) c.place-next.result =
    subst (Contains (list_of c.args.self.now.heads c.args.words.now.words c.args.class)) (sym head) (head_listed c.args.self.now.heads c.args.words.now.words c.args.class (λ none. (c.is_place.ensures.yes c.if-not-is_place.false) (head ∙ none))) in
    record {
      touched = λ k own others. untouched g c k own (others c.args.class c.place-next.result listed);
      groups = two_words (c.args.at + 2) (c.place-next.result + 2) (untouched g c);
    }

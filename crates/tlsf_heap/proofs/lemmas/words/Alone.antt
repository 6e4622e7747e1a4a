-- A region that is one free block, which is alone in the lists.
use Rattle.tlsf_heap.proofs.Common.{◌^◌, ◌≡◌, ◌≢◌, ℕ, ◌≤◌, true, false, List, [], ◌∷◌, length, set, get_or, replicate, refl, sym, ap, ◌∙◌, subst, arith, inl, inr, cases_eq, Contains, class_of, Memory, Shows, tag_word, Free, Block, nowhere, image_of, ListHeads, list_of, AreThreaded}
use Rattle.tlsf_words.proofs.PlaceLists.{member_cases}
use Rattle.tlsf_heap.specs.Listed.{HoldsLists}
use Rattle.tlsf_heap.specs.Regions.{IsAlone, region_of}
use Rattle.tlsf_heap.proofs.lemmas.words.OneFree.{one_free}
use Rattle.tlsf_heap.proofs.lemmas.words.Image.{blocks_of-shown}
use Rattle.tlsf_heap.proofs.lemmas.words.Links.{linked_lists, marked_lists, list_in-lists_of, IsFreeAt}

-- where place 0 is alone in the list of a class, and no other has one, no other place is listed
pub only_place : (lists : ℕ → List ℕ) (class : ℕ) → lists class ≡ 0 ∷ [] → ((other : ℕ) → other ≢ class → lists other ≡ []) → (other at : ℕ) → Contains (lists other) at → at ≡ 0
only_place lists class list others other at there = elim (cases_eq other class) [
  | inl e ↦
      let same : lists other ≡ 0 ∷ [] = ap lists e ∙ list in
      elim (member_cases 0 [] at (subst (λ (places : List ℕ). Contains places at) same there)) [ inl first ↦ sym first | inr more ↦ absurd (omega (arith, more.1)) ]
  | inr n ↦ absurd (omega (arith, there.1, ap (length {A = ℕ}) (others other n)))
]

-- the header of the block, its start, and its list
pub record IsListed (sli size stamp class : ℕ) (m : Memory) (l : ListHeads) : Type 0 where
  pub least : 4 ≤ size
  pub most : size ≤ 2 ^ 24
  pub long : length m.words ≡ size
  pub tag : get_or m.words 0 0 ≡ tag_word size true true nowhere
  pub mark : get_or m.words 1 0 ≡ stamp
  pub starts : m.starts ≡ set (replicate size false) 0 true
  pub threaded : AreThreaded sli l.heads l.members m.words
  pub is_class : class ≡ class_of sli size
  pub list : list_of l.heads m.words class ≡ 0 ∷ []
  pub others : (other : ℕ) → other ≢ class → list_of l.heads m.words other ≡ []

module _ (sli size stamp class : ℕ) (m : Memory) (l : ListHeads) (is : IsListed sli size stamp class m l) where
  shown : Shows (image_of m) (Free size stamp ∷ [])
  shown = one_free (image_of m) size stamp is.least is.most is.long is.tag is.mark is.starts

  pub alone_holds : HoldsLists sli (image_of m) l
  alone_holds =
      let blocks = blocks_of-shown (image_of m) (Free size stamp ∷ []) shown in
      record {
        shows = subst (Shows (image_of m)) (sym blocks) shown;
        threaded = is.threaded;
        free = λ other at there.
            subst (λ (bs : List Block). IsFreeAt bs at) (sym blocks)
            (subst (IsFreeAt (Free size stamp ∷ [])) (sym (only_place (list_of l.heads m.words) class is.list is.others other at there)) (0, record { within = omega arith; place = refl }, refl));
      }

  pub is_alone : IsAlone sli size stamp (region_of m l)
  is_alone = record {
    least = is.least;
    words = is.long;
    blocks = blocks_of-shown (image_of m) (Free size stamp ∷ []) shown;
    list = list_in-lists_of l.heads m.words (class_of sli size) ∙ ap (list_of l.heads m.words) (sym is.is_class) ∙ is.list;
    others = λ other n. list_in-lists_of l.heads m.words other ∙ is.others other (λ e. n (e ∙ is.is_class));
    shows = alone_holds.shows;
    linked = linked_lists sli (image_of m) l alone_holds;
    bits = marked_lists sli (image_of m) l alone_holds;
  }

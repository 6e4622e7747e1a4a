-- The lists and the words that thread them, after a call of free lists.
use Rattle.std.specs.Prelude.{◌≡◌, ◌≢◌, ℕ, ◌+◌, ◌≤◌, List, [], ◌∷◌, length}
use Rattle.tlsf_words.specs.Lists.{ListHeads, list_of, AreThreaded, OnlyLinksChange}
use Rattle.tlsf_words.specs.Memory.{Memory}
use Rattle.tlsf_words.specs.Touched.{InGroups, OnlyLinks}

-- the place 0 is alone in the lists, in that of 4 words, and the links thread them
pub record ListsLeast (sli : ℕ) (heads members words : List ℕ) : Type 0 where
  pub threaded : AreThreaded sli heads members words
  pub list : list_of heads words 4 ≡ 0 ∷ []
  pub others : (class : ℕ) → class ≢ 4 → list_of heads words class ≡ []

-- the list of a class has these places now, and each other list those that it had. The links thread the lists, and no word has changed
-- but links
pub record Relists (sli class : ℕ) (places : List ℕ) (old : ListHeads) (was : List ℕ) (new : ListHeads) (now : List ℕ) : Type 0 where
  pub threaded : AreThreaded sli new.heads new.members now
  pub list : list_of new.heads now class ≡ places
  pub others : (other : ℕ) → other ≢ class → list_of new.heads now other ≡ list_of old.heads was other
  pub words : OnlyLinksChange (list_of new.heads now) was now

-- lists and words make at most this many touches together. Start bits, memory and the number of words stay
pub record Relinks (most : ℕ) (old : ListHeads) (was : Memory) (new : ListHeads) (now : Memory) : Type 0 where
  pub length : length now.words ≡ length was.words
  pub starts : now.starts ≡ was.starts
  pub stays : now.extents ≡ was.extents
  pub touches : new.touches + now.touches ≤ old.touches + was.touches + most
  pub rise : old.touches ≤ new.touches
  pub words_rise : was.touches ≤ now.touches

-- no word is touched but the links of a place and of those in the lists. The words touched lie in at most this many groups of eight
pub record TouchesLinks (most : ℕ) (lists : ℕ → List ℕ) (at : ℕ) (old new : List ℕ) : Type 0 where
  pub touched : OnlyLinks lists at old new
  pub groups : InGroups most old new

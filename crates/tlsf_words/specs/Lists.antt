-- Lists of places threaded through the third words of their headers, one list for each class.
use Rattle.std.specs.Prelude.{◌≡◌, ◌≢◌, ℕ, zero, suc, ◌+◌, ◌-◌, ◌^◌, ◌<◌, List, [], ◌∷◌, not, ◌==◌, if◌then◌else◌, length, filter, slice_index, slice_index_or, Contains, ⊤}
use Rattle.std.specs.List.{AllByRecursion}
use Rattle.tlsf_class.specs.Classes.{classes}
use Rattle.tlsf_words.specs.Fields.{links_word, low_half}

-- the view of free lists: for each class the place where its list begins, and the classes whose bits are set. Also the number of
-- touches: reads and writes of one such place or of one word of the bits
pub record ListHeads : Type 0 where
  pub heads : List ℕ
  pub members : List ℕ
  pub touches : ℕ

-- no place: where a list ends
abbrev pub nowhere : ℕ
nowhere = 2 ^ 32 - 1

-- the places of the list that begins at a place, at most `most` of them
unfoldable pub places_from : ℕ → List ℕ → ℕ → List ℕ
places_from zero words at = []
places_from (suc most) words at = if at == nowhere then [] else at ∷ places_from most words (low_half (slice_index words (at + 2)))

-- the places in the list of a class, from its head: no more places than there are words can be in it
unfoldable pub list_of : List ℕ → List ℕ → ℕ → List ℕ
list_of heads words class = places_from (suc (length words)) words (slice_index_or heads class nowhere)

-- where a list begins
abbrev pub first_of : List ℕ → ℕ
first_of [] = nowhere
first_of (at ∷ places) = at

-- the links at these places name the next and the previous one; the place before them is `previous`
abbrev pub LinkedFrom : List ℕ → ℕ → List ℕ → Type 0
LinkedFrom words previous [] = ⊤
LinkedFrom words previous (at ∷ places) = (slice_index words (at + 2) ≡ links_word (first_of places) previous) × (at + 2 < length words) × LinkedFrom words at places

-- each place differs from all later ones
abbrev pub AreDistinct : List ℕ → Type 0
AreDistinct [] = ⊤
AreDistinct (x ∷ xs) = AllByRecursion (λ y. x ≢ y) xs × AreDistinct xs

-- the places but this one
abbrev pub without_place : ℕ → List ℕ → List ℕ
without_place at places = filter (λ other. not (at == other)) places

-- the classes whose lists aren't empty, rising
abbrev pub listed_classes : ℕ → (ℕ → List ℕ) → List ℕ
listed_classes sli lists = filter (λ class. not (length (lists class) == 0)) (classes sli)

-- a place is in no list
abbrev pub IsUnlisted : (ℕ → List ℕ) → ℕ → Type 0
IsUnlisted lists at = (class : ℕ) → ¬ (Contains (lists class) at)

-- the links in the words thread the lists, no place stands twice, and a class is a member exactly where its list isn't empty
pub record AreThreaded (sli : ℕ) (heads members words : List ℕ) : Type 0 where
  pub linked : (class : ℕ) → LinkedFrom words nowhere (list_of heads words class)
  pub distinct : (class : ℕ) → AreDistinct (list_of heads words class)
  pub apart : (a b at : ℕ) → Contains (list_of heads words a) at → Contains (list_of heads words b) at → a ≡ b
  pub marked : members ≡ listed_classes sli (list_of heads words)
  pub in_use : (class : ℕ) → ¬ (list_of heads words class ≡ []) → Contains (classes sli) class

-- no word has changed but the links of places that are in the lists now
abbrev pub OnlyLinksChange : (ℕ → List ℕ) → List ℕ → List ℕ → Type 0
OnlyLinksChange lists old new = (k : ℕ) → ((class at : ℕ) → Contains (lists class) at → k ≢ at + 2) → slice_index new k ≡ slice_index old k

-- The free blocks by their places, the list of those of a class, and the links that the words of a region have for it.
use Rattle.std.specs.Prelude.{◌≡◌, ◌↔◌, ℕ, ◌+◌, ◌<◌, List, [], ◌∷◌, ◌==◌, filter, map, Contains, IsPermutation, ⊤}
use Rattle.std.specs.List.{AllByRecursion}
use Rattle.tlsf_class.specs.Classes.{class_of}
use Rattle.tlsf_words.specs.Lists.{nowhere, LinkedFrom}
use Rattle.tlsf_heap.specs.Blocks.{Block, Live, Free}
use Rattle.tlsf_heap.specs.Image.{Image}

-- a free block: its class, the place where it begins, and the tick at which it became free
pub record FreePlace : Type 0 where
  pub class : ℕ
  pub at : ℕ
  pub stamp : ℕ

-- the free blocks of a list whose first block begins at a place
abbrev pub free_places : ℕ → ℕ → List Block → List FreePlace
free_places sli at [] = []
free_places sli at (Live size serial bytes ∷ blocks) = free_places sli (at + size) blocks
free_places sli at (Free size stamp ∷ blocks) = record { class = class_of sli size; at = at; stamp = stamp } ∷ free_places sli (at + size) blocks

-- those of a class
abbrev pub of_class : ℕ → List FreePlace → List FreePlace
of_class class free = filter (λ place. place.class == class) free

-- each number is greater than all later ones
abbrev pub AreFalling : List ℕ → Type 0
AreFalling [] = ⊤
AreFalling (x ∷ xs) = AllByRecursion (λ y. y < x) xs × AreFalling xs

-- the places of the free blocks of a class, the one that became free last first
pub record IsFreeList (class : ℕ) (free : List FreePlace) (places : List ℕ) : Type 0 where
  pub order : List FreePlace
  pub same : IsPermutation order (of_class class free)
  pub falling : AreFalling (map (λ place. place.stamp) order)
  pub are : places ≡ map (λ place. place.at) order

-- each class has the list of its free blocks
abbrev pub AreFreeLists : ℕ → List Block → (ℕ → List ℕ) → Type 0
AreFreeLists sli blocks lists = (class : ℕ) → IsFreeList class (free_places sli 0 blocks) (lists class)

-- a class is marked exactly where its list isn't empty
abbrev pub AreMarked : List ℕ → (ℕ → List ℕ) → Type 0
AreMarked marked lists = (class : ℕ) → Contains marked class ↔ ¬ (lists class ≡ [])

-- the third word of each free block names the next and the previous one of its class. They stand in the order in which they became
-- free, the last first. Where there is none, it names nowhere. The bit of a class is set exactly where it has a free block
pub record ShowsLists (sli : ℕ) (m : Image) (marked : List ℕ) (blocks : List Block) : Type 0 where
  pub places : ℕ → List ℕ
  pub are : AreFreeLists sli blocks places
  pub linked : (class : ℕ) → LinkedFrom m.words nowhere (places class)
  pub bits : AreMarked marked places

-- How a heap is stored.
use Rattle.std.specs.Prelude.{◌≡◌, ℕ, ◌≤◌}
use Rattle.tlsf_class.specs.Classes.{IsLevel, most_words}
use Rattle.tlsf_heap.specs.Blocks.{HeapState}
use Rattle.tlsf_heap.specs.Lawful.{IsLawful}
use Rattle.tlsf_heap.specs.Image.{Shows}
use Rattle.tlsf_heap.specs.FreePlaces.{AreFreeLists, AreMarked}
use Rattle.tlsf_heap.specs.Regions.{list_in, AreLinked}
use Rattle.tlsf_heap.specs.WordsInUse.{words_in_use}
use Rattle.tlsf_heap.specs.declared.heap.Heap.TheInside.{Inside}

-- the heap that is stored so
abbrev pub state_of : (sli : ℕ) → Inside sli → HeapState
state_of sli h = record { id = h.id; words = h.region.words; tick = h.tick; blocks = h.region.blocks }

-- the heap has a level and is lawful, and its words show its blocks. Each class has the list of its free blocks, the words thread
-- it, and its bit marks it. The words in use are counted, and so are the most there ever were
pub record IsStored (sli : ℕ) (h : Inside sli) : Type 0 where
  pub level : IsLevel sli
  pub lawful : IsLawful (state_of sli h)
  pub shows : Shows h.region.stored h.region.blocks
  pub small : h.region.words ≤ most_words sli
  pub listed : AreFreeLists sli h.region.blocks (list_in h.region.lists)
  pub linked : AreLinked (list_in h.region.lists) h.region.stored.words
  pub bits : AreMarked h.region.marked (list_in h.region.lists)
  pub in_use : h.usage.words ≡ words_in_use (state_of sli h)
  pub most_in_use : h.usage.words ≤ h.usage.most

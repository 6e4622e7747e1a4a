-- The meaning of a picture of heaps: which they are, and after how many ticks. How it draws them is in no clause.
use Rattle.std.specs.Prelude.{◌≡◌, ⊤, ℕ, List, [], ◌∷◌, ◌++◌, Option, Some, None, codes}
use Rattle.std.specs.Fmt.{decimal}
use Rattle.tlsf_heap.specs.declared.placed_block.Content.{Content}
use Rattle.tlsf_heap.specs.declared.placed_block.Content.TheVariants.{Free, Live}
use Rattle.tlsf_map.specs.declared.html.TheConstants.{SLIDER}
use Rattle.tlsf_map.specs.declared.mapped_heap.LabelledBlock.{LabelledBlock}
use Rattle.tlsf_map.specs.declared.mapped_heap.MappedHeap.{MappedHeap}
use Rattle.tlsf_map.specs.declared.named_lines.NamedLines.{NamedLines}
use Rattle.tlsf_map.specs.declared.page.TheConstants.{COLOURS}
use Rattle.tlsf_map.specs.declared.text_page.TheConstants.{CHARACTERS}

-- a text tells these in their order, whatever else stands between them
abbrev pub Tells : List (List ℕ) → List ℕ → Type 0
Tells [] text = ⊤
Tells (one ∷ others) text = (before : List ℕ) × (after : List ℕ) × (text ≡ before ++ (one ++ after)) × Tells others after

-- a text has more at its end, which tells these
pub record Adds (told : List (List ℕ)) (old new : List ℕ) : Type 0 where
  pub added : List ℕ
  pub is : new ≡ old ++ added
  pub tells : Tells told added

-- what is told of each of some, in their order
abbrev pub all_told : {A : Type 0} → (A → List (List ℕ)) → List A → List (List ℕ)
all_told told [] = []
all_told told (one ∷ others) = told one ++ all_told told others

-- ---- pictures of heaps with so many words each

-- the number of a heap, its words and its tick
abbrev pub title_text : ℕ → MappedHeap → List ℕ
title_text words heap = codes "heap " ++ (decimal heap.id ++ (codes ": " ++ (decimal words ++ (codes " words at tick " ++ decimal heap.tick))))

abbrev pub title_of : ℕ → MappedHeap → List (List ℕ)
title_of words heap = title_text words heap ∷ []

-- in an SVG file what each colour is, and in characters what each is; then the heaps
abbrev pub svg_told : ℕ → List MappedHeap → List (List ℕ)
svg_told words heaps = COLOURS.now ∷ all_told (title_of words) heaps

abbrev pub text_told : ℕ → List MappedHeap → List (List ℕ)
text_told words heaps = CHARACTERS.now ∷ all_told (title_of words) heaps

-- ---- pages

-- some heaps as they stand after a line of their trace
pub record Moment : Type 0 where
  pub line : ℕ
  pub heaps : List MappedHeap

-- a free block: its words, and the tick since which it is free. A live one: its words, its bytes, its serial, and its label where
-- it has one
abbrev pub content_item : ℕ → Option ℕ → Content → List ℕ
content_item size label (Free stamp) = codes "f" ++ (decimal size ++ (codes "," ++ (decimal stamp ++ codes ";")))
content_item size None (Live serial length) = codes "l" ++ (decimal size ++ (codes "," ++ (decimal length ++ (codes "," ++ (decimal serial ++ codes ";")))))
content_item size (Some label) (Live serial length) =
    codes "l" ++ (decimal size ++ (codes "," ++ (decimal length ++ (codes "," ++ (decimal serial ++ (codes "," ++ (decimal label ++ codes ";")))))))

abbrev pub item_of : LabelledBlock → List ℕ
item_of drawn = content_item drawn.block.size drawn.label drawn.block.content

-- blocks in the order of their places, each told by its words, so that its place is the words of all before it
abbrev pub items_of : List LabelledBlock → List ℕ
items_of [] = []
items_of (drawn ∷ others) = item_of drawn ++ items_of others

-- of a heap its title, and all its blocks
abbrev pub heap_told : ℕ → MappedHeap → List (List ℕ)
heap_told words heap = title_text words heap ∷ items_of heap.blocks.items ∷ []

-- of a moment its line, and its heaps
abbrev pub moment_told : ℕ → Moment → List (List ℕ)
moment_told words moment = (codes "line " ++ (decimal moment.line ++ codes "\n")) ∷ all_told (heap_told words) moment.heaps

-- the lines that are named of a heap, and its longest request
abbrev pub named_item : NamedLines → List ℕ
named_item named = codes "[" ++ (decimal named.peak ++ (codes "," ++ (decimal named.look ++ (codes "," ++ (decimal named.longest ++ codes "],")))))

abbrev pub named_items : List NamedLines → List ℕ
named_items [] = []
named_items (named ∷ others) = named_item named ++ named_items others

-- before the moments what each colour is
abbrev pub head_told : List (List ℕ)
head_told = SLIDER.now ∷ []

-- all that a page of some moments tells
abbrev pub page_told : ℕ → List Moment → List NamedLines → List (List ℕ)
page_told words moments named = head_told ++ (all_told (moment_told words) moments ++ named_items named ∷ [])

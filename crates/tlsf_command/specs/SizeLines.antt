-- The lines that `tlsf size` writes and reports.
use Rattle.std.specs.Prelude.{◌≡◌, ◌⊎◌, ◌<◌, ◌≤◌, ◌+◌, ◌*◌, ◌/◌, ◌%◌, ◌==◌, ℕ, List, [], ◌∷◌, ◌++◌, Option, Some, None, codes, length, max, slice_get, take, if◌then◌else◌}
use Rattle.std.specs.List.{AllByRecursion}
use Rattle.std.specs.Fmt.{decimal}
use Rattle.tlsf_class.specs.Classes.{IsLevel, most_words}
use Rattle.tlsf_heap.specs.Blocks.{want}
use Rattle.tlsf_pool.specs.laws.FixedSize.{fixed_kinds_words}
use Rattle.tlsf_pool.specs.laws.Kinds.{kinds_words, HasClass}
use Rattle.tlsf_pool.specs.laws.MixedSizes.{mixed_words}
use Rattle.tlsf_pool.specs.declared.kind.Kind.{Kind}
use Rattle.tlsf_pool.specs.sizes.Limits.{most_kinds}
use Rattle.tlsf_pool.specs.sizes.Rising.{HasNoHeaps, Rises}
use Rattle.tlsf_pool.specs.sizes.Splits.{words_together, IsLeast}
use Rattle.tlsf_pool.specs.declared.sizes.split.Split.{Split}

-- some region of the level has the words that the law asks for, for this many blocks of that many bytes
abbrev pub IsReached : ℕ → ℕ → ℕ → Type 0
IsReached sli most len = (1 ≤ most) × (1 ≤ len) × (want len ≤ most_words sli) × (mixed_words sli most len ≤ most_words sli)

-- a kind has a block and a byte, and a class for its requests
abbrev pub IsServable : ℕ → Kind → Type 0
IsServable sli kind = (1 ≤ kind.most) × (1 ≤ kind.len) × HasClass sli kind

-- some region of the level has the words that the law asks for, for a table of such kinds
abbrev pub AreReached : ℕ → List Kind → Type 0
AreReached sli kinds = AllByRecursion (IsServable sli) kinds × (kinds_words sli kinds ≤ most_words sli)

-- a table of no more kinds than the law of the level counts
pub record AreKinds (sli : ℕ) (kinds : List Kind) : Type 0 where
  pub level : IsLevel sli
  pub few : length kinds ≤ most_kinds sli

-- and no region of the level has the words that it asks for. Level 5 counts all its kinds too
pub record AreUnreached (sli : ℕ) (kinds : List Kind) : Type 0 where
  pub kinds_are : AreKinds sli kinds
  pub pairs : length kinds ≤ most_kinds 5
  pub unreached : ¬ (AreReached sli kinds)

-- a table of one kind or more asks for this number of words, and some region of the level has them
pub record IsSized (sli : ℕ) (kinds : List Kind) (words : ℕ) : Type 0 where
  pub level : IsLevel sli
  pub some : 0 < length kinds
  pub reached : AreReached sli kinds
  pub law : words ≡ kinds_words sli kinds

-- the greatest number of which this holds, 0 where it holds of none
abbrev pub IsGreatest : (ℕ → Type 0) → ℕ → Type 0
IsGreatest Holds n = (Holds n ⊎ (n ≡ 0)) × ((k : ℕ) → Holds k → k ≤ n)

-- the first n kinds of the table are reached, and with the next one, which this is, they are not
pub record IsFirstUnreached (sli : ℕ) (kinds : List Kind) (n : ℕ) (next : Kind) : Type 0 where
  pub reached : AreReached sli (take n kinds)
  pub found : slice_get kinds n ≡ Some next
  pub unreached : ¬ (AreReached sli (take (n + 1) kinds))

-- the bytes of all blocks of a table
abbrev pub asked_bytes : List Kind → ℕ
asked_bytes [] = 0
asked_bytes (kind ∷ kinds) = kind.most * kind.len + asked_bytes kinds

-- the bytes of the longest blocks of a table
abbrev pub longest_of : List Kind → ℕ
longest_of [] = 0
longest_of (kind ∷ kinds) = max kind.len (longest_of kinds)

-- a count of them, as `1 block` and `2 blocks`
abbrev pub quantity : ℕ → List ℕ → List ℕ
quantity n name = decimal n ++ (codes " " ++ (name ++ (if n == 1 then [] else codes "s")))

-- how many hundredths of b there are in a, to the nearest
abbrev pub hundredths : ℕ → ℕ → ℕ
hundredths a b = (100 * a + b / 2) / b

-- a number of words, their bytes, and a number of hundredths with two digits after the point, as
-- `words 13631 bytes 109048 ratio 2.13`
abbrev pub words_text : (words ratio : ℕ) → List ℕ
words_text words ratio =
    codes "words " ++ (decimal words ++ (codes " bytes " ++ (decimal (8 * words)
    ++ (codes " ratio " ++ (decimal (ratio / 100) ++ (codes "." ++ (decimal (ratio / 10 % 10) ++ decimal (ratio % 10))))))))

-- a number of words, and the ratio of their bytes to those that are asked for
abbrev pub words_line : (words asked : ℕ) → List ℕ
words_line words asked = words_text words (hundredths (8 * words) asked) ++ codes "\n"

-- the line on the region for a table
abbrev pub size_line : ℕ → List Kind → List ℕ
size_line sli kinds = words_line (kinds_words sli kinds) (asked_bytes kinds)

-- the line on a heap of a split, a pool, as `heap 0 kinds 1 to 2 up to 512 bytes words 6800 bytes 54400 ratio 1.06`. It has its
-- number, its kinds by their places in the table, from 1 on, the bytes of the longest, and its region
abbrev pub heap_line : ℕ → (heap before : ℕ) → List Kind → List ℕ
heap_line sli heap before part =
    codes "heap " ++ (decimal heap ++ (codes " kinds " ++ (decimal (before + 1) ++ (codes " to " ++ (decimal (before + length part)
    ++ (codes " up to " ++ (quantity (longest_of part) (codes "byte") ++ (codes " " ++ words_line (fixed_kinds_words sli part) (asked_bytes part)))))))))

-- those on the heaps of these tables, from a number and a place on
abbrev pub heap_lines : ℕ → (heap before : ℕ) → List (List Kind) → List ℕ
heap_lines sli heap before [] = []
heap_lines sli heap before (part ∷ parts) = heap_line sli heap before part ++ heap_lines sli (heap + 1) (before + length part) parts

-- the lines on a table that is split into these: one for each heap, and `heaps 2 words 30704 bytes 245632 ratio 1.27` for all
abbrev pub split_lines : ℕ → List (List Kind) → List Kind → List ℕ
split_lines sli parts kinds =
    heap_lines sli 0 0 parts ++ (codes "heaps " ++ (decimal (length parts) ++ (codes " " ++ words_line (words_together sli parts) (asked_bytes kinds))))

-- the cheapest split of a table of such kinds, from short to long
pub record IsCheapest (sli : ℕ) (kinds : List Kind) (split : Split) : Type 0 where
  pub servable : AllByRecursion (IsServable sli) kinds
  pub rises : Rises kinds
  pub least : IsLeast sli 8 kinds split

-- at a level that heaps have, a table of at most 64 kinds has this cheapest split
pub record HasCheapest (sli : ℕ) (kinds : List Kind) (split : Split) : Type 0 where
  pub level : IsLevel sli
  pub few : length kinds ≤ 64
  pub cheapest : IsCheapest sli kinds split

-- there is none
abbrev pub HasNoSplit : ℕ → List Kind → Type 0
HasNoSplit sli kinds = AllByRecursion (IsServable sli) kinds → HasNoHeaps sli 8 kinds

-- the refusal of such a table
abbrev pub no_split_line : List ℕ
no_split_line = codes "tlsf: no region has so many words, however the kinds are given to 8 heaps in their order\n"

-- the refusal of a table whose kind at this place, from 1 on, is longer than the next one, or as long
abbrev pub falling_line : (place before len : ℕ) → List ℕ
falling_line place before len =
    codes "tlsf: kind " ++ (decimal (place + 1) ++ (codes " of " ++ (quantity len (codes "byte")
    ++ (codes " is no longer than kind " ++ (decimal place ++ (codes " of " ++ (quantity before (codes "byte")
    ++ codes ": --split takes kinds from short to long, each length once\n")))))))

-- the cheapest split of such a table, if it has one
abbrev pub IsSplitOf : ℕ → List Kind → Option Split → Type 0
IsSplitOf sli kinds None = HasNoSplit sli kinds
IsSplitOf sli kinds (Some split) = IsCheapest sli kinds split

-- the hint at several heaps, where they help
abbrev pub split_hint_text : Option Split → List ℕ
split_hint_text None = []
split_hint_text (Some split) =
    codes "; with --split " ++ (quantity split.heaps (codes "heap") ++ (codes " of " ++ (decimal split.words ++ (codes " words "
    ++ ((if split.heaps == 1 then codes "is" else codes "together are") ++ codes " enough")))))

-- the words of a region of level 5 for such a table, if one has that many
abbrev pub IsFiner : List Kind → Option ℕ → Type 0
IsFiner kinds None = ¬ (AreReached 5 kinds)
IsFiner kinds (Some words) = AreReached 5 kinds × (words ≡ kinds_words 5 kinds)

-- the hint at that level, where it helps
abbrev pub hint_text : Option ℕ → List ℕ
hint_text None = []
hint_text (Some words) = codes "; with --level 5 a region of " ++ (decimal words ++ codes " words is enough")

-- the refusal, with the most blocks of this length, the most bytes for this many blocks, and both hints
abbrev pub unreached_line : (most len blocks bytes : ℕ) → Option Split → (finer : Option ℕ) → List ℕ
unreached_line most len blocks bytes split finer =
    codes "tlsf: no region has so many words: at most " ++ (quantity blocks (codes "block")
    ++ (codes " of " ++ (quantity len (codes "byte")
    ++ (codes ", or " ++ (quantity most (codes "block")
    ++ (codes " of at most " ++ (quantity bytes (codes "byte") ++ (split_hint_text split ++ (hint_text finer ++ codes "\n")))))))))

-- the refusal of a table, with the number of kinds for which a region has room, the next one, and both hints
abbrev pub unreached_table_line : ℕ → Kind → Option Split → (finer : Option ℕ) → List ℕ
unreached_table_line n kind split finer =
    codes "tlsf: no region has so many words: one has room for " ++ (quantity n (codes "leading kind")
    ++ (codes ", but not for " ++ (quantity kind.most (codes "block")
    ++ (codes " of " ++ (quantity kind.len (codes "byte") ++ (codes " besides" ++ (split_hint_text split ++ (hint_text finer ++ codes "\n"))))))))

-- the refusal of options that are no pairs
abbrev pub unpaired_line : (blocks bytes : ℕ) → List ℕ
unpaired_line blocks bytes =
    codes "tlsf: --blocks is given " ++ (quantity blocks (codes "time")
    ++ (codes " and --bytes " ++ (quantity bytes (codes "time") ++ codes ": give one of each for every kind, 64 kinds at most\n")))

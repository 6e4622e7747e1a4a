-- The lines on what workers asked of their heaps.
use Rattle.std.specs.Prelude.{ℕ, zero, suc, List, [], ◌++◌, ◌==◌, Option, Some, None, codes, if◌then◌else◌}
use Rattle.std.specs.Fmt.{decimal}
use Rattle.tlsf_pool.specs.laws.MixedSizes.{mixed_region}

-- this many words, or that no region has that many
abbrev pub words_text : Option ℕ → List ℕ
words_text (Some words) = decimal words
words_text None = codes "none"

-- the words of a region in which calls of these bounds are never refused for want of room: 4 where no block is asked for
unfoldable pub held_region : ℕ → (most len : ℕ) → Option ℕ
held_region sli most len = if most == 0 then Some 4 else mixed_region sli most len

-- held J blocks B bytes N words W region R wanted L, at a level
abbrev pub held_line : ℕ → (worker most len words wanted : ℕ) → List ℕ
held_line sli worker most len words wanted =
    codes "held " ++ decimal worker ++ codes " blocks " ++ decimal most ++ codes " bytes " ++ decimal len
    ++ codes " words " ++ words_text (held_region sli most len) ++ codes " region " ++ decimal words
    ++ codes " wanted " ++ decimal wanted ++ codes "\n"

-- the lines of the workers below a number, whose heaps have this many words each
abbrev pub held_text : ℕ → ℕ → (most len wanted : ℕ → ℕ) → ℕ → List ℕ
held_text sli words most len wanted zero = []
held_text sli words most len wanted (suc j) = held_text sli words most len wanted j ++ held_line sli j (most j) (len j) words (wanted j)

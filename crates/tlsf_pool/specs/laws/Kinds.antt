-- How large a region must be for several kinds of request.
use Rattle.std.specs.Prelude.{◌≡◌, ℕ, ◌+◌, ◌*◌, ◌-◌, ◌≤◌, List, [], ◌∷◌, ◌++◌, Ok, Bool, IsTrue, length, map, filter, fold, max, nat_le, nat_lt, not, if◌then◌else◌, ⊤}
use Rattle.std.specs.List.{AllByRecursion, list_all}
use Rattle.tlsf_class.specs.Classes.{most_words}
use Rattle.tlsf_heap.specs.Blocks.{want}
use Rattle.tlsf_heap.specs.Lawful.{IsRegion}
use Rattle.tlsf_heap.specs.Calls.{Call, Allocate, Release, Write, Resize, Read, Answer, Allocated, Released, Resized, opened, run}
use Rattle.tlsf_heap.specs.declared.name.Name.{Name}
use Rattle.tlsf_pool.specs.laws.Room.{live_count, sure}
use Rattle.tlsf_pool.specs.laws.MixedSizes.{mixed_words, HasRoomFor}
use Rattle.tlsf_pool.specs.laws.Contents.{is_same}
use Rattle.tlsf_pool.specs.declared.kind.Kind.{Kind}

-- what a program holds: the names that it was given and has not released, each with the bytes that it asked for last
abbrev pub Inventory : Type 0
Inventory = List (Name × ℕ)

-- the bytes that were asked for
abbrev pub lengths : Inventory → List ℕ
lengths inventory = map (λ entry. entry.1) inventory

-- the inventory with another length under a name
abbrev pub with_length : Inventory → Name → ℕ → Inventory
with_length inventory name len = map (λ entry. if is_same name entry.0 then (entry.0, len) else entry) inventory

-- the inventory after a call, told by its answer
abbrev pub inventory_after : Inventory → Call → Answer → Inventory
inventory_after inventory (Allocate len) (Allocated (Ok name)) = (name, len) ∷ inventory
inventory_after inventory (Release name) (Released (Ok done)) = filter (λ entry. not (is_same name entry.0)) inventory
inventory_after inventory (Resize name len) (Resized (Ok done)) = with_length inventory name len
inventory_after inventory call answer = inventory

-- and after calls in turn
abbrev pub inventory_after_all : Inventory → List Call → List Answer → Inventory
inventory_after_all inventory [] answers = inventory
inventory_after_all inventory (call ∷ calls) [] = inventory
inventory_after_all inventory (call ∷ calls) (answer ∷ answers) = inventory_after_all (inventory_after inventory call answer) calls answers

-- blocks of these lengths fit the table: each counts for the first kind that is long enough for it
abbrev pub AreOfKinds : List Kind → List ℕ → Type 0
AreOfKinds [] lens = lens ≡ []
AreOfKinds (kind ∷ kinds) lens = (length (filter (λ n. nat_le n kind.len) lens) ≤ kind.most) × AreOfKinds kinds (filter (λ n. nat_lt kind.len n) lens)

-- a request fits the table with all that is held, at the lengths that it has then
abbrev pub IsPlanned : List Kind → Inventory → Call → Type 0
IsPlanned kinds inventory (Allocate n) = AreOfKinds kinds (n ∷ lengths inventory)
IsPlanned kinds inventory (Release name) = ⊤
IsPlanned kinds inventory (Write name at bytes) = ⊤
IsPlanned kinds inventory (Resize name n) = ⊤
IsPlanned kinds inventory (Read name at n) = ⊤

-- so does each request among these calls, which get these answers
abbrev pub ArePlanned : List Kind → Inventory → List Call → List Answer → Type 0
ArePlanned kinds inventory [] answers = ⊤
ArePlanned kinds inventory (call ∷ calls) [] = ⊤
ArePlanned kinds inventory (call ∷ calls) (answer ∷ answers) = IsPlanned kinds inventory call × ArePlanned kinds (inventory_after inventory call answer) calls answers

-- how many blocks are held at once, at most
abbrev pub count_in : List Kind → ℕ
count_in [] = 0
count_in (kind ∷ kinds) = kind.most + count_in kinds

-- the words that they take, at most
abbrev pub table_words : List Kind → ℕ
table_words [] = 0
table_words (kind ∷ kinds) = kind.most * (want kind.len + 3) + table_words kinds

-- the words with which a request of this kind finds room, where all others are held
abbrev pub words_with : ℕ → List Kind → Kind → ℕ
words_with sli kinds kind = table_words kinds - (want kind.len + 3) + count_in kinds * (sure sli (want kind.len) - 1) + 1

-- the kinds of which a block may be held
abbrev pub used : List Kind → List Kind
used kinds = filter (λ kind. nat_lt 0 kind.most) kinds

-- the words of a region in which a request of each of these does, however blocks are resized
abbrev pub resized_words : ℕ → List Kind → ℕ
resized_words sli kinds = fold max 4 (map (words_with sli kinds) (used kinds))

-- no request of the table is longer than 8 bytes, which want four words
abbrev pub are_fours : List Kind → Bool
are_fours kinds = list_all (λ kind. nat_le kind.len 8) (used kinds)

-- the words of a region in which a request of each kind does: where all want four words, none are lost to holes
abbrev pub kinds_words : ℕ → List Kind → ℕ
kinds_words sli kinds = if are_fours kinds then max 4 (count_in kinds * 4) else resized_words sli kinds

-- no block is resized to more than 8 bytes
abbrev pub StaysFour : Call → Type 0
StaysFour (Allocate n) = ⊤
StaysFour (Release name) = ⊤
StaysFour (Write name at bytes) = ⊤
StaysFour (Resize name n) = n ≤ 8
StaysFour (Read name at n) = ⊤

-- a request of this kind finds a class
abbrev pub HasClass : ℕ → Kind → Type 0
HasClass sli kind = want kind.len ≤ most_words sli

-- a program whose requests fit the table is never answered NoFit in a region of kinds_words. Where a table has blocks of four
-- words, no block is resized to more
abbrev pub KindsSuffice : ℕ → Type 0
KindsSuffice sli = (id words first : ℕ) (kinds : List Kind) (calls : List Call) → IsRegion sli words → AllByRecursion (HasClass sli) kinds → kinds_words sli kinds ≤ words
    → (IsTrue (are_fours kinds) → AllByRecursion StaysFour calls) → let answers = (run sli (opened id words first) calls).0 in ArePlanned kinds [] calls answers → AllByRecursion HasRoomFor answers

-- nor in one of resized_words, to whatever a block of any table is resized
abbrev pub ResizedSuffice : ℕ → Type 0
ResizedSuffice sli = (id words first : ℕ) (kinds : List Kind) (calls : List Call) → IsRegion sli words → AllByRecursion (HasClass sli) kinds → resized_words sli kinds ≤ words
    → let answers = (run sli (opened id words first) calls).0 in ArePlanned kinds [] calls answers → AllByRecursion HasRoomFor answers

-- a kind of which no block is held asks for no words
abbrev pub EmptyKindsAreNothing : ℕ → Type 0
EmptyKindsAreNothing sli = (kinds : List Kind) → kinds_words sli kinds ≡ kinds_words sli (used kinds)

-- neighbouring kinds may change places, so the words don't tell the order of a table
abbrev pub OrderIsNothing : ℕ → Type 0
OrderIsNothing sli = (before : List Kind) (a b : Kind) (behind : List Kind) → kinds_words sli (before ++ a ∷ (b ∷ behind)) ≡ kinds_words sli (before ++ b ∷ (a ∷ behind))

-- a table of one kind asks for the words of mixed sizes up to its length
abbrev pub OneKindHasMixedWords : ℕ → Type 0
OneKindHasMixedWords sli = (kind : Kind) → kinds_words sli (kind ∷ []) ≡ mixed_words sli kind.most kind.len

-- as many blocks are live as the inventory has entries
abbrev pub InventoryIsLive : ℕ → Type 0
InventoryIsLive sli = (id words first : ℕ) (calls : List Call) → 4 ≤ words
    → let end = run sli (opened id words first) calls in live_count end.1 ≡ length (inventory_after_all [] calls end.0)

-- Tables of kinds, and the numbers of texts.
use Rattle.tlsf_command.proofs.Common.{◌≡◌, ◌≤◌, ◌<◌, ◌+◌, ◌*◌, ◌^◌, ℕ, suc, Bool, true, false, cond, List, [], ◌∷◌, Option, Some, None, Result, Ok, Err, codes, fold, map, max, nat_le, nat_lt, ◌∙◌, length, refl, sym, ap, arith, IfSome, AllByRecursion, list_all, leb-true, lt-ltb, asked_bytes, AreReached, HasNoSplit, IsCheapest, IsFiner, IsServable, IsSplitOf, Arguments, number_of, most_words, want, Kind}
use Rattle.std.proofs.Math.Nat.{mul-le-mul}
use Rattle.std.proofs.lemmas.Bool.Decides.{nat_tests}
use Rattle.std.specs.Result.{result_unwrap_or}
use Rattle.std.specs.Str.Parse.{ParsesUnsigned, digits_value, without_leading_plus}
use Rattle.clap.specs.ValueTests.{accepts}
use Rattle.clap.specs.declared.builder.value_parser.ValueParser.TheVariants.{Unsigned}
use Rattle.clap.proofs.ValueTestLemmas.{accepts-Accepts, Accepts-accepts}
use Rattle.clap.specs.Words.{Text}
use Rattle.tlsf_command.specs.SizeQuestions.{kinds_in, AreOfTexts, HasKinds, HasTable, IsQuestion}
use Rattle.tlsf_command.specs.declared.size_question.SizeQuestion.{SizeQuestion}
use Rattle.tlsf_command.specs.declared.size_question.SizeQuestion.TheVariants.{Table, FineTable, Split, FineSplit, Unpaired}
use Rattle.tlsf_class.proofs.TwoLevels.{most_words_any}
use Rattle.tlsf_heap.proofs.lemmas.blocks.Find.{and_left, and_right}
use Rattle.tlsf_pool.specs.laws.Kinds.{are_fours, count_in, kinds_words, resized_words, table_words, used, words_with, HasClass}
use Rattle.tlsf_pool.specs.declared.sizes.split.Split.{Split as Way}

-- ---- numbers

by_test : (b : Bool) (v : ℕ) → (b ≡ true → ⊥) → 0 ≡ cond b v 0
by_test true v h = absurd (h refl)
by_test false v h = refl

within : (n : ℕ) → n < 2 ^ 32 → n ≤ 4294967295
within n few = omega (arith, few)

below : (n : ℕ) → n ≤ 4294967295 → n < 2 ^ 32
below n few = omega (arith, few)

wide : (n : ℕ) → n < 2 ^ 32 → n < 2 ^ 64
wide n few = omega (arith, few)

least : (n : ℕ) → 0 ≤ n
least n = omega arith

-- what is read of a text is its number
pub number_read : {E : Type 0} (text : List ℕ) (r : Result ℕ E) → ParsesUnsigned 32 10 text r → result_unwrap_or r 0 ≡ number_of text
number_read text (Ok n) is =
    let v = digits_value 10 (without_leading_plus text) in
    rw (Accepts-accepts false (Unsigned 0 4294967295) text (is.0.0, wide v is.0.1, least v, within v is.0.1)) is.1
number_read text (Err e) is =
    let v = digits_value 10 (without_leading_plus text) in
    by_test (accepts false (Unsigned 0 4294967295) text) v (λ taken.
    let told = accepts-Accepts false (Unsigned 0 4294967295) text taken in is (told.0, below v told.3))

-- ---- kinds of a table

-- each has a class
pub classes : (sli : ℕ) (kinds : List Kind) → AllByRecursion (IsServable sli) kinds → AllByRecursion (HasClass sli) kinds
classes sli [] all = tt
classes sli (k ∷ kinds) all = (all.0.2, classes sli kinds all.1)

pub same : (a : ℕ) → a ≤ a
same a = omega arith

pub moved : (a b : ℕ) → a * (8 * b) ≡ 8 * (a * b)
moved a b = omega arith

pub products : (a b c d : ℕ) → a ≤ b → c ≤ d → a * c ≤ b * d
products a b c d f g = mul-le-mul f g

-- the bytes of one kind fit into the words of its blocks
bytes_fit : (k : Kind) → k.most * k.len ≤ 8 * (k.most * (want k.len + 3))
bytes_fit k =
    let short : k.len ≤ 8 * (want k.len + 3) = omega arith in
    let more = products k.most k.most k.len (8 * (want k.len + 3)) (same k.most) short in
    omega (arith, more, moved k.most (want k.len + 3))

-- and so do those of a table
table_fits : (kinds : List Kind) → asked_bytes kinds ≤ 8 * table_words kinds
table_fits [] = omega arith
table_fits (k ∷ kinds) = omega (arith, bytes_fit k, table_fits kinds)

pub max_least : (a : ℕ) (xs : List ℕ) → a ≤ fold max a xs
max_least a [] = omega arith
max_least a (x ∷ xs) = omega (arith, max_least (max a x) xs)

short_bytes : (m n a c : ℕ) → m * n ≤ m * 8 → a ≤ 8 * c → m * n + a ≤ 8 * (m + c)
short_bytes m n a c f g = omega (arith, f, g)

nothing : (m n : ℕ) → m ≤ 0 → m * n ≤ m * 8
nothing m n none = let zero_is : m ≡ 0 = omega (arith, none) in rw zero_is (omega arith)

-- one whose blocks all want four words asks for no more than eight bytes for each
fours_bytes : (kinds : List Kind) → are_fours kinds ≡ true → asked_bytes kinds ≤ 8 * count_in kinds
fours_bytes [] all = omega arith
fours_bytes (k ∷ kinds) all = at (nat_lt 0 k.most) refl (fours_bytes kinds) all
  where
    at : (c : Bool) → nat_lt 0 k.most ≡ c → (are_fours kinds ≡ true → asked_bytes kinds ≤ 8 * count_in kinds) → list_all (λ kind. nat_le kind.len 8) (cond c (k ∷ used kinds) (used kinds)) ≡ true
        → asked_bytes (k ∷ kinds) ≤ 8 * count_in (k ∷ kinds)
    at true is rest all = short_bytes k.most k.len (asked_bytes kinds) (count_in kinds) (products k.most k.most k.len 8 (same k.most) (leb-true k.len 8 (and_left _ _ all))) (rest (and_right _ _ all))
    at false is rest all =
        let none : k.most ≤ 0 = grind (arith, nat_tests) in
        short_bytes k.most k.len (asked_bytes kinds) (count_in kinds) (nothing k.most k.len none) (rest all)

-- a table that is reached asks for few bytes
pub few_bytes : (sli : ℕ) (kinds : List Kind) → AreReached sli kinds → asked_bytes kinds ≤ 2 ^ 32
few_bytes sli [] reached = omega arith
few_bytes sli (k ∷ kinds) reached = at (are_fours (k ∷ kinds)) refl reached.1
  where
    all : List Kind
    all = k ∷ kinds

    at : (c : Bool) → are_fours all ≡ c → cond c (max 4 (count_in all * 4)) (resized_words sli all) ≤ most_words sli → asked_bytes all ≤ 2 ^ 32
    at true is few = omega (arith, fours_bytes all is, few, most_words_any sli)
    at false is few =
        let first = max_least (max 4 (words_with sli all k)) (map (words_with sli all) (used kinds)) in
        let whole : fold max 4 (map (words_with sli all) (k ∷ used kinds)) ≡ resized_words sli all
        = ap (λ (c : Bool). fold max 4 (map (words_with sli all) (cond c (k ∷ used kinds) (used kinds)))) (sym (lt-ltb 0 k.most reached.0.0.0)) in
        omega (arith, table_fits all, first, whole, few, reached.0.0.2, most_words_any sli)

one_byte : (a b c : ℕ) → 1 ≤ a → 1 ≤ b → 1 ≤ a * b + c
one_byte a b c f g = omega (arith, products 1 a 1 b f g)

-- a table of such kinds asks for a byte
pub some_byte : (sli : ℕ) (kinds : List Kind) → 0 < length kinds → AllByRecursion (IsServable sli) kinds → 1 ≤ asked_bytes kinds
some_byte sli [] some all = absurd (omega (arith, some))
some_byte sli (k ∷ kinds) some all = one_byte k.most k.len (asked_bytes kinds) all.0.0 all.0.1

-- what is found at level 5 is the hint
pub finer_of : (kinds : List Kind) (found : Option ℕ) → IfSome found (λ words. AreReached 5 kinds × (words ≡ kinds_words 5 kinds))
    → (found ≡ None → ¬ (AreReached 5 kinds)) → IsFiner kinds found
finer_of kinds None some none = none refl
finer_of kinds (Some words) some none = some

-- and of a split
pub split_told : (sli : ℕ) (kinds : List Kind) (found : Option Way) → IfSome found (IsCheapest sli kinds)
    → (found ≡ None → HasNoSplit sli kinds) → IsSplitOf sli kinds found
split_told sli kinds None some none = none refl
split_told sli kinds (Some split) some none = some

-- as many kinds as pairs
kinds_count : (blocks bytes : List Text) → length blocks ≡ length bytes → length (kinds_in blocks bytes) ≡ length blocks
kinds_count [] bytes same = refl
kinds_count (most ∷ blocks) [] same = sym same
kinds_count (most ∷ blocks) (len ∷ bytes) same = let fewer : length blocks ≡ length bytes = omega (arith, same) in ap (λ n. suc n) (kinds_count blocks bytes fewer)

-- the table of texts has 1 to 64 kinds
of_texts : (blocks bytes : List Text) (kinds : List Kind) → AreOfTexts blocks bytes kinds → HasKinds kinds
of_texts blocks bytes kinds are =
    let count : length kinds ≡ length blocks = ap (λ (ks : List Kind). length ks) are.1 ∙ kinds_count blocks bytes are.0.0 in
    (omega (arith, count, are.0.1), omega (arith, count, are.0.2))

-- and so has that of a question
pub has_table : (given : Arguments) (question : SizeQuestion) → IsQuestion given question → HasTable question
has_table given (Table kinds) is = of_texts (given (codes "B")) (given (codes "N")) kinds.items is.0
has_table given (FineTable kinds) is = of_texts (given (codes "B")) (given (codes "N")) kinds.items is.0
has_table given (Split kinds) is = of_texts (given (codes "B")) (given (codes "N")) kinds.items is.0
has_table given (FineSplit kinds) is = of_texts (given (codes "B")) (given (codes "N")) kinds.items is.0
has_table given (Unpaired m n) is = tt

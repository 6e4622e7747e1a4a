-- A name between quotes, up to each quote of its own.
use Rattle.tlsf_command.proofs.Common.{◌≡◌, ◌∙◌, ◌==◌, ◌+◌, ◌<◌, ◌++◌, ℕ, Bool, false, true, List, [], ◌∷◌, codes, flat_map, length, suc, refl, sym, ap, arith, append_assoc, length-drop, after_first, before_first, position_or_len, within_quotes}

abbrev pub is_quote : ℕ → Bool
is_quote = λ byte. byte == 39

-- between quotes the text is that up to its first quote, the quote closed and opened again, and what stands after
abbrev IsSplit : List ℕ → Type 0
IsSplit s = flat_map within_quotes s ≡ before_first is_quote s ++ (codes "'\\''" ++ flat_map within_quotes (after_first is_quote s))

by_first : (x : ℕ) (xs : List ℕ) (first : Bool) → (x == 39) ≡ first → position_or_len is_quote (x ∷ xs) < length (x ∷ xs)
    → (position_or_len is_quote xs < length xs → IsSplit xs) → IsSplit (x ∷ xs)
by_first x xs true is more rest = rw is refl
by_first x xs false is more rest =
    let fewer : position_or_len is_quote xs < length xs = let some = rw is at more in omega (arith, some) in
    let n = position_or_len is_quote xs in
    let place : 1 + n ≡ suc n = omega arith in
    let next : suc n + 1 ≡ suc (n + 1) = omega arith in
    rw (is, place, next) (ap (λ (behind : List ℕ). x ∷ behind) (rest fewer))

within_split : (s : List ℕ) → position_or_len is_quote s < length s → IsSplit s
within_split [] more = absurd (omega (arith, more))
within_split (x ∷ xs) more = by_first x xs (x == 39) refl more (within_split xs)

-- where there is no quote, it stands as it is
by_last : (x : ℕ) (xs : List ℕ) (first : Bool) → (x == 39) ≡ first → position_or_len is_quote (x ∷ xs) ≡ length (x ∷ xs)
    → (position_or_len is_quote xs ≡ length xs → flat_map within_quotes xs ≡ xs) → flat_map within_quotes (x ∷ xs) ≡ x ∷ xs
by_last x xs true is none rest = absurd (let no = rw is at none in omega (arith, no))
by_last x xs false is none rest =
    let all : position_or_len is_quote xs ≡ length xs = let last = rw is at none in omega (arith, last) in
    rw is (ap (λ (behind : List ℕ). x ∷ behind) (rest all))

pub within_none : (s : List ℕ) → position_or_len is_quote s ≡ length s → flat_map within_quotes s ≡ s
within_none [] none = refl
within_none (x ∷ xs) none = by_last x xs (x == 39) refl none (within_none xs)

-- what was added up to a quote, and the quote, with what is left
pub text_split : (word front behind left whole : List ℕ) → front ≡ before_first is_quote left → behind ≡ after_first is_quote left
    → position_or_len is_quote left < length left → word ++ flat_map within_quotes left ≡ whole
    → ((word ++ front) ++ codes "'\\''") ++ flat_map within_quotes behind ≡ whole
text_split word front behind left whole front_is behind_is more is =
    let rest = flat_map within_quotes (after_first is_quote left) in
    rw (front_is, behind_is) (append_assoc (word ++ before_first is_quote left) (codes "'\\''") rest
    ∙ (append_assoc word (before_first is_quote left) (codes "'\\''" ++ rest) ∙ (ap (λ (text : List ℕ). word ++ text) (sym (within_split left more)) ∙ is)))

-- less is left
pub less_left : (behind left : List ℕ) → behind ≡ after_first is_quote left → position_or_len is_quote left < length left → length behind < length left
less_left behind left behind_is more =
    omega (arith, more, ap (λ (s : List ℕ). length s) behind_is, length-drop (position_or_len is_quote left + 1) left)

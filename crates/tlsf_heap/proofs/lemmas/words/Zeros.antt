-- Bytes of words that are made zero.
use Rattle.tlsf_heap.proofs.Common.{◌≡◌, ℕ, ◌+◌, ◌*◌, ◌/◌, ◌%◌, ◌^◌, ◌<◌, ◌≤◌, List, ◌++◌, length, get_or, take, drop, replicate, ap, ◌∙◌, inl, inr, arith, zero-div, cases_lt, byte_in, OnlyFrom}
use Rattle.std.proofs.lemmas.Grind.{elements}
use Rattle.tlsf_heap.proofs.lemmas.words.Headers.{zeroed_before}

-- the same word has the same bytes
pub same_byte : (xs ys : List ℕ) (k : ℕ) → get_or ys (k / 8) 0 ≡ get_or xs (k / 8) 0 → byte_in ys k ≡ byte_in xs k
unfolding byte_in
same_byte xs ys k same = ap (λ (w : ℕ). w / 256 ^ (k % 8) % 256) same

-- and a zero word zeros
pub zero_byte : (xs : List ℕ) (k : ℕ) → get_or xs (k / 8) 0 ≡ 0 → byte_in xs k ≡ 0
unfolding byte_in
zero_byte xs k zero = ap (λ (w : ℕ). w / 256 ^ (k % 8) % 256) zero ∙ ap (λ (w : ℕ). w % 256) (zero-div (256 ^ (k % 8)))

module _ (words : List ℕ) (at n : ℕ) (inside : at + n ≤ length words) where
  abbrev zeroed : List ℕ
  zeroed = take at words ++ replicate n 0 ++ drop (at + n) words

  pub zeroed_among : (k : ℕ) → at ≤ k → k < at + n → get_or zeroed k 0 ≡ 0
  zeroed_among k low high = grind (arith, elements)

  pub zeroed_behind : (k : ℕ) → at + n ≤ k → get_or zeroed k 0 ≡ get_or words k 0
  zeroed_behind k past = grind (arith, elements)

  pub length-zeroed : length zeroed ≡ length words
  length-zeroed = grind (arith, elements)

-- bytes of the words from a place on are zero from one on, up to a word, and earlier ones stay
pub record Clears (old new : List ℕ) (place from word end : ℕ) : Type 0 where
  pub zero : (k : ℕ) → from ≤ k → k < 8 * word → byte_in new k ≡ 0
  pub before : (k : ℕ) → k < from → byte_in new k ≡ byte_in old k
  pub only : OnlyFrom old new place end

-- and with the words behind them too
pub clears_more : {old mid new : List ℕ} {place from word end : ℕ} (n : ℕ) → Clears old mid place from word end → from ≤ 8 * word → place ≤ word → word + n ≤ end → end ≤ length old
    → new ≡ take word mid ++ replicate n 0 ++ drop (word + n) mid → Clears old new place from (word + n) end
clears_more {old = old} {mid = mid} {new = new} {place = place} {from = from} {word = word} {end = end} n first above low high inside is =
    let long = first.only.length in
    let within : word + n ≤ length mid = omega arith in
    let same : (k : ℕ) → k < word → get_or new k 0 ≡ get_or mid k 0 = λ k h. ap (λ (l : List ℕ). get_or l k 0) is ∙ zeroed_before mid word n k h (omega arith) in
    record {
      zero = λ k l g. elim (cases_lt k (8 * word)) [
        | inl h ↦ same_byte mid new k (same (k / 8) (omega arith)) ∙ first.zero k l h
        | inr h ↦ zero_byte new k (ap (λ (l : List ℕ). get_or l (k / 8) 0) is ∙ zeroed_among mid word n within (k / 8) (omega arith) (omega arith))
      ];
      before = λ k h. same_byte mid new k (same (k / 8) (omega arith)) ∙ first.before k h;
      only = record {
        before = λ k h. same k (omega arith) ∙ first.only.before k h;
        behind = λ k h. ap (λ (l : List ℕ). get_or l k 0) is ∙ zeroed_behind mid word n within k (omega arith) ∙ first.only.behind k h;
        length = ap length is ∙ length-zeroed mid word n within ∙ long;
      };
    }

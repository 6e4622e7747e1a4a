-- No region has room for very many blocks.
use Rattle.tlsf_held.proofs.Common.{◌≡◌, ℕ, zero, suc, ◌*◌, ◌^◌, ◌<◌, ◌≤◌, inl, inr, refl, arith, cases_lt, le-leb, lt-leb, IsLevel, most_words, want, no_region, row_words, Row}
use Rattle.tlsf_class.proofs.TwoLevels.{by_level}
use Rattle.tlsf_pool.specs.laws.FixedSize.{fixed_words}
use Rattle.tlsf_pool.specs.laws.Room.{sure}
use Rattle.tlsf_pool.proofs.lemmas.laws.FreeRoom.{sure_enough}

many : (most s : ℕ) → 2 ^ 32 ≤ most → 0 < s → 2 ^ 32 ≤ most * s
many most zero big some = absurd (omega (arith, some))
many most (suc t) big some = omega (arith, big)

words_few : (sli : ℕ) → IsLevel sli → most_words sli ≤ 2 ^ 24
words_few = by_level (λ n. most_words n ≤ 2 ^ 24) (omega arith) (omega arith)

pub too_many : (sli : ℕ) → IsLevel sli → (row : Row) → 2 ^ 32 ≤ row.most → row_words sli row ≡ no_region
too_many sli level row big = elim (cases_lt (most_words sli) (want row.longest)) [
  | inl above ↦ rw (lt-leb (want row.longest) (most_words sli) above) refl
  | inr inside ↦
      let product = many row.most (sure sli (want row.longest)) big (omega (arith, sure_enough sli level (want row.longest) inside)) in
      let over : most_words sli < fixed_words sli row.most row.longest = omega (arith, product, words_few sli level) in
      rw (le-leb (want row.longest) (most_words sli) inside, lt-leb (fixed_words sli row.most row.longest) (most_words sli) over) refl
]

use Rattle.tlsf_class.proofs.Common.{◌≡◌, ℕ, ◌+◌, ◌-◌, ◌/◌, ◌^◌, ◌<◌, ◌≤◌, inl, inr, sym, ap, ◌∙◌, arith, bit_and, bit_at, div-le_self, cases_lt, bit_at-zero}
use Rattle.tlsf_class.proofs.OneBit.{masked_from, masked_below, shifted_from}
use Rattle.tlsf_class.proofs.bits.steps_above_bit.Goals as goal

-- the shifted word without its lowest bit
abbrev left : ℕ → ℕ → ℕ
left word from = bit_and (word / 2 ^ from) 4294967294

-- what is above bit `from` stays
above_stays : (word from k : ℕ) → word < 2 ^ 32 → from < k → bit_at (left word from) (k - from) ≡ bit_at word k
above_stays word from k fits above = masked_from (word / 2 ^ from) 1 (k - from) (omega (arith, div-le_self word (2 ^ from))) (omega arith) (omega arith) ∙ shifted_from word from k (omega arith)

pub returns-then-shifted-eq0-clause-none : goal.returns-then-shifted-eq0-clause-none
returns-then-shifted-eq0-clause-none c = λ k above.
    sym (above_stays c.args.word c.args.from k (omega arith) above) ∙ ap (λ n. bit_at n (k - c.args.from)) c.if-shifted-eq0.true ∙ bit_at-zero (k - c.args.from)

pub returns-else-shifted-eq0-clause-some : goal.returns-else-shifted-eq0-clause-some
returns-else-shifted-eq0-clause-some c =
    let found = c.lowest_bit.ensures.lowest in
    let least : 1 ≤ c.lowest_bit.result = elim (cases_lt c.lowest_bit.result 1) [
      | inl below ↦ absurd (omega (arith, masked_below (c.args.word / 2 ^ c.args.from) 1 c.lowest_bit.result (omega arith) below, found.set))
      | inr above ↦ above
    ] in
    record {
      least = omega (arith, least);
      set = sym (above_stays c.args.word c.args.from (c.args.from + c.lowest_bit.result) (omega arith) (omega (arith, least))) ∙ ap (bit_at (left c.args.word c.args.from)) (omega arith) ∙ found.set;
      lowest = λ k above below. sym (above_stays c.args.word c.args.from k (omega arith) (omega (arith, above))) ∙ found.lowest (k - c.args.from) (omega arith) (omega arith);
    }

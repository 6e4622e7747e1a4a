use Rattle.tlsf_words.proofs.Common.{◌≡◌, ℕ, ◌+◌, ◌-◌, ◌*◌, ◌/◌, ◌%◌, ◌<◌, take, drop, replicate, length, get_or, ap, sym, ◌∙◌, arith, length-take, length-drop, get_or-take, get_or-drop, get_or-replicate, length-replicate, byte_in}
use Rattle.tlsf_words.proofs.words.Words.zero_rest.Goals as goal

-- the rest of eight zeros
length-rest : (n : ℕ) → length (take (8 - n) (drop n (replicate {A = ℕ} 8 0))) ≡ 8 - n
length-rest n = omega (arith, length-take (8 - n) (drop n (replicate {A = ℕ} 8 0)), length-drop n (replicate {A = ℕ} 8 0), length-replicate {A = ℕ} 8 0)

rest_zero : (n i : ℕ) → n + i < 8 → get_or (take (8 - n) (drop n (replicate {A = ℕ} 8 0))) i 0 ≡ 0
rest_zero n i h =
    get_or-take (8 - n) (drop n (replicate 8 0)) i 0 (omega arith) ∙ get_or-drop n (replicate 8 0) i 0 ∙ get_or-replicate 8 (n + i) 0 0 h

pub returns-clause-zero : goal.returns-clause-zero
returns-clause-zero c k low high =
    let start = 8 * (c.args.at + 3) + c.args.offset in
    let first = start % 8 in
    let here : 8 * (start / 8) + first + (k - start) ≡ k = omega arith in
    let inside : first + (k - start) < 8 = omega arith in
    let long = length-rest first in
    ap (byte_in c.write_piece.new.self.words) (sym here) ∙ c.write_piece.ensures.bytes (k - start) (let l : k - start < 8 - first = omega arith in omega (arith, long, l)) ∙ rest_zero first (k - start) inside

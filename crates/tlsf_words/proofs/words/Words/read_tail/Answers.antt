use Rattle.tlsf_words.proofs.Common.{◌≡◌, ℕ, ◌+◌, ◌-◌, ◌*◌, ◌<◌, ◌≤◌, List, ◌++◌, get_or, take, drop, w64, length, refl, ap, sym, ◌∙◌, inl, inr, arith, length-take-le, to_le_bytes, between, cases_lt, get_or-take, get_or_append_left, get_or-append_right, get_or-between}
use Rattle.tlsf_words.proofs.Bytes.{byte_in-word, with_piece, with_piece_is, get_or-with_piece_before, get_or-with_piece_in}
use Rattle.tlsf_words.proofs.words.Words.read_tail.Goals as goal

-- a list whose last eight entries are new
abbrev with_last : List ℕ → List ℕ → List ℕ
with_last out last = take (length out - 8) out ++ (last ++ drop (length out - (length out - 8)) (drop (length out - 8) out))

with_last_is : (out last : List ℕ) → 8 ≤ length out → length last ≡ 8 → with_last out last ≡ with_piece out (length out - 8) last
with_last_is out last enough long = with_piece_is (length out - 8) _ out out _ last refl refl (omega arith)

get_or-with_last : (out last : List ℕ) (j : ℕ) → 8 ≤ length out → length last ≡ 8 → length out - 8 ≤ j → j < length out → get_or (with_last out last) j 0 ≡ get_or last (j - (length out - 8)) 0
get_or-with_last out last j enough long from below = ap (λ l. get_or l j 0) (with_last_is out last enough long) ∙ get_or-with_piece_in out (length out - 8) last j (omega arith) from (omega arith)

get_or-before_last : (out last : List ℕ) (j : ℕ) → 8 ≤ length out → length last ≡ 8 → j < length out - 8 → get_or (with_last out last) j 0 ≡ get_or out j 0
get_or-before_last out last j enough long below = ap (λ l. get_or l j 0) (with_last_is out last enough long) ∙ get_or-with_piece_before out (length out - 8) last j (omega arith) below

pub returns-clause-bytes : goal.returns-clause-bytes
returns-clause-bytes c k h =
    let out = c.args.out.now in
    let n = c.args.n in
    let written = c.copy_from_slice.ensures.after ∙ c.to_le_bytes.ensures in
    let at : length out - n + k - (length out - 8) ≡ 8 - n + k = omega (arith, c.requires.enough, c.requires.within) in
    let back : 8 - n + k - (8 - n) ≡ k = omega arith in
    get_or-with_last out c.copy_from_slice.new.self (length out - n + k) c.requires.enough (ap length written) (omega (arith, c.requires.enough, c.requires.within)) (omega (arith, c.requires.enough, c.requires.within))
    ∙ ap (λ i. get_or c.copy_from_slice.new.self i 0) at
    ∙ ap (λ bytes. get_or bytes (8 - n + k) 0) (written ∙ c.join_bytes-last.ensures)
    ∙ get_or-append_right _ _ (8 - n) (8 - n + k) 0 (length-take-le (8 - n) (to_le_bytes w64 c.first_word.result) (omega arith)) (omega arith)
    ∙ ap (λ i. get_or (take (8 - (8 - n)) (to_le_bytes w64 c.read-word.result)) i 0) back
    ∙ get_or-take (8 - (8 - n)) (to_le_bytes w64 c.read-word.result) k 0 (omega (arith, c.requires.within))
    ∙ ap (λ word. get_or (to_le_bytes w64 word) k 0) c.read-word.ensures.value
    ∙ sym (byte_in-word c.args.self.now.words c.args.place k (8 * c.args.place + k) (omega (arith, c.requires.within)) (omega arith))

pub returns-clause-before : goal.returns-clause-before
returns-clause-before c k h =
    let out = c.args.out.now in
    let n = c.args.n in
    let from = length out - 8 in
    let written = c.copy_from_slice.ensures.after ∙ c.to_le_bytes.ensures in
    elim (cases_lt k from) [
      | inl low ↦ get_or-before_last out c.copy_from_slice.new.self k c.requires.enough (ap length written) low
      | inr past ↦
          let at : from + (k - from) ≡ k = omega arith in
          get_or-with_last out c.copy_from_slice.new.self k c.requires.enough (ap length written) past (omega (arith, h))
          ∙ ap (λ bytes. get_or bytes (k - from) 0) (written ∙ c.join_bytes-last.ensures)
          ∙ get_or_append_left (take (8 - n) (to_le_bytes w64 c.first_word.result)) (take (8 - (8 - n)) (to_le_bytes w64 c.read-word.result)) 0 (k - from) (omega (arith, length-take-le (8 - n) (to_le_bytes w64 c.first_word.result) (omega arith), h, c.requires.enough))
          ∙ get_or-take (8 - n) (to_le_bytes w64 c.first_word.result) (k - from) 0 (omega (arith, h, c.requires.enough))
          ∙ ap (λ bytes. get_or bytes (k - from) 0) c.first_word.ensures
          ∙ get_or-take 8 (between from (length out) out) (k - from) 0 (omega (arith, h))
          ∙ get_or-between out from (length out) (k - from) 0 (omega (arith, h))
          ∙ ap (λ i. get_or out i 0) at
    ]

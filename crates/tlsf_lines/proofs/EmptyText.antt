use Rattle.tlsf_lines.proofs.Common.{◌≡◌, ℕ, List, [], ◌∷◌, length, Err, refl, arith, BadHeader, trace_of, header_in}

pub empty_text : (text : List ℕ) → length text ≡ 0 → trace_of text ≡ Err (BadHeader, 1)
unfolding trace_of header_in
empty_text [] none = refl
empty_text (b ∷ bs) none = absurd (omega arith)

-- Heads of which none is a place.
use Rattle.tlsf_words.proofs.Common.{◌≡◌, ℕ, replicate, get_or, inl, inr, arith, cases_lt, get_or-replicate, get_or_past, length-replicate, nowhere}

-- each entry is nowhere, and so is what is read past the end
pub nowhere_each : (n class : ℕ) → get_or (replicate n nowhere) class nowhere ≡ nowhere
nowhere_each n class = elim (cases_lt class n) [
  | inl inside ↦ get_or-replicate n class nowhere nowhere inside
  | inr past ↦ get_or_past (replicate n nowhere) class nowhere (omega (arith, length-replicate n nowhere))
]

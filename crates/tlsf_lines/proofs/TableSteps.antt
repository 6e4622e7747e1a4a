-- A table by label, when a thing is kept at a place that it reaches.
use Rattle.tlsf_lines.proofs.Common.{◌≡◌, ◌∙◌, ℕ, ◌<◌, List, length, Option, None, sym, inl, inr, eqb_tells, get_or-set_at, get_or-set_other, IsSet, kept_of}
use Rattle.std.proofs.Math.ListN.{set}

pub set_is : {T : Type 0} (old reached : List (Option T)) (label : ℕ) (thing : Option T) → ((q : ℕ) → kept_of reached q ≡ kept_of old q) → label < length reached
    → IsSet old (set reached label thing) label thing
set_is old reached label thing same within = λ q. elim (eqb_tells label q) [
  | inl hit ↦ rw hit.0 (get_or-set_at reached label q thing None (sym hit.1) within)
  | inr miss ↦ rw miss.0 (get_or-set_other reached label q thing None (λ is. miss.1 (sym is)) ∙ same q)
]

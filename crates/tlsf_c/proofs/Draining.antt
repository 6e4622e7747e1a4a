-- A drain goes on by some posts.
use Rattle.tlsf_c.proofs.Common.{◌≡◌, ℕ, ◌+◌, ◌<◌, ◌≤◌, inl, inr, List, [], ◌∷◌, ◌++◌, length, refl, ap, sym, ◌∙◌, arith, append_assoc, length-append, cases_lt, HeapState, released, Post, drained, HeapCounts}
use Rattle.std.proofs.lemmas.List.Sums.{fold-append}
use mathlib.Core.List.{IsPrefix}

-- more posts were taken
pub taken_more : (first last now posts more : List Post) → last ≡ first ++ posts → now ≡ last ++ more → now ≡ first ++ (posts ++ more)
taken_more first last now posts more before came = came ∙ (ap (λ xs. xs ++ more) before ∙ append_assoc first posts more)

-- and their blocks were released
pub released_more : (first last now : HeapState) (posts more : List Post) → last ≡ drained first posts → now ≡ drained last more → now ≡ drained first (posts ++ more)
released_more first last now posts more before gone =
    gone ∙ (ap (λ (h : HeapState). drained h more) before ∙ sym (fold-append (λ (h : HeapState) (p : Post). (released h p.name).heap) first posts more))

-- no post releases nothing
pub drained_none : (h : HeapState) (posts : List Post) → length posts ≡ 0 → drained h posts ≡ h
drained_none h [] none = refl
drained_none h (x ∷ xs) none = absurd (omega (arith, none))

-- what is counted once `came` posts and then `more` were released, where a heap has this many words in use
pub counts_more : (first last now : HeapCounts) (last_words now_words came more : ℕ)
    → (came ≡ 0 → last ≡ first) → (0 < came → last ≡ record first { words = last_words })
    → (more ≡ 0 → now ≡ last) → (more ≡ 0 → now_words ≡ last_words) → (0 < more → now ≡ record last { words = now_words })
    → 0 < came + more → now ≡ record first { words = now_words }
counts_more first last now last_words now_words came more none some same same_words then sum = elim (cases_lt 0 more) [
  | inl m ↦ then m ∙ elim (cases_lt 0 came) [
    | inl c ↦ ap (λ (k : HeapCounts). record k { words = now_words }) (some c)
    | inr z ↦ ap (λ (k : HeapCounts). record k { words = now_words }) (none (omega (arith, z)))
  ]
  | inr z ↦ same (omega (arith, z)) ∙ (some (omega (arith, z, sum)) ∙ ap (λ (w : ℕ). record first { words = w }) (sym (same_words (omega (arith, z)))))
]

-- of those that were ready, all but those taken still are
pub still_ready : (before after more : List Post) → IsPrefix before (more ++ after) → length before ≤ length more + length after
still_ready before after more p = omega (arith, sym (ap length p.1) ∙ length-append before p.0, length-append more after)

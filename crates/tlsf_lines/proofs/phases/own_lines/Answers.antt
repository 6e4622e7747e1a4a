use Rattle.tlsf_lines.proofs.Common.{◌≡◌, arith, refl, List, [], ℕ, ap, length, ◌∙◌, ◌∷◌, ◌+◌, ◌++◌, ◌<◌, sym, get_or, true, drop, false, append_assoc, at_drop_more, own_lines, is_line_of, Line}
use Rattle.tlsf_lines.proofs.phases.own_lines.Goals.{then-is_of+in_ok-push, else-is_of}
use Rattle.tlsf_lines.proofs.phases.own_lines.Goals as goal

-- a line of the worker, and a line that is none
kept : (worker : ℕ) (line : Line) (lines : List Line) → is_line_of worker line ≡ true → own_lines worker (line ∷ lines) ≡ line ∷ own_lines worker lines
kept worker line lines is = rw is refl

left_out : (worker : ℕ) (line : Line) (lines : List Line) → is_line_of worker line ≡ false → own_lines worker (line ∷ lines) ≡ own_lines worker lines
left_out worker line lines is = rw is refl

module _ (worker : ℕ) (so_far all phase : List Line) (i : ℕ) (d : Line) where
  one_more : i < length phase → is_line_of worker (get_or phase i d) ≡ true → so_far ++ own_lines worker (drop i phase) ≡ all
      → (so_far ++ get_or phase i d ∷ []) ++ own_lines worker (drop (i + 1) phase) ≡ all
  one_more lt is before =
      append_assoc so_far (get_or phase i d ∷ []) (own_lines worker (drop (i + 1) phase))
      ∙ (ap (λ lines. so_far ++ lines) (sym (kept worker (get_or phase i d) (drop (i + 1) phase) is))
      ∙ (sym (at_drop_more (λ lines. so_far ++ own_lines worker lines) phase i d lt) ∙ before))

  none_more : i < length phase → is_line_of worker (get_or phase i d) ≡ false → so_far ++ own_lines worker (drop i phase) ≡ all
      → so_far ++ own_lines worker (drop (i + 1) phase) ≡ all
  none_more lt is before =
      ap (λ lines. so_far ++ lines) (sym (left_out worker (get_or phase i d) (drop (i + 1) phase) is))
      ∙ (sym (at_drop_more (λ lines. so_far ++ own_lines worker lines) phase i d lt) ∙ before)

pub loop-line-preserved : goal.loop-line-preserved
loop-line-preserved c = elim c.if-is_of.branch [
  | then-is_of+in_ok-push w ↦ record {
    so_far = rw (w.own-is, w.in_ok-push.ensures.items)
        (one_more _ _ _ _ _ _ c.loop-line-test.true (sym c.is_of.ensures ∙ w.if-is_of.true) c.loop-line.invariant.so_far);
    few = rw w.own-is (omega (arith, w.in_ok-push.ensures.len, c.loop-line.invariant.few));
  }
  | else-is_of w ↦ record {
    so_far = rw w.own-is (none_more _ _ _ _ _ _ c.loop-line-test.true (sym c.is_of.ensures ∙ w.if-is_of.false) c.loop-line.invariant.so_far);
    few = rw w.own-is (omega (arith, c.loop-line.invariant.few));
  }
]

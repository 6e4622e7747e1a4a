use Rattle.tlsf_picture.proofs.Common.{◌≡◌, ℕ, ◌≤◌, [], length, string_bytes, IsYard, IsScript, Trace, shown_until, HasShown, level_in, Stands}
use Rattle.tlsf_picture.proofs.page_drawing.add_moments.Given as goal

-- the yard stands after a line that isn't after these, and those of these that have a moment are shown
abbrev pub invariant-loop-number : goal.invariant-loop-number
invariant-loop-number g l = record {
  yard : IsYard l.player.workers.items;
  shown : (trace : Trace) → level_in trace.header ≡ g.row.SLI → IsScript l.script trace → Stands 0 trace l.fn.player → HasShown [] trace (string_bytes l.fn.text)
      → (line : ℕ) × (line ≤ l.number) × Stands line trace l.player × HasShown (shown_until (length trace.lines) l.named l.number) trace (string_bytes l.text);
}

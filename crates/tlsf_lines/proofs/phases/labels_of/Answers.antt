use Rattle.tlsf_lines.proofs.Common.{List, [], ◌∙◌, ◌∷◌, ◌+◌, ◌++◌, sym, get_or, drop, append_assoc, map, at_drop_more, label_in, Line, Allocate}
use Rattle.tlsf_lines.proofs.phases.labels_of.Goals as goal

pub loop-line-preserved : goal.loop-line-preserved
loop-line-preserved c =
    let i = c.loop-line.line-index in
    let lines = c.args.lines.now in
    let line = get_or lines i (Allocate 0 0 0) in
    record {
      so_far = rw (c.in_ok-push.ensures.items, c.label.ensures)
          (append_assoc c.loop-line.labels.items (label_in line ∷ []) (map label_in (drop (i + 1) lines))
          ∙ (sym (at_drop_more (λ (l : List Line). c.loop-line.labels.items ++ map label_in l) lines i (Allocate 0 0 0) c.loop-line-test.true) ∙ c.loop-line.invariant.so_far));
    }

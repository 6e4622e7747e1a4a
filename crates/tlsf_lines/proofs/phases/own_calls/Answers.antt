use Rattle.tlsf_lines.proofs.Common.{◌≡◌, ℕ, ◌+◌, ◌∷◌, ◌++◌, [], List, Option, get_or, drop, sym, ap, ◌∙◌, arith, append_assoc, at_drop_more, All-get_or, All-weaker, Name, kept_of, RecallsCall, RecallsCallOf, call_in, calls_from, known_in, label_in, Line, Allocate}
use Rattle.tlsf_lines.proofs.LabelSteps.{IfSome-weaker}
use Rattle.tlsf_lines.proofs.phases.own_calls.Goals as goal

pub loop-line-preserved : goal.loop-line-preserved
loop-line-preserved c =
    let inv = c.loop-line.invariant in
    let i = c.loop-line.line-index in
    let lines = c.args.lines.now in
    let known = known_in c.args.names.now in
    let line = get_or lines i (Allocate 0 0 0) in
    let old = c.loop-line.names.calls in
    let new = c.remember.new.self.calls in
    let own : RecallsCallOf old inv.before line = All-get_or (RecallsCallOf old inv.before) lines i (Allocate 0 0 0) c.loop-line-test.true inv.recalls in
    let by : List (Option Name) → ℕ → Option Name = λ names label. kept_of names label in
    let known_are : known_in c.loop-line.names ≡ known = ap by inv.names in
    let call : c.call_of-call.result ≡ call_in known inv.before line = c.call_of-call.ensures inv.before own ∙ ap (λ (k : ℕ → Option Name). call_in k inv.before line) known_are in
    record {
      before = line ∷ inv.before;
      names = c.remember.ensures.names ∙ inv.names;
      recalls = All-weaker (RecallsCallOf old inv.before) (RecallsCallOf new (line ∷ inv.before))
          (λ l. IfSome-weaker (RecallsCall old inv.before) (RecallsCall new (line ∷ inv.before)) (λ label. c.in_ok-remember.ensures.calls inv.before label (omega (arith, inv.len, inv.count, c.len.ensures))) (label_in l))
          lines inv.recalls;
      count = omega (arith, inv.count);
      len = omega (arith, inv.len, c.in_ok-push.ensures.len);
      so_far = rw (c.in_ok-push.ensures.items, call)
          (append_assoc c.loop-line.calls.items (call_in known inv.before line ∷ []) (calls_from known (line ∷ inv.before) (drop (i + 1) lines))
          ∙ (sym (at_drop_more (λ (l : List Line). c.loop-line.calls.items ++ calls_from known inv.before l) lines i (Allocate 0 0 0) c.loop-line-test.true) ∙ inv.so_far));
    }

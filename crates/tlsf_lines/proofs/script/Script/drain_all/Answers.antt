use Rattle.tlsf_lines.proofs.Common.{◌≡◌, ℕ, Option, None, ◌+◌, [], ◌∷◌, ◌++◌, refl, ap, ◌∙◌, arith, append_assoc, replicate_more, map-range_with_len_more, last_drain}
use Rattle.tlsf_lines.proofs.script.Script.drain_all.Goals as goal

pub loop-worker-preserved : goal.loop-worker-preserved
loop-worker-preserved c =
    let w = c.loop-worker.worker in
    let inv = c.loop-worker.invariant in
    let next : 0 + w ≡ w = omega arith in
    record {
      events = rw (map-range_with_len_more last_drain 0 w w next) (c.in_ok-push.ensures.events 0 [] refl ∙ (ap (λ l. l ++ last_drain w ∷ []) inv.events ∙ append_assoc c.args.self.now.events _ _));
      labels = rw (← replicate_more {X = Option ℕ} w None) (c.in_ok-push.ensures.labels ∙ (ap (λ l. l ++ None ∷ []) inv.labels ∙ append_assoc c.args.self.now.labels.items _ _));
      header = c.in_ok-push.ensures.same.header ∙ inv.header;
      calls = c.in_ok-push.ensures.same.calls ∙ inv.calls;
      ends = c.in_ok-push.ensures.same.ends ∙ inv.ends;
      requests = c.in_ok-push.ensures.same.requests ∙ inv.requests;
    }

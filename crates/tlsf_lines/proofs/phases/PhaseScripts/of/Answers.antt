use Rattle.tlsf_lines.proofs.Common.{◌≡◌, ◌<◌, ◌^◌, ℕ, List, [], Option, vec_len, ap, ◌∙◌, arith, All-push, Name, kept_of, calls_from, known_in, own_lines, script_in}
use Rattle.tlsf_lines.proofs.WorkerByWorker.{one_more}
use Rattle.tlsf_lines.proofs.phases.PhaseScripts.of.Goals as goal

pub loop-worker-preserved : goal.loop-worker-preserved
loop-worker-preserved c =
    let inv = c.loop-worker.invariant in
    let w = c.loop-worker.worker in
    let phase = c.args.phase.now in
    let scripts = c.loop-worker.scripts in
    let lines = c.in_ok-lines.lines in
    let calls = c.in_ok-own_calls.field-0 in
    let by : List (Option Name) → ℕ → Option Name = λ names label. kept_of names label in
    let known_are : known_in c.loop-worker.names ≡ known_in c.args.names.now = ap by inv.names in
    record {
      names = c.own_calls.ensures.names ∙ inv.names;
      lines = rw c.in_ok-push-2.ensures.items (one_more (λ w. own_lines w phase) scripts.lines.items lines w inv.lines c.in_ok-lines.ensures.lines);
      calls = rw c.in_ok-push.ensures.items (one_more (script_in (known_in c.args.names.now) phase) scripts.calls.items calls w inv.calls
          ((rw (c.deref.ensures.value, c.in_ok-lines.ensures.lines) at c.in_ok-own_calls.ensures.calls) ∙ ap (λ (k : ℕ → Option Name). calls_from k [] (own_lines w phase)) known_are));
      counts = (omega (arith, c.in_ok-push-2.ensures.len, inv.counts.0), omega (arith, c.in_ok-push.ensures.len, inv.counts.1));
      short = rw c.in_ok-push.ensures.items (All-push (λ c. vec_len c < 2 ^ 32) scripts.calls.items calls inv.short
          (omega (arith, c.in_ok-own_calls.ensures.len, c.deref.ensures.len, c.in_ok-lines.ensures.few, c.requires)));
    }

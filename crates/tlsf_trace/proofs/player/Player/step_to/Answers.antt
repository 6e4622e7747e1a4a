use Rattle.tlsf_trace.proofs.Common.{◌≡◌, ◌-◌, ◌++◌, List, length, take, drop, min, sym, ap, ◌∙◌, arith, take_at, Entry, world_of, Replayed, events_by, events_of, moment_at}
use Rattle.tlsf_calls.specs.declared.event.Event.{Event}
use Rattle.tlsf_trace.proofs.Onward.{ran_to, run_to}
use Rattle.tlsf_trace.proofs.player.Player.step_to.Goals as goal

pub returns-clause-plays : goal.returns-clause-plays
returns-clause-plays g c = λ from trace is stands.
    let sli = g.row.SLI in
    let old = c.args.self.now in
    let vs = c.replay_behind.new.workers in
    let len : length vs ≡ old.workers.len = omega arith in
    let back = take_at vs (drop (length vs) old.workers.items) old.workers.len len in
    let end = c.min-end.result in
    let first = c.min-first.result in
    let all = ap (λ (l : List Event). length l) is.events in
    let part : c.deref.result.now ≡ take (end - first) (drop first (events_of trace)) =
    c.deref.ensures.value ∙ (rw (c.clear.ensures.items, is.events) at c.in_ok-add_part.ensures) in
    let end_is : end ≡ min (events_by c.args.line trace) (length (events_of trace)) = rw (c.events_by.ensures trace is, c.len.ensures, all) at c.min-end.ensures in
    let run = run_to from c.args.line trace (world_of old.workers.items) old.made.items old.ran end first c.deref.result.now
    stands.world stands.made stands.ran end_is c.min-first.ensures part in
    record {
      stands = record {
        world = ap world_of back ∙ ((rw c.deref_mut.ensures.value at c.in-Ok.ensures.world) ∙ sym (ap (λ (r : Replayed sli). r.world) run));
        made = (rw c.deref_mut.ensures.value at c.in-Ok.ensures.made) ∙ sym (ap (λ (r : Replayed sli). r.made) run);
        ran = c.max-self.ensures ∙ ran_to from c.args.line trace old.ran end stands.ran end_is;
      };
      told = ap (λ (r : Replayed sli). r.entries) run ∙ ap (λ (l : List Entry). (moment_at sli from trace).entries ++ l) (sym (rw c.deref_mut.ensures.value at c.in-Ok.ensures.entries));
    }

pub returns-in_default-clause-stays : goal.returns-in_default-clause-stays
returns-in_default-clause-stays g c = λ from trace stands.
    let old = c.args.self.now in
    let vs = c.replay_behind.new.workers in
    let len : length vs ≡ old.workers.len = omega arith in
    let back = take_at vs (drop (length vs) old.workers.items) old.workers.len len in
    record {
      world = ap world_of back ∙ ((rw c.deref_mut.ensures.value at c.in_default.ensures.no_memory.0) ∙ stands.world);
      made = c.in_default.ensures.no_memory.1 ∙ stands.made;
      ran = stands.ran;
    }

use Rattle.tlsf_lines.proofs.Common.{add-one, append_assoc, ◌≡◌, length, map, string_bytes, ap, ◌∙◌, arith, own_lines, Line}
use Rattle.std.specs.declared.vec.Vec.{Vec}
use Rattle.std.specs.declared.alloc.Global.{Global}
use Rattle.tlsf_calls.specs.declared.entry.Entry.{Entry}
use Rattle.tlsf_calls.specs.Entries.{record_of}
use Rattle.tlsf_lines.specs.Records.{record_text, records_text}
use Rattle.tlsf_lines.proofs.WorkerByWorker.{items_at, items_of}
use Rattle.tlsf_lines.proofs.records.write_phase.Goals as goal

pub loop-worker-preserved : goal.loop-worker-preserved
loop-worker-preserved c =
    let inv = c.loop-worker.invariant in
    let w = c.loop-worker.worker in
    let lines = c.args.lines.now in
    let records = c.args.records.now in
    let told = map (λ r. r.items) records in
    let at_record : c.index-records-worker.result.items ≡ record_of told w
    = ap (λ (r : Vec Entry Global). r.items) c.index-records-worker.is ∙ items_of records w c.index-records-worker.result (omega (arith, c.requires, c.loop-worker-test.true)) in
    record {
      text = λ phase all.
          let at_lines : c.index-lines-worker.result.items ≡ own_lines w phase
          = ap (λ (l : Vec Line Global). l.items) c.index-lines-worker.is ∙ items_at (λ w. own_lines w phase) lines (length lines) w c.index-lines-worker.result all c.loop-worker-test.true c.loop-worker-test.true in
          rw add-one
          (rw (c.deref.ensures.value, c.deref-in-loop-worker.ensures.value, at_record, at_lines, inv.text phase all) at c.in_ok-write_record.ensures.text
          ∙ append_assoc (string_bytes c.args.text.now) (records_text phase told w) (record_text phase told w));
      known = λ phase all.
          let at_lines : c.index-lines-worker.result.items ≡ own_lines w phase
          = ap (λ (l : Vec Line Global). l.items) c.index-lines-worker.is ∙ items_at (λ w. own_lines w phase) lines (length lines) w c.index-lines-worker.result all c.loop-worker-test.true c.loop-worker-test.true in
          rw add-one
          (rw (c.deref.ensures.value, c.deref-in-loop-worker.ensures.value, at_record, at_lines, inv.known phase all) at c.in_ok-write_record.ensures.known);
    }

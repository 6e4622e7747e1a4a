use Rattle.tlsf_crew.proofs.Common.{◌≡◌, subst, sym, bytes_of, IsHeapReply, own_writing, own_reading, own_resizing, target_name, heap_of}
use Rattle.tlsf_crew.proofs.lemmas.model.HeapReply.{read_keeps, resize_keeps, write_keeps}
use Rattle.tlsf_crew.proofs.lemmas.scripts.OwnTold.{allocate_call, read_call, resize_call, write_call}
use Rattle.tlsf_crew.proofs.scripts.executor.reply_to.Goals as goal

pub returns-in-Allocate-clause-stepped : goal.returns-in-Allocate-clause-stepped
returns-in-Allocate-clause-stepped g c = λ n made known k.
    let e = c.reply_to_own_allocate.ensures in
    rw c.in-Allocate.is
    (c.laws.ensures.quiet g.row.SLI n _ _ c.args.journal.now.limits _ _ _ _ k e.yard
    (allocate_call n c.args.worker.now c.reply_to_own_allocate.new.worker c.in-Allocate.len made c.args.journal.now.entries.items c.reply_to_own_allocate.result e.own.same e.own.replied))

pub returns-in-Write-clause-stepped : goal.returns-in-Write-clause-stepped
returns-in-Write-clause-stepped g c = λ n made known k.
    let e = c.reply_to_own_write.ensures in
    let meant = subst (λ x. target_name made x ≡ c.args.name) c.in-Write.is known in
    let kept = write_keeps _ _ c.args.name c.in-Write.at (bytes_of c.in-Write.bytes) e.replied.left in
    rw c.in-Write.is
    (c.laws.ensures.quiet g.row.SLI n _ _ c.args.journal.now.limits _ _ _ _ k (c.heap_keeps.ensures g.row.SLI _ _ e.same kept)
    (write_call n c.args.worker.now c.reply_to_own_write.new.worker c.in-Write.target c.in-Write.at c.in-Write.bytes made c.args.journal.now.entries.items c.reply_to_own_write.result e.same
    (subst (λ o. IsHeapReply c.reply_to_own_write.result (heap_of c.reply_to_own_write.new.worker) (own_writing (heap_of c.args.worker.now) o c.in-Write.at (bytes_of c.in-Write.bytes))) (sym meant) e.replied)))

pub returns-in-Read-clause-stepped : goal.returns-in-Read-clause-stepped
returns-in-Read-clause-stepped g c = λ n made known k.
    let e = c.reply_to_own_read.ensures in
    let meant = subst (λ x. target_name made x ≡ c.args.name) c.in-Read.is known in
    let kept = read_keeps _ _ c.args.name c.in-Read.at c.in-Read.n e.replied.left in
    rw c.in-Read.is
    (c.laws.ensures.quiet g.row.SLI n _ _ c.args.journal.now.limits _ _ _ _ k (c.heap_keeps.ensures g.row.SLI _ _ e.same kept)
    (read_call n c.args.worker.now c.reply_to_own_read.new.worker c.in-Read.target c.in-Read.at c.in-Read.n made c.args.journal.now.entries.items c.reply_to_own_read.result e.same
    (subst (λ o. IsHeapReply c.reply_to_own_read.result (heap_of c.reply_to_own_read.new.worker) (own_reading (heap_of c.args.worker.now) o c.in-Read.at c.in-Read.n)) (sym meant) e.replied)))

pub returns-in-Resize-clause-stepped : goal.returns-in-Resize-clause-stepped
returns-in-Resize-clause-stepped g c = λ n made known k.
    let e = c.reply_to_own_resize.ensures in
    let meant = subst (λ x. target_name made x ≡ c.args.name) c.in-Resize.is known in
    let kept = resize_keeps _ _ c.args.name c.in-Resize.len e.replied.left in
    rw c.in-Resize.is
    (c.laws.ensures.quiet g.row.SLI n _ _ c.args.journal.now.limits _ _ _ _ k (c.heap_keeps.ensures g.row.SLI _ _ e.same kept)
    (resize_call n c.args.worker.now c.reply_to_own_resize.new.worker c.in-Resize.target c.in-Resize.len made c.args.journal.now.entries.items c.reply_to_own_resize.result e.same
    (subst (λ o. IsHeapReply c.reply_to_own_resize.result (heap_of c.reply_to_own_resize.new.worker) (own_resizing (heap_of c.args.worker.now) o c.in-Resize.len)) (sym meant) e.replied)))

pub returns-in-Release-clause-stepped : goal.returns-in-Release-clause-stepped
returns-in-Release-clause-stepped g c = λ n made known k.
    rw c.in-Release.is (c.reply_to_release.ensures n c.args.journal.now.limits c.in-Release.target made c.args.journal.now.entries.items (subst (λ x. target_name made x ≡ c.args.name) c.in-Release.is known) k)

pub returns-in-Take-clause-stepped : goal.returns-in-Take-clause-stepped
returns-in-Take-clause-stepped g c = λ n made known k. rw (c.in-Take.is, c.reply_to_take.ensures.entries) (c.reply_to_take.ensures.stepped n made k)

pub returns-in-Drain-clause-stepped : goal.returns-in-Drain-clause-stepped
returns-in-Drain-clause-stepped g c = λ n made known k.
    rw c.in-Drain.is
    (c.laws.ensures.drained g.row.SLI n c.args.worker.now c.drain_each.new.worker c.args.journal.now c.drain_each.new.notes c.in-Drain.most made c.drain_each.result k c.drain_each.ensures.drained)

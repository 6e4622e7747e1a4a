use Rattle.std.proofs.Common.{refl}
use Rattle.tlsf_command.proofs.commands.act.Goals as goal

pub returns-in-Trace : goal.returns-in-Trace
returns-in-Trace g c = rw c.in-Trace.is c.run_trace.ensures

pub returns-in-File : goal.returns-in-File
returns-in-File g c =
    rw c.in-File.is (record { left = refl; written = refl; status_is = c.tell.ensures.status; reported = rw c.deref.ensures at c.tell.ensures.line })

pub returns-in-Classes : goal.returns-in-Classes
returns-in-Classes g c = rw c.in-Classes.is (c.run_classes.ensures (g.R.Read.remaining c.args.reader.now))

pub returns-in-At : goal.returns-in-At
returns-in-At g c = rw c.in-At.is c.run_at.ensures

pub returns-in-Heaps : goal.returns-in-Heaps
returns-in-Heaps g c = rw c.in-Heaps.is c.run_merged.ensures

pub returns-in-Size : goal.returns-in-Size
returns-in-Size g c = rw c.in-Size.is (c.run_size.ensures (g.R.Read.remaining c.args.reader.now))

pub returns-in-Excluded : goal.returns-in-Excluded
returns-in-Excluded g c =
    rw c.in-Excluded.is
    (record { left = refl; written = refl; status_is = c.tell-in-Excluded.ensures.status; reported = rw c.line.ensures at c.tell-in-Excluded.ensures.line })

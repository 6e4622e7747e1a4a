use Rattle.std.proofs.Common.{refl}
use Rattle.tlsf_command.proofs.size_run.run_size.Goals as goal

pub returns-in-Table : goal.returns-in-Table
returns-in-Table g c = λ left. rw c.in-Table.is (rw c.deref.ensures.value at c.show_kinds.ensures left)

pub returns-in-FineTable : goal.returns-in-FineTable
returns-in-FineTable g c = λ left. rw c.in-FineTable.is (rw c.deref-in-FineTable.ensures.value at c.show_kinds-in-FineTable.ensures left)

pub returns-in-Split : goal.returns-in-Split
returns-in-Split g c = λ left. rw c.in-Split.is (rw c.deref-in-Split.ensures.value at c.show_split.ensures left)

pub returns-in-FineSplit : goal.returns-in-FineSplit
returns-in-FineSplit g c = λ left. rw c.in-FineSplit.is (rw c.deref-in-FineSplit.ensures.value at c.show_split-in-FineSplit.ensures left)

pub returns-in-Unpaired : goal.returns-in-Unpaired
returns-in-Unpaired g c = λ left.
    rw c.in-Unpaired.is (record { left = refl; written = refl; status_is = refl; reported = c.write_unpaired_line.ensures })

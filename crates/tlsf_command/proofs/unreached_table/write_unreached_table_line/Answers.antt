use Rattle.tlsf_command.proofs.Common.{Appends-nil, IsFiner, IsSplitOf}
use Rattle.tlsf_command.proofs.SizeTables.{finer_of, split_told}
use Rattle.tlsf_command.proofs.unreached_table.write_unreached_table_line.Goals as goal

pub returns-in-Ok : goal.returns-in-Ok
returns-in-Ok g c =
    let written = rw (c.as_bytes.ensures.value, c.deref.ensures.0, c.in-Ok.ensures) at c.write_out.ensures.front in
    let split : IsSplitOf g.row.SLI c.args.kinds.now c.split_of-split.result = split_told g.row.SLI c.args.kinds.now c.split_of-split.result c.split_of-split.ensures.some c.split_of-split.ensures.none in
    let finer : IsFiner c.args.kinds.now c.words_for-finer.result = finer_of c.args.kinds.now c.words_for-finer.result c.words_for-finer.ensures.some c.words_for-finer.ensures.none in
    let first = c.reached_kinds-reached.ensures.first c.kind_at-next.result c.kind_at-next.ensures in
    (c.reached_kinds-reached.result, c.kind_at-next.result, c.split_of-split.result, c.words_for-finer.result, first, split, finer, written)

pub returns-in-Err : goal.returns-in-Err
returns-in-Err g c =
    let split : IsSplitOf g.row.SLI c.args.kinds.now c.split_of-split.result = split_told g.row.SLI c.args.kinds.now c.split_of-split.result c.split_of-split.ensures.some c.split_of-split.ensures.none in
    let finer : IsFiner c.args.kinds.now c.words_for-finer.result = finer_of c.args.kinds.now c.words_for-finer.result c.words_for-finer.ensures.some c.words_for-finer.ensures.none in
    let first = c.reached_kinds-reached.ensures.first c.kind_at-next.result c.kind_at-next.ensures in
    (c.reached_kinds-reached.result, c.kind_at-next.result, c.split_of-split.result, c.words_for-finer.result, first, split, finer, (0, Appends-nil (g.E.Write.contents c.args.errors.now)))

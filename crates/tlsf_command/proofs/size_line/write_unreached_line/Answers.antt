use Rattle.tlsf_command.proofs.Common.{[], ◌∷◌, Appends-nil, IsFiner, IsSplitOf}
use Rattle.tlsf_command.proofs.SizeTables.{finer_of, split_told}
use Rattle.tlsf_command.proofs.size_line.write_unreached_line.Goals as goal

pub returns-in-Ok : goal.returns-in-Ok
returns-in-Ok g c =
    let written = rw (c.as_bytes.ensures.value, c.deref.ensures.0, c.in-Ok.ensures) at c.write_out.ensures.front in
    let split : IsSplitOf g.row.SLI (c.args.kind ∷ []) c.split_of-split.result = split_told g.row.SLI (c.args.kind ∷ []) c.split_of-split.result c.split_of-split.ensures.some c.split_of-split.ensures.none in
    let finer : IsFiner (c.args.kind ∷ []) c.words_for-finer.result = finer_of (c.args.kind ∷ []) c.words_for-finer.result c.words_for-finer.ensures.some c.words_for-finer.ensures.none in
    (c.blocks_of-blocks.result, c.blocks_of-blocks.ensures, (c.bytes_for-bytes.result, c.bytes_for-bytes.ensures, (c.split_of-split.result, split, (c.words_for-finer.result, finer, written))))

pub returns-in-Err : goal.returns-in-Err
returns-in-Err g c =
    let split : IsSplitOf g.row.SLI (c.args.kind ∷ []) c.split_of-split.result = split_told g.row.SLI (c.args.kind ∷ []) c.split_of-split.result c.split_of-split.ensures.some c.split_of-split.ensures.none in
    let finer : IsFiner (c.args.kind ∷ []) c.words_for-finer.result = finer_of (c.args.kind ∷ []) c.words_for-finer.result c.words_for-finer.ensures.some c.words_for-finer.ensures.none in
    (c.blocks_of-blocks.result, c.blocks_of-blocks.ensures, (c.bytes_for-bytes.result, c.bytes_for-bytes.ensures, (c.split_of-split.result, split, (c.words_for-finer.result, finer, (0, Appends-nil (g.E.Write.contents c.args.errors.now))))))

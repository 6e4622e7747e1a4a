use Rattle.std.proofs.Common.{◌*◌, rules, ap, ◌∙◌}
use Rattle.tlsf_heap.specs.WordsInUse.{words_at}
use Rattle.tlsf_offsets.specs.Offsets.{Offsets, IsOffsets}
use Rattle.tlsf_offsets.proofs.Spans.{held_at}
use Rattle.tlsf_offsets.proofs.offset_arena.OffsetArena.span_of.Goals as goal

pub returns-clause-held : goal.returns-clause-held
returns-clause-held g c =
    let o : Offsets = c.args.self.now in
    let is : IsOffsets g.row.SLI o = search rules in
    held_at g.row.SLI o c.args.name _ is c.requires (search rules) (c.bytes.ensures ∙ ap (λ (x : Offsets). x.unit * c.args.name.at) c.self.view_is)
    (c.bytes-2.ensures ∙ ap (λ (x : Offsets). x.unit * c.words_of-units.result) c.self.view_is ∙ ap (λ w. o.unit * w) (c.words_of-units.ensures.words ∙ ap (λ (x : Offsets). words_at x.heap c.args.name.at) c.self.view_is))

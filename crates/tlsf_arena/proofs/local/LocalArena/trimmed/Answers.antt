use Rattle.std.proofs.Common.{sym, ap, ◌∙◌}
use Rattle.tlsf_arena.proofs.Buffers.{same_buffer}
use Rattle.tlsf_arena.proofs.local.LocalArena.trimmed.Goals as goal

pub returns-in-Err-clause-buffer : goal.returns-in-Err-clause-buffer
returns-in-Err-clause-buffer g c =
    let again = c.extended.ensures in
    let cut = c.trimmed-buffer.ensures.stays in
    let seen = c.with_ptr-ptr.ensures.same.1 in
    same_buffer g.row.T c.extended.result c.args.buffer (again.0 ∙ cut.0 ∙ ap (λ b. b.ptr) seen)
    (again.1 ∙ cut.1 ∙ ap (λ b. b.unit) seen, again.2 ∙ cut.2 ∙ ap (λ b. b.region) seen, again.3 ∙ cut.3 ∙ ap (λ b. b.len) seen, again.4 ∙ sym c.requires.buffer.4, again.5 ∙ cut.5 ∙ ap (λ b. b.items) seen)

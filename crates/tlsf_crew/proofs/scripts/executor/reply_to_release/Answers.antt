use Rattle.tlsf_crew.proofs.Common.{◌∙◌, refl, Release, Unmade, Refused, at_stage}
use Rattle.tlsf_crew.proofs.lemmas.worker.OwnHeaps.{same_heap_keeps}
use Rattle.tlsf_crew.proofs.lemmas.scripts.OwnTold.{release_by, unmade_call}
use Rattle.tlsf_crew.proofs.scripts.executor.reply_to_release.Goals as goal

pub returns-in_default : goal.returns-in_default
returns-in_default g c = λ n limits target made entries known k.
    let a = c.args.worker.now in
    c.laws.ensures.quiet g.row.SLI n a a limits (Release target) made entries (Refused Unmade) k (c.heap_keeps.ensures g.row.SLI a a (refl, refl) (same_heap_keeps _ _ refl))
    (unmade_call n a target made entries (known ∙ c.in_default.is))

pub returns : goal.returns
returns g c = λ n limits target made entries known k.
    let a = c.args.worker.now in
    let v = c.release.new.worker in
    let meant = known ∙ c.in-Some.is in
    rw c.as_reply.ensures
    (release_by n g.P.Ports.reaches g.P.Exchange.puts a v target c.in-Some.name made entries c.release.result (λ u reply. g.P.Scripted.steps g.row.SLI n (at_stage a limits entries) (Release target) made (at_stage u limits entries) reply) meant
    c.release.ensures.releases (c.laws.ensures.reached g.row.SLI n a c.in-Some.name.heap k)
    (λ u reply kept q. c.laws.ensures.quiet g.row.SLI n a u limits (Release target) made entries reply k (c.heap_keeps.ensures g.row.SLI a u q.same kept) q)
    (λ ne has there. c.laws.ensures.posted g.row.SLI n a v limits target c.in-Some.name made entries c.release.result k meant ne has there))

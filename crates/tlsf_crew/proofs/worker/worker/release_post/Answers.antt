use Rattle.std.proofs.Common.{refl, ap, arith, Some}
use Rattle.tlsf_crew.proofs.worker.worker.release_post.Goals as goal

pub returns-clause-released : goal.returns-clause-released
returns-clause-released g c =
    let e = c.release-answer.ensures.releases in
    (ap (λ x. Some (record { from = c.args.post.from; name = c.args.post.name; answer = x })) e.answer_is, rw (← e.answer_is) e, (refl, refl))

pub returns-clause-within : goal.returns-clause-within
returns-clause-within g c =
    let e = c.release-answer.ensures.releases in
    record { touches = omega (arith, e.touches); touches_rise = e.rise; stays = (c.release-answer.ensures.frame.keeps.stays, refl) }

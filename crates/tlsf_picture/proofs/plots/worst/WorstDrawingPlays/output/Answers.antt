use Rattle.tlsf_picture.proofs.Common.{IfOk-weaker}
use Rattle.tlsf_picture.proofs.plots.worst.WorstDrawingPlays.output.Goals as goal

pub returns : goal.returns
returns g c = λ trace level is.
    IfOk-weaker c.picture_behind.result _ _ (λ text drawn. record { look = c.in_ok-look.look; worst = c.in_ok-look.ensures trace level is; drawn = drawn }) (c.picture_behind.ensures trace level is)

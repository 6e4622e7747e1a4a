use Rattle.std.proofs.Common.{arith, refl}
use Rattle.tlsf_crew.proofs.jobs.preparation.make_job.Goals as goal

pub returns : goal.returns
returns g c = (
  refl,
  refl,
  record {
    ready = record {
      yard = c.requires.yard;
      fresh = (c.in_ok-made.ensures.items, c.in_ok-entries.ensures.items);
      short = c.requires.short;
      names = omega (arith, c.in_ok-made.ensures.capacity, c.len.ensures);
      room = omega (arith, c.in_ok-entries.ensures.exact, c.room_with_limits.ensures, c.len.ensures);
    };
    limits = c.limits-limits.ensures.limited g.row.SLI;
    room = omega (arith, c.in_ok-entries.ensures.exact, c.room_with_limits.ensures, c.len.ensures);
  },
)

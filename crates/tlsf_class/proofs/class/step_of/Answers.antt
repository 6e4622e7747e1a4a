use Rattle.tlsf_class.proofs.Common.{◌≡◌, ℕ, ◌*◌, ◌%◌, ◌^◌, arith, le_or_r, one_shl, IsLevel, level_classes}
use Rattle.tlsf_class.proofs.TwoLevels.{bounds_of}
use Rattle.tlsf_class.proofs.ClassByBits.{IsStep-top}
use Rattle.tlsf_class.proofs.class.step_of.Goals as goal

-- the number of classes of a first level, as a shift gives it
shifted : (sli : ℕ) → IsLevel sli → 1 * 2 ^ sli % 2 ^ 32 ≡ level_classes sli
shifted sli level = one_shl sli 32 (omega (arith, level.most))

pub ilog2-requires : goal.ilog2-requires
ilog2-requires g c = rw (shifted g.row.SLI c.requires.level) (omega (arith, le_or_r c.args.words (level_classes g.row.SLI), (bounds_of g.row.SLI c.requires.level).least))

pub overflow_sub-result : goal.overflow_sub-result
overflow_sub-result g c =
    (IsStep-top g.row.SLI c.requires.level c.args.words c.ilog2.result c.requires.most
    (rw (shifted g.row.SLI c.requires.level) at c.ilog2.ensures.power_le) (rw (shifted g.row.SLI c.requires.level) at c.ilog2.ensures.next_power_gt)).0

pub returns : goal.returns
returns g c =
    (IsStep-top g.row.SLI c.requires.level c.args.words c.ilog2.result c.requires.most
    (rw (shifted g.row.SLI c.requires.level) at c.ilog2.ensures.power_le) (rw (shifted g.row.SLI c.requires.level) at c.ilog2.ensures.next_power_gt)).1

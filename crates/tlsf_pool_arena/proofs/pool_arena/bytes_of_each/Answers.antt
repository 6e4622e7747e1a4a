use Rattle.tlsf_pool_arena.proofs.Common.{◌≡◌, ℕ, ◌*◌, ◌<◌, ◌≤◌, ◌^◌, sym, ap, ◌∙◌, arith, sure, IsUnit}
use Rattle.std.specs.Option.{option_map_or}
use Rattle.tlsf_class.specs.Classes.{low, most_words}
use Rattle.tlsf_class.proofs.TwoLevels.{most_words_any}
use Rattle.tlsf_pool.proofs.lemmas.sizes.Sizes.{sure_most}
use Rattle.tlsf_arena.proofs.UnitCases.{by_unit}
use Rattle.tlsf_pool_arena.proofs.pool_arena.bytes_of_each.Goals as goal

few_bytes : (u n : ℕ) → IsUnit u → n ≤ 2 ^ 24 → u * n < 2 ^ 32
few_bytes u n unit few = by_unit (λ u. u * n < 2 ^ 32) (omega (arith, few)) (omega (arith, few)) (omega (arith, few)) u unit

pub overflow_mul-result : goal.overflow_mul-result
overflow_mul-result g c =
    let units : ℕ = c.max-units.result in
    let size : c.low.result ≡ sure g.row.SLI units = c.low.ensures ∙ sym (ap (λ o. option_map_or (low g.row.SLI) o 0) c.search_of.ensures) in
    let most : sure g.row.SLI units ≤ most_words g.row.SLI = sure_most g.row.SLI c.requires.kind.0 units (omega (arith, c.max-units.ensures, c.requires.class)) in
    omega (arith, few_bytes g.row.UNIT c.low.result c.requires.kind.1 (omega (arith, size, most, most_words_any g.row.SLI)))

use Rattle.std.proofs.Common.{◌≡◌, ℕ, ◌+◌, ◌-◌, ◌*◌, ◌/◌, true, false, rules, sym, subst}
use denote.RawPtr.{count_of}
use Rattle.tlsf_arena.proofs.Searching.{Halves, higher, lower, not_before}
use Rattle.tlsf_arena.proofs.search.sought.Goals as goal
use Rattle.tlsf_arena.proofs.search.sought.Goals.{then-not-lies_before, else-not-lies_before}

pub halves-preserved : goal.halves-preserved
halves-preserved c =
    let b = count_of c.args.base in
    let p = count_of c.args.ptr in
    let g = c.grains_before.result in
    let start = c.args.compared.now.count in
    let next = c.lies_before.new.compared.count in
    let left : ℕ → Type 0 = λ at. Halves start next c.args.units c.args.unit b p at (c.halves.count - c.halves.count / 2) in
    elim c.if-not-lies_before.branch [
      | then-not-lies_before w ↦ let off : c.lies_before.result ≡ false = first_of (cc, search rules) in
          subst left (sym w.at-is)
          (higher start c.halves.compared.count next c.args.units c.args.unit b p c.halves.at c.halves.count g c.halves.invariant c.halves-test.true c.lies_before.ensures.counted c.requires.units.unit c.grains_before.ensures.bytes
          (not_before c.lies_before.result p (b + 16 * g) c.lies_before.ensures.order off))
      | else-not-lies_before w ↦ let on : c.lies_before.result ≡ true = first_of (cc, search rules) in
          subst left (sym w.at-is)
          (lower start c.halves.compared.count next c.args.units c.args.unit b p c.halves.at c.halves.count g c.halves.invariant c.halves-test.true c.lies_before.ensures.counted c.requires.units.unit c.grains_before.ensures.bytes (c.lies_before.ensures.order.0 on))
    ]

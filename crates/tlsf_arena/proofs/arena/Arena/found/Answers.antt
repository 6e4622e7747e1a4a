use Rattle.tlsf_arena.proofs.Common.{◌≡◌, ℕ, ◌+◌, ◌*◌, Option, Some, None, sym, ap, subst, ◌∙◌, arith, HeapState, Name, Holds, name_of, units_of}
use Rattle.tlsf_arena.proofs.Results.{some_is}
use Rattle.tlsf_arena.proofs.arena.Arena.found.Goals as goal

pub unreachable-requires : goal.unreachable-requires
unreachable-requires g c =
    let t = c.args.right.loan in
    let same = c.known-right.ensures.looks.same in
    let its = subst (λ (h : HeapState). Holds h (name_of t) (units_of t)) (sym same.0) c.known-right.ensures.live in
    let found = (c.live_at.ensures.held (name_of t) (units_of t) (c.requires.place ∙ ap (λ r. r.start + g.row.UNIT * (name_of t).at) (sym same.1.0)) its).0 in
    let no : ◌≡◌ {A = Option (Name × ℕ)} None (Some (name_of t, units_of t)) = sym c.in_default.is ∙ found in
    cc

pub returns-clause-name : goal.returns-clause-name
returns-clause-name g c =
    let t = c.args.right.loan in
    let same = c.known-right.ensures.looks.same in
    let its = subst (λ (h : HeapState). Holds h (name_of t) (units_of t)) (sym same.0) c.known-right.ensures.live in
    let found = (c.live_at.ensures.held (name_of t) (units_of t) (c.requires.place ∙ ap (λ r. r.start + g.row.UNIT * (name_of t).at) (sym same.1.0)) its).0 in
    ap (λ p. p.0) (some_is (c.in-Some.name, _) (name_of t, units_of t) (sym c.in-Some.is ∙ found))

pub returns-clause-seeks : goal.returns-clause-seeks
returns-clause-seeks g c =
    let t = c.args.right.loan in
    let looks = c.known-right.ensures.looks in
    let its = subst (λ (h : HeapState). Holds h (name_of t) (units_of t)) (sym looks.same.0) c.known-right.ensures.live in
    let e = c.live_at.ensures in
    let by = (e.held (name_of t) (units_of t) (c.requires.place ∙ ap (λ r. r.start + g.row.UNIT * (name_of t).at) (sym looks.same.1.0)) its).1 in
    record {
      touches = omega (arith, looks.touches, e.touches);
      touches_rise = omega (arith, looks.touches_rise, e.touches_rise);
      compared = omega (arith, looks.compared, e.compared);
      guessed = (λ is. omega (arith, by.0 is, looks.compared), λ is. omega (arith, by.1 is, looks.compared));
    }

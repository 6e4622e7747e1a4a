use Rattle.tlsf_heap.proofs.Common.{◌≡◌, ℕ, ◌+◌, ◌/◌, List, take, drop, subst, arith, ap, sym, FnOnceReturnsAt, FnOnceTakesAt, RegionState}
use Rattle.tlsf_heap.proofs.lemmas.words.Says.{shows_state}
use Rattle.tlsf_heap.proofs.lemmas.words.Bytes.{payload_inside}
use Rattle.tlsf_heap.proofs.region.Region.inspect.Goals as goal

pub inspect-requires-clause-within : goal.inspect-requires-clause-within
inspect-requires-clause-within g c =
    omega (arith, payload_inside (shows_state g.row.SLI c.self.invariant c.self.view_is) c.requires.live.1, c.requires.live.2, c.div_ceil.ensures)

pub inspect-requires-clause-calls : goal.inspect-requires-clause-calls
inspect-requires-clause-calls g c =
    let many : (c.args.len + 7) / 8 ≡ c.div_ceil.result = omega (arith, c.div_ceil.ensures) in
    let was : c.args.self.now.stored.words ≡ c.self.inside.words.words = sym (ap (λ (r : RegionState). r.stored.words) c.self.view_is) in
    subst (λ (n : ℕ). FnOnceTakesAt g.F.FnOnce c.args.f (take n (drop (c.args.at + 3) c.self.inside.words.words))) many
    (subst (λ (ws : List ℕ). FnOnceTakesAt g.F.FnOnce c.args.f (take ((c.args.len + 7) / 8) (drop (c.args.at + 3) ws))) was c.requires.calls)

pub returns : goal.returns
returns g c =
    let many : c.div_ceil.result ≡ (c.args.len + 7) / 8 = omega (arith, c.div_ceil.ensures) in
    let was : c.self.inside.words.words ≡ c.args.self.now.stored.words = ap (λ (r : RegionState). r.stored.words) c.self.view_is in
    subst (λ (n : ℕ). FnOnceReturnsAt g.F.FnOnce c.args.f (take n (drop (c.args.at + 3) c.args.self.now.stored.words)) c.inspect.result) many
    (subst (λ (ws : List ℕ). FnOnceReturnsAt g.F.FnOnce c.args.f (take c.div_ceil.result (drop (c.args.at + 3) ws)) c.inspect.result) was c.inspect.ensures)

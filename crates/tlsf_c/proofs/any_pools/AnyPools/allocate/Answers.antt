use Rattle.tlsf_c.proofs.Common.{ℕ, Result, ap, sym, ◌∙◌, Name, AllocatesInPools, LevelPools, pools_shown, PoolsOfLevel, Inside}
use Rattle.tlsf_pool.specs.declared.pools.pool_refusal.PoolRefusal.{PoolRefusal}
use Rattle.tlsf_c.proofs.Carried.{carried}
use Rattle.tlsf_c.proofs.any_pools.AnyPools.allocate.Goals as goal
use Rattle.tlsf_c.proofs.any_pools.AnyPools.allocate.Goals.{in-Four, in-Five}

-- what is answered and left, of pools
abbrev Done : ℕ → Result Name PoolRefusal → LevelPools → LevelPools → Type 0
Done len r left p = AllocatesInPools p.level p.pools left.pools len r

pub returns-clause-allocates : goal.returns-clause-allocates
returns-clause-allocates c = elim c.match-self.branch [
  | in-Four w ↦ let e = w.allocate.ensures in carried (Done c.args.len) _ _ _ _ _ _ w.result-is (ap (λ (i : Inside). pools_shown i.of_level) w.self-inside-is)
      (sym (ap (λ (o : PoolsOfLevel). pools_shown o) w.in-Four.is) ∙ c.self.view_is) (record { ok = e.ok; too_long = e.too_long; full = e.full; allocates = e.allocates.here; others = e.allocates.others; none = e.none; row = e.row; held = e.held; kinds = e.allocates.kinds; pools = e.allocates.pools })
  | in-Five w ↦ let e = w.allocate-in-Five.ensures in carried (Done c.args.len) _ _ _ _ _ _ w.result-is (ap (λ (i : Inside). pools_shown i.of_level) w.self-inside-is)
      (sym (ap (λ (o : PoolsOfLevel). pools_shown o) w.in-Five.is) ∙ c.self.view_is) (record { ok = e.ok; too_long = e.too_long; full = e.full; allocates = e.allocates.here; others = e.allocates.others; none = e.none; row = e.row; held = e.held; kinds = e.allocates.kinds; pools = e.allocates.pools })
]

-- A pool: a heap that has bounds on the blocks which a program holds, on their number and on the bytes of each. All have the same
-- words.
use Rattle.std.specs.Prelude.{◌≡◌, ◌≢◌, ℕ, ◌-◌, ◌<◌, ◌≤◌, ◌↔◌, Result, Ok, Err, IfOk, IsOk, IsErrOf, if◌then◌else◌, nat_lt, nat_le}
use Rattle.tlsf_class.specs.Classes.{IsLevel, most_words}
use Rattle.tlsf_heap.specs.Blocks.{HeapState, want}
use Rattle.tlsf_heap.specs.Calls.{Outcome, allocated_words, last_tick}
use Rattle.tlsf_heap.specs.Given.{payload_words_given}
use Rattle.tlsf_heap.specs.Lawful.{IsLawful}
use Rattle.tlsf_heap.specs.declared.name.Name.{Name}
use Rattle.tlsf_heap.specs.declared.refusal.Refusal.{Refusal}
use Rattle.tlsf_heap.specs.declared.refusal.Refusal.TheVariants.{NoFit}
use Rattle.tlsf_heap.specs.declared.report.Report.{Report}
use Rattle.tlsf_pool.specs.declared.pools.pool_refusal.PoolRefusal.{PoolRefusal}
use Rattle.tlsf_pool.specs.declared.pools.pool_refusal.PoolRefusal.TheVariants.{TooLong, Full, Worn}
use Rattle.tlsf_pool.specs.laws.FixedSize.{HasFixedSize, fixed_words}
use Rattle.tlsf_pool.specs.laws.Room.{live_count, sure}

-- the view of the ledger of a pool. It has how many blocks may be held at once, the bytes of the longest request, and how many are
-- held
pub record Bounds : Type 0 where
  pub most : ℕ
  pub longest : ℕ
  pub held : ℕ

-- the heap has a level, is lawful and has the words of the pool. As many blocks are live as are held, and no more than may be. All
-- have the words from which every free block serves the longest request
pub record IsPool (sli : ℕ) (h : HeapState) (p : Bounds) : Type 0 where
  pub level : IsLevel sli
  pub lawful : IsLawful h
  pub words : h.words ≡ fixed_words sli p.most p.longest
  pub class : want p.longest ≤ most_words sli
  pub live : live_count h ≡ p.held
  pub few : p.held ≤ p.most
  pub fixed : HasFixedSize (sure sli (want p.longest)) h

-- the same bounds: how many blocks may be held, and how long a request may be
pub record SameBounds (old new : Bounds) : Type 0 where
  pub most : new.most ≡ old.most
  pub longest : new.longest ≡ old.longest

-- the pool's answer by the heap's: a request that is passed on is refused at the last tick alone
abbrev pub or_worn : Result Name Refusal → Result Name PoolRefusal
or_worn (Ok name) = Ok name
or_worn (Err why) = Err Worn

-- how a request is answered
abbrev pub answered_within : Bounds → ℕ → Result Name Refusal → Result Name PoolRefusal
answered_within p len answer = if nat_lt p.longest len then Err TooLong else if nat_le p.most p.held then Err Full else or_worn answer

-- a request of this many bytes: it takes the words of each block, whatever its length
abbrev pub pool_allocated : ℕ → HeapState → Bounds → ℕ → Outcome Name
pool_allocated sli h p len = allocated_words sli h (sure sli (want p.longest)) len

-- a request is given within the bounds, while the tick isn't at its last value. The refusals come in their order: there is none for
-- want of room. The block has no more words than each is to have, three of them the header's
pub record TellsBounds (sli : ℕ) (h : HeapState) (p : Bounds) (len : ℕ) (answer : Result Name PoolRefusal) : Type 0 where
  pub ok : IsOk answer ↔ ((len ≤ p.longest) × (p.held < p.most) × ¬ (h.tick ≡ last_tick))
  pub too_long : IsErrOf answer TooLong ↔ (p.longest < len)
  pub full : IsErrOf answer Full ↔ ((len ≤ p.longest) × (p.held ≡ p.most))
  pub room : len ≤ p.longest → p.held < p.most → (pool_allocated sli h p len).answer ≢ Err NoFit
  pub given : payload_words_given answer (pool_allocated sli h p len).heap ≤ sure sli (want p.longest) - 3
  pub name : IfOk answer (λ name. (pool_allocated sli h p len).answer ≡ Ok name)

-- as many blocks are live as are held. While fewer are held than may be, the grant is no less than the longest request
pub record ReportsBounds (p : Bounds) (report : Report) : Type 0 where
  pub held : report.live_blocks ≡ p.held
  pub grant : p.held < p.most → p.longest ≤ report.grant

-- The pool that begins is the last one.
use Rattle.tlsf_pool.proofs.Common.{◌≡◌, ℕ, ◌+◌, ◌-◌, ◌/◌, ◌≤◌, ◌++◌, ◌∷◌, [], List, length, get_or, set, sym, ap, ◌∙◌, subst, arith, rules, opened, IsRegion, Kind, HasWords, fixed_kinds_words, IsTable, TableState, TableRows}
use Rattle.std.proofs.lemmas.List.{get_or_push}
use Rattle.std.proofs.Math.Seq.{set-append_seam}
use Rattle.tlsf_heap.proofs.lemmas.calls.Alone.{opened_again, opened_before}
use Rattle.tlsf_pool.proofs.lemmas.pools.TableKept.{begun_table}
use Rattle.tlsf_pool.proofs.pools.opening.open_part.Goals as goal

-- what comes after all others is what was pushed
the_last : (xs now : List TableState) (pool own : TableState) (at : ℕ) → now ≡ xs ++ pool ∷ [] → at ≡ length xs → own ≡ get_or now at own → own ≡ pool
the_last xs now pool own at is last value = value ∙ ap (λ (ys : List TableState). get_or ys at own) is ∙ get_or_push xs pool own at (sym last)

replaced : (xs now : List TableState) (pool new : TableState) (at : ℕ) → now ≡ xs ++ pool ∷ [] → at ≡ length xs → set now at new ≡ xs ++ new ∷ []
replaced xs now pool new at is last = ap (λ (ys : List TableState). set ys at new) is ∙ ap (λ (k : ℕ). set (xs ++ pool ∷ []) k new) last ∙ set-append_seam xs pool [] new

-- a region has the words of the part
region_of : (sli words : ℕ) (kinds : List Kind) → HasWords sli kinds × (words ≡ fixed_kinds_words sli kinds) → IsRegion sli words
region_of sli words kinds has = (omega (arith, has.1), omega (arith, has.1, has.0.1))

pub returns-in_err-pool-clause-no_memory : goal.returns-in_err-pool-clause-no_memory
returns-in_err-pool-clause-no_memory g c =
    let region = region_of g.row.SLI c.in-Some.words c.args.kinds.now c.in-Some.ensures.some in
    search (rules, c.in_err-pool.ensures.bad_size.0, region, (c.in_err-pool.ensures.worn region).0, c.requires.fresh)

pub begin-requires : goal.begin-requires
begin-requires g c =
    let at : c.len-at.result ≡ length c.args.parts.now.items = search rules in
    let own = the_last c.args.parts.now.items c.push.new.self.items c.in_ok-pool.pool c.index_mut.result.now c.len-at.result c.in-Ok.ensures.items at c.index_mut.ensures.value in
    let e = c.in_ok-pool.ensures in
    let holds = begun_table g.row.SLI c.args.id c.args.first c.in-Some.words c.args.kinds.now c.in_ok-pool.pool.heap c.in_ok-table.table c.requires.rows.level c.in-Some.ensures.some c.requires.rows.few
    c.in_ok-table.ensures.kinds c.in_ok-table.ensures.held e.heap in (
      omega arith,
      (
        subst (λ (t : TableState). t.heap ≡ opened t.heap.id 4 (t.heap.tick - 1)) (sym own) (opened_before c.in_ok-pool.pool.heap c.args.id 4 c.args.first e.heap),
        (
          e.region,
          (
            subst (λ (t : TableState). c.in-Some.words ≤ t.extents.words.capacity) (sym own) e.words_room,
            (
              subst (λ (t : TableState). (c.in-Some.words + 63) / 64 ≤ t.extents.starts.capacity) (sym own) e.starts_room,
              subst (λ (t : TableState). IsTable g.row.SLI (opened t.heap.id c.in-Some.words (t.heap.tick - 1)) c.in_ok-table.table) (sym own) holds,
            ),
          ),
        ),
      ),
    )

pub returns-clause-new : goal.returns-clause-new
returns-clause-new g c =
    let at : c.len-at.result ≡ length c.args.parts.now.items = search rules in
    let own = the_last c.args.parts.now.items c.push.new.self.items c.in_ok-pool.pool c.index_mut.result.now c.len-at.result c.in-Ok.ensures.items at c.index_mut.ensures.value in
    record {
      pool = c.begin.new.self;
      items = replaced c.args.parts.now.items c.push.new.self.items c.in_ok-pool.pool c.begin.new.self c.len-at.result c.in-Ok.ensures.items at;
      is = record {
        heap = c.begin.ensures.heap ∙ ap (λ (t : TableState). opened t.heap.id c.in-Some.words (t.heap.tick - 1)) own
            ∙ opened_again c.in_ok-pool.pool.heap c.args.id 4 c.in-Some.words c.args.first c.in_ok-pool.ensures.heap ∙ ap (λ (n : ℕ). opened c.args.id n c.args.first) c.in-Some.ensures.some.1;
        kinds = ap (λ (t : TableRows). t.kinds) c.begin.ensures.ledger ∙ c.in_ok-table.ensures.kinds;
        held = ap (λ (t : TableRows). t.held) c.begin.ensures.ledger ∙ c.in_ok-table.ensures.held;
      };
      tabled = c.begin.ensures.is;
    }

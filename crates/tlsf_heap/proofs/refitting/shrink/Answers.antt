use Rattle.tlsf_heap.proofs.Common.{ℕ, suc, ◌<◌, List, ◌++◌, take, drop, length, sym, ap, ◌∙◌, subst, arith, ◌∷◌, [], AllByRecursion, Block, is_free, bytes_of, with_bytes, fitted, recut, Site, block_at, site_at, IsTagOf, list_in}
use Rattle.tlsf_heap.proofs.lemmas.calls.Allocate.{regions_of}
use Rattle.tlsf_heap.proofs.lemmas.words.NewBytes.{length-fitted}
use Rattle.tlsf_heap.proofs.lemmas.words.Bytes.{is_free-with_bytes, size_of-with_bytes}
use Rattle.tlsf_heap.proofs.lemmas.lists.Refit.{tag_rebytes, bytes_of-with_bytes, rebytes_around, rebytes_site, rebytes_listed, rebytes_stamps, rebytes_words, refitted_cut}
use Rattle.tlsf_heap.proofs.lemmas.words.Image.{stands_once}
use Rattle.tlsf_heap.proofs.lemmas.blocks.Around.{stands_around, block_around}
use Rattle.tlsf_heap.proofs.lemmas.words.Footprint.{kept_others}
use Rattle.tlsf_heap.proofs.lemmas.blocks.Used.{used_rebytes}
use Rattle.tlsf_words.proofs.Touching.{more_groups, groups_then}
use Rattle.tlsf_heap.proofs.refitting.shrink.Goals as goal

pub split_off-requires : goal.split_off-requires
split_off-requires g c =
    let live = c.requires.live in
    let b = block_at c.args.region.now.blocks live.0 in
    let new = fitted (bytes_of b) c.args.len in
    let a = rebytes_around g.row.SLI live.1 new (c.set_payload.ensures.change live.0 live.1).blocks in
    let bytes = ap bytes_of (block_around a) ∙ bytes_of-with_bytes b new live.2 in
    let bs = c.args.region.now.blocks in
    let set = c.set_payload.ensures.change live.0 live.1 in
    let now = c.set_payload.new.self.blocks in
    let whole = rebytes_words g.row.SLI live.1 new set.blocks in (
      omega arith,
      (
        record {
          order = record {
            level = c.requires.region.order.level;
            whole = omega (arith, whole, set.edits.words, c.requires.region.order.whole);
            sized = regions_of g.row.SLI now set.edits.shows.rooms (omega (arith, whole, c.requires.region.order.small));
            small = omega (arith, whole, c.requires.region.order.small);
            listed = rebytes_listed g.row.SLI live.1 new set.blocks (list_in c.args.region.now.lists) (list_in c.set_payload.new.self.lists) set.lists c.requires.region.order.listed;
          };
          stamped = subst (AllByRecursion (λ (s : ℕ). s < c.args.tick)) (sym (rebytes_stamps g.row.SLI live.1 new set.blocks)) c.requires.region.stamped;
        },
        (
          c.requires.least,
          (
            (live.0, stands_around a, (ap is_free (block_around a) ∙ is_free-with_bytes b new ∙ live.2, omega (arith, ap length bytes, length-fitted (bytes_of b) c.args.len, c.requires.payload))),
            (
              λ j there. let same = stands_once now c.args.at live.0 j set.edits.shows.rooms (stands_around (rebytes_around g.row.SLI live.1 new set.blocks)) there in subst (λ (k : ℕ). IsTagOf c.set_payload.new.self.words (site_at now k) c.args.own) same (subst (λ (s : Site). IsTagOf c.set_payload.new.self.words s c.args.own) (sym (rebytes_site g.row.SLI live.1 new set.blocks)) (subst (λ (n : ℕ). IsTagOf n (record { before = take live.0 bs; block = with_bytes (block_at bs live.0) new; after = drop (suc live.0) bs }) c.args.own) (sym set.edits.words) (tag_rebytes new (c.requires.own live.0 live.1)))),
              omega (arith, c.size-held.ensures.value, c.if-held-words.false),
            ),
          ),
        ),
      ),
    )

pub returns-clause-blocks : goal.returns-clause-blocks
returns-clause-blocks g c i stands =
    let b = block_at c.args.region.now.blocks i in
    let new = fitted (bytes_of b) c.args.len in
    let set = c.set_payload.ensures.change i stands in
    c.split_off.ensures.blocks i (stands_around (rebytes_around g.row.SLI stands new set.blocks))
    ∙ ap (λ (s : Site). s.before ++ recut c.args.tick c.args.words s.block s.after) (rebytes_site g.row.SLI stands new set.blocks)
    ∙ ap (λ (l : List Block). take i c.args.region.now.blocks ++ l) (sym (refitted_cut c.args.tick c.args.words c.args.len b (drop (suc i) c.args.region.now.blocks) (omega (arith, (c.requires.own i stands).size, c.size-held.ensures.value, c.if-held-words.false))))

pub returns-then-held-words-clause-listed : goal.returns-then-held-words-clause-listed
returns-then-held-words-clause-listed g c =
    let live = c.requires.live in
    let set = c.set_payload.ensures.change live.0 live.1 in
    rebytes_listed g.row.SLI live.1 (fitted (bytes_of (block_at c.args.region.now.blocks live.0)) c.args.len) set.blocks (list_in c.args.region.now.lists) (list_in c.set_payload.new.self.lists) set.lists c.requires.region.order.listed

-- other bytes change no word in use
pub returns-then-held-words-clause-used : goal.returns-then-held-words-clause-used
returns-then-held-words-clause-used g c =
    omega (arith, used_rebytes c.args.region.now.blocks c.set_payload.new.self.blocks c.requires.live.1 _ (c.set_payload.ensures.change c.requires.live.0 c.requires.live.1).blocks, c.size-held.ensures.value)

pub returns-clause-used : goal.returns-clause-used
returns-clause-used g c =
    omega (arith, used_rebytes c.args.region.now.blocks c.set_payload.new.self.blocks c.requires.live.1 _ (c.set_payload.ensures.change c.requires.live.0 c.requires.live.1).blocks, c.split_off.ensures.used)

pub returns-clause-touched : goal.returns-clause-touched
returns-clause-touched g c k o =
    let live = c.requires.live in
    let bs = c.args.region.now.blocks in
    let b = block_at bs live.0 in
    let new = with_bytes b (fitted (bytes_of b) c.args.len) in
    let last = kept_others bs c.set_payload.new.self.blocks (new ∷ []) c.args.at live.0 k live.1 (c.set_payload.ensures.change live.0 live.1).blocks (omega (arith, size_of-with_bytes b (fitted (bytes_of b) c.args.len))) o in
    c.split_off.ensures.relists.touched k last ∙ c.set_payload.ensures.touched k o

pub returns-clause-groups : goal.returns-clause-groups
returns-clause-groups g c i stands = more_groups (omega arith) (groups_then (c.set_payload.ensures.groups i stands) c.split_off.ensures.relists.groups)

pub returns-then-held-words-clause-groups : goal.returns-then-held-words-clause-groups
returns-then-held-words-clause-groups g c i stands = more_groups (omega arith) (c.set_payload.ensures.groups i stands)

use Rattle.tlsf_heap.proofs.Common.{◌≡◌, ℕ, suc, ◌+◌, ◌≤◌, List, ◌++◌, take, drop, false, length, sym, ap, ◌∙◌, subst, arith, Tag, Block, StandsAt, size_of, is_free, bytes_of, words_for, first_free, fitted, block_at, AreRegions, EachAt, IsTagOf, IsTagBehind, list_in}
use Rattle.tlsf_heap.proofs.lemmas.lists.Refit.{payload_room, rebytes_listed, refitted_grown, recut_stands, recut_bytes, recut_takes, recut_rebytes}
use Rattle.tlsf_heap.proofs.lemmas.blocks.Around.{one_index}
use Rattle.tlsf_heap.proofs.lemmas.blocks.Neighbours.{behind_free}
use Rattle.tlsf_heap.proofs.lemmas.words.Footprint.{recut_lasts}
use Rattle.tlsf_heap.proofs.lemmas.blocks.Used.{used_rebytes}
use Rattle.tlsf_words.proofs.Touching.{more_groups, groups_then}
use Rattle.tlsf_heap.proofs.refitting.grow.Goals as goal

-- the room that the tags say
room_here : {bs : List Block} {at words n i : ℕ} {own next : Tag} → EachAt bs at (λ s. IsTagOf words s own) → EachAt bs at (λ s. IsTagBehind words s next) → n ≤ own.size + next.size → StandsAt bs at i
    → n ≤ size_of (block_at bs i) + first_free (drop (suc i) bs)
room_here {i = i} is_own is_next room stands = omega (arith, (is_own i stands).size, (is_next i stands).size, room)

-- a block that begins at a place is live where the one there is
live_here : (sli : ℕ) {bs : List Block} {at i : ℕ} → AreRegions sli bs → (live : (j : ℕ) × StandsAt bs at j × (is_free (block_at bs j) ≡ false)) → StandsAt bs at i → is_free (block_at bs i) ≡ false
live_here sli {bs = bs} {at = at} {i = i} sized live stands = subst (λ (k : ℕ). is_free (block_at bs k) ≡ false) (one_index sli bs at live.0 i sized live.1 stands) live.2

pub recut-left-requires : goal.recut-left-requires
recut-left-requires g c =
    let live = c.requires.live in (
      omega arith,
      (
        c.requires.region,
        (
          c.requires.least,
          (
            (live.0, live.1, (live.2, omega (arith, payload_room c.requires.rooms live.1 live.2, (c.requires.own live.0 live.1).size, c.requires.more))),
            (
              c.requires.own,
              (
                λ i stands. (c.requires.next i stands).next,
                (
                  behind_free (c.requires.next live.0 live.1) (omega (arith, c.requires.more, c.requires.room)),
                  c.requires.room,
                ),
              ),
            ),
          ),
        ),
      ),
    )

pub set_payload-requires : goal.set_payload-requires
set_payload-requires g c =
    let live = c.requires.live in
    let room = room_here c.requires.own c.requires.next c.requires.room live.1 in
    let is = c.recut-left.ensures.blocks live.0 live.1 in
    let here = recut_stands live.1 live.2 c.args.tick room is in
    let takes = recut_takes live.1 live.2 c.args.tick room is (words_for c.args.len) c.requires.payload in
    let bytes = ap (λ (l : List ℕ). length l) (recut_bytes live.1 live.2 c.args.tick room is) in
    (omega arith, (live.0, here, (takes.0, takes.1, λ kept. let shorter = c.requires.grows live.0 live.1 kept in omega (arith, bytes, shorter))))

pub returns-clause-blocks : goal.returns-clause-blocks
returns-clause-blocks g c i stands =
    let live = live_here g.row.SLI c.requires.region.order.sized c.requires.live stands in
    let room = room_here c.requires.own c.requires.next c.requires.room stands in
    let is = c.recut-left.ensures.blocks i stands in
    let set = c.set_payload.ensures.change i (recut_stands stands live c.args.tick room is) in
    recut_rebytes stands live c.args.tick room is c.args.len c.set_payload.new.self.blocks set.blocks
    ∙ ap (λ (l : List Block). take i c.args.region.now.blocks ++ l) (sym (refitted_grown c.args.tick c.args.words c.args.len (block_at c.args.region.now.blocks i) (drop (suc i) c.args.region.now.blocks) (omega (arith, (c.requires.own i stands).size, c.requires.more))))

pub returns-clause-listed : goal.returns-clause-listed
returns-clause-listed g c =
    let live = c.requires.live in
    let room = room_here c.requires.own c.requires.next c.requires.room live.1 in
    let stands = recut_stands live.1 live.2 c.args.tick room (c.recut-left.ensures.blocks live.0 live.1) in
    let set = c.set_payload.ensures.change live.0 stands in
    rebytes_listed g.row.SLI stands (fitted (bytes_of (block_at c.recut-left.new.region.blocks live.0)) c.args.len) set.blocks (list_in c.recut-left.new.region.lists) (list_in c.set_payload.new.self.lists) set.lists c.recut-left.ensures.relists.listed

pub returns-clause-edits : goal.returns-clause-edits
returns-clause-edits g c =
    let live = c.requires.live in
    let room = room_here c.requires.own c.requires.next c.requires.room live.1 in
    let set = (c.set_payload.ensures.change live.0 (recut_stands live.1 live.2 c.args.tick room (c.recut-left.ensures.blocks live.0 live.1))).edits in
    let cut = c.recut-left.ensures.relists.edits in
    record { words = set.words ∙ cut.words; shows = set.shows; linked = set.linked; bits = set.bits; stays = set.stays ∙ cut.stays; touches = omega (arith, set.touches, cut.touches); rise = omega (arith, set.rise, cut.rise) }

pub returns-clause-grown : goal.returns-clause-grown
returns-clause-grown g c i stands =
    let live = live_here g.row.SLI c.requires.region.order.sized c.requires.live stands in
    let room = room_here c.requires.own c.requires.next c.requires.room stands in
    let is = c.recut-left.ensures.blocks i stands in
    let set = c.set_payload.ensures.grown i (recut_stands stands live c.args.tick room is) in
    omega (arith, set, ap (λ (l : List ℕ). words_for (length l)) (recut_bytes stands live c.args.tick room is), c.recut-left.ensures.relists.edits.touches)

pub returns-clause-touched : goal.returns-clause-touched
returns-clause-touched g c k o =
    let live = c.requires.live in
    let bs = c.args.region.now.blocks in
    let room = room_here c.requires.own c.requires.next c.requires.room live.1 in
    let last = recut_lasts bs c.recut-left.new.region.blocks c.args.at live.0 k c.args.words c.args.tick live.1 live.2 room (c.recut-left.ensures.blocks live.0 live.1) o in
    c.set_payload.ensures.touched k last ∙ c.recut-left.ensures.relists.touched k o

pub returns-clause-groups : goal.returns-clause-groups
returns-clause-groups g c i stands =
    let live = live_here g.row.SLI c.requires.region.order.sized c.requires.live stands in
    let room = room_here c.requires.own c.requires.next c.requires.room stands in
    let is = c.recut-left.ensures.blocks i stands in
    let set = c.set_payload.ensures.groups i (recut_stands stands live c.args.tick room is) in
    more_groups (omega (arith, ap (λ (l : List ℕ). length l) (recut_bytes stands live c.args.tick room is))) (groups_then c.recut-left.ensures.relists.groups set)

-- other bytes change no word in use
pub returns-clause-used : goal.returns-clause-used
returns-clause-used g c =
    let live = c.requires.live in
    let room = room_here c.requires.own c.requires.next c.requires.room live.1 in
    let is = c.recut-left.ensures.blocks live.0 live.1 in
    let stands = recut_stands live.1 live.2 c.args.tick room is in
    omega (arith, used_rebytes c.recut-left.new.region.blocks c.set_payload.new.self.blocks stands _ (c.set_payload.ensures.change live.0 stands).blocks, c.recut-left.ensures.used)

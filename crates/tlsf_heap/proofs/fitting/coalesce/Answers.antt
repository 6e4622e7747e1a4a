use Rattle.tlsf_heap.proofs.Common.{List, ◌≡◌, ℕ, ◌+◌, ◌-◌, true, suc, take, drop, refl, sym, ap, ◌∙◌, subst, arith, class_of, size_of, is_free, StandsAt, first_free, last_free, block_at, AreUnlisted, list_in, Block, IsLiveWord, IsOthersWord, RegionState, OnlyReads, LeavesLive, InGroups, Relists, rules}
use Rattle.tlsf_heap.proofs.lemmas.lists.Withheld.{is_between, nothing_out, size_region, rest_unlisted, withheld_listed, merged_free, merged_listed}
use Rattle.tlsf_heap.proofs.lemmas.blocks.Around.{one_index}
use Rattle.tlsf_heap.proofs.lemmas.words.Footprint.{others_last, any_word}
use Rattle.tlsf_words.proofs.Touching.{more_groups, groups_then}
use Rattle.tlsf_heap.proofs.fitting.coalesce.Goals as goal

pub free-requires : goal.free-requires
free-requires g c =
    let live = c.requires.live in
    let f = is_between g.row.SLI live c.requires.region in
    let next = c.next_tag-next.ensures in
    let previous = c.previous_tag-previous.ensures in
    let blocks = previous.reads.blocks ∙ next.reads.blocks in
    let lists = previous.reads.lists ∙ next.reads.lists in
    let next_live = sym c.is_free-2.ensures ∙ c.if-is_free-2.false in
    let previous_live = sym c.is_free.ensures ∙ c.if-is_free.false in
    let ahead = (rw next.reads.blocks at previous.tag) in
    let none_behind = (next.tag live.0 live.1).live next_live in
    let none_ahead = (ahead live.0 live.1).live previous_live in
    let out = nothing_out g.row.SLI none_behind in
    let out_too = nothing_out g.row.SLI none_ahead in
    let words = previous.reads.words ∙ next.reads.words in
    let left = withheld_listed g.row.SLI f out out_too (λ class. refl) live.0 live.1 in (
      omega arith,
      (
        rw (blocks, words) (live.0, live.1, c.requires.own live.0 live.1),
        (
          rw blocks (λ i stands. ((ahead i stands).live previous_live, (next.tag i stands).live next_live)),
          rw (blocks, lists)
              (λ i stands. subst (λ (k : ℕ). AreUnlisted (list_in c.args.region.now.lists) c.args.at (c.args.at + size_of (block_at c.args.region.now.blocks k)))
              (one_index g.row.SLI c.args.region.now.blocks c.args.at live.0 i c.requires.region.order.sized live.1 stands) (λ k low high. rest_unlisted g.row.SLI f left k (omega (arith, low)) (omega (arith, high)))),
        ),
      ),
    )

pub push-requires : goal.push-requires
push-requires g c =
    let live = c.requires.live in
    let f = is_between g.row.SLI live c.requires.region in
    let next = c.next_tag-next.ensures in
    let previous = c.previous_tag-previous.ensures in
    let blocks = previous.reads.blocks ∙ next.reads.blocks in
    let lists = previous.reads.lists ∙ next.reads.lists in
    let next_live = sym c.is_free-2.ensures ∙ c.if-is_free-2.false in
    let previous_live = sym c.is_free.ensures ∙ c.if-is_free.false in
    let ahead = (rw next.reads.blocks at previous.tag) in
    let none_behind = (next.tag live.0 live.1).live next_live in
    let none_ahead = (ahead live.0 live.1).live previous_live in
    let out = nothing_out g.row.SLI none_behind in
    let out_too = nothing_out g.row.SLI none_ahead in
    let change = (rw blocks at c.free.ensures.change) live.0 live.1 in
    let left = withheld_listed g.row.SLI f out out_too (λ class. change.lists class ∙ ap (λ l. list_in l class) lists) live.0 live.1 in
    let here : c.args.at - last_free (take live.0 c.args.region.now.blocks) ≡ c.args.at = omega (arith, none_ahead) in (
      omega arith,
      (
        omega arith,
        (
          subst (λ (k : ℕ). (j : ℕ) × StandsAt c.free.new.self.blocks k j × (is_free (block_at c.free.new.self.blocks j) ≡ true)) here (merged_free g.row.SLI f left c.free.new.self.blocks change.blocks),
          rest_unlisted g.row.SLI f left c.args.at (omega arith) (omega (arith, (size_region g.row.SLI f).0)),
        ),
      ),
    )

pub returns-clause-relists : goal.returns-clause-relists
returns-clause-relists g c =
    let live = c.requires.live in
    let f = is_between g.row.SLI live c.requires.region in
    let next = c.next_tag-next.ensures in
    let previous = c.previous_tag-previous.ensures in
    let blocks = previous.reads.blocks ∙ next.reads.blocks in
    let lists = previous.reads.lists ∙ next.reads.lists in
    let next_live = sym c.is_free-2.ensures ∙ c.if-is_free-2.false in
    let previous_live = sym c.is_free.ensures ∙ c.if-is_free.false in
    let ahead = (rw next.reads.blocks at previous.tag) in
    let none_behind = (next.tag live.0 live.1).live next_live in
    let none_ahead = (ahead live.0 live.1).live previous_live in
    let out = nothing_out g.row.SLI none_behind in
    let out_too = nothing_out g.row.SLI none_ahead in
    let change = (rw blocks at c.free.ensures.change) live.0 live.1 in
    let left = withheld_listed g.row.SLI f out out_too (λ class. change.lists class ∙ ap (λ l. list_in l class) lists) live.0 live.1 in
    let here : c.args.at - last_free (take live.0 c.args.region.now.blocks) ≡ c.args.at = omega (arith, none_ahead) in
    let is = c.requires.own live.0 live.1 in
    let bs = c.args.region.now.blocks in
    let word : (k : ℕ) → IsOthersWord bs c.args.at k → IsLiveWord bs k = any_word bs c.args.at in
    let size : c.size.result ≡ last_free (take live.0 bs) + size_of (block_at bs live.0) + first_free (drop (suc live.0) bs) = omega (arith, c.size.ensures.value, is.size, none_ahead, none_behind) in
    record {
      listed = merged_listed g.row.SLI f left c.push.new.self.blocks (c.push.ensures.blocks ∙ change.blocks) c.class_of.result (list_in c.free.new.self.lists) (list_in c.push.new.self.lists)
          (c.class_of.ensures ∙ ap (class_of g.row.SLI) size) (λ class. refl) (rw here c.push.ensures.list) c.push.ensures.others;
      edits = search rules;
      touched = λ k o. c.push.ensures.touched k (subst (λ (l : List Block). IsLiveWord l k) (sym change.blocks) (others_last c.args.tick.now bs c.args.at live.0 k live.1 o))
          ∙ (rw blocks at c.free.ensures.touched) k (word k o) ∙ (rw next.reads.blocks at previous.touched) k (word k o) ∙ next.touched k (word k o);
      groups = more_groups (omega arith) (groups_then (groups_then (groups_then next.groups previous.groups) c.free.ensures.groups) c.push.ensures.groups);
    }

-- ---- a neighbour is free

-- both tags are read, and then the blocks become one
merged_after : {sli at few many : ℕ} {first next last new : RegionState} → OnlyReads first next 1 → OnlyReads next last 1 → LeavesLive first.blocks first.touched next.touched → LeavesLive next.blocks next.touched last.touched
    → InGroups 1 first.touched next.touched → InGroups 1 next.touched last.touched → Relists sli at few many last new → Relists sli at (few + 2) (1 + 1 + many) first new
merged_after {at = at} {first = first} a b spared spared_too one two done =
    let blocks = b.blocks ∙ a.blocks in
    let e = done.edits in
    record {
      listed = done.listed;
      edits = record { words = e.words ∙ b.words ∙ a.words; shows = e.shows; linked = e.linked; bits = e.bits; stays = e.stays ∙ b.stays ∙ a.stays; touches = omega (arith, e.touches, a.touches, b.touches); rise = omega (arith, e.rise, a.rise, b.rise) };
      touched = λ k o. (rw blocks at done.touched) k o ∙ (rw a.blocks at spared_too) k (any_word first.blocks at k o) ∙ spared k (any_word first.blocks at k o);
      groups = groups_then (groups_then one two) done.groups;
    }

pub returns-then-is_free-clause-relists : goal.returns-then-is_free-clause-relists
returns-then-is_free-clause-relists g c =
    let a = c.next_tag-next.ensures in
    let b = c.previous_tag-previous.ensures in
    merged_after a.reads b.reads a.touched b.touched a.groups b.groups c.merge_before.ensures.relists

pub returns-then-is_free-2-clause-relists : goal.returns-then-is_free-2-clause-relists
returns-then-is_free-2-clause-relists g c =
    let a = c.next_tag-next.ensures in
    let b = c.previous_tag-previous.ensures in
    merged_after a.reads b.reads a.touched b.touched a.groups b.groups c.merge_next.ensures.relists

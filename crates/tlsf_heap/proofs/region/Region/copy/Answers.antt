use Rattle.tlsf_heap.proofs.Common.{◌≡◌, ◌≤◌, ◌+◌, ◌*◌, ◌/◌, ℕ, List, ◌∷◌, [], ◌++◌, length, take, drop, inl, inr, sym, subst, arith, ap, ◌∙◌, bytes_in, payload_byte, cases_order, bytes_of, words_in, StandsAt, overwritten, with_bytes, block_at, RegionState, image_of, times, InGroups}
use Rattle.tlsf_heap.proofs.lemmas.words.Says.{shows_state}
use Rattle.tlsf_heap.proofs.lemmas.words.Bytes.{held_within, length-bytes_in, payload_inside, rewritten}
use Rattle.tlsf_heap.proofs.lemmas.words.Image.{room_here}
use Rattle.tlsf_heap.proofs.lemmas.blocks.Order.{ends_before}
use Rattle.tlsf_heap.proofs.lemmas.words.Links.{linked_lists, marked_lists, Relists, holds_state}
use Rattle.tlsf_heap.proofs.lemmas.words.KeptLinks.{relisted_bytes}
use Rattle.tlsf_heap.proofs.lemmas.blocks.Stands.{behind_one}
use Rattle.tlsf_heap.proofs.lemmas.words.Edit.{Leaves}
use Rattle.tlsf_heap.proofs.lemmas.words.Footprint.{others_apart}
use Rattle.tlsf_words.proofs.Touching.{more_groups}
use Rattle.tlsf_heap.proofs.lemmas.words.Groups.{two_rows}
use Rattle.tlsf_heap.proofs.region.Region.copy.Given.{Over}
use Rattle.tlsf_heap.proofs.region.Region.copy.Goals as goal

pub copy_payload-requires-clause-from : goal.copy_payload-requires-clause-from
copy_payload-requires-clause-from g c = omega (arith, payload_inside (shows_state g.row.SLI c.self.invariant c.self.view_is) c.requires.from.1, c.requires.from.2)

pub copy_payload-requires-clause-to : goal.copy_payload-requires-clause-to
copy_payload-requires-clause-to g c = omega (arith, payload_inside (shows_state g.row.SLI c.self.invariant c.self.view_is) c.requires.to.1, c.requires.to.2)

-- two blocks are one, or one ends before the other begins
pub copy_payload-requires-clause-apart : goal.copy_payload-requires-clause-apart
copy_payload-requires-clause-apart g c =
    let shows = shows_state g.row.SLI c.self.invariant c.self.view_is in
    let from = c.requires.from in
    let to = c.requires.to in
    let bs = c.args.self.now.blocks in
    let first = held_within (block_at bs from.0) (room_here _ bs shows c.args.from from.0 from.1) in
    let second = held_within (block_at bs to.0) (room_here _ bs shows c.args.to to.0 to.1) in
    elim (cases_order from.0 to.0) [
      | inl e ↦ inl (sym from.1.place ∙ ap (λ (k : ℕ). words_in (take k bs)) e ∙ to.1.place)
      | inr (inl below) ↦ inr (inl (omega (arith, ends_before bs from.0 to.0 below to.1.within, from.1.place, to.1.place, first, from.2)))
      | inr (inr above) ↦ inr (inr (omega (arith, ends_before bs to.0 from.0 above from.1.within, from.1.place, to.1.place, second, to.2)))
    ]

-- the bytes that are copied
abbrev source : (g : Over) → goal.After-copy_payload g → List ℕ
source g c = bytes_in c.args.self.now.stored.words (payload_byte c.args.from 0) c.args.len

many : (g : Over) (c : goal.After-copy_payload g) → length (source g c) ≡ c.args.len
many g c = length-bytes_in c.args.self.now.stored.words (payload_byte c.args.from 0) c.args.len

-- the block that they are copied to
target : (g : Over) (c : goal.After-copy_payload g) → (i : ℕ) × StandsAt c.args.self.now.blocks c.args.to i × (0 + length (source g c) ≤ length (bytes_of (block_at c.args.self.now.blocks i)))
target g c = (c.requires.to.0, c.requires.to.1, omega (arith, many g c, c.requires.to.2))

left : (g : Over) (c : goal.After-copy_payload g)
    → Leaves (image_of c.copy_payload.new.self) c.args.self.now.blocks c.args.to (λ i. take i c.args.self.now.blocks ++ (with_bytes (block_at c.args.self.now.blocks i) (overwritten (bytes_of (block_at c.args.self.now.blocks i)) 0 (source g c)) ∷ []) ++ drop (i + 1) c.args.self.now.blocks)
left g c =
    let new = c.copy_payload.ensures in
    let was : c.self.inside.words.words ≡ c.args.self.now.stored.words = ap (λ (r : RegionState). r.stored.words) c.self.view_is in
    rewritten {v = image_of c.copy_payload.new.self} 0 (shows_state g.row.SLI c.self.invariant c.self.view_is) (target g c)
    (ap (bytes_in c.copy_payload.new.self.words (payload_byte c.args.to 0)) (many g c) ∙ new.bytes ∙ ap (λ (ws : List ℕ). bytes_in ws (payload_byte c.args.from 0) c.args.len) was)
    new.changes.before (λ k h. new.changes.behind k (omega (arith, many g c))) (λ k h. new.changes.words_before k (omega arith)) (λ k h. new.changes.words_behind k (omega (arith, many g c))) new.changes.length new.changes.starts

relists : (g : Over) (c : goal.After-copy_payload g) → Relists g.row.SLI (image_of c.copy_payload.new.self) c.self.inside.lists c.args.self.now.lists
relists g c =
    let new = c.copy_payload.ensures in
    relisted_bytes g.row.SLI (holds_state g.row.SLI c.self.invariant c.self.view_is) 0 (length (source g c)) (λ i. overwritten (bytes_of (block_at c.args.self.now.blocks i)) 0 (source g c)) (target g c)
    (λ k h. new.changes.words_before k (omega arith)) (λ k h. new.changes.words_behind k (omega (arith, many g c))) new.changes.length (left g c)

pub invariant_of-self : goal.invariant_of-self
invariant_of-self g c = (relists g c).holds

pub returns-clause-change : goal.returns-clause-change
returns-clause-change g c i stands =
    let new = c.copy_payload.ensures in
    let touches = ap (λ (r : RegionState). r.touches) c.self.view_is in
    let words = ap (λ (r : RegionState). r.words) c.self.view_is in
    record {
      blocks = (left g c).blocks i stands ∙ behind_one i _ c.args.self.now.blocks;
      lists = (relists g c).same;
      edits = record { words = new.changes.length ∙ words; shows = (relists g c).holds.shows; linked = linked_lists g.row.SLI _ _ (relists g c).holds; bits = marked_lists g.row.SLI _ _ (relists g c).holds; stays = c.copy_payload.ensures.changes.stays ∙ ap (λ (r : RegionState). r.extents) c.self.view_is; touches = omega (arith, new.touches, touches); rise = omega (arith, new.rise, touches) };
    }

pub returns-clause-touched : goal.returns-clause-touched
returns-clause-touched g c k o p =
    let bs = c.args.self.now.blocks in
    let shows = shows_state g.row.SLI c.self.invariant c.self.view_is in
    let from = c.requires.from in
    let to = c.requires.to in
    let first = held_within (block_at bs from.0) (room_here _ bs shows c.args.from from.0 from.1) in
    let second = held_within (block_at bs to.0) (room_here _ bs shows c.args.to to.0 to.1) in
    c.copy_payload.ensures.touched k
    (elim (others_apart bs c.args.from from.0 k from.1 o) [ inl below ↦ inl (omega (arith, below)) | inr above ↦ inr (omega (arith, above, first, from.2)) ])
    (elim (others_apart bs c.args.to to.0 k to.1 p) [ inl below ↦ inl (omega (arith, below)) | inr above ↦ inr (omega (arith, above, second, to.2)) ])
    ∙ ap (λ (r : RegionState). times r.touched k) c.self.view_is

pub returns-clause-groups : goal.returns-clause-groups
returns-clause-groups g c =
    let from = c.args.from + 3 in
    let to = c.args.to + 3 in
    let n = (c.args.len + 7) / 8 in
    let rows = two_rows from to n n (λ k a b. c.copy_payload.ensures.touched k (elim a [ inl below ↦ inl below | inr past ↦ inr (omega (arith, past)) ]) (elim b [ inl below ↦ inl below | inr past ↦ inr (omega (arith, past)) ])) in
    subst (λ (r : RegionState). InGroups (4 + 2 * (c.args.len / 64)) r.touched c.copy_payload.new.self.touched) c.self.view_is (more_groups (omega arith) rows)

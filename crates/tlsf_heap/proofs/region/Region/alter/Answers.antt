use Rattle.tlsf_heap.proofs.Common.{◌≡◌, ℕ, ◌+◌, ◌/◌, List, ◌∷◌, [], ◌++◌, take, drop, subst, arith, ap, sym, ◌∙◌, FnOnceReturnsAtMut, FnOnceTakesAtMut, bytes_of, overwritten, with_bytes, block_at, bytes_in, payload_byte, RegionState, image_of}
use Rattle.tlsf_heap.proofs.lemmas.words.Says.{shows_state}
use Rattle.tlsf_heap.proofs.lemmas.words.Bytes.{payload_inside}
use Rattle.tlsf_heap.proofs.lemmas.calls.Alter.{altered}
use Rattle.tlsf_heap.proofs.lemmas.words.Links.{linked_lists, marked_lists, Relists, holds_state}
use Rattle.tlsf_heap.proofs.lemmas.words.KeptLinks.{relisted_bytes}
use Rattle.tlsf_heap.proofs.lemmas.blocks.Stands.{behind_one}
use Rattle.tlsf_heap.proofs.lemmas.words.Edit.{Leaves}
use Rattle.tlsf_heap.proofs.region.Region.alter.Given.{Over}
use Rattle.tlsf_heap.proofs.region.Region.alter.Goals as goal

pub alter-requires-clause-within : goal.alter-requires-clause-within
alter-requires-clause-within g c =
    omega (arith, payload_inside (shows_state g.row.SLI c.self.invariant c.self.view_is) c.requires.live.1, c.requires.live.2, c.div_ceil.ensures)

pub alter-requires-clause-calls : goal.alter-requires-clause-calls
alter-requires-clause-calls g c =
    let many : (c.args.len + 7) / 8 ≡ c.div_ceil.result = omega (arith, c.div_ceil.ensures) in
    let was : c.args.self.now.stored.words ≡ c.self.inside.words.words = sym (ap (λ (r : RegionState). r.stored.words) c.self.view_is) in
    subst (λ (n : ℕ). FnOnceTakesAtMut g.F.FnOnce c.args.f (take n (drop (c.args.at + 3) c.self.inside.words.words))) many
    (subst (λ (ws : List ℕ). FnOnceTakesAtMut g.F.FnOnce c.args.f (take ((c.args.len + 7) / 8) (drop (c.args.at + 3) ws))) was c.requires.calls)

left : (g : Over) (c : goal.After-alter g)
    → Leaves (image_of c.alter.new.self) c.args.self.now.blocks c.args.at (λ i. take i c.args.self.now.blocks ++ (with_bytes (block_at c.args.self.now.blocks i) (overwritten (bytes_of (block_at c.args.self.now.blocks i)) 0 (bytes_in c.alter.new.self.words (payload_byte c.args.at 0) c.args.len)) ∷ []) ++ drop (i + 1) c.args.self.now.blocks)
left g c =
    let new = c.alter.ensures in
    altered {v = image_of c.alter.new.self} (shows_state g.row.SLI c.self.invariant c.self.view_is) c.requires.live
    new.before (λ k h. new.behind k (omega (arith, c.div_ceil.ensures))) new.length new.starts

relists : (g : Over) (c : goal.After-alter g) → Relists g.row.SLI (image_of c.alter.new.self) c.self.inside.lists c.args.self.now.lists
relists g c =
    let new = c.alter.ensures in
    let state = holds_state g.row.SLI c.self.invariant c.self.view_is in
    let live = c.requires.live in
    relisted_bytes g.row.SLI state 0 c.args.len (λ i. overwritten (bytes_of (block_at c.args.self.now.blocks i)) 0 (bytes_in c.alter.new.self.words (payload_byte c.args.at 0) c.args.len))
    (live.0, live.1, omega (arith, live.2))
    (λ k h. new.before k (omega arith)) (λ k h. new.behind k (omega (arith, c.div_ceil.ensures))) new.length (left g c)

pub invariant_of-self : goal.invariant_of-self
invariant_of-self g c = (relists g c).holds

pub returns-clause-called : goal.returns-clause-called
returns-clause-called g c =
    let many : c.div_ceil.result ≡ (c.args.len + 7) / 8 = omega (arith, c.div_ceil.ensures) in
    let was : c.self.inside.words.words ≡ c.args.self.now.stored.words = ap (λ (r : RegionState). r.stored.words) c.self.view_is in
    subst (λ (n : ℕ). FnOnceReturnsAtMut g.F.FnOnce c.args.f (take n (drop (c.args.at + 3) c.args.self.now.stored.words)) c.alter.result (take n (drop (c.args.at + 3) c.alter.new.self.words))) many
    (subst (λ (ws : List ℕ). FnOnceReturnsAtMut g.F.FnOnce c.args.f (take c.div_ceil.result (drop (c.args.at + 3) ws)) c.alter.result (take c.div_ceil.result (drop (c.args.at + 3) c.alter.new.self.words))) was c.alter.ensures.called)

pub returns-clause-change : goal.returns-clause-change
returns-clause-change g c i stands =
    let new = c.alter.ensures in
    let touches = ap (λ (r : RegionState). r.touches) c.self.view_is in
    let words = ap (λ (r : RegionState). r.words) c.self.view_is in
    record {
      blocks = (left g c).blocks i stands ∙ behind_one i _ c.args.self.now.blocks;
      lists = (relists g c).same;
      edits = record { words = new.length ∙ words; shows = (relists g c).holds.shows; linked = linked_lists g.row.SLI _ _ (relists g c).holds; bits = marked_lists g.row.SLI _ _ (relists g c).holds; stays = c.alter.ensures.stays ∙ ap (λ (r : RegionState). r.extents) c.self.view_is; touches = omega (arith, new.touches, touches); rise = omega (arith, new.touches, touches) };
    }

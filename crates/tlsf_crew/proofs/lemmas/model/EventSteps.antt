-- Each event is answered as the model answers it, and there is room for its entries.
use Rattle.tlsf_crew.proofs.Common.{nat_lt, true, false, ◌≡◌, ℕ, ◌+◌, ◌<◌, ◌≤◌, List, length, ap, arith, refl, fold, nat_tests, length_push, Event, Call, Refused, Stranger, World, WorldReply, Replayed, answered, called, after, replies, begun}

pub after_far : {sli : ℕ} (r : Replayed sli) (e : Event) → length r.world.heaps ≤ e.worker → after r e ≡ answered r e.worker e.call (record { reply = Refused Stranger; world = r.world })
unfolding after
after_far r e le = let b : nat_lt e.worker (length r.world.heaps) ≡ false = grind (arith, nat_tests) in rw b refl

pub after_near : {sli : ℕ} (r : Replayed sli) (e : Event) (call : Call) → e.worker < length r.world.heaps → e.call ≡ call → after r e ≡ called r e.worker call
unfolding after
after_near r e call lt is = let b : nat_lt e.worker (length r.world.heaps) ≡ true = grind (arith, nat_tests) in rw b (ap (called r e.worker) is)

pub single_room : {sli : ℕ} (r s : Replayed sli) (at n : ℕ) (call : Call) (rp : WorldReply sli) → s ≡ answered r at call rp → length s.entries ≤ n → length r.entries + 1 ≤ n
single_room r s at n call rp e le =
    let a = ap (λ x. length x.entries) e in
    let b = length_push r.entries (record { worker = at; call = call; reply = rp.reply }) in
    omega arith

pub replies_is : {sli : ℕ} (w : World sli) (es : List Event) → replies w es ≡ fold after (begun w) es
unfolding replies
replies_is w es = refl

use Rattle.tlsf_crew.proofs.Common.{◌≡◌, ◌<◌, ◌+◌, ◌∙◌, ℕ, length, vec_len, sym, subst, refl, arith, common_steps, AreGiven, GaveEnds}
use Rattle.tlsf_crew.proofs.lemmas.queues.QueueOpened.{ends_kept, next_numbers, queue_given}
use Rattle.tlsf_crew.proofs.queues.queue_opening.give_all.Goals as goal

pub loop-posters-init : goal.loop-posters-init
loop-posters-init g c = record { count = refl; ends = c.requires.ends.0; few = c.requires.ends.1; given = λ words capacity given. given }

pub give_ends-requires : goal.give_ends-requires
give_ends-requires g c =
    let before = c.loop-posters.invariant in
    let ws = c.loop-posters.workers in
    let words = c.requires.given.0 in
    let capacity = c.requires.given.1 in
    let given = subst (λ (n : ℕ). AreGiven n words capacity (vec_len c.loop-posters.ends) ws) (sym before.count) (before.given words capacity c.requires.given.2) in
    let fewer = c.in-Some.ensures.cases in (
      omega arith,
      (
        omega (arith, c.len.ensures),
        (
          λ i a ne is. let w = given.new i a is in omega (arith, w.slots, before.few, fewer),
          next_numbers _ words capacity _ _ ws c.loop-posters.ends.items _ c.in-Some.posters given before.ends c.in-Some.ensures.items (omega (arith, fewer)) (omega (arith, before.few, fewer)),
        ),
      ),
    )

pub loop-posters-preserved : goal.loop-posters-preserved
loop-posters-preserved g c =
    let before = c.loop-posters.invariant in
    let ws = c.loop-posters.workers in
    let vs = c.give_ends.new.workers in
    let rest = c.pop.new.self in
    let m = vec_len rest in
    let more : m + 1 ≡ vec_len c.loop-posters.ends = c.in-Some.ensures.cases in
    let m_is : m ≡ length rest.items = grind (arith, common_steps) in
    let m_in : m < length ws = omega (arith, before.few) in
    let gave : GaveEnds ws m (length ws) c.in-Some.posters.items vs = subst (λ (j : ℕ). GaveEnds ws j (length ws) c.in-Some.posters.items vs) c.len.ensures c.give_ends.ensures.gave in
    record {
      count = gave.count ∙ before.count;
      ends = ends_kept ws vs c.loop-posters.ends.items rest.items c.in-Some.posters m before.ends c.in-Some.ensures.items gave;
      few = omega (arith, gave.count);
      given = λ words capacity old.
          queue_given _ words capacity _ m ws vs c.loop-posters.ends.items rest.items c.in-Some.posters (before.given words capacity old) (sym more) before.ends c.in-Some.ensures.items m_is m_in gave;
    }

pub returns : goal.returns
returns g c = λ words capacity given.
    let none : vec_len c.loop-posters.ends ≡ 0 = c.in_default.ensures.cases.0 in
    subst (λ (m : ℕ). AreGiven (length c.args.workers.now) words capacity m c.loop-posters.workers) none (c.loop-posters.invariant.given words capacity given)

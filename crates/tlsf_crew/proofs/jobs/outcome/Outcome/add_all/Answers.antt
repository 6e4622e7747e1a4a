use Rattle.tlsf_crew.proofs.Common.{◌≡◌, ◌∷◌, [], ◌++◌, List, map, ap, sym, ◌∙◌, append_assoc, append-nil, arith, nil_from_length, Job}
use Rattle.tlsf_crew.proofs.jobs.outcome.Outcome.add_all.Goals as goal

-- the first that is still to come was added
one_more : {X Y : Type 0} (f : X → Y) (ys zs all : List Y) (x : X) (xs rest : List X) → zs ≡ ys ++ f x ∷ [] → xs ≡ x ∷ rest → ys ++ map f xs ≡ all → zs ++ map f rest ≡ all
one_more f ys zs all x xs rest added first old = rw (added, append_assoc ys (f x ∷ []) (map f rest)) (ap (λ l. ys ++ map f l) (sym first) ∙ old)

-- nothing is still to come
nothing_left : {X Y : Type 0} (f : X → Y) (ys all : List Y) (xs : List X) → xs ≡ [] → ys ++ map f xs ≡ all → ys ≡ all
nothing_left f ys all xs none was = sym (append-nil ys) ∙ (ap (λ l. ys ++ map f l) (sym none) ∙ was)

pub loop-each-preserved : goal.loop-each-preserved
loop-each-preserved g c =
    let was = c.loop-each.invariant in
    let first = c.in-Some.ensures.steps.0 in
    record {
      workers = one_more (λ (d : Job g.row.SLI _). d.worker) _ _ _ _ _ _ c.push_reserved.ensures.items first was.workers;
      records = one_more (λ (d : Job g.row.SLI _). d.entries) _ _ _ _ _ _ c.push_reserved-in-loop-each.ensures.items first was.records;
      room = (
        omega (arith, was.room.0, c.in-Some.ensures.steps.1, c.push_reserved.ensures.len, c.push_reserved.ensures.capacity),
        omega (arith, was.room.1, c.in-Some.ensures.steps.1, c.push_reserved-in-loop-each.ensures.len, c.push_reserved-in-loop-each.ensures.capacity),
      );
    }

pub returns : goal.returns
returns g c =
    let was = c.loop-each.invariant in
    let ok = c.loop-each.each-iterator.rest.ok in
    let none = nil_from_length _ (omega (arith, c.in-None.ensures.steps.0)) in
    record { parts = (nothing_left (λ (d : Job g.row.SLI _). d.worker) _ _ _ none was.workers, nothing_left (λ (d : Job g.row.SLI _). d.entries) _ _ _ none was.records) }

use Rattle.tlsf_lines.proofs.Common.{◌≡◌, ◌+◌, ◌++◌, ◌∷◌, [], rules, refl, ap, arith, length, length_push, nil_from_length, pieces_of}
use Rattle.tlsf_lines.proofs.LineSteps.{ends, few_more, goes_on, is_done, with_none}
use Rattle.tlsf_lines.proofs.parsing.add_lines.Goals as goal

pub loop-rest-init : goal.loop-rest-init
loop-rest-init g c = record {
  before = [];
  lines = [];
  remembers = c.new-labels.ensures.remembers;
  recalls = c.new-labels.ensures.recalls c.args.header.workers;
  held = c.requires.new;
  so_far = with_none _;
  count = omega arith;
  behind = omega arith;
  numbers = omega arith;
  phases = omega (arith, c.new-labels.ensures.phase);
  events = refl;
  few = omega arith;
}

pub returns-in-Err-clause-err : goal.returns-in-Err-clause-err
returns-in-Err-clause-err g c =
    let inv = c.loop-rest.invariant in
    ends c.args.header.workers inv.before inv.lines c.loop-rest.number c.loop-rest.rest.now _ inv.so_far
    c.in-Err.fault c.cut_piece.result.0.now c.cut_piece.result.1.now c.cut_piece.ensures.pieces (c.in-Err.ensures.line inv.before inv.remembers)

pub add-requires : goal.add-requires
add-requires g c =
    let inv = c.loop-rest.invariant in
    (c.args.header, inv.before, inv.lines, inv.held, omega (arith, inv.behind, inv.numbers, c.requires.short, c.cut_piece.ensures.shorter))

pub loop-rest-preserved : goal.loop-rest-preserved
loop-rest-preserved g c =
    let inv = c.loop-rest.invariant in
    let workers = c.args.header.workers in
    let line = c.in-Ok.judged.0 in
    let cut : length (pieces_of c.loop-rest.rest.now) ≡ length (pieces_of c.cut_piece.result.1.now) + 1 = rw c.cut_piece.ensures.pieces (omega arith) in
    let longer : length (inv.lines ++ line ∷ []) ≡ length inv.lines + 1 = length_push inv.lines line in
    record {
      before = line ∷ inv.before;
      lines = inv.lines ++ line ∷ [];
      remembers = c.in_ok-remember.ensures.ok inv.before inv.remembers;
      recalls = c.in_ok-remember.ensures.recalls workers inv.before inv.recalls inv.events;
      held = c.in_ok-add.ensures c.args.header inv.before inv.lines inv.held (c.in-Ok.ensures.made inv.before inv.recalls);
      so_far = goes_on workers inv.before inv.lines c.loop-rest.number c.loop-rest.rest.now _ inv.so_far
          c.cut_piece.result.0.now c.cut_piece.result.1.now line c.cut_piece.ensures.pieces (c.in-Ok.ensures.line inv.before inv.remembers);
      count = omega (arith, cut, longer, inv.count);
      behind = omega (arith, longer, inv.behind);
      numbers = omega (arith, c.cut_piece.ensures.shorter, inv.numbers);
      phases = omega (arith, inv.phases, c.in_ok-remember.ensures.phase);
      events = omega (arith, c.width-events.ensures, inv.events);
      few = omega (arith, c.width-events.ensures, few_more workers line c.requires.range.workers.1, inv.few);
    }

pub returns-clause-ok : goal.returns-clause-ok
returns-clause-ok g c =
    let inv = c.loop-rest.invariant in
    let workers = c.args.header.workers in
    let none : length (pieces_of c.loop-rest.rest.now) ≡ 0 = ap (λ rest. length (pieces_of rest)) (nil_from_length c.loop-rest.rest.now (search rules)) in
    record {
      before = inv.before;
      lines = inv.lines;
      spelled = is_done workers inv.before inv.lines c.loop-rest.number c.loop-rest.rest.now _ inv.so_far (search rules);
      count = omega (arith, inv.count, none);
      held = inv.held;
    }

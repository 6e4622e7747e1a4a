use Rattle.tlsf_heap.proofs.Common.{rules, replicate, ap, arith, seen, words_in_use, Fill}
use Rattle.tlsf_heap.proofs.lemmas.calls.Filled.{filled, filled_room, mid_lives, mid_length}
use Rattle.tlsf_heap.proofs.lemmas.laws.WordsInUse.{words_set}
use Rattle.tlsf_words.proofs.Touching.{more_groups, groups_then}
use Rattle.tlsf_heap.proofs.heap.Heap.allocate_words.Goals as goal

pub zero_payload-requires : goal.zero_payload-requires
zero_payload-requires g c =
    let given = c.in-Ok.ensures in
    let kept = given.frame.keeps in
    (omega arith, (mid_lives g.row.SLI c.args.words c.args.len given.frame.keeps.level c.requires kept.was_lawful kept.lawful given.allocates, mid_length g.row.SLI c.args.words c.args.len given.frame.keeps.level c.requires kept.was_lawful kept.lawful given.allocates))

pub returns-clause-allocates : goal.returns-clause-allocates
returns-clause-allocates g c =
    let given = c.in-Ok.ensures in
    let kept = given.frame.keeps in
    let zeros = c.zero_payload.ensures in
    filled g.row.SLI c.args.words c.args.len given.frame.keeps.level c.requires kept.was_lawful kept.lawful given.allocates (seen c.zero_payload.new.self) zeros.heap zeros.frame.touches zeros.frame.keeps.touches_rise zeros.leaves

pub returns-clause-frame : goal.returns-clause-frame
returns-clause-frame g c =
    let given = c.in-Ok.ensures.frame in
    let zeros = c.zero_payload.ensures in
    record {
      err = tt;
      keeps = search rules;
      peak = omega (arith, ap words_in_use zeros.heap, (words_set g.row.SLI c.allocate_unset_words.new.self.heap (Fill c.in-Ok.name (replicate c.args.len 0)) tt).0, given.peak, zeros.frame.most);
      groups = more_groups (omega arith) (groups_then given.groups zeros.frame.groups);
    }

pub returns-clause-room : goal.returns-clause-room
returns-clause-room g c =
    let given = c.in-Ok.ensures in
    let kept = given.frame.keeps in
    filled_room g.row.SLI c.args.words c.args.len given.frame.keeps.level c.requires kept.was_lawful kept.lawful given.allocates (seen c.zero_payload.new.self) c.zero_payload.ensures.heap

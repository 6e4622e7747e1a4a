use Rattle.std.proofs.Common.{rules, arith, ap, sym, ◌∙◌, refl, Ok, Err, ◌+◌, subst}
use Rattle.tlsf_offsets.specs.Offsets.{span_units, seen_of}
use Rattle.tlsf_offsets.proofs.Spans.{Asks, asks, asks_made, asks_new, asks_served, kept_allocated, made_live, with_heap}
use Rattle.tlsf_offsets.proofs.offset_arena.OffsetArena.allocate.Goals as goal
use Rattle.tlsf_heap.specs.Effects.{Allocates}
use Rattle.tlsf_heap.specs.Touched.{allocate_touches}
use Rattle.tlsf_heap.proofs.lemmas.calls.Looked.{allocates_looked, unlooked}
use Rattle.tlsf_heap.specs.Shown.{seen}

pub returns-in-Err-clause-answer : goal.returns-in-Err-clause-answer
returns-in-Err-clause-answer g c =
    let a : Asks g.row.SLI c.args.self.now (with_heap c.self.inside.unit c.allocate_words.new.self) c.args.len (Err c.in-Err.why) =
    asks g.row.SLI _ c.args.self.now _ c.args.len c.units_of.result _ (search rules) c.self.view_is c.units_of.ensures c.in-Err.ensures.allocates refl c.allocate_words.ensures.frame.keeps.lawful in
    sym a.allocates.answer_is

pub returns-in-Err-clause-allocates : goal.returns-in-Err-clause-allocates
returns-in-Err-clause-allocates g c =
    let a : Asks g.row.SLI c.args.self.now (with_heap c.self.inside.unit c.allocate_words.new.self) c.args.len (Err c.in-Err.why) =
    asks g.row.SLI _ c.args.self.now _ c.args.len c.units_of.result _ (search rules) c.self.view_is c.units_of.ensures c.in-Err.ensures.allocates refl c.allocate_words.ensures.frame.keeps.lawful in
    let sli = g.row.SLI in
    let o = c.args.self.now in
    let n = span_units o.unit c.args.len in
    subst (λ r. Allocates (allocate_touches + 1) sli n 0 (seen_of o) (seen c.allocate_words.new.self) r) a.allocates.answer_is
    (allocates_looked allocate_touches 1 sli n 0 (seen_of o) (seen c.allocate_words.new.self) (seen c.allocate_words.new.self) _ a.before.lawful a.allocates (unlooked (seen c.allocate_words.new.self)))

pub span_of-requires : goal.span_of-requires
span_of-requires g c =
    let a : Asks g.row.SLI c.args.self.now (with_heap c.self.inside.unit c.allocate_words.new.self) c.args.len (Ok c.in-Ok.name) =
    asks g.row.SLI _ c.args.self.now _ c.args.len c.units_of.result _ (search rules) c.self.view_is c.units_of.ensures c.in-Ok.ensures.allocates refl c.allocate_words.ensures.frame.keeps.lawful in
    (omega arith, made_live c.in-Ok.name (span_units c.args.self.now.unit c.args.len) c.allocate_words.new.self.heap (asks_made g.row.SLI c.args.self.now _ c.args.len c.in-Ok.name a).0)

pub returns-in-Ok-clause-answer : goal.returns-in-Ok-clause-answer
returns-in-Ok-clause-answer g c =
    let a : Asks g.row.SLI c.args.self.now (with_heap c.self.inside.unit c.allocate_words.new.self) c.args.len (Ok c.in-Ok.name) =
    asks g.row.SLI _ c.args.self.now _ c.args.len c.units_of.result _ (search rules) c.self.view_is c.units_of.ensures c.in-Ok.ensures.allocates refl c.allocate_words.ensures.frame.keeps.lawful in
    sym a.allocates.answer_is ∙ ap Ok (sym c.span_of.ensures.name)

pub returns-in-Ok-clause-allocates : goal.returns-in-Ok-clause-allocates
returns-in-Ok-clause-allocates g c =
    let a : Asks g.row.SLI c.args.self.now (with_heap c.self.inside.unit c.allocate_words.new.self) c.args.len (Ok c.in-Ok.name) =
    asks g.row.SLI _ c.args.self.now _ c.args.len c.units_of.result _ (search rules) c.self.view_is c.units_of.ensures c.in-Ok.ensures.allocates refl c.allocate_words.ensures.frame.keeps.lawful in
    let sli = g.row.SLI in
    let o = c.args.self.now in
    let n = span_units o.unit c.args.len in
    subst (λ r. Allocates (allocate_touches + 1) sli n 0 (seen_of o) (seen_of c.span_of.new.self) r) a.allocates.answer_is
    (allocates_looked allocate_touches 1 sli n 0 (seen_of o) (seen c.allocate_words.new.self) (seen_of c.span_of.new.self) _ a.before.lawful a.allocates (record { heap = c.span_of.ensures.looks.heap; touches = c.span_of.ensures.looks.touches; rise = c.span_of.ensures.looks.touches_rise; leaves = c.span_of.ensures.looks.leaves }))

pub returns-in-Ok-clause-span : goal.returns-in-Ok-clause-span
returns-in-Ok-clause-span g c =
    let a : Asks g.row.SLI c.args.self.now (with_heap c.self.inside.unit c.allocate_words.new.self) c.args.len (Ok c.in-Ok.name) =
    asks g.row.SLI _ c.args.self.now _ c.args.len c.units_of.result _ (search rules) c.self.view_is c.units_of.ensures c.in-Ok.ensures.allocates refl c.allocate_words.ensures.frame.keeps.lawful in
    asks_served g.row.SLI c.args.self.now _ c.args.len c.in-Ok.name a c.span_of.result c.span_of.ensures.name c.span_of.ensures.held c.span_of.new.self c.span_of.ensures.looks

pub returns-in-Ok-clause-others : goal.returns-in-Ok-clause-others
returns-in-Ok-clause-others g c =
    let a : Asks g.row.SLI c.args.self.now (with_heap c.self.inside.unit c.allocate_words.new.self) c.args.len (Ok c.in-Ok.name) =
    asks g.row.SLI _ c.args.self.now _ c.args.len c.units_of.result _ (search rules) c.self.view_is c.units_of.ensures c.in-Ok.ensures.allocates refl c.allocate_words.ensures.frame.keeps.lawful in
    let looks = c.span_of.ensures.looks in
    kept_allocated c.args.self.now c.span_of.new.self (looks.unit ∙ a.unit_is) g.row.SLI (span_units c.args.self.now.unit c.args.len) (looks.heap ∙ a.allocates.heap)

pub returns-in-Ok-clause-new : goal.returns-in-Ok-clause-new
returns-in-Ok-clause-new g c =
    let a : Asks g.row.SLI c.args.self.now (with_heap c.self.inside.unit c.allocate_words.new.self) c.args.len (Ok c.in-Ok.name) =
    asks g.row.SLI _ c.args.self.now _ c.args.len c.units_of.result _ (search rules) c.self.view_is c.units_of.ensures c.in-Ok.ensures.allocates refl c.allocate_words.ensures.frame.keeps.lawful in
    λ other h same. asks_new g.row.SLI c.args.self.now _ c.args.len c.in-Ok.name a other h (same ∙ c.span_of.ensures.name)

use Rattle.std.proofs.Common.{rules, arith, sym, ◌∙◌, refl, Ok, Err, ◌+◌, subst, ap}
use Rattle.tlsf_offsets.specs.Offsets.{IsOffsets, span_units, seen_of}
use Rattle.tlsf_offsets.proofs.Spans.{Alters, alters, alters_made, alters_served, kept_resized, made_live, resized_named, with_heap}
use Rattle.tlsf_offsets.proofs.offset_arena.OffsetArena.resize.Goals as goal
use Rattle.tlsf_heap.specs.Effects.{Resizes}
use Rattle.tlsf_heap.specs.Touched.{resize_touches}
use Rattle.tlsf_heap.proofs.lemmas.calls.Looked.{resizes_looked}
use Rattle.tlsf_heap.specs.Shown.{seen}
use Rattle.tlsf_heap.specs.Footprint.{LeavesLive}
use Rattle.tlsf_heap.specs.Given.{payload_words_left}
use Rattle.std.specs.Prelude.{OnErr}

pub returns-in-Err-clause-answer : goal.returns-in-Err-clause-answer
returns-in-Err-clause-answer g c =
    let a : Alters g.row.SLI c.args.self.now (with_heap c.self.inside.unit c.resize_words.new.self) c.args.name c.args.len (Err c.in-Err.refusal) =
    alters g.row.SLI _ c.args.self.now _ c.args.name c.args.len c.units_of.result _ (search rules) c.self.view_is c.units_of.ensures c.in-Err.ensures.resizes refl c.resize_words.ensures.frame.keeps.lawful in
    sym a.resizes.answer_is

pub returns-in-Err-clause-resizes : goal.returns-in-Err-clause-resizes
returns-in-Err-clause-resizes g c =
    let a : Alters g.row.SLI c.args.self.now (with_heap c.self.inside.unit c.resize_words.new.self) c.args.name c.args.len (Err c.in-Err.refusal) =
    alters g.row.SLI _ c.args.self.now _ c.args.name c.args.len c.units_of.result _ (search rules) c.self.view_is c.units_of.ensures c.in-Err.ensures.resizes refl c.resize_words.ensures.frame.keeps.lawful in
    let r = a.resizes in
    record {
      answer_is = refl;
      heap = r.heap;
      touches = omega (arith, r.touches, ap (λ x. payload_words_left x c.resize_words.new.self.heap c.args.name) r.answer_is);
      grown = omega (arith, r.grown);
      rise = r.rise;
      leaves = r.leaves;
      refused = subst (λ x. OnErr x (LeavesLive c.args.self.now.heap.blocks c.args.self.now.touched c.resize_words.new.self.touched)) r.answer_is r.refused;
      forged = r.forged;
    }

pub span_of-requires : goal.span_of-requires
span_of-requires g c =
    let a : Alters g.row.SLI c.args.self.now (with_heap c.self.inside.unit c.resize_words.new.self) c.args.name c.args.len (Ok tt) =
    alters g.row.SLI _ c.args.self.now _ c.args.name c.args.len c.units_of.result _ (search rules) c.self.view_is c.units_of.ensures c.in-Ok.ensures.resizes refl c.resize_words.ensures.frame.keeps.lawful in
    (omega arith, made_live c.args.name (span_units c.args.self.now.unit c.args.len) c.resize_words.new.self.heap (alters_made g.row.SLI c.args.self.now _ c.args.name c.args.len a).0)

pub returns-in-Ok-clause-answer : goal.returns-in-Ok-clause-answer
returns-in-Ok-clause-answer g c =
    let a : Alters g.row.SLI c.args.self.now (with_heap c.self.inside.unit c.resize_words.new.self) c.args.name c.args.len (Ok tt) =
    alters g.row.SLI _ c.args.self.now _ c.args.name c.args.len c.units_of.result _ (search rules) c.self.view_is c.units_of.ensures c.in-Ok.ensures.resizes refl c.resize_words.ensures.frame.keeps.lawful in
    (sym a.resizes.answer_is, c.span_of.ensures.name)

pub returns-in-Ok-clause-resizes : goal.returns-in-Ok-clause-resizes
returns-in-Ok-clause-resizes g c =
    let a : Alters g.row.SLI c.args.self.now (with_heap c.self.inside.unit c.resize_words.new.self) c.args.name c.args.len (Ok tt) =
    alters g.row.SLI _ c.args.self.now _ c.args.name c.args.len c.units_of.result _ (search rules) c.self.view_is c.units_of.ensures c.in-Ok.ensures.resizes refl c.resize_words.ensures.frame.keeps.lawful in
    let is : IsOffsets g.row.SLI c.args.self.now = search rules in
    let o = c.args.self.now in
    let n = span_units o.unit c.args.len in
    let named = resized_named o.heap c.args.name n (sym a.resizes.answer_is) in
    subst (λ r. Resizes (resize_touches + 1) n 0 (seen_of o) (seen_of c.span_of.new.self) c.args.name r) a.resizes.answer_is
    (resizes_looked resize_touches 1 n 0 (seen_of o) (seen c.resize_words.new.self) (seen_of c.span_of.new.self) c.args.name is.lawful named a.resizes (record { heap = c.span_of.ensures.looks.heap; touches = c.span_of.ensures.looks.touches; rise = c.span_of.ensures.looks.touches_rise; leaves = c.span_of.ensures.looks.leaves }))

pub returns-in-Ok-clause-span : goal.returns-in-Ok-clause-span
returns-in-Ok-clause-span g c =
    let a : Alters g.row.SLI c.args.self.now (with_heap c.self.inside.unit c.resize_words.new.self) c.args.name c.args.len (Ok tt) =
    alters g.row.SLI _ c.args.self.now _ c.args.name c.args.len c.units_of.result _ (search rules) c.self.view_is c.units_of.ensures c.in-Ok.ensures.resizes refl c.resize_words.ensures.frame.keeps.lawful in
    alters_served g.row.SLI c.args.self.now _ c.args.name c.args.len a c.span_of.result c.span_of.ensures.name c.span_of.ensures.held c.span_of.new.self c.span_of.ensures.looks

pub returns-in-Ok-clause-others : goal.returns-in-Ok-clause-others
returns-in-Ok-clause-others g c =
    let a : Alters g.row.SLI c.args.self.now (with_heap c.self.inside.unit c.resize_words.new.self) c.args.name c.args.len (Ok tt) =
    alters g.row.SLI _ c.args.self.now _ c.args.name c.args.len c.units_of.result _ (search rules) c.self.view_is c.units_of.ensures c.in-Ok.ensures.resizes refl c.resize_words.ensures.frame.keeps.lawful in
    let looks = c.span_of.ensures.looks in
    kept_resized c.args.self.now c.span_of.new.self (looks.unit ∙ a.unit_is) c.args.name (span_units c.args.self.now.unit c.args.len) (looks.heap ∙ a.resizes.heap)

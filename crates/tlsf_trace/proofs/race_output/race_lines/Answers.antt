use Rattle.tlsf_trace.proofs.Common.{refl, ℕ, ◌∙◌, string_bytes, length, IfSome, ◌≤◌, subst, known_in, none_known, phases_of, IsPhaseRaced, RacePoint, point_at, count_in, kind_in, races_over}
use Rattle.tlsf_trace.proofs.RacedPhases.{few_behind, left_behind, more_raced, none_raced}
use Rattle.tlsf_trace.specs.declared.raced_yard.PortKind.{PortKind}
use Rattle.tlsf_trace.proofs.race_output.race_lines.Goals as goal

pub loop-rest-init : goal.loop-rest-init
loop-rest-init g c = record {
  kind = refl;
  whole = c.requires.whole;
  count = refl;
  raced = none_raced (races_over (kind_in c.args.yard)) (count_in c.args.yard) (phases_of c.args.lines.now) (point_at c.args.yard none_known (string_bytes c.args.text.now)) (known_in c.new-names.result) c.new-names.ensures;
  few = c.requires.few;
}

pub loop-rest-preserved : goal.loop-rest-preserved
loop-rest-preserved g c =
    let inv = c.loop-rest.invariant in
    let lines = c.in-Some.lines in
    let behind = c.cut_phase.result.1 in
    let phase = c.cut_phase.result.0.now in
    let n = count_in c.args.yard in
    let from : RacePoint g.row.SLI = point_at c.loop-rest.yard (known_in c.loop-rest.names) (string_bytes c.loop-rest.text) in
    let to : RacePoint g.row.SLI = point_at c.in_ok-yard.yard (known_in c.race_phase.new.names) (string_bytes c.race_phase.new.text) in
    let counted : IsPhaseRaced (races_over (kind_in c.loop-rest.yard)) n phase from to
    = subst (λ (k : ℕ). IsPhaseRaced (races_over (kind_in c.loop-rest.yard)) k phase from to) inv.count c.in_ok-yard.ensures.raced in
    let one : IsPhaseRaced (races_over (kind_in c.args.yard)) n phase from to
    = subst (λ (k : PortKind). IsPhaseRaced (races_over k) n phase from to) inv.kind counted in
    record {
      kind = c.in_ok-yard.ensures.kind ∙ inv.kind;
      whole = c.in_ok-yard.ensures.whole;
      count = c.in_ok-yard.ensures.count ∙ inv.count;
      raced = more_raced c.loop-rest.rest behind lines c.in-Some.is (left_behind behind (phases_of lines.now) phase c.cut_phase.ensures.phases) inv.raced one;
      few = few_behind behind (length lines.now) c.cut_phase.ensures.shorter (subst (λ r. IfSome r (λ lines. length lines.now ≤ 32768)) c.in-Some.is inv.few);
    }

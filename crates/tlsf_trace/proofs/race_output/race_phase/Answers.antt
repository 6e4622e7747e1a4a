use Rattle.tlsf_trace.proofs.Common.{◌≡◌, ◌++◌, ℕ, List, Option, length, map, string_bytes, sym, ap, subst, ◌∙◌, arith, range_with_len, length-map, Name, Call, Entry, known_below, known_in, own_lines, scripts_in, records_text, Line, count_in, kind_in, races_over, world_in}
use Rattle.std.specs.declared.vec.Vec.{Vec}
use Rattle.std.specs.declared.alloc.Global.{Global}
use Rattle.tlsf_trace.proofs.RacedPhases.{heap_count, record_count}
use Rattle.tlsf_trace.proofs.race_output.race_phase.Goals as goal

pub write_phase-requires : goal.write_phase-requires
write_phase-requires g c =
    let records = c.in_ok-left.records.items in
    let many : length c.deref-2.result.now ≡ length (map (λ (r : Vec Entry Global). r.items) records) = ap length c.deref-2.ensures.value ∙ sym (length-map records (λ (r : Vec Entry Global). r.items)) in
    let all = record_count (world_in c.args.yard) (world_in c.in_ok-left.left) _ _ (kind_in c.args.yard) c.in_ok-left.ensures.race in
    let heaps = heap_count c.args.yard in
    omega (arith, many, all, heaps, c.deref.ensures.len, c.in_ok-scripts.ensures.counts.0, c.count_workers-count.ensures)

pub returns-clause-raced : goal.returns-clause-raced
returns-clause-raced g c =
    let kind = kind_in c.args.yard in
    let w = world_in c.args.yard in
    let v = world_in c.in_ok-left.left in
    let phase = c.args.phase.now in
    let known = known_in c.args.names.now in
    let n = count_in c.args.yard in
    let records = map (λ (r : Vec Entry Global). r.items) c.in_ok-left.records.items in
    let old = string_bytes c.args.text.now in
    let new = string_bytes c.write_phase.new.text in
    let learnt = known_in c.write_phase.new.names in
    let count : length c.deref.result.now ≡ c.count_workers-count.result = omega (arith, c.deref.ensures.len, c.in_ok-scripts.ensures.counts.0) in
    let many : length c.deref.result.now ≡ n = omega (arith, count, c.count_workers-count.ensures) in
    let lines : map (λ (l : Vec Line Global). l.items) c.deref.result.now ≡ map (λ w. own_lines w phase) (range_with_len 0 (length c.deref.result.now))
    = ap (map (λ (l : Vec Line Global). l.items)) c.deref.ensures.value ∙ (c.in_ok-scripts.ensures.lines ∙ ap (λ (k : ℕ). map (λ w. own_lines w phase) (range_with_len 0 k)) (sym count)) in
    let told = map (λ (r : Vec Entry Global). r.items) c.deref-2.result.now in
    let told_is : told ≡ records = ap (map (λ (r : Vec Entry Global). r.items)) c.deref-2.ensures.value in
    let text : new ≡ old ++ records_text phase told (length c.deref.result.now) = c.in_ok-write_phase.ensures.text phase lines in
    let names : learnt ≡ known_below known phase told (length c.deref.result.now)
    = c.in_ok-write_phase.ensures.known phase lines ∙ ap (λ (k : ℕ → Option Name). known_below k phase told (length c.deref.result.now)) c.of.ensures.names in
    let raced : races_over kind w (scripts_in c.count_workers-count.result known phase) records v
    = subst (λ (s : List (List Call)). races_over kind w s records v) c.in_ok-scripts.ensures.calls c.in_ok-left.ensures.race in
    record {
      records = records;
      raced = subst (λ (k : ℕ). races_over kind w (scripts_in k known phase) records v) (sym count ∙ many) raced;
      known_are = names ∙ (ap (λ t. known_below known phase t (length c.deref.result.now)) told_is ∙ ap (λ (k : ℕ). known_below known phase records k) many);
      text_is = text ∙ (ap (λ t. old ++ records_text phase t (length c.deref.result.now)) told_is ∙ ap (λ (k : ℕ). old ++ records_text phase records k) many);
    }

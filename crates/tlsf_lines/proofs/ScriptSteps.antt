-- Scripts, one line after another.
use Rattle.tlsf_lines.proofs.Common.{◌≡◌, ℕ, zero, suc, true, ◌+◌, ◌<◌, ◌≤◌, cond, List, [], ◌∷◌, ◌++◌, length, take, get_or, count_by, refl, sym, subst, ap, ◌∙◌, arith, append_assoc, append-nil, replicate, None, range_with_len, length-append, length-map, map-append, length-range_with_len, count_by-le-length, sum_by-append, Header, Line, Event, last_drain, last_drains, ends_from, events_in, events_from, labels_in, labels_from, width_in, width_of, Phase, is_call, label_in, request_in}
use Rattle.tlsf_lines.specs.declared.script.Script.{Script}
use Rattle.tlsf_lines.specs.ScriptSoFar.{Adds, Holds, IsScript}

-- calls among some lines, and one more
calls_with : (lines : List Line) (line : Line) → count_by is_call (lines ++ line ∷ []) ≡ count_by is_call lines + cond (is_call line) 1 0
calls_with lines line =
    let both : count_by is_call (lines ++ line ∷ []) ≡ count_by is_call lines + count_by is_call (line ∷ []) = sum_by-append (λ l. cond (is_call l) 1 0) lines (line ∷ []) in
    omega (arith, both)

-- a line has as many events as it stands for
width_is : (workers : ℕ) (before : List Line) (line : Line) → length (events_in workers before line) ≡ width_of workers line
width_is workers before Phase = length-map (range_with_len 0 workers) last_drain ∙ length-range_with_len 0 workers
width_is workers before line = refl

-- a line that is a call has one label
pub one_label : (workers : ℕ) (line : Line) → (line ≡ Phase → ⊥) → (is_call line ≡ true) × (labels_in workers line ≡ label_in line ∷ [])
one_label workers Phase other = absurd (other refl)
one_label workers line other = (refl, refl)

width_with : (workers : ℕ) (lines : List Line) (line : Line) → width_in workers (lines ++ line ∷ []) ≡ width_in workers lines + width_of workers line
width_with workers [] line = omega arith
width_with workers (l ∷ lines) line = let rest = width_with workers lines line in omega (arith, rest)

-- where one line more ends
ends_with : (workers at : ℕ) (lines : List Line) (line : Line)
    → ends_from workers at (lines ++ line ∷ []) ≡ ends_from workers at lines ++ (at + width_in workers lines + width_of workers line) ∷ []
ends_with workers at [] line = let none : at + 0 + width_of workers line ≡ at + width_of workers line = omega arith in rw none refl
ends_with workers at (l ∷ lines) line =
    let end = at + width_of workers l in
    let here : end + width_in workers lines + width_of workers line ≡ at + (width_of workers l + width_in workers lines) + width_of workers line = omega arith in
    ap (λ (es : List ℕ). end ∷ es) (ends_with workers end lines line ∙ ap (λ (n : ℕ). ends_from workers end lines ++ n ∷ []) here)

-- where a line ends
end_at : (workers at : ℕ) (lines : List Line) (i d : ℕ) → i < length lines → get_or (ends_from workers at lines) i d ≡ at + width_in workers (take (i + 1) lines)
end_at workers at [] i d lt = absurd (omega (arith, lt))
end_at workers at (l ∷ lines) zero d lt = omega arith
end_at workers at (l ∷ lines) (suc i) d lt =
    let rest = end_at workers (at + width_of workers l) lines i d (omega (arith, lt)) in
    let next : suc i + 1 ≡ suc (i + 1) = omega arith in
    rw next (omega (arith, rest))

pub end_of : (workers : ℕ) (lines : List Line) (i d : ℕ) → i < length lines → get_or (ends_from workers 0 lines) i d ≡ width_in workers (take (i + 1) lines)
end_of workers lines i d lt = let here = end_at workers 0 lines i d lt in omega (arith, here)

pub ends_count : (workers at : ℕ) (lines : List Line) → length (ends_from workers at lines) ≡ length lines
ends_count workers at [] = refl
ends_count workers at (l ∷ lines) = ap suc (ends_count workers (at + width_of workers l) lines)

module _ (workers : ℕ) (before lines : List Line) (line : Line) (old new : Script) (held : Holds workers before lines old) (adds : Adds workers before line old new) where
  count_more : length new.events ≡ width_in workers lines + width_of workers line
  count_more = rw (adds.events, length-append old.events (events_in workers before line), held.count, width_is workers before line) refl

  -- what a script has after one line more, where its end is noted
  pub holds_more : (noted : Script) → noted.events ≡ new.events → noted.labels.items ≡ new.labels.items → noted.calls ≡ new.calls
      → noted.ends.items ≡ new.ends.items ++ length new.events ∷ [] → noted.requests.items ≡ new.requests.items ++ request_in line ∷ []
      → Holds workers (line ∷ before) (lines ++ line ∷ []) noted
  holds_more noted events labels calls ends requests = record {
    events = λ more. rw (events, adds.events, append_assoc old.events (events_in workers before line) (events_from workers (line ∷ before) more))
        (held.events (line ∷ more) ∙ ap (λ ls. events_from workers [] ls) (sym (append_assoc lines (line ∷ []) more)));
    labels = λ more. rw (labels, adds.labels, append_assoc old.labels.items (labels_in workers line) (labels_from workers more))
        (held.labels (line ∷ more) ∙ ap (λ ls. labels_from workers ls) (sym (append_assoc lines (line ∷ []) more)));
    calls = calls ∙ (adds.calls ∙ (ap (λ n. n + cond (is_call line) 1 0) held.calls ∙ sym (calls_with lines line)));
    count = ap (λ (es : List Event). length es) events ∙ (count_more ∙ sym (width_with workers lines line));
    ends = rw (ends, adds.ends, held.ends, count_more) (sym (ends_with workers 0 lines line ∙ ap (λ (n : ℕ). ends_from workers 0 lines ++ n ∷ []) (omega arith)));
    requests = rw (requests, adds.requests, held.requests) (sym (map-append request_in lines (line ∷ [])));
  }

-- there are no more calls than lines
pub calls_few : (workers : ℕ) (before lines : List Line) (script : Script) → Holds workers before lines script → script.calls ≤ length lines
calls_few workers before lines script held = omega (arith, held.calls, count_by-le-length is_call lines)

-- a script made of a header and some lines, and one line more
pub add_holds : (header : Header) (before lines : List Line) (line : Line) (old new noted : Script) → (old.header ≡ header) × Holds header.workers before lines old → Adds old.header.workers before line old new
    → noted.header ≡ new.header → noted.events ≡ new.events → noted.labels.items ≡ new.labels.items → noted.calls ≡ new.calls → noted.ends.items ≡ new.ends.items ++ length new.events ∷ []
    → noted.requests.items ≡ new.requests.items ++ request_in line ∷ [] → (noted.header ≡ header) × Holds header.workers (line ∷ before) (lines ++ line ∷ []) noted
add_holds header before lines line old new noted has adds same_header events labels calls ends requests =
    let same : old.header.workers ≡ header.workers = ap (λ (h : Header). h.workers) has.0 in (
      same_header ∙ (adds.header ∙ has.0),
      holds_more header.workers before lines line old new has.1 (subst (λ workers. Adds workers before line old new) same adds) noted events labels calls ends requests,
    )

-- the script of a trace: what its lines stand for, and the drains at the end
pub script_ends : (header : Header) (before lines : List Line) (old new : Script) → (old.header ≡ header) × Holds header.workers before lines old → new.header ≡ old.header
    → new.events ≡ old.events ++ last_drains old.header.workers → new.labels.items ≡ old.labels.items ++ replicate old.header.workers None → new.calls ≡ old.calls → new.ends.items ≡ old.ends.items → new.requests.items ≡ old.requests.items
    → IsScript new (record { header = header; lines = lines })
script_ends header before lines old new has same events labels calls ends requests =
    let workers : old.header.workers ≡ header.workers = ap (λ (h : Header). h.workers) has.0 in
    record {
      header = same ∙ has.0;
      events = events ∙ rw workers (has.1.events [] ∙ ap (λ ls. events_from header.workers [] ls) (append-nil lines));
      labels = labels ∙ rw workers (has.1.labels [] ∙ ap (λ ls. labels_from header.workers ls) (append-nil lines));
      calls = calls ∙ has.1.calls;
      ends = ends ∙ has.1.ends;
      requests = requests ∙ has.1.requests;
    }

-- A fault at a line is the first one.
use Rattle.tlsf_lines.proofs.Common.{◌≡◌, ℕ, suc, ◌+◌, List, [], ◌∷◌, drop, Result, Ok, Err, Option, Some, None, refl, sym, ap, arith, inl, inr, LineFault, Header, Line, BadHeader, field, header_in, pieces_of, ◌>>=◌, at_line, judged_line, lines_in, Trace, trace_of}
use Rattle.tlsf_lines.specs.Laws.{FailsFirst, IsFirstFault}

abbrev Found : ℕ → ℕ → ℕ → List Line → List (List ℕ) → LineFault → Type 0
Found workers n m before pieces fault = (i : ℕ) × (lines : List Line) × (m ≡ n + i) × FailsFirst workers n before pieces fault i lines

abbrev failed : LineFault × ℕ → Result (List Line) (LineFault × ℕ)
failed e = Err e

err_parts : (e d : LineFault × ℕ) → failed e ≡ failed d → (e.0 ≡ d.0) × (e.1 ≡ d.1)
err_parts e d h = let same : e ≡ d = cc in (ap (λ (x : LineFault × ℕ). x.0) same, ap (λ (x : LineFault × ℕ). x.1) same)

passes : (line : Line) (rest : Result (List Line) (LineFault × ℕ)) (e : LineFault × ℕ) → (rest >>= λ lines. Ok (line ∷ lines)) ≡ Err e → rest ≡ Err e
passes line (Ok lines) e h = absurd cc
passes line (Err d) e h = h

judged : (workers n m : ℕ) (before : List Line) (piece : List ℕ) (pieces : List (List ℕ)) (fault : LineFault) (r : Result Line LineFault) → judged_line workers before piece ≡ r
    → (at_line n r >>= λ line. lines_in workers (line ∷ before) (n + 1) pieces >>= λ lines. Ok (line ∷ lines)) ≡ Err (fault, m)
    → ((line : Line) → lines_in workers (line ∷ before) (n + 1) pieces ≡ Err (fault, m) → Found workers (n + 1) m (line ∷ before) pieces fault)
    → Found workers n m before (piece ∷ pieces) fault
unfolding lines_in
judged workers n m before piece pieces fault (Err d) here whole rest =
    let parts = err_parts (d, n) (fault, m) whole in
    (0, [], omega (arith, parts.1), record { good = refl; bad = rw (here, parts.0) refl })
judged workers n m before piece pieces fault (Ok line) here whole rest =
    let found = rest line (passes line _ (fault, m) whole) in (
      suc found.0,
      line ∷ found.1,
      omega (arith, found.2),
      record {
        good = rw (here, found.3.good) refl;
        bad = found.3.bad;
      },
    )

found : (workers n m : ℕ) (before : List Line) (pieces : List (List ℕ)) (fault : LineFault) → lines_in workers before n pieces ≡ Err (fault, m) → Found workers n m before pieces fault
unfolding lines_in
found workers n m before [] fault h = absurd cc
found workers n m before (piece ∷ pieces) fault h =
    judged workers n m before piece pieces fault (judged_line workers before piece) refl h (λ line e. found workers (n + 1) m (line ∷ before) pieces fault e)

-- the same of a whole trace
abbrev refused : LineFault × ℕ → Result Trace (LineFault × ℕ)
refused e = Err e

same_fault : (d e : LineFault × ℕ) → refused d ≡ refused e → d ≡ e
same_fault d e h = cc

-- after a good header a fault is one of the lines
behind : (header : Header) (rest : Result (List Line) (LineFault × ℕ)) (e : LineFault × ℕ) → (rest >>= λ lines. Ok (record { header = header; lines = lines })) ≡ refused e
    → rest ≡ Err e
behind header (Ok lines) e h = absurd cc
behind header (Err d) e h = ap failed (same_fault d e h)

-- a text, by what its first piece says
headed : (text : List ℕ) (fault : LineFault) (m : ℕ) (first : Option Header) → header_in (field (pieces_of text) 0) ≡ first → IsFirstFault text fault m
unfolding trace_of
headed text fault m None here h =
    let same : (BadHeader, 1) ≡ (fault, m) = same_fault (BadHeader, 1) (fault, m) (rw here at h) in
    inl (record { none = here; fault_is = sym (ap (λ (x : LineFault × ℕ). x.0) same); line_is = sym (ap (λ (x : LineFault × ℕ). x.1) same) })
headed text fault m (Some header) here h =
    let lines = found header.workers 2 m [] (drop 1 (pieces_of text)) fault (behind header _ (fault, m) (rw here at h)) in
    inr (record { header = header; i = lines.0; lines = lines.1; headed = here; line_is = lines.2; first = lines.3 })

pub is_first : (text : List ℕ) (fault : LineFault) (m : ℕ) → IsFirstFault text fault m
is_first text fault m = headed text fault m (header_in (field (pieces_of text) 0)) refl

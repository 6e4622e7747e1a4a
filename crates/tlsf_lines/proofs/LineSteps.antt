-- A step of the loop over lines.
use Rattle.tlsf_lines.proofs.Common.{◌≡◌, ℕ, ◌+◌, ◌≤◌, List, [], ◌∷◌, ◌++◌, length, Result, Ok, Err, refl, sym, ap, ◌∙◌, append_assoc, append-nil, arith, LineFault, Line, Phase, width_of, ◌>>=◌, judged_line, lines_in, pieces_of, nil_from_length}

abbrev pub put_behind : List Line → Result (List Line) (LineFault × ℕ) → Result (List Line) (LineFault × ℕ)
put_behind prefix (Ok lines) = Ok (prefix ++ lines)
put_behind prefix (Err fault) = Err fault

regroup : (prefix : List Line) (line : Line) (rest : Result (List Line) (LineFault × ℕ)) → put_behind prefix (rest >>= λ lines. Ok (line ∷ lines)) ≡ put_behind (prefix ++ line ∷ []) rest
regroup prefix line (Ok lines) = ap (λ (ls : List Line). Ok ls) (sym (append_assoc prefix (line ∷ []) lines))
regroup prefix line (Err fault) = refl

module _ (workers : ℕ) (before prefix : List Line) (n : ℕ) (rest : List ℕ) (total : Result (List Line) (LineFault × ℕ))
    (so_far : put_behind prefix (lines_in workers before n (pieces_of rest)) ≡ total) where
  pub goes_on : (piece after : List ℕ) (line : Line) → pieces_of rest ≡ piece ∷ pieces_of after → judged_line workers before piece ≡ Ok line
      → put_behind (prefix ++ line ∷ []) (lines_in workers (line ∷ before) (n + 1) (pieces_of after)) ≡ total
  unfolding lines_in
  goes_on piece after line cut judged =
      let one : put_behind prefix (lines_in workers before n (pieces_of rest)) ≡ put_behind (prefix ++ line ∷ []) (lines_in workers (line ∷ before) (n + 1) (pieces_of after)) =
      rw (cut, judged) (regroup prefix line (lines_in workers (line ∷ before) (n + 1) (pieces_of after))) in
      sym one ∙ so_far

  pub ends : (fault : LineFault) (piece after : List ℕ) → pieces_of rest ≡ piece ∷ pieces_of after → judged_line workers before piece ≡ Err fault → total ≡ Err (fault, n)
  unfolding lines_in
  ends fault piece after cut judged =
      let one : put_behind prefix (lines_in workers before n (pieces_of rest)) ≡ Err (fault, n) = rw (cut, judged) refl in
      sym so_far ∙ one

  pub is_done : length rest ≡ 0 → total ≡ Ok prefix
  unfolding lines_in
  is_done none =
      let one : put_behind prefix (lines_in workers before n (pieces_of rest)) ≡ Ok prefix =
      rw (nil_from_length rest none) (ap (λ (ls : List Line). Ok ls) (append-nil prefix)) in
      sym so_far ∙ one

-- no line stands for more than eight events
pub few_more : (workers : ℕ) (line : Line) → workers ≤ 8 → width_of workers line ≤ 8
few_more workers Phase few = few
few_more workers line few = omega arith

-- no line yet
pub with_none : (said : Result (List Line) (LineFault × ℕ)) → put_behind [] said ≡ said
with_none (Ok lines) = refl
with_none (Err fault) = refl

-- A block that grows or shrinks where it stands: the entries of the map that change.
use Rattle.tlsf_arena.proofs.Common.{◌≡◌, ℕ, ◌+◌, ◌-◌, ◌≤◌, Bool, true, false, ◌++◌, length, take, drop, replicate, sym, ap, ◌∙◌, arith, append_assoc, length-append, length-replicate, IsRun, marked, refl}
use Rattle.tlsf_arena.proofs.Maps.{Bits, joined}
use Rattle.tlsf_arena.proofs.Rooms.{drop_both, marked_run}
use Rattle.std.proofs.lemmas.List.{take_at}

-- the first j of k entries, and the others
parted : (j k : ℕ) (v : Bool) (l : Bits) → j ≤ k → replicate k v ++ l ≡ replicate j v ++ (replicate (k - j) v ++ l)
parted j k v l within = sym (joined j (k - j) v l ∙ ap (λ (i : ℕ). replicate i v ++ l) (let z : j + (k - j) ≡ k = omega (arith, within) in z))

-- where the first k of n free entries were those of a block, the others are lent
pub grown : (free : Bits) (at k n : ℕ) → k ≤ n → IsRun free at k false → IsRun (marked free at k true) at n true
    → IsRun free (at + k) (n - k) true × (marked (marked free at k true) at n false ≡ marked free (at + k) (n - k) false)
grown free at k n within run freed =
    let p : Bits = run.0.0 in let q : Bits = run.0.1 in let P : Bits = freed.0.0 in let Q : Bits = freed.0.1 in
    let held : Bits = replicate k true in
    let rest : Bits = replicate (n - k) true ++ Q in
    let lens : length p ≡ length P = run.2 ∙ sym freed.2 in
    let same : p ++ (held ++ q) ≡ P ++ (held ++ rest) = sym (marked_run free at k false true run) ∙ freed.1 ∙ ap (λ (l : Bits). P ++ l) (parted k n true Q within) in
    let front : p ≡ P = sym (take_at p (held ++ q) (length p) refl) ∙ (λ i. take (lens i) (same i)) ∙ take_at P (held ++ rest) (length P) refl in
    let back : q ≡ rest = sym (drop_both p held q) ∙ (λ i. drop (lens i + length held) (same i)) ∙ drop_both P held rest in
    let before : Bits = p ++ replicate k false in
    let run' : IsRun free (at + k) (n - k) true =
    ((before, Q), run.1 ∙ ap (λ (l : Bits). p ++ (replicate k false ++ l)) back ∙ sym (append_assoc p (replicate k false) rest), omega (arith, length-append p (replicate k false), length-replicate {A = Bool} k false, run.2)) in (
      run',
      marked_run (marked free at k true) at n true false freed ∙ ap (λ (l : Bits). P ++ l) (parted k n false Q within) ∙ ap (λ (l : Bits). l ++ (replicate k false ++ (replicate (n - k) false ++ Q))) (sym front)
          ∙ sym (append_assoc p (replicate k false) (replicate (n - k) false ++ Q)) ∙ sym (marked_run free (at + k) (n - k) true false run'),
    )

-- where n of the k entries of a block stay, the others are free
pub shrunk : (free : Bits) (at k n : ℕ) → n ≤ k → IsRun free at k false
    → IsRun free (at + n) (k - n) false × (marked (marked free at k true) at n false ≡ marked free (at + n) (k - n) true)
shrunk free at k n within run =
    let p : Bits = run.0.0 in let q : Bits = run.0.1 in
    let before : Bits = p ++ replicate n false in
    let rest : Bits = replicate (k - n) true ++ q in
    let run' : IsRun free (at + n) (k - n) false =
    ((before, q), run.1 ∙ ap (λ (l : Bits). p ++ l) (parted n k false q within) ∙ sym (append_assoc p (replicate n false) (replicate (k - n) false ++ q)), omega (arith, length-append p (replicate n false), length-replicate {A = Bool} n false, run.2)) in
    let freed : IsRun (marked free at k true) at n true = ((p, rest), marked_run free at k false true run ∙ ap (λ (l : Bits). p ++ l) (parted n k true q within), run.2) in
    (run', marked_run (marked free at k true) at n true false freed ∙ sym (append_assoc p (replicate n false) rest) ∙ sym (marked_run free (at + n) (k - n) false true run'))

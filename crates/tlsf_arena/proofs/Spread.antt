-- A map in which each entry stands n times.
use Rattle.tlsf_arena.proofs.Common.{◌≡◌, ℕ, zero, suc, ◌+◌, ◌*◌, Bool, List, [], ◌∷◌, ◌++◌, length, replicate, refl, sym, ap, ◌∙◌, arith, append_assoc, length-append, length-replicate, replicate-append-replicate, IsRun, marked, spread}
use Rattle.std.proofs.Math.Nat.{mul-suc}
use Rattle.tlsf_arena.proofs.Rooms.{marked_run}

spread-append : (n : ℕ) (xs ys : List Bool) → spread n (xs ++ ys) ≡ spread n xs ++ spread n ys
spread-append n [] ys = refl
spread-append n (x ∷ xs) ys = ap (λ (l : List Bool). replicate n x ++ l) (spread-append n xs ys) ∙ sym (append_assoc (replicate n x) (spread n xs) (spread n ys))

pub spread-replicate : (n k : ℕ) (v : Bool) → spread n (replicate k v) ≡ replicate (n * k) v
spread-replicate n zero v = ap (λ (j : ℕ). replicate j v) (let e : 0 ≡ n * 0 = omega arith in e)
spread-replicate n (suc k) v =
    ap (λ (l : List Bool). replicate n v ++ l) (spread-replicate n k v) ∙ replicate-append-replicate n (n * k) v ∙ ap (λ (j : ℕ). replicate j v) (let e : n + n * k ≡ n * suc k = omega (arith, mul-suc n k) in e)

pub length-spread : (n : ℕ) (xs : List Bool) → length (spread n xs) ≡ n * length xs
length-spread n [] = omega arith
length-spread n (x ∷ xs) = omega (arith, length-append (replicate n x) (spread n xs), length-replicate {A = Bool} n x, length-spread n xs, mul-suc n (length xs))

-- a run of k entries between others
parts : (n : ℕ) (p q : List Bool) (k : ℕ) (v : Bool) → spread n (p ++ (replicate k v ++ q)) ≡ spread n p ++ (replicate (n * k) v ++ spread n q)
parts n p q k v =
    spread-append n p (replicate k v ++ q) ∙ ap (λ (l : List Bool). spread n p ++ l) (spread-append n (replicate k v) q ∙ ap (λ (l : List Bool). l ++ spread n q) (spread-replicate n k v))

pub spread_run : (n : ℕ) (free : List Bool) (at k : ℕ) (v : Bool) → IsRun free at k v → IsRun (spread n free) (n * at) (n * k) v
spread_run n free at k v run =
    ((spread n run.0.0, spread n run.0.1), ap (spread n) run.1 ∙ parts n run.0.0 run.0.1 k v, length-spread n run.0.0 ∙ ap (λ (j : ℕ). n * j) run.2)

pub spread_marked : (n : ℕ) (free : List Bool) (at k : ℕ) (u v : Bool) → IsRun free at k u → spread n (marked free at k v) ≡ marked (spread n free) (n * at) (n * k) v
unfolding spread_run
spread_marked n free at k u v run =
    ap (spread n) (marked_run free at k u v run) ∙ parts n run.0.0 run.0.1 k v ∙ sym (marked_run (spread n free) (n * at) (n * k) u v (spread_run n free at k u run))

-- The bytes of free units, cut out of the rest and put back. Assumes `Logic`.
use Rattle.tlsf_arena.proofs.Walking.{◌≡◌, ℕ, zero, suc, ◌+◌, ◌*◌, Bool, true, false, List, [], ◌∷◌, ◌++◌, length, replicate, refl, sym, ap, ◌∙◌, arith, length-append, length-replicate, free_rooms, IsRun, marked, Ura, SProp, ent, sep, via, froom, ftrue, Logic, sem, ‵, ◌⊛◌, ◌$◌, ◌∵◌, !, qed, by, move, lose, use1, use2, split, fsplit, fjoin, rewrite, done, nothing, units_of, cuts, glues, resized}
use Rattle.tlsf_arena.proofs.Common.{append_assoc, drop}
use Rattle.std.proofs.lemmas.List.{drop_at, take_at}

-- ---- maps

pub drop_both : (xs ys zs : List Bool) → drop (length xs + length ys) (xs ++ (ys ++ zs)) ≡ zs
drop_both xs ys zs = ap (drop (length xs + length ys)) (sym (append_assoc xs ys zs)) ∙ drop_at (xs ++ ys) zs (length xs + length ys) (length-append xs ys)

pub marked_is : (p q : List Bool) (k : ℕ) (u v : Bool) → marked (p ++ (replicate k u ++ q)) (length p) k v ≡ p ++ (replicate k v ++ q)
marked_is p q k u v =
    let many : length p + k ≡ length p + length (replicate k u) = ap (λ (n : ℕ). length p + n) (sym (length-replicate {A = Bool} k u)) in
    let back = ap (λ (n : ℕ). drop n (p ++ (replicate k u ++ q))) many ∙ drop_both p (replicate k u) q in
    λ i. (take_at p (replicate k u ++ q) (length p) refl) i ++ (replicate k v ++ back i)

pub marked_run : (free : List Bool) (at k : ℕ) (u v : Bool) (run : IsRun free at k u) → marked free at k v ≡ run.0.0 ++ (replicate k v ++ run.0.1)
marked_run free at k u v run = (λ i. marked (run.1 i) (sym run.2 i) k v) ∙ marked_is run.0.0 run.0.1 k u v

pub same_length : (p q : List Bool) (k : ℕ) (u v : Bool) → length (p ++ (replicate k u ++ q)) ≡ length (p ++ (replicate k v ++ q))
same_length p q k u v =
    omega (arith, length-append p (replicate k u ++ q), length-append p (replicate k v ++ q), length-append (replicate k u) q, length-append (replicate k v) q, length-replicate {A = Bool} k u, length-replicate {A = Bool} k v)

pub marked_length : (free : List Bool) (at k : ℕ) (u v : Bool) → IsRun free at k u → length (marked free at k v) ≡ length free
marked_length free at k u v run = ap length (marked_run free at k u v run) ∙ same_length run.0.0 run.0.1 k v u ∙ ap length (sym run.1)

-- ---- rooms

module _ {M : Type 1} {𝓤 : Ura M} (𝓛 : Logic 𝓤) (b : ℕ) where
  open 𝓛 use {H}

  abbrev Pr : Type 2
  Pr = SProp 𝓤

  abbrev ◌⊢◌ : Pr → Pr → Type 1
  P ⊢ Q = ent 𝓤 P Q

  abbrev ◌∗◌ : Pr → Pr → Pr
  P ∗ Q = sep 𝓤 P Q

  infix 26 ◌⊢◌
  infixr 35 ◌∗◌
  abbrev bytes : ℕ → ℕ → Pr
  bytes x n = H.room (units_of n) b x

  abbrev rooms : ℕ → List Bool → Pr
  rooms x free = sem 𝓛 (free_rooms b x free)

  moved : (x y : ℕ) (free : List Bool) → x ≡ y → rooms x free ⊢ rooms y free
  moved x y free same = qed 𝓛 (‵ (free_rooms b x free) ∷ []) ∵ rewrite ! 0 (λ (d : ℕ). ‵ (free_rooms b d free)) same refl $ done !

  pub parts : (x : ℕ) (xs ys : List Bool) → rooms x (xs ++ ys) ⊢ rooms x xs ∗ rooms (x + 16 * length xs) ys
  parts x [] ys = qed 𝓛 (‵ (free_rooms b x ys) ∷ []) ∵ use1 𝓛 (‵ (free_rooms b (x + 16 * 0) ys)) (moved x (x + 16 * 0) ys (omega arith)) $ nothing ! $ done !
  parts x (true ∷ xs) ys = qed 𝓛 (‵ (free_rooms b x (true ∷ xs ++ ys)) ∷ []) ∵ fsplit ! $ move ! (1 ∷ []) $
      use1 𝓛 (‵ (free_rooms b (x + 16) xs) ⊛ ‵ (free_rooms b (x + 16 + 16 * length xs) ys)) (parts (x + 16) xs ys) $ split ! $ move ! (1 ∷ []) $
      use1 𝓛 (‵ (free_rooms b (x + 16 * suc (length xs)) ys)) (moved (x + 16 + 16 * length xs) (x + 16 * suc (length xs)) ys (omega arith)) $ move ! (2 ∷ 1 ∷ []) $ fjoin ! $ done !
  parts x (false ∷ xs) ys = qed 𝓛 (‵ (free_rooms b (x + 16) (xs ++ ys)) ∷ []) ∵
      use1 𝓛 (‵ (free_rooms b (x + 16) xs) ⊛ ‵ (free_rooms b (x + 16 + 16 * length xs) ys)) (parts (x + 16) xs ys) $ split ! $ move ! (1 ∷ []) $
      use1 𝓛 (‵ (free_rooms b (x + 16 * suc (length xs)) ys)) (moved (x + 16 + 16 * length xs) (x + 16 * suc (length xs)) ys (omega arith)) $ move ! (1 ∷ []) $ done !

  pub puts : (x : ℕ) (xs ys : List Bool) → rooms x xs ∗ rooms (x + 16 * length xs) ys ⊢ rooms x (xs ++ ys)
  puts x [] ys = qed 𝓛 (‵ ftrue ∷ ‵ (free_rooms b (x + 16 * 0) ys) ∷ []) ∵ lose ! $ by ! (moved (x + 16 * 0) x ys (omega arith))
  puts x (true ∷ xs) ys = qed 𝓛 (‵ (free_rooms b x (true ∷ xs)) ∷ ‵ (free_rooms b (x + 16 * suc (length xs)) ys) ∷ []) ∵ move ! (1 ∷ []) $
      use1 𝓛 (‵ (free_rooms b (x + 16 + 16 * length xs) ys)) (moved (x + 16 * suc (length xs)) (x + 16 + 16 * length xs) ys (omega arith)) $ move ! (1 ∷ []) $ fsplit ! $ move ! (1 ∷ 2 ∷ []) $
      use2 𝓛 (‵ (free_rooms b (x + 16) (xs ++ ys))) (puts (x + 16) xs ys) $ move ! (1 ∷ []) $ fjoin ! $ done !
  puts x (false ∷ xs) ys = qed 𝓛 (‵ (free_rooms b (x + 16) xs) ∷ ‵ (free_rooms b (x + 16 * suc (length xs)) ys) ∷ []) ∵ move ! (1 ∷ []) $
      use1 𝓛 (‵ (free_rooms b (x + 16 + 16 * length xs) ys)) (moved (x + 16 * suc (length xs)) (x + 16 + 16 * length xs) ys (omega arith)) $ move ! (1 ∷ []) $
      by ! (puts (x + 16) xs ys)

  pub whole : (x n : ℕ) → rooms x (replicate (suc n) true) ⊢ bytes x (16 * suc n)
  whole x zero = qed 𝓛 (‵ (free_rooms b x (true ∷ [])) ∷ []) ∵ fsplit ! $ move ! (1 ∷ []) $ lose ! $ by ! (resized 𝓛 b x 16 (16 * 1) (omega arith))
  whole x (suc n) = qed 𝓛 (‵ (free_rooms b x (true ∷ replicate (suc n) true)) ∷ []) ∵ fsplit ! $ move ! (1 ∷ []) $
      use1 𝓛 (‵ (froom (units_of (16 * suc n)) b (x + 16))) (whole (x + 16) n) $ move ! (1 ∷ []) $
      use2 𝓛 (‵ (froom (units_of (16 + 16 * suc n)) b x)) (glues 𝓛 b x 16 (16 * suc n) refl) $ by ! (resized 𝓛 b x (16 + 16 * suc n) (16 * suc (suc n)) (omega arith))

  pub cut_up : (x n : ℕ) → bytes x (16 * suc n) ⊢ rooms x (replicate (suc n) true)
  cut_up x zero = qed 𝓛 (‵ (froom (units_of (16 * 1)) b x) ∷ []) ∵ use1 𝓛 (‵ (froom (units_of 16) b x)) (resized 𝓛 b x (16 * 1) 16 (omega arith)) $ nothing ! $ move ! (1 ∷ []) $ fjoin ! $ done !
  cut_up x (suc n) = qed 𝓛 (‵ (froom (units_of (16 * suc (suc n))) b x) ∷ []) ∵
      use1 𝓛 (‵ (froom (units_of (16 + 16 * suc n)) b x)) (resized 𝓛 b x (16 * suc (suc n)) (16 + 16 * suc n) (omega arith)) $
      use1 𝓛 (‵ (froom (units_of 16) b x) ⊛ ‵ (froom (units_of (16 * suc n)) b (x + 16))) (cuts 𝓛 b x 16 (16 * suc n) refl) $ split ! $ move ! (1 ∷ []) $
      use1 𝓛 (‵ (free_rooms b (x + 16) (replicate (suc n) true))) (cut_up (x + 16) n) $ move ! (1 ∷ []) $ fjoin ! $ done !

  -- held units have no room
  skip : (x k : ℕ) (ys : List Bool) → rooms x (replicate k false ++ ys) ⊢ rooms (x + 16 * k) ys
  skip x zero ys = moved x (x + 16 * 0) ys (omega arith)
  skip x (suc k) ys = via 𝓤 (rooms (x + 16 + 16 * k) ys) (skip (x + 16) k ys) (moved (x + 16 + 16 * k) (x + 16 * suc k) ys (omega arith))

  unskip : (x k : ℕ) (ys : List Bool) → rooms (x + 16 * k) ys ⊢ rooms x (replicate k false ++ ys)
  unskip x zero ys = moved (x + 16 * 0) x ys (omega arith)
  unskip x (suc k) ys = via 𝓤 (rooms (x + 16 + 16 * k) ys) (moved (x + 16 * suc k) (x + 16 + 16 * k) ys (omega arith)) (unskip (x + 16) k ys)

  -- some free units are held from now on
  pub lends : (x : ℕ) (p q : List Bool) (k : ℕ) → rooms x (p ++ (replicate (suc k) true ++ q)) ⊢ rooms x (p ++ (replicate (suc k) false ++ q)) ∗ bytes (x + 16 * length p) (16 * suc k)
  lends x p q k =
      let y = x + 16 * length p in let n = suc k in
      qed 𝓛 (‵ (free_rooms b x (p ++ (replicate n true ++ q))) ∷ []) ∵
      use1 𝓛 (‵ (free_rooms b x p) ⊛ ‵ (free_rooms b y (replicate n true ++ q))) (parts x p (replicate n true ++ q)) $ split ! $ move ! (1 ∷ []) $
      use1 𝓛 (‵ (free_rooms b y (replicate n true)) ⊛ ‵ (free_rooms b (y + 16 * length (replicate n true)) q)) (parts y (replicate n true) q) $ split ! $
      use1 𝓛 (‵ (froom (units_of (16 * n)) b y)) (whole y k) $ move ! (1 ∷ []) $
      use1 𝓛 (‵ (free_rooms b (y + 16 * n) q)) (moved (y + 16 * length (replicate n true)) (y + 16 * n) q (omega (arith, length-replicate {A = Bool} n true))) $
      use1 𝓛 (‵ (free_rooms b y (replicate n false ++ q))) (unskip y n q) $ move ! (2 ∷ 0 ∷ []) $
      use2 𝓛 (‵ (free_rooms b x (p ++ (replicate n false ++ q)))) (puts x p (replicate n false ++ q)) $ done !

  -- and some held units are free again
  pub takes : (x : ℕ) (p q : List Bool) (k : ℕ) → rooms x (p ++ (replicate (suc k) false ++ q)) ∗ bytes (x + 16 * length p) (16 * suc k) ⊢ rooms x (p ++ (replicate (suc k) true ++ q))
  takes x p q k =
      let y = x + 16 * length p in let n = suc k in
      qed 𝓛 (‵ (free_rooms b x (p ++ (replicate n false ++ q))) ∷ ‵ (froom (units_of (16 * n)) b y) ∷ []) ∵
      use1 𝓛 (‵ (free_rooms b x p) ⊛ ‵ (free_rooms b y (replicate n false ++ q))) (parts x p (replicate n false ++ q)) $ split ! $ move ! (1 ∷ []) $
      use1 𝓛 (‵ (free_rooms b (y + 16 * n) q)) (skip y n q) $
      use1 𝓛 (‵ (free_rooms b (y + 16 * length (replicate n true)) q)) (moved (y + 16 * n) (y + 16 * length (replicate n true)) q (omega (arith, length-replicate {A = Bool} n true))) $ move ! (2 ∷ []) $
      use1 𝓛 (‵ (free_rooms b y (replicate n true))) (cut_up y k) $ move ! (0 ∷ 1 ∷ []) $
      use2 𝓛 (‵ (free_rooms b y (replicate n true ++ q))) (puts y (replicate n true) q) $ move ! (1 ∷ 0 ∷ []) $
      use2 𝓛 (‵ (free_rooms b x (p ++ (replicate n true ++ q)))) (puts x p (replicate n true ++ q)) $ done !

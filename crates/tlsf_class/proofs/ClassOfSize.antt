-- The class and the search class of a size, by the least sizes below and above it.
use Rattle.tlsf_class.proofs.Common.{◌≡◌, ℕ, zero, suc, ◌+◌, ◌-◌, ◌<◌, ◌≤◌, nat_le, true, false, Some, None, sym, ap, ◌∙◌, inl, inr, arith, false≢true, cases_lt, le-leb, lt-leb, leb-true, IsLevel, last_class, most_words, low, classes, class_of, search_of, serves}
use Rattle.std.specs.Option.{option_map_or}
use Rattle.tlsf_class.proofs.RangeSearch.{find-range, find-range_none, greatest-range, greatest-range_none}
use Rattle.tlsf_class.proofs.Lows.{low-next, low-rises, low-rises_or_same, low-first, low-last}
use Rattle.tlsf_class.proofs.TwoLevels.{bounds_of}

module _ (sli : ℕ) (level : IsLevel sli) where
  -- a class whose least size is at most n and below the last, whose next one is above n, is the class of n
  pub class_of-between : (n c : ℕ) → 4 ≤ c → c ≤ last_class sli → low sli c ≤ n → (c < last_class sli → n < low sli (c + 1)) → class_of sli n ≡ c
  unfolding classes class_of
  class_of-between n c least most reached passed =
      greatest-range (λ k. nat_le (low sli k) n) c 0 4 (last_class sli - 3) least (omega arith) (omega arith)
      (λ d l g. le-leb (low sli d) n (omega (arith, low-rises_or_same sli level c c (omega arith) (omega arith), low-rises_or_same sli level d c g (omega arith))))
      (λ d l g. lt-leb (low sli d) n (omega (arith, passed (omega arith), low-rises_or_same sli level (c + 1) d (omega arith) (omega arith))))

  -- the class of the least size of a class is that class
  pub class_of-low : (c : ℕ) → 4 ≤ c → c ≤ last_class sli → class_of sli (low sli c) ≡ c
  class_of-low c least most = class_of-between (low sli c) c least most (omega arith) (λ below. low-next sli level c most)

  -- below the first class there is none, and the number is 0
  pub class_of-small : (n : ℕ) → n < 4 → class_of sli n ≡ 0
  unfolding classes class_of
  class_of-small n small =
      greatest-range_none (λ k. nat_le (low sli k) n) 0 4 (last_class sli - 3)
      (λ d l g. lt-leb (low sli d) n (omega (arith, low-first sli level, low-rises_or_same sli level 4 d l (omega arith))))

  -- a class whose least size is at least n, and that of the class before is below n, is the search class of n
  pub search_of-between : (n c : ℕ) → 4 ≤ c → c ≤ last_class sli → n ≤ low sli c → (4 < c → low sli (c - 1) < n) → search_of sli n ≡ Some c
  unfolding classes search_of
  search_of-between n c least most reached passed =
      find-range (λ k. nat_le n (low sli k)) c 4 (last_class sli - 3) least (omega arith) (le-leb n (low sli c) reached)
      (λ d l g. lt-leb n (low sli d) (omega (arith, passed (omega arith), low-rises_or_same sli level d (c - 1) (omega arith) (omega arith))))

  -- no class serves more than the words of the largest region
  pub search_of-above : (n : ℕ) → most_words sli < n → search_of sli n ≡ None
  unfolding classes search_of
  search_of-above n above =
      find-range_none (λ k. nat_le n (low sli k)) 4 (last_class sli - 3)
      (λ d l g. lt-leb n (low sli d) (omega (arith, low-last sli level, low-rises_or_same sli level d (last_class sli) (omega arith) (omega arith))))

  -- what the class of n words is
  pub record IsClassOf (n c : ℕ) : Type 0 where
    pub least : 4 ≤ c
    pub most : c ≤ last_class sli
    pub reached : low sli c ≤ n
    pub passed : c < last_class sli → n < low sli (c + 1)
    pub number : class_of sli n ≡ c

  -- going down from class 4 + k, above which n lies below each least size
  down_from : (n k : ℕ) → 4 ≤ n → k ≤ (last_class sli - 4) → (4 + k < last_class sli → n < low sli (4 + k + 1)) → (c : ℕ) × IsClassOf n c
  down_from n zero h l above =
      let reached : low sli 4 ≤ n = omega (arith, low-first sli level) in
      (4, record { least = omega arith; most = omega (arith, (bounds_of sli level).last_least); reached = reached; passed = above; number = class_of-between n 4 (omega arith) (omega (arith, (bounds_of sli level).last_least)) reached above })
  down_from n (suc k) h l above = elim (cases_lt n (low sli (4 + suc k))) [
    | inl below ↦ let e : 4 + suc k ≡ 4 + k + 1 = omega arith in down_from n k h (omega arith) (λ _. rw e at below)
    | inr reached ↦ (4 + suc k, record { least = omega arith; most = omega arith; reached = reached; passed = above; number = class_of-between n (4 + suc k) (omega arith) (omega arith) reached above })
  ]

  -- each size from 4 words on has a class, its least size is at most n, and that of the next class is above n
  pub class_of-is : (n : ℕ) → 4 ≤ n → IsClassOf n (class_of sli n)
  class_of-is n h =
      let found = down_from n (last_class sli - 4) h (omega arith) (λ below. absurd (omega arith)) in
      rw found.1.number found.1

  -- the same with no condition at the last class, for the sizes that a region may have
  pub record HasClass (n : ℕ) : Type 0 where
    pub least : 4 ≤ class_of sli n
    pub most : class_of sli n ≤ last_class sli
    pub reached : low sli (class_of sli n) ≤ n
    pub passed : n < low sli (class_of sli n + 1)

  -- each of those sizes has it
  pub class_of-bounds : (n : ℕ) → 4 ≤ n → n ≤ most_words sli → HasClass n
  class_of-bounds n h g =
      let is = class_of-is n h in
      record { least = is.least; most = is.most; reached = is.reached; passed = next is }
    where
      next : IsClassOf n (class_of sli n) → n < low sli (class_of sli n + 1)
      next is = elim (cases_lt (class_of sli n) (last_class sli)) [
        | inl below ↦ is.passed below
        | inr last ↦ let e : class_of sli n ≡ last_class sli = omega (arith, is.most) in omega (arith, low-last sli level, low-next sli level (class_of sli n) is.most, ap (low sli) e)
      ]

  -- a greater size has no lower class
  pub class_of-rises : (m n : ℕ) → m ≤ n → class_of sli m ≤ class_of sli n
  class_of-rises m n h = elim (cases_lt m 4) [
    | inl small ↦ omega (arith, class_of-small m small)
    | inr large ↦ by_lows (class_of-is m large) (class_of-is n (omega arith))
  ]
    where
      by_lows : IsClassOf m (class_of sli m) → IsClassOf n (class_of sli n) → class_of sli m ≤ class_of sli n
      by_lows a b = elim (cases_lt (class_of sli n) (class_of sli m)) [
        | inl lower ↦ absurd (omega (arith, a.reached, a.most, b.passed (omega (arith, a.most)), low-rises_or_same sli level (class_of sli n + 1) (class_of sli m) (omega arith) (omega (arith, a.most))))
        | inr fine ↦ fine
      ]

  -- the search class: its least size is at least n, and that of the class before is below n
  pub record IsSearchOf (n c : ℕ) : Type 0 where
    pub least : 4 ≤ c
    pub most : c ≤ last_class sli
    pub enough : n ≤ low sli c
    pub tight : 4 < c → low sli (c - 1) < n
    pub found : search_of sli n ≡ Some c

  -- a class between those bounds is the search class
  IsSearchOf-between : (n c : ℕ) → 4 ≤ c → c ≤ last_class sli → n ≤ low sli c → (4 < c → low sli (c - 1) < n) → IsSearchOf n c
  IsSearchOf-between n c a b h g = record { least = a; most = b; enough = h; tight = g; found = search_of-between n c a b h g }

  -- where the class of n begins at n, it is the search class too
  pub search_of-same : (n : ℕ) → 4 ≤ n → low sli (class_of sli n) ≡ n → IsSearchOf n (class_of sli n)
  search_of-same n h e =
      let is = class_of-is n h in
      IsSearchOf-between n (class_of sli n) is.least is.most (omega arith)
      (λ g. omega (arith, low-rises sli level (class_of sli n - 1) (class_of sli n) (omega arith) (omega (arith, is.most))))

  -- else the search class is the next one
  pub search_of-next : (n : ℕ) → 4 ≤ n → n ≤ most_words sli → low sli (class_of sli n) < n → (class_of sli n < last_class sli) × IsSearchOf n (class_of sli n + 1)
  search_of-next n h g above =
      let is = class_of-bounds n h g in
      let below : class_of sli n < last_class sli = elim (cases_lt (class_of sli n) (last_class sli)) [
        | inl l ↦ l
        | inr last ↦ let e : class_of sli n ≡ last_class sli = omega (arith, is.most) in absurd (omega (arith, low-last sli level, ap (low sli) e))
      ] in
      let e : class_of sli n + 1 - 1 ≡ class_of sli n = omega arith in
      (below, IsSearchOf-between n (class_of sli n + 1) (omega (arith, is.least)) (omega arith) (omega (arith, is.passed)) (λ _. rw e above))

  -- each size up to the words of the largest region has a search class
  pub search_of-is : (n : ℕ) → n ≤ most_words sli → (c : ℕ) × IsSearchOf n c
  search_of-is n g = elim (cases_lt n 5) [
    | inl small ↦ (4, IsSearchOf-between n 4 (omega arith) (omega (arith, (bounds_of sli level).last_least)) (omega (arith, low-first sli level)) (λ l. absurd (omega arith)))
    | inr large ↦ elim (cases_lt (low sli (class_of sli n)) n) [
      | inl above ↦ (class_of sli n + 1, (search_of-next n (omega arith) g above).1)
      | inr fine ↦ (class_of sli n, search_of-same n (omega arith) (omega (arith, (class_of-is n (omega arith)).reached)))
    ]
  ]

  -- a block of m words in a class that serves a request is large enough for it
  pub le_from_serves : (n m : ℕ) → serves sli (class_of sli m) n ≡ true → n ≤ m
  le_from_serves n m h = elim (cases_lt (most_words sli) n) [
    | inl above ↦ absurd (false≢true (ap (λ o. option_map_or (λ least. nat_le least (class_of sli m)) o false) (sym (search_of-above n above)) ∙ h))
    | inr within ↦ by_search (search_of-is n within)
  ]
    where
      by_search : ((c : ℕ) × IsSearchOf n c) → n ≤ m
      by_search (c, is) =
          let under : c ≤ class_of sli m = leb-true c (class_of sli m) (ap (λ o. option_map_or (λ least. nat_le least (class_of sli m)) o false) (sym is.found) ∙ h) in
          elim (cases_lt m 4) [
            | inl small ↦ absurd (omega (arith, is.least, class_of-small m small))
            | inr large ↦ let reaches = class_of-is m large in omega (arith, is.enough, reaches.reached, low-rises_or_same sli level c (class_of sli m) under (omega (arith, reaches.most)))
          ]

  -- and a class serves a request of n words exactly from its search class on
  pub serves-from : (n c d : ℕ) → search_of sli n ≡ Some c → serves sli d n ≡ nat_le c d
  serves-from n c d e = ap (λ o. option_map_or (λ least. nat_le least d) o false) e

-- The calls of a script, one after another, by a worker with ports of any kind.
use Rattle.tlsf_crew.proofs.Common.{[], ◌∷◌, ◌++◌, ◌≡◌, ℕ, ◌+◌, ◌<◌, ◌≤◌, List, Option, length, get_or, take, sym, ◌∙◌, ap, arith, refl, subst, append_assoc, length-append, take_more, Name, Worker, Entry, Call, Reply, heap_of, id_of, Progress, AllTold, untold, sum_of, AreMoves, CallMade, ScriptRun, Stage, Step, ScriptPromise, at_stage, told_at, made_by}
use Rattle.tlsf_crew.specs.scripts.Scripts.{entry_by}

pub tell_more : (tells : Progress → Call → Progress → Type 0) (s u t : Progress) (calls : List Call) (call : Call) → AllTold tells s calls u → tells u call t → AllTold tells s (calls ++ call ∷ []) t
tell_more tells s u t [] call all more = (t, subst (λ (x : Progress). tells x call t) all more, refl)
tell_more tells s u t (first ∷ calls) call all more = (all.0, all.1, tell_more tells all.0 u t calls call all.2 more)

-- ---- the own entry

module _ {sli : ℕ} {P : Type 0} (by : ScriptPromise sli P) (m : AreMoves by) where
  pub step_called : (n : ℕ) (s t : Stage sli P) (call : Call) (made more : List (Option Name)) (longer : List Entry) (at : ℕ) (reply : Reply) → Step by n s call made t reply
      → at ≡ id_of t.worker → more ≡ made ++ made_by reply ∷ [] → longer ≡ t.entries ++ entry_by at call reply ∷ [] → CallMade by n s call made (at_stage t.worker t.limits longer) more
  step_called n s t call made more longer at reply x is e f =
      let q : at ≡ id_of s.worker = is ∙ m.number (id_of s.worker) (made ++ []) s.worker t.worker s.limits t.limits (call ∷ []) _ (x.moved []) in
      let z = entry_by (id_of s.worker) call reply in
      let g : longer ≡ t.entries ++ z ∷ [] = f ∙ ap (λ (i : ℕ). t.entries ++ entry_by i call reply ∷ []) q in
      record {
        name = made_by reply;
        made_are = e;
        own = x.own ++ z ∷ [];
        entries_are = g ∙ (ap (λ l. l ++ z ∷ []) x.entries_are ∙ append_assoc s.entries x.own (z ∷ []));
        told = rw (e, g) x.told;
        moved = x.moved;
      }

  -- there is room for the own entry
  pub step_room : (n : ℕ) (s t : Stage sli P) (call : Call) (made : List (Option Name)) (reply : Reply) → Step by n s call made t reply → length t.entries + 1 + sum_of t.limits ≤ length s.entries + 1 + sum_of s.limits
  step_room n s t call made reply x =
      let r = m.room (id_of s.worker) (made ++ []) s.worker t.worker s.limits t.limits (call ∷ []) _ (x.moved []) in
      omega (arith, r, length-append x.own (entry_by (id_of s.worker) call reply ∷ []), ap length x.entries_are, length-append s.entries x.own)

  -- ---- a script

  pub script_none : (n : ℕ) (a : Worker sli P) (limits : List ℕ) (made : List (Option Name)) (entries : List Entry) → made ≡ [] → entries ≡ [] → ScriptRun by n a limits [] made (at_stage a limits entries)
  script_none n a limits made entries e f = rw (e, f) (record { told = refl; names = refl; moved = λ rest. m.none rest a limits })

  script_more : (n : ℕ) (a : Worker sli P) (limits : List ℕ) (calls : List Call) (call : Call) (made more : List (Option Name)) (s t : Stage sli P) → ScriptRun by n a limits calls made s
      → CallMade by n s call made t more → ScriptRun by n a limits (calls ++ call ∷ []) more t
  script_more n a limits calls call made more s t x y =
      let at = id_of a in
      let q : id_of s.worker ≡ at = m.number at (made ++ []) a s.worker limits s.limits calls s.entries (x.moved []) in
      record {
        told = tell_more (by.tells n at) (untold (heap_of a)) _ _ calls call x.told (subst (λ i. by.tells n i (told_at made s) call (told_at more t)) q y.told);
        names = ap length y.made_are ∙ omega (arith, length-append made (y.name ∷ []), length-append calls (call ∷ []), x.names);
        moved = λ rest.
            let later = made ++ y.name ∷ rest in
            let e : later ≡ more ++ rest = sym (append_assoc made (y.name ∷ []) rest) ∙ ap (λ l. l ++ rest) (sym y.made_are) in
            let second = subst (λ i. by.moves i later s.worker s.limits (call ∷ []) y.own t.worker t.limits) q (y.moved (y.name ∷ rest)) in
            let both = m.then at later a s.worker t.worker limits s.limits t.limits calls (call ∷ []) s.entries y.own (x.moved (y.name ∷ rest)) second in
            rw (← e, y.entries_are) both;
      }

  -- the next call of a script
  pub script_next : (n : ℕ) (a : Worker sli P) (limits : List ℕ) (script : List Call) (k : ℕ) (d : Call) (made more : List (Option Name)) (s t : Stage sli P) → k < length script
      → ScriptRun by n a limits (take k script) made s → CallMade by n s (get_or script k d) made t more → ScriptRun by n a limits (take (k + 1) script) more t
  script_next n a limits script k d made more s t lt x y =
      subst (λ calls. ScriptRun by n a limits calls more t) (sym (take_more script k d lt)) (script_more n a limits (take k script) (get_or script k d) made more s t x y)

  pub script_knows : (n : ℕ) (a : Worker sli P) (limits : List ℕ) (calls : List Call) (made : List (Option Name)) (t : Stage sli P) → ScriptRun by n a limits calls made t → by.knows n a → by.knows n t.worker
  script_knows n a limits calls made t x k = m.known (id_of a) (made ++ []) a t.worker limits t.limits calls t.entries (x.moved []) n k

  pub script_room : (n : ℕ) (a : Worker sli P) (limits : List ℕ) (calls : List Call) (made : List (Option Name)) (t : Stage sli P) → ScriptRun by n a limits calls made t
      → length t.entries + sum_of t.limits ≤ length calls + sum_of limits
  script_room n a limits calls made t x = m.room (id_of a) (made ++ []) a t.worker limits t.limits calls t.entries (x.moved [])

-- The memory of labels, one line later.
use Rattle.tlsf_lines.proofs.Common.{◌≡◌, ℕ, ◌+◌, ◌≤◌, Bool, true, false, cond, eqb, List, [], ◌∷◌, Option, Some, None, IfSome, nat_eq, refl, ap, ◌∙◌, arith, ne_eqb, IsSet, kept_of, RecallsCall, width_in, Memory, Recalls, Remembers, event_by, when_made, Line, Allocate, Phase}
use Rattle.tlsf_lines.specs.Labels.{Earlier, Made, Now, at_phase, made_of}
use Rattle.tlsf_lines.specs.declared.maker.Maker.{Maker}

-- ---- where a phase ends

earlier : (worker : ℕ) (b : Bool) → Earlier ≡ at_phase (cond b (Now worker) Earlier)
earlier worker true = refl
earlier worker false = refl

-- what was made, was made in an earlier phase
later : (phase : ℕ) (maker : Option Maker) → IfSome maker (λ m. m.phase ≤ phase) → when_made (phase + 1) maker ≡ at_phase (when_made phase maker)
later phase None past = refl
later phase (Some maker) past =
    let other : eqb maker.phase (phase + 1) ≡ false = ne_eqb maker.phase (phase + 1) (λ same. omega (arith, past, same)) in
    rw other (earlier maker.worker (eqb maker.phase phase))

still_past : (phase : ℕ) (maker : Option Maker) → IfSome maker (λ m. m.phase ≤ phase) → IfSome maker (λ m. m.phase ≤ phase + 1)
still_past phase None past = tt
still_past phase (Some maker) past = omega (arith, past)

pub phase_ends : (memory : Memory) (before : List Line) → Remembers memory before
    → Remembers (record { phase = memory.phase + 1; made = memory.made }) (Phase ∷ before)
phase_ends memory before known = record {
  tells = λ label. later memory.phase (kept_of memory.made label) (known.past label) ∙ ap at_phase (known.tells label);
  past = λ label. still_past memory.phase (kept_of memory.made label) (known.past label);
}

-- ---- where a label is made

same_phase : (phase : ℕ) → eqb phase phase ≡ true
same_phase phase = grind arith

chosen : (b : Bool) (phase : ℕ) (new : Maker) (maker : Option Maker) (made : Made) → new.phase ≡ phase → when_made phase maker ≡ made
    → when_made phase (cond b (Some new) maker) ≡ cond b (Now new.worker) made
chosen true phase new maker made now is = rw (now, same_phase phase) refl
chosen false phase new maker made now is = is

chosen_past : (b : Bool) (phase : ℕ) (new : Maker) (maker : Option Maker) → new.phase ≡ phase → IfSome maker (λ m. m.phase ≤ phase)
    → IfSome (cond b (Some new) maker) (λ m. m.phase ≤ phase)
chosen_past true phase new maker now past = omega (arith, now)
chosen_past false phase new maker now past = past

chosen_event : (b : Bool) (new : Maker) (maker : Option Maker) → event_by (cond b (Some new) maker) ≡ cond b (Some new.event) (event_by maker)
chosen_event true new maker = refl
chosen_event false new maker = refl

module _ (memory : Memory) (made : List (Option Maker)) (before : List Line) (label len : ℕ) (maker : Maker) (updated : IsSet memory.made made label (Some maker)) where
  pub label_made : maker.phase ≡ memory.phase → Remembers memory before
      → Remembers (record { phase = memory.phase; made = made }) (Allocate maker.worker label len ∷ before)
  label_made now known = record {
    tells = λ q. ap (when_made memory.phase) (updated q) ∙ chosen (nat_eq label q) memory.phase maker (kept_of memory.made q) (made_of q before) now (known.tells q);
    past = λ q. rw (updated q) (chosen_past (nat_eq label q) memory.phase maker (kept_of memory.made q) now (known.past q));
  }

  pub label_recalled : (workers : ℕ) → maker.event ≡ width_in workers before → Recalls workers memory before
      → Recalls workers (record { phase = memory.phase; made = made }) (Allocate maker.worker label len ∷ before)
  label_recalled workers at known = λ q.
      ap event_by (updated q) ∙ (chosen_event (nat_eq label q) maker (kept_of memory.made q) ∙ rw (at, known q) refl)

-- ---- the call that makes a label

pub IfSome-weaker : {A : Type 0} (P Q : A → Type 0) → ((x : A) → P x → Q x) → (o : Option A) → IfSome o P → IfSome o Q
IfSome-weaker P Q weaker None is = tt
IfSome-weaker P Q weaker (Some x) is = weaker x is

module _ (old new : List (Option ℕ)) (label : ℕ) (updated : IsSet old new label None) where
  pub forgotten : RecallsCall new [] label
  forgotten = updated label ∙ rw (same_phase label) refl

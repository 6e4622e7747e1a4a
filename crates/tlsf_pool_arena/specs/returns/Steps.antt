-- The knowledge that each step gives the seat that makes it.
use Rattle.std.specs.Prelude.{◌≡◌, ◌≢◌, ℕ, Bool, true, false, List, [], ◌∷◌, ◌++◌, Option, Some, None, slice_get, slice_set}
use mathlib.Core.Option.{some}
use Rattle.atomic_table.specs.Table.{Me, Step, rest}
use Rattle.tlsf_pool_arena.specs.declared.returns.role.Role.{Role}
use Rattle.tlsf_pool_arena.specs.declared.returns.role.Role.TheVariants.{Owns, Sends, Takes, Away, Puts, Gave}

abbrev pub Seated : Type 0 → Type 0
Seated T = Me (Option T) (Role T)

module _ {T : Type 0} where
  -- what the owner knows to be away by each slot
  abbrev pub out_by : Role T → List (Option T)
  out_by (Owns out looks) = out
  out_by (Sends out looks at x) = out
  out_by (Takes out looks at) = out
  out_by (Away at x) = []
  out_by (Puts at x) = []
  out_by (Gave at x) = []

  -- the looks that it had at slots, in order: the slot, and whether the value was home then
  abbrev pub looks_by : Role T → List (ℕ × Bool)
  looks_by (Owns out looks) = looks
  looks_by (Sends out looks at x) = looks
  looks_by (Takes out looks at) = looks
  looks_by (Away at x) = []
  looks_by (Puts at x) = []
  looks_by (Gave at x) = []

  -- the slot of a value that goes out or comes home
  abbrev pub slot_of : Role T → ℕ
  slot_of (Owns out looks) = 0
  slot_of (Sends out looks at x) = at
  slot_of (Takes out looks at) = at
  slot_of (Away at x) = at
  slot_of (Puts at x) = at
  slot_of (Gave at x) = at

  abbrev pub value_of : Role T → Option T
  value_of (Owns out looks) = None
  value_of (Sends out looks at x) = Some x
  value_of (Takes out looks at) = None
  value_of (Away at x) = Some x
  value_of (Puts at x) = Some x
  value_of (Gave at x) = Some x

  -- whether it is a ticket's, whose value is away
  abbrev pub is_away : Role T → Bool
  is_away (Owns out looks) = false
  is_away (Sends out looks at x) = false
  is_away (Takes out looks at) = false
  is_away (Away at x) = true
  is_away (Puts at x) = false
  is_away (Gave at x) = false

  abbrev pub announced : Step (Option T) → Seated T → ℕ → Seated T → Type 0
  announced st me found after = (x : T) → st.said ≡ some (Some x) → after ≡ (Sends (out_by me.0) (looks_by me.0) st.word x, me.1)

  -- what the owner knows once the value went out, and what the ticket does
  abbrev pub sent_out : Role T → Role T
  sent_out v = Owns (slice_set (out_by v) (slot_of v) (value_of v)) (looks_by v)

  abbrev pub ticket_of : Role T → Role T
  ticket_of (Sends out looks at x) = Away at x
  ticket_of (Owns out looks) = Owns out looks
  ticket_of (Takes out looks at) = Takes out looks at
  ticket_of (Away at x) = Away at x
  ticket_of (Puts at x) = Puts at x
  ticket_of (Gave at x) = Gave at x

  abbrev pub reached : Step (Option T) → Seated T → ℕ → Seated T → Type 0
  reached st me found after = (x : T) → value_of me.0 ≡ Some x → after ≡ (Puts (slot_of me.0) x, (slot_of me.0, None) ∷ me.1)

  abbrev pub put_back : Step (Option T) → Seated T → ℕ → Seated T → Type 0
  put_back st me found after = (x : T) → value_of me.0 ≡ Some x → after ≡ (Gave (slot_of me.0) x, rest me.1)

  -- a value that came home is the one that is away by the slot
  abbrev pub looked : Step (Option T) → Seated T → ℕ → Seated T → Type 0
  looked st me found after =
      (found ≡ 1 → (x : T) × (slice_get (out_by me.0) st.word ≡ Some (Some x)) × (after ≡ (Takes (out_by me.0) (looks_by me.0 ++ (st.word, true) ∷ []) st.word, (st.word, Some x) ∷ me.1)))
      × (found ≢ 1 → after ≡ (Owns (out_by me.0) (looks_by me.0 ++ (st.word, false) ∷ []), me.1))

  abbrev pub cleared : Step (Option T) → Seated T → ℕ → Seated T → Type 0
  cleared st me found after = after ≡ (Owns (slice_set (out_by me.0) st.word None) (looks_by me.0), rest me.1)

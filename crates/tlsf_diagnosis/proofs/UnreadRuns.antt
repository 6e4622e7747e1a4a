-- A trace that was not read whole.
use Rattle.tlsf_diagnosis.proofs.Common.{◌≡◌, inl, inr, ℕ, List, Option, Some, None, Err, refl, sym, ap, ◌∙◌, arith, IfSome, IsLineFault, fault_numbered, TraceFault}
use Rattle.std.proofs.KnownBytes.{Keeps-refl}
use Rattle.tlsf_lines.specs.Limits.{IsTooLong, Passes}
use Rattle.tlsf_lines.specs.declared.limit.Limit.{Limit}
use Rattle.tlsf_lines.specs.declared.read_error.ReadError.{ReadError}
use Rattle.tlsf_lines.specs.declared.read_error.ReadError.TheVariants.{NoMemory, TooLong, Read}
use Rattle.tlsf_lines.proofs.LongInputs.{if_too_long}
use Rattle.tlsf_trace.specs.Replay.{IsFault, IsRun}
use Rattle.tlsf_diagnosis.specs.Notes.{Describes, Notes}
use Rattle.tlsf_diagnosis.specs.PassedLimits.{NotesUnread}

-- a fault in no line
pub in_no_line : (fault : TraceFault) → fault.line ≡ 0 → IsLineFault fault → ⊥
in_no_line fault none (why, line, from, same) = let at : fault.line ≡ line = ap (λ (f : TraceFault). f.line) same in omega (arith, at, none, from)

-- faults of two numbers are two
pub other_number : (fault : TraceFault) (a b : ℕ) → fault ≡ fault_numbered a → fault ≡ fault_numbered b → a ≡ b
other_number fault a b is also = ap (λ (f : TraceFault). f.no) (sym is ∙ also)

module _ (fault : TraceFault) (left left' held : Option (List ℕ)) where
  -- a run that ends by a fault in no line, before anything is written
  unread : (number : ℕ) → fault ≡ fault_numbered number → (number ≡ 17 → ⊥) → IsFault fault → (number ≡ 15 → IfSome left IsTooLong) → IsRun Describes (Err fault) left left' held held
  unread number is no_write known long = record {
    ok = tt;
    end = tt;
    limits = tt;
    fault = known;
    line = λ of. absurd (in_no_line fault (ap (λ (f : TraceFault). f.line) is) of);
    too_long = λ also. long (other_number fault number 15 is also);
    front = λ also. absurd (no_write (other_number fault number 17 is also));
    kept = λ _. Keeps-refl held;
  }

  lacks_memory : fault ≡ fault_numbered 6 → IsRun Describes (Err fault) left left' held held
  lacks_memory is = unread 6 is (λ no. absurd (omega (arith, no))) (inr (inl is)) (λ no. absurd (omega (arith, no)))

  pub unread_run : (why : ReadError) (old new : List ℕ) → ((limit : Limit) → why ≡ TooLong limit → IfSome left (Passes limit)) → NotesUnread why fault old new
      → IsRun Describes (Err fault) left left' held held
  unread_run NoMemory old new passes told = lacks_memory told.0
  unread_run Read old new passes told = unread 16 told.0 (λ no. absurd (omega (arith, no))) (inr (inr (inr (inl told.0)))) (λ no. absurd (omega (arith, no)))
  unread_run (TooLong limit) old new passes (inl told) =
      unread 15 told.0 (λ no. absurd (omega (arith, no))) (inr (inr (inl told.0))) (λ _. if_too_long limit left (passes limit refl))
  unread_run (TooLong limit) old new passes (inr told) = lacks_memory told.0

-- what is noted of it
unnoted : (text : List ℕ) (fault : TraceFault) (number : ℕ) (old new : List ℕ) → fault ≡ fault_numbered number → (number ≡ 15 → ⊥) → new ≡ old → Notes text fault old new
unnoted text fault number old new is short same = record {
  line = λ of. absurd (in_no_line fault (ap (λ (f : TraceFault). f.line) is) of);
  limit = λ long. absurd (short (other_number fault number 15 is long));
  else = λ _ _. same;
}

noted : (text : List ℕ) (fault : TraceFault) (why : ReadError) (old new : List ℕ) → ((limit : Limit) → why ≡ TooLong limit → Passes limit text) → NotesUnread why fault old new → Notes text fault old new
noted text fault NoMemory old new passes told = unnoted text fault 6 old new told.0 (λ no. absurd (omega (arith, no))) told.1
noted text fault Read old new passes told = unnoted text fault 16 old new told.0 (λ no. absurd (omega (arith, no))) told.1
noted text fault (TooLong limit) old new passes (inl told) = record {
  line = λ of. absurd (in_no_line fault (ap (λ (f : TraceFault). f.line) told.0) of);
  limit = λ _. record { limit = limit; passed = passes limit refl; added = told.1 };
  else = λ _ short. absurd (short told.0);
}
noted text fault (TooLong limit) old new passes (inr told) = unnoted text fault 6 old new told.0 (λ no. absurd (omega (arith, no))) told.1

pub unread_notes : (left : Option (List ℕ)) (fault : TraceFault) (why : ReadError) (old new : List ℕ) → ((limit : Limit) → why ≡ TooLong limit → IfSome left (Passes limit))
    → NotesUnread why fault old new → IfSome left (λ text. Notes text fault old new)
unread_notes None fault why old new passes told = tt
unread_notes (Some text) fault why old new passes told = noted text fault why old new passes told

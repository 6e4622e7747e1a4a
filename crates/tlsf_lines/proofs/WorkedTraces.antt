-- Worked traces, judged by the definitions. Other good and faulty traces are in tests/program/faults.toml.
use Rattle.tlsf_lines.proofs.Common.{◌≡◌, ℕ, List, [], ◌∷◌, ◌++◌, Result, Some, None, Ok, Err, refl, codes, AllByRecursion, events_of, labels_of, Allocate, Drain, Phase, Read, Release, Resize, Write, Line, LineFault, BadLine, LabelOrder, line_from, header_from, header_in, Trace, trace_of, lines_in, judged_line}
use Rattle.hex.proofs.OnLiterals.{hex_on_literals}
use Rattle.tlsf_calls.specs.Bytes.{chunk_of}
use Rattle.tlsf_calls.specs.declared.call.Call.TheVariants as call
use Rattle.tlsf_calls.specs.declared.target.Target.TheVariants.{Made}
use Rattle.tlsf_lines.specs.declared.version.Version.{Version}
use Rattle.tlsf_lines.specs.declared.version.Version.TheVariants.{One, Two}

-- these lines, each with its line feed
abbrev pub text : List (List ℕ) → List ℕ
text [] = []
text (line ∷ lines) = line ++ 10 ∷ text lines

-- a trace of these numbers and lines
abbrev told : Version → (workers words capacity : ℕ) → List Line → Result Trace (LineFault × ℕ)
told version workers words capacity lines = Ok (record { header = record { version = version; workers = workers; words = words; capacity = capacity }; lines = lines })

-- texts, with what they spell
abbrev rows : List (List (List ℕ) × Result Trace (LineFault × ℕ))
rows =
    -- digits of either case spell the bytes of a write
    (codes "tlsf 1 1 64 1" ∷ codes "a 0 1 11" ∷ codes "p 0 1 6 68656c6C6f" ∷ [], told One 1 64 1 (Allocate 0 1 11 ∷ Write 0 1 6 (chunk_of (codes "hello")) ∷ []))
    -- a read
    ∷ (codes "tlsf 1 1 64 1" ∷ codes "a 0 1 11" ∷ codes "g 0 1 4 64" ∷ [], told One 1 64 1 (Allocate 0 1 11 ∷ Read 0 1 4 64 ∷ []))
    -- another worker may ask to resize it after a phase
    ∷ (codes "tlsf 1 2 64 4" ∷ codes "a 0 1 8" ∷ codes "phase" ∷ codes "r 1 1 100" ∷ [], told One 2 64 4 (Allocate 0 1 8 ∷ Phase ∷ Resize 1 1 100 ∷ []))
    -- a drain, and the end of a phase
    ∷ (codes "tlsf 1 2 64 4" ∷ codes "d 1 8192" ∷ codes "phase" ∷ [], told One 2 64 4 (Drain 1 8192 ∷ Phase ∷ []))
    -- its maker uses it at any time
    ∷ (
      codes "tlsf 1 2 64 4" ∷ codes "a 1 1 8" ∷ codes "g 1 1 0 1" ∷ codes "phase" ∷ codes "f 1 1" ∷ [],
      told One 2 64 4 (Allocate 1 1 8 ∷ Read 1 1 0 1 ∷ Phase ∷ Release 1 1 ∷ []),
    )
    -- each number at its greatest
    ∷ (
      codes "tlsf 1 8 1048576 1024" ∷ codes "a 7 65535 4294967295" ∷ codes "g 7 65535 4294967295 64" ∷ [],
      told One 8 1048576 1024 (Allocate 7 65535 4294967295 ∷ Read 7 65535 4294967295 64 ∷ []),
    )
    -- each number at its least
    ∷ (codes "tlsf 1 1 4 1" ∷ codes "a 0 0 0" ∷ codes "g 0 0 0 1" ∷ codes "d 0 1" ∷ [], told One 1 4 1 (Allocate 0 0 0 ∷ Read 0 0 0 1 ∷ Drain 0 1 ∷ []))
    -- version 2, with a heap as large as version 1 has none
    ∷ (codes "tlsf 2 8 16777216 1024" ∷ [], told Two 8 16777216 1024 [])
    -- the shape is judged before the ranges
    ∷ (codes "tlsf 1 2 64 4" ∷ codes "a 9 1 x" ∷ [], Err (BadLine, 2))
    -- another worker uses a label in the phase of its making
    ∷ (codes "tlsf 1 2 64 4" ∷ codes "a 0 1 8" ∷ codes "f 1 1" ∷ [], Err (LabelOrder, 3))
    ∷ []

each_spells : AllByRecursion (λ row. trace_of (text row.0) ≡ row.1) rows
unfolding trace_of lines_in judged_line line_from header_in header_from hex_on_literals
each_spells = (refl, (refl, (refl, (refl, (refl, (refl, (refl, (refl, (refl, (refl, tt))))))))))

-- two workers, and a label on either side of a phase's end
two_phases : Trace
two_phases = record {
  header = record { version = One; workers = 2; words = 64; capacity = 1 };
  lines = Allocate 0 7 8 ∷ Phase ∷ Allocate 1 5 8 ∷ Release 1 7 ∷ Release 1 5 ∷ [];
}

-- the second allocate is event 3, since two drains end the first phase
events_of_phases : events_of two_phases ≡
    record { worker = 0; call = call.Allocate 8 } ∷ record { worker = 0; call = call.Drain 8192 } ∷ record { worker = 1; call = call.Drain 8192 }
    ∷ record { worker = 1; call = call.Allocate 8 } ∷ record { worker = 1; call = call.Release (Made 0) } ∷ record { worker = 1; call = call.Release (Made 3) }
    ∷ record { worker = 0; call = call.Drain 8192 } ∷ record { worker = 1; call = call.Drain 8192 } ∷ []
unfolding two_phases
events_of_phases = refl

-- drains have no label
labels_of_phases : labels_of two_phases ≡ Some 7 ∷ None ∷ None ∷ Some 5 ∷ Some 7 ∷ Some 5 ∷ None ∷ None ∷ []
unfolding two_phases
labels_of_phases = refl

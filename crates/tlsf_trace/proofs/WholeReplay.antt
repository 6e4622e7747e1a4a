-- A replay that is done.
use Rattle.std.proofs.Common.{◌≡◌, ℕ, List, Option, Some, None, Result, Ok, Err, IfSome, sym, ap, ◌∙◌, subst, inr, arith}
use Rattle.tlsf_trace.specs.Finish.{Finishes, IsCutShort, IsFinished}
use Rattle.tlsf_lines.specs.Limits.{IsReadWhole, IsWithinLimits}
use Rattle.tlsf_trace.specs.Replay.{AsksFor, IsRun, Outputs, Writes, WritesPrefix}
use Rattle.tlsf_lines.specs.TraceFaults.{too_long_fault, write_fault, IsLineFault}
use Rattle.tlsf_lines.specs.declared.line_fault.LineFault.TheVariants.{BadHeader}
use Rattle.tlsf_lines.specs.LineFaults.{number_of_fault}
use Rattle.tlsf_trace.specs.declared.summary.Summary.{Summary}
use Rattle.tlsf_lines.specs.declared.trace_fault.TraceFault.{TraceFault}

-- a fact of the text that was read, where it is known what the reader had left
of_read : (P : List ℕ → Type 0) (left : Option (List ℕ)) (text : List ℕ) → IfSome left (λ l. text ≡ l) → P text → IfSome left P
of_read P None text same h = tt
of_read P (Some l) text same h = subst P same h

-- the text was read to its end and within the limits, and all that it asks for was written
all_written : {Puts : Outputs} {left left' held holds : Option (List ℕ)} {text output : List ℕ} {calls : ℕ} {summary : Summary}
    → IsReadWhole left left' text → AsksFor Puts text output calls → IsFinished summary calls output held holds → IsRun Puts (Ok summary) left left' held holds
all_written {Puts = Puts} {left = left} {held = held} {holds = holds} {text = text} {output = output} {summary = summary} read asked done = record {
  ok = of_read (λ t. Writes Puts summary t held holds) left text read.whole
      (record { output = output; asked = record { trace = asked.trace; spelled = asked.spelled; puts = asked.puts; calls_are = done.calls_are ∙ asked.calls_are }; all = done.all; bytes = done.bytes });
  end = read.end;
  limits = of_read IsWithinLimits left text read.whole read.limits;
  fault = tt;
  line = tt;
  too_long = tt;
  front = tt;
  kept = tt;
}

-- a write fault is that of no line, and of no length
no_line : (fault : TraceFault) → fault ≡ write_fault → IsLineFault fault → ⊥
no_line fault is (BadHeader, line, from, same) = let no : 17 ≡ 11 = ap (λ (f : TraceFault). f.no) (sym is ∙ same) in absurd (omega (arith, no))
no_line fault is (why, line, from, same) = let no : 17 ≡ number_of_fault why = ap (λ (f : TraceFault). f.no) (sym is ∙ same) in absurd (omega (arith, no))

no_length : (fault : TraceFault) → fault ≡ write_fault → fault ≡ too_long_fault → ⊥
no_length fault is long = let no : 17 ≡ 15 = ap (λ (f : TraceFault). f.no) (sym is ∙ long) in absurd (omega (arith, no))

-- a prefix of what the text asks for was written, and then a write failed
cut_short : {Puts : Outputs} {left left' held holds : Option (List ℕ)} {text output : List ℕ} {calls : ℕ} {fault : TraceFault}
    → IsReadWhole left left' text → AsksFor Puts text output calls → IsCutShort fault output held holds → IsRun Puts (Err fault) left left' held holds
cut_short {Puts = Puts} {left = left} {held = held} {holds = holds} {text = text} {output = output} {calls = calls} {fault = fault} read asked cut = record {
  ok = tt;
  end = tt;
  limits = tt;
  fault = inr (inr (inr (inr cut.fault_is)));
  line = λ of_line. absurd (no_line fault cut.fault_is of_line);
  too_long = λ long. absurd (no_length fault cut.fault_is long);
  front = λ _. of_read (λ t. WritesPrefix Puts t held holds × IsWithinLimits t) left text read.whole (record { output = output; calls = calls; asked = asked; front = cut.front }, read.limits);
  kept = λ no. absurd (no cut.fault_is);
}

-- the text was read and its trace's output was written, or a write failed
pub run_is_done : {Puts : Outputs} {left left' held holds : Option (List ℕ)} (text output : List ℕ) (calls : ℕ) → IsReadWhole left left' text → AsksFor Puts text output calls
    → (answer : Result Summary TraceFault) → Finishes answer calls output held holds → IsRun Puts answer left left' held holds
run_is_done text output calls read asked (Ok summary) done = all_written read asked done
run_is_done text output calls read asked (Err fault) failed = cut_short read asked failed

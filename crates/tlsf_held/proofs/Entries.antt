-- The tale of a worker's entries, one after the other, is that of the calls on its heap and their answers.
use Rattle.tlsf_held.proofs.Common.{◌≡◌, ◌==◌, ℕ, ◌<◌, true, false, true≢false, List, [], ◌∷◌, length, All, fold, Option, Some, None, option_map, inl, inr, refl, sym, ap, ◌∙◌, arith, is_some, cons_option, cases_eq, nat_tests, All-head, All-tail, Name, Entry, Reply, answer_told, answers_on, call_on_own, calls_on, entries_of}
use Rattle.tlsf_heap.specs.Calls as heap
use Rattle.tlsf_calls.specs.declared.call.Call.{Call}
use Rattle.tlsf_crew.proofs.lemmas.histories.JoinedEntries.{HasItsAnswer}

one_told : {X Y : Type 0} (o : Option X) (a : Option Y) → length (cons_option o []) ≡ length (cons_option a []) → is_some o ≡ is_some a
one_told None None same = refl
one_told None (Some y) same = absurd (omega (arith, same))
one_told (Some x) None same = absurd (omega (arith, same))
one_told (Some x) (Some y) same = refl

-- what is told so far, and what one call more and its answer make of it
module _ {S : Type 0} (after : S → heap.Call → heap.Answer → S) where
  -- calls in turn
  abbrev pub after_all : S → List heap.Call → List heap.Answer → S
  after_all s [] answers = s
  after_all s (call ∷ calls) [] = s
  after_all s (call ∷ calls) (answer ∷ answers) = after_all (after s call answer) calls answers

  -- what an entry may tell of a call
  abbrev pub after_one : S → Option heap.Call → Option heap.Answer → S
  after_one s None answer = s
  after_one s (Some call) None = s
  after_one s (Some call) (Some answer) = after s call answer

  pub by_call : (s u : S) (f : Name → heap.Call) (o : Option Name) (answer : heap.Answer) → is_some (option_map f o) ≡ true
      → ((name : Name) → u ≡ after s (f name) answer) → u ≡ after_one s (option_map f o) (Some answer)
  by_call s u f None answer some is = absurd (true≢false (sym some))
  by_call s u f (Some name) answer some is = is name

  pub no_answer : (s : S) (o : Option heap.Call) → s ≡ after_one s o None
  no_answer s None = refl
  no_answer s (Some call) = refl

  -- a call that changes nothing
  pub quiet : (s : S) (f : Name → heap.Call) (o : Option Name) (a : Option heap.Answer) → ((name : Name) (answer : heap.Answer) → s ≡ after s (f name) answer) → s ≡ after_one s (option_map f o) a
  quiet s f (Some name) (Some answer) is = is name answer
  quiet s f o a is = refl

  one_more : (s : S) (o : Option heap.Call) (a : Option heap.Answer) (calls : List heap.Call) (answers : List heap.Answer) → is_some o ≡ is_some a
      → after_all s (cons_option o calls) (cons_option a answers) ≡ after_all (after_one s o a) calls answers
  one_more s None None calls answers even = refl
  one_more s None (Some answer) calls answers even = absurd (true≢false (sym even))
  one_more s (Some call) None calls answers even = absurd (true≢false even)
  one_more s (Some call) (Some answer) calls answers even = refl

  -- where each entry tells so, all do
  module _ (made : List (Option Name)) (workers j : ℕ) (inside : j < workers) (noted : S → Call → Reply → S)
      (each : (at : ℕ) (s : S) (call : Call) (reply : Reply) → is_some (call_on_own made at call reply) ≡ is_some (answer_told call reply)
      → noted s call reply ≡ after_one s (call_on_own made at call reply) (answer_told call reply)) where
    abbrev with_entry : S → Entry → S
    with_entry s e = noted s e.call e.reply

    pub entries_told : (s : S) (es : List Entry) → All (HasItsAnswer made workers) es → fold with_entry s (entries_of j es) ≡ after_all s (calls_on j made es) (answers_on j es)
    entries_told s [] all = refl
    entries_told s (e ∷ es) all =
        let rest = All-tail (HasItsAnswer made workers) e es all in
        elim (cases_eq e.worker j) [
          | inl is ↦
              let b : (e.worker == j) ≡ true = grind (arith, nat_tests) in
              let o = call_on_own made e.worker e.call e.reply in
              let a = answer_told e.call e.reply in
              let even : is_some o ≡ is_some a = one_told o a (All-head (HasItsAnswer made workers) e es all (omega arith)) in
              rw b (ap (λ (u : S). fold with_entry u (entries_of j es)) (each e.worker s e.call e.reply even)
              ∙ (entries_told (after_one s o a) es rest ∙ sym (one_more s o a (calls_on j made es) (answers_on j es) even)))
          | inr ne ↦
              let b : (e.worker == j) ≡ false = grind (arith, nat_tests) in
              rw b (entries_told s es rest)
        ]

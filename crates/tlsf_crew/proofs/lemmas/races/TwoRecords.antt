-- Two records agree: what one worker was answered to have posted is what the other took, in order and each once.
use Rattle.tlsf_crew.proofs.Common.{suc, zero, [], ◌∷◌, ◌++◌, ◌≡◌, ℕ, ◌+◌, ◌<◌, ◌≤◌, List, Option, Some, None, length, get_or, sym, ◌∙◌, ap, subst, refl, inl, inr, append-nil, ◌⊎◌, filter_map, cons_option, option_map, drop-append_seam, cases_eq, All-nil, All-append, All-push, Name, Post, Entry, Call, Release, Take, Drain, Target, Took, Reply, Posted, Empty, Drained, Refused, Full, name_of, AreTakes, IsDrain, name_on_heap, post_of_release, post_of_take, posts_made, posts_taken, entries_of, StandsBehind, Agree, IsPrefix, MadeBy, Taken}
use Rattle.tlsf_crew.proofs.lemmas.lanes.Signed.{AreFrom}
use Rattle.tlsf_crew.proofs.lemmas.histories.JoinedEntries.{told_own, told_other, told_nothing, made_then, taken_then}
use Rattle.tlsf_crew.proofs.lemmas.histories.DrainEntries.{drain_makes}

-- what stands at a place of a list with `None` behind it
same_at : (made : List (Option Name)) (k : ℕ) → get_or (made ++ None ∷ []) k None ≡ get_or made k None
same_at [] zero = refl
same_at [] (suc k) = refl
same_at (x ∷ made) zero = refl
same_at (x ∷ made) (suc k) = same_at made k

-- ---- posts, record after record

-- a name that was made stays made when one call more made none
same_name : (made : List (Option Name)) (target : Target) → name_of (made ++ None ∷ []) target ≡ name_of made target
same_name made (MadeBy k) = same_at made k
same_name made target = refl

same_post : (j : ℕ) (made : List (Option Name)) (i : ℕ) (call : Call) (reply : Reply) → post_of_release j (made ++ None ∷ []) i call reply ≡ post_of_release j made i call reply
same_post j made i (Release target) Posted = ap (λ (n : Option Name). option_map (λ name. record { from = i; name = name }) (name_on_heap j n)) (same_name made target)
same_post j made i call reply = refl

pub each_post_same : (i j : ℕ) (made : List (Option Name)) (es : List Entry) → posts_made i j (made ++ None ∷ []) es ≡ posts_made i j made es
each_post_same i j made es = ap (λ (f : Entry → Option Post). filter_map f (entries_of i es)) (λ k e. same_post j made e.worker e.call e.reply k)

-- ---- who signed them

from_name : (i : ℕ) (n : Option Name) → AreFrom i (cons_option (option_map (λ name. record { from = i; name = name }) n) [])
from_name i None = All-nil (λ (post : Post). post.from ≡ i)
from_name i (Some name) = All-push (λ (post : Post). post.from ≡ i) [] (record { from = i; name = name }) (All-nil (λ (post : Post). post.from ≡ i)) refl

from_call : (j : ℕ) (made : List (Option Name)) (i : ℕ) (call : Call) (reply : Reply) → AreFrom i (cons_option (post_of_release j made i call reply) [])
from_call j made i (Release target) Posted = from_name i (name_on_heap j (name_of made target))
from_call j made i call reply = All-nil (λ (post : Post). post.from ≡ i)

from_entry : (i j : ℕ) (made : List (Option Name)) (e : Entry) → AreFrom i (posts_made i j made (e ∷ []))
from_entry i j made e =
    let f : Entry → Option Post = λ x. post_of_release j made x.worker x.call x.reply in
    elim (cases_eq e.worker i) [
      | inl own ↦ rw (told_own f i e own) (subst (λ (k : ℕ). AreFrom i (cons_option (post_of_release j made k e.call e.reply) [])) (sym own) (from_call j made i e.call e.reply))
      | inr ne ↦ rw (told_other f i e ne) (All-nil (λ (post : Post). post.from ≡ i))
    ]

pub made_from : (i j : ℕ) (made : List (Option Name)) (es : List Entry) → AreFrom i (posts_made i j made es)
made_from i j made [] = All-nil (λ (post : Post). post.from ≡ i)
made_from i j made (e ∷ es) =
    rw (made_then i j made (e ∷ []) es) (All-append (λ (post : Post). post.from ≡ i) (posts_made i j made (e ∷ [])) (posts_made i j made es) (from_entry i j made e) (made_from i j made es))

-- ---- an entry of one of two lists

abbrev Splits : List Entry → List Entry → List Entry → List Entry → Entry → Type 0
Splits xs ys before after e = ((rest : List Entry) × (xs ≡ before ++ e ∷ rest)) ⊎ ((mid : List Entry) × (before ≡ xs ++ mid) × (ys ≡ mid ++ e ∷ after))

splits_more : (x b : Entry) (xs ys before after : List Entry) (e : Entry) → x ≡ b → Splits xs ys before after e → Splits (x ∷ xs) ys (b ∷ before) after e
splits_more x b xs ys before after e same s = elim s [
  | inl f ↦ inl (f.0, let q = f.1 in cc)
  | inr f ↦ inr (f.0, let q = f.1 in cc, f.2)
]

pub stands_split : (xs ys before after : List Entry) (e : Entry) → xs ++ ys ≡ before ++ e ∷ after → Splits xs ys before after e
stands_split [] ys before after e eq = inr (before, refl, eq)
stands_split (x ∷ xs) ys [] after e eq = let h : x ≡ e = cc in inl (xs, ap (λ y. y ∷ xs) h)
stands_split (x ∷ xs) ys (b ∷ before) after e eq =
    let h : x ≡ b = cc in
    let t : xs ++ ys ≡ before ++ e ∷ after = cc in
    splits_more x b xs ys before after e h (stands_split xs ys before after e t)

-- an entry among takes took a post
pub takes_stand : (at low : ℕ) (es before after : List Entry) (e : Entry) → AreTakes at low es → es ≡ before ++ e ∷ after
    → (from : ℕ) × (t : Took) × (e ≡ record { worker = at; call = Take from; reply = Taken t })
takes_stand at low [] [] after e a eq = cc
takes_stand at low [] (b ∷ before) after e a eq = cc
takes_stand at low (x ∷ es) [] after e a eq = let h : x ≡ e = cc in (a.0, a.1, sym h ∙ a.2)
takes_stand at low (x ∷ es) (b ∷ before) after e a eq = let t : es ≡ before ++ e ∷ after = cc in takes_stand at a.0 es before after e a.4 t

-- an entry of a drain is a take that took a post, or it is the last one
abbrev StandsInDrain : ℕ → ℕ → List Entry → List Entry → Entry → Type 0
StandsInDrain at most takes mid e =
    ((from : ℕ) × (t : Took) × (e ≡ record { worker = at; call = Take from; reply = Taken t }))
    ⊎ ((mid ≡ takes) × (e ≡ record { worker = at; call = Drain most; reply = Drained (length takes) }))

only_entry : (last e : Entry) (m after : List Entry) → last ∷ [] ≡ m ++ e ∷ after → (m ≡ []) × (e ≡ last)
only_entry last e [] after eq = let h : last ≡ e = cc in (refl, sym h)
only_entry last e (x ∷ []) after eq = let t : ◌≡◌ {A = List Entry} [] (e ∷ after) = cc in cc
only_entry last e (x ∷ y ∷ m) after eq = let t : ◌≡◌ {A = List Entry} [] (y ∷ (m ++ e ∷ after)) = cc in cc

pub stands_in_drain : (at most : ℕ) (own mid after : List Entry) (e : Entry) (d : IsDrain at most own) → own ≡ mid ++ e ∷ after → StandsInDrain at most d.takes mid e
stands_in_drain at most own mid after e d eq =
    let last : Entry = record { worker = at; call = Drain most; reply = Drained (length d.takes) } in
    elim (stands_split d.takes (last ∷ []) mid after e (sym d.whole ∙ eq)) [
      | inl f ↦ inl (takes_stand at 0 d.takes mid f.0 e d.are_takes f.1)
      | inr f ↦ let g = only_entry last e f.0 after f.2 in inr (f.1 ∙ (ap (λ m. d.takes ++ m) g.0 ∙ append-nil d.takes), g.1)
    ]

-- ---- a drain makes no posts

-- and all that it takes is taken before its own entry
pub drain_takes : (i j at most : ℕ) (own : List Entry) (d : IsDrain at most own) → posts_taken i j d.takes ≡ posts_taken i j own
drain_takes i j at most own d =
    let last : Entry = record { worker = at; call = Drain most; reply = Drained (length d.takes) } in
    let one : posts_taken i j (last ∷ []) ≡ [] = told_nothing (λ x. post_of_take i x.call x.reply) j last refl in
    sym (ap (posts_taken i j) d.whole ∙ (taken_then i j d.takes (last ∷ []) ∙ (ap (λ l. posts_taken i j d.takes ++ l) one ∙ append-nil (posts_taken i j d.takes))))

-- ---- two records

-- the entries of the scripts of worker i and of worker j, where these posts had waited, and these wait after them
pub record ScriptsAgree (capacity i j : ℕ) (waited waits : List Post) (made : List (Option Name)) (sender taker : List Entry) : Type 0 where
  pub posts : posts_taken i j taker ++ waits ≡ waited ++ posts_made i j made sender
  pub signed : AreFrom i waited
  pub few : length waits ≤ capacity
  pub full : (before : List Entry) (e : Entry) (name : Name) → StandsBehind sender before e → e.reply ≡ Refused (Full name) → name.heap ≡ j
      → capacity ≤ length waited + length (posts_made i j made before)
  pub empty : (before : List Entry) (e : Entry) → StandsBehind taker before e → e.call ≡ Take i → e.reply ≡ Empty → IsPrefix waited (posts_taken i j before)
  pub drained : (before : List Entry) (e : Entry) (most k : ℕ) → StandsBehind taker before e → e.call ≡ Drain most → e.reply ≡ Drained k → k < most
      → IsPrefix waited (posts_taken i j before)

module _ (capacity i j : ℕ) (W waits : List Post) (made : List (Option Name)) (s t : List Entry) (a : ScriptsAgree capacity i j W waits made s t) where
  agree_full : (own : List Entry) → IsDrain i 8192 own → (before : List Entry) (e : Entry) (name : Name) → StandsBehind (s ++ own) before e → e.reply ≡ Refused (Full name) → name.heap ≡ j
      → capacity ≤ length W + length (posts_made i j (made ++ None ∷ []) before)
  agree_full own d before e name stands reply here =
      elim (stands_split s own before stands.0 e stands.1) [
        | inl f ↦ rw (each_post_same i j made before) (a.full before e name f reply here)
        | inr f ↦ elim (stands_in_drain i 8192 own f.0 stands.0 e d f.2) [
          | inl g ↦ let q = sym reply ∙ ap (λ (x : Entry). x.reply) g.2 in cc
          | inr g ↦ let q = sym reply ∙ ap (λ (x : Entry). x.reply) g.1 in cc
        ]
      ]

  agree_empty : (own : List Entry) → IsDrain j 8192 own → (before : List Entry) (e : Entry) → StandsBehind (t ++ own) before e → e.call ≡ Take i → e.reply ≡ Empty → IsPrefix W (posts_taken i j before)
  agree_empty own d before e stands call reply =
      elim (stands_split t own before stands.0 e stands.1) [
        | inl f ↦ a.empty before e f call reply
        | inr f ↦ elim (stands_in_drain j 8192 own f.0 stands.0 e d f.2) [
          | inl g ↦ let q = sym reply ∙ ap (λ (x : Entry). x.reply) g.2 in cc
          | inr g ↦ let q = sym reply ∙ ap (λ (x : Entry). x.reply) g.1 in cc
        ]
      ]

  agree_drained : (own : List Entry) → IsDrain j 8192 own → posts_taken i j own ≡ waits
      → (before : List Entry) (e : Entry) (most k : ℕ) → StandsBehind (t ++ own) before e → e.call ≡ Drain most → e.reply ≡ Drained k → k < most
      → IsPrefix W (posts_taken i j before)
  agree_drained own d took before e most k stands call reply lt =
      elim (stands_split t own before stands.0 e stands.1) [
        | inl f ↦ a.drained before e most k f call reply lt
        | inr f ↦ elim (stands_in_drain j 8192 own f.0 stands.0 e d f.2) [
          | inl g ↦ let q = sym call ∙ ap (λ (x : Entry). x.call) g.2 in cc
          | inr g ↦
              let all : posts_taken i j before ≡ posts_taken i j t ++ waits =
              ap (posts_taken i j) (f.1 ∙ ap (λ m. t ++ m) g.0) ∙ (taken_then i j t d.takes ∙ ap (λ l. posts_taken i j t ++ l) (drain_takes i j j 8192 own d ∙ took)) in
              (posts_made i j made s, sym (all ∙ a.posts))
        ]
      ]

  -- with the last drains of both
  pub records_agree : (own_s own_t : List Entry) → IsDrain i 8192 own_s → IsDrain j 8192 own_t → posts_taken i j own_t ≡ waits
      → Agree capacity i j W (made ++ None ∷ []) (s ++ own_s) t (t ++ own_t)
  records_agree own_s own_t ds dt took =
      let longer = made ++ None ∷ [] in
      let makes : posts_made i j longer (s ++ own_s) ≡ posts_made i j made s =
      made_then i j longer s own_s ∙ (ap (λ l. posts_made i j longer s ++ l) (drain_makes i j i 8192 longer own_s ds) ∙ (append-nil (posts_made i j longer s) ∙ each_post_same i j made s)) in
      let takes : posts_taken i j (t ++ own_t) ≡ posts_taken i j t ++ waits = taken_then i j t own_t ∙ ap (λ l. posts_taken i j t ++ l) took in
      let all : posts_taken i j (t ++ own_t) ≡ W ++ posts_made i j made s = takes ∙ a.posts in
      record {
        posts = ap (λ l. W ++ l) makes ∙ sym all;
        signed = rw all (All-append (λ (post : Post). post.from ≡ i) W (posts_made i j made s) a.signed (made_from i j made s));
        last = rw (drop-append_seam t own_t, took) a.few;
        full = agree_full own_s ds;
        empty = agree_empty own_t dt;
        drained = agree_drained own_t dt took;
      }

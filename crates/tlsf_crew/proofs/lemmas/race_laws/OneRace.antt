-- Two races of the same scripts, which take no post, are the same.
use Rattle.tlsf_crew.proofs.Common.{[], ◌∷◌, ◌++◌, ◌≡◌, ◌≢◌, ℕ, ◌<◌, List, Option, None, length, drop, sym, ◌∙◌, ap, arith, refl, append_assoc, append-nil, length-append, AllByRecursion, drop-append_seam, ext_get_or, Name, Call, Entry, no_heap, World, begun, heap_in, replies, Progress, MayTellAll, told_by, untold, StandsBehind, posts_made, posts_taken, IsRace, record_of, script_of, OnlyLastDrains, alone, RaceIsOne, TakesNoPost}
use Rattle.tlsf_crew.proofs.lemmas.histories.DrainEntries.{drain_makes}
use Rattle.tlsf_crew.proofs.lemmas.races.TwoRecords.{each_post_same}
use Rattle.tlsf_crew.proofs.lemmas.model.Edits.{same_world}
use Rattle.tlsf_crew.proofs.lemmas.histories.JoinedEntries.{made_then, taken_then}
use Rattle.tlsf_crew.proofs.lemmas.race_laws.AloneRuns.{HasLanes, IsAlone, alone_runs, alone_told, none_taken}
use Rattle.tlsf_crew.proofs.lemmas.race_laws.SameDrains.{LastDrain, drain_along, last_drain, same_last}

-- ---- what one worker was told

-- its script, and then its last drain
pub record Turn {sli : ℕ} (w : World sli) (i : ℕ) (script : List Call) (end : Progress) : Type 0 where
  pub between : Progress
  pub ran : MayTellAll sli (length w.heaps) i (untold (heap_in w i)) script between
  pub last : LastDrain sli (length w.heaps) i between end

-- its posts are those of its script
turn_posts : {sli : ℕ} (w : World sli) (i j : ℕ) (script : List Call) (end : Progress) (t : Turn w i script end) → posts_made i j end.made end.entries ≡ posts_made i j (t.between).made (t.between).entries
turn_posts w i j script end t =
    let z = t.between in
    let d = t.last in
    let longer = z.made ++ None ∷ [] in
    ap (λ (made : List (Option Name)). posts_made i j made end.entries) d.names ∙ (ap (posts_made i j longer) d.entries ∙ (made_then i j longer z.entries d.own
    ∙ (ap (λ l. posts_made i j longer z.entries ++ l) (drain_makes i j i 8192 longer d.own d.is_drain) ∙ (append-nil (posts_made i j longer z.entries) ∙ each_post_same i j z.made z.entries))))

-- what it took, it took in its last drain
last_takes : {sli : ℕ} (w : World sli) (i j : ℕ) (script : List Call) (end : Progress) (t : Turn w j script end) → j < length w.heaps → AllByRecursion TakesNoPost script
    → posts_taken i j end.entries ≡ posts_taken i j (t.last).own
last_takes {sli} w i j script end t j_in free =
    let z = t.between in
    let none = none_taken sli (length w.heaps) i j j (untold (heap_in w j)) z script j_in free t.ran refl in
    ap (posts_taken i j) (t.last).entries ∙ (taken_then i j z.entries (t.last).own ∙ ap (λ l. l ++ posts_taken i j (t.last).own) none)

-- ---- one race

module _ {sli : ℕ} (w v : World sli) (scripts : List (List Call)) (records : List (List Entry)) (race : IsRace w scripts records v) where
  -- what worker j was told at the end of a race
  abbrev pub told_in : ℕ → Progress
  told_in j = record { made = race.made j; entries = record_of records j; heap = heap_in v j }

  pub turn_of : (j : ℕ) → j < length w.heaps
      → Turn w j (script_of scripts j) (told_in j)
  turn_of j j_in =
      let l = race.legal j j_in in
      record { between = l.between; ran = l.script; last = last_drain (length w.heaps) j l.between (told_in j) j_in l.last }

  -- what worker j took from worker i in its last drain: all that had waited, and all that i posted
  pub drained : OnlyLastDrains scripts → (i j : ℕ) (i_in : i < length w.heaps) (j_in : j < length w.heaps) → i ≢ j
      → posts_taken i j ((turn_of j j_in).last).own
      ≡ w.waiting i j ++ posts_made i j ((turn_of i i_in).between).made ((turn_of i i_in).between).entries
  drained free i j i_in j_in ne =
      let t = turn_of i i_in in
      let u = turn_of j j_in in
      sym (last_takes w i j (script_of scripts j) (told_in j) u j_in (free j)) ∙ (sym (race.agree i j i_in j_in ne).posts
      ∙ ap (λ l. w.waiting i j ++ l) (turn_posts w i j (script_of scripts i) (told_in i) t))

  lanes_of : OnlyLastDrains scripts → (i : ℕ) (i_in : i < length w.heaps)
      → HasLanes w i ((turn_of i i_in).between).made ((turn_of i i_in).between).entries
  unfolding turn_of
  lanes_of free i i_in =
      let t = turn_of i i_in in
      let z = t.between in
      record {
        room = λ j j_in ne.
            let u = turn_of j j_in in
            let all = ap length (drained free i j i_in j_in ne) in
            let both = length-append (w.waiting i j) (posts_made i j z.made z.entries) in
            let scripted : race.scripted j ≡ (u.between).entries = sym (race.legal j j_in).entries in
            let behind : drop (length (race.scripted j)) (record_of records j) ≡ (u.last).own
            = ap (λ l. drop (length l) (record_of records j)) scripted ∙ (ap (drop (length (u.between).entries)) (u.last).entries ∙ drop-append_seam (u.between).entries (u.last).own) in
            let le = (race.agree i j i_in j_in ne).last in
            let n = ap (λ l. length (posts_taken i j l)) behind in
            omega arith;
        full = λ j j_in ne before e name stands reply here.
            let d = t.last in
            let later : StandsBehind (record_of records i) before e
            = (stands.0 ++ d.own, d.entries ∙ (ap (λ l. l ++ d.own) stands.1 ∙ append_assoc before (e ∷ stands.0) d.own)) in
            let le = (race.agree i j i_in j_in ne).full before e name later reply here in
            let n = ap length (ap (λ (made : List (Option Name)). posts_made i j made before) d.names ∙ each_post_same i j z.made before) in
            omega arith;
      }

  pub told_alone : OnlyLastDrains scripts → (i : ℕ) (i_in : i < length w.heaps)
      → IsAlone w i ((turn_of i i_in).between).made (turn_of i i_in).between (alone w scripts i)
  unfolding replies
  told_alone free i i_in =
      let t = turn_of i i_in in
      alone_runs w i t.between (untold (heap_in w i)) (script_of scripts i) (begun w) (lanes_of free i i_in) i_in (free i) t.ran
      (record { names = refl; entries = refl; heap = refl; count = refl; capacity = refl; waits = λ j. sym (append-nil (w.waiting i j)) })

  alone_is : OnlyLastDrains scripts → (i : ℕ) (i_in : i < length w.heaps)
      → told_by i (alone w scripts i) ≡ (turn_of i i_in).between
  alone_is free i i_in =
      let z = (turn_of i i_in).between in
      alone_told w i z.made z (alone w scripts i) (told_alone free i i_in)

-- ---- two races

races_tell_same : {sli : ℕ} (w v u : World sli) (scripts : List (List Call)) (records others : List (List Entry)) (race : IsRace w scripts records v) (other : IsRace w scripts others u) → OnlyLastDrains scripts → (j : ℕ) → j < length w.heaps
    → told_in w v scripts records race j ≡ told_in w u scripts others other j
races_tell_same w v u scripts records others race other free j j_in =
    let n = length w.heaps in
    let one = turn_of w v scripts records race j j_in in
    let two = turn_of w u scripts others other j j_in in
    let same : (i : ℕ) (i_in : i < n) → (turn_of w v scripts records race i i_in).between ≡ (turn_of w u scripts others other i i_in).between
    = λ i i_in. sym (alone_is w v scripts records race free i i_in) ∙ alone_is w u scripts others other free i i_in in
    same_last n j two.between (told_in w v scripts records race j) (told_in w u scripts others other j)
    (drain_along n j one.between two.between (told_in w v scripts records race j) (same j j_in) one.last) two.last
    (λ i i_in ne. drained w v scripts records race free i j i_in j_in ne
    ∙ (ap (λ (t : Progress). w.waiting i j ++ posts_made i j t.made t.entries) (same i i_in) ∙ sym (drained w u scripts others other free i j i_in j_in ne)))

pub race_is_one : (sli : ℕ) → RaceIsOne sli
race_is_one sli w v u scripts records others free race other =
    let same = races_tell_same w v u scripts records others race other free in (
      ext_get_or [] records others (race.records ∙ sym other.records) (λ j lt. ap (λ (t : Progress). t.entries) (same j (omega (arith, lt, race.records)))),
      same_world v u
          (ext_get_or no_heap v.heaps u.heaps (race.heaps ∙ sym other.heaps) (λ j lt. ap (λ (t : Progress). t.heap) (same j (omega (arith, lt, race.heaps)))))
          (λ i j. race.taken i j ∙ sym (other.taken i j)) (race.capacity ∙ sym other.capacity),
    )

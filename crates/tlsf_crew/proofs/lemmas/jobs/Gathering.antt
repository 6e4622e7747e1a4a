-- Where each job was prepared and done, the workers ran their scripts; over lanes the yard is whole then, and each record has its room.
use Rattle.tlsf_crew.proofs.Common.{suc, zero, [], ◌∷◌, ◌++◌, ◌≡◌, ℕ, ◌<◌, List, Option, Some, None, length, map, get_or, slice_index, sym, ◌∙◌, ap, subst, arith, refl, length-map, option_map, slice_get, All, Vec, Global, slice_get_within, slice_get-map, get_or_from_slice_get, Name, Worker, Entry, Call, Job, releases_of, ScriptPromise, script_of, record_of, IsDone, AllDone, IsPrepared, JobRan, EachJobRan}
use Rattle.tlsf_crew.proofs.lemmas.worker.Slots.{some_same}

-- one job more, after the others
pub done_last : {J D : Type 0} (P : J → D → Type 0) (js : List J) (ds : List D) (j : J) (d : D) → AllDone P js ds → P j d → AllDone P (js ++ j ∷ []) (ds ++ d ∷ [])
done_last P [] [] j d a b = (b, tt)
done_last P [] (y ∷ ds) j d a b = absurd a
done_last P (x ∷ js) [] j d a b = absurd a
done_last P (x ∷ js) (y ∷ ds) j d a b = (a.0, done_last P js ds j d a.1 b)

done_count : {sli : ℕ} {P : Type 0} (Q : Job sli P → Job sli P → Type 0) (js : List (Job sli P)) (ds : List (Job sli P)) → AllDone Q js ds → length ds ≡ length js
done_count Q [] [] a = refl
done_count Q [] (y ∷ ds) a = absurd a
done_count Q (x ∷ js) [] a = absurd a
done_count Q (x ∷ js) (y ∷ ds) a = let e = done_count Q js ds a.1 in omega arith

-- ---- each worker

abbrev scripts_in : {sli : ℕ} {P : Type 0} → List (Job sli P) → List (List Call)
scripts_in js = map (λ s. s.items) (map (λ j. j.script) js)

abbrev names_made_by : {sli : ℕ} {P : Type 0} → List (Job sli P) → ℕ → List (Option Name)
names_made_by {sli} {P} ds k = get_or (map (λ (d : Job sli P). d.made.items) ds) k []

none_some : {X : Type 0} (x : X) → ◌≡◌ {A = Option X} None (Some x) → ⊥
none_some x e = cc

-- what was done with the job at a place
done_at : {sli : ℕ} {P : Type 0} (Q : Job sli P → Job sli P → Type 0) (js : List (Job sli P)) (ds : List (Job sli P)) → AllDone Q js ds → (k : ℕ) (j : Job sli P) → slice_get js k ≡ Some j → (d : Job sli P) × (slice_get ds k ≡ Some d) × Q j d
done_at {sli} {P} Q [] ds a k j e = absurd (none_some j e)
done_at {sli} {P} Q (x ∷ js) [] a k j e = absurd a
done_at {sli} {P} Q (x ∷ js) (y ∷ ds) a zero j e = (y, refl, subst (λ (z : Job sli P). Q z y) (some_same x j e) a.0)
done_at {sli} {P} Q (x ∷ js) (y ∷ ds) a (suc k) j e = done_at Q js ds a.1 k j e

pub map_at : {X Y : Type 0} (f : X → Y) (xs : List X) (k : ℕ) (x : X) → slice_get xs k ≡ Some x → slice_get (map f xs) k ≡ Some (f x)
map_at f xs k x e = slice_get-map f xs k ∙ ap (option_map f) e

pub from_map : {X Y : Type 0} (f : X → Y) (xs : List X) (k : ℕ) (y : Y) → slice_get (map f xs) k ≡ Some y → (x : X) × (slice_get xs k ≡ Some x) × (f x ≡ y)
from_map f [] k y e = absurd (none_some y e)
from_map f (x ∷ xs) zero y e = (x, refl, some_same (f x) y e)
from_map f (x ∷ xs) (suc k) y e = from_map f xs k y e

script_at : {sli : ℕ} {P : Type 0} (js : List (Job sli P)) (k : ℕ) (j : Job sli P) → slice_get js k ≡ Some j → script_of (scripts_in js) k ≡ j.script.items
script_at {sli} {P} js k j e = get_or_from_slice_get (scripts_in js) k j.script.items [] (map_at (λ s. s.items) (map (λ (x : Job sli P). x.script) js) k j.script (map_at (λ (x : Job sli P). x.script) js k j e))

made_at : {sli : ℕ} {P : Type 0} (ds : List (Job sli P)) (k : ℕ) (d : Job sli P) → slice_get ds k ≡ Some d → names_made_by ds k ≡ d.made.items
made_at {sli} {P} ds k d e = get_or_from_slice_get (map (λ (x : Job sli P). x.made.items) ds) k d.made.items [] (map_at (λ (x : Job sli P). x.made.items) ds k d e)

-- what leads from this worker to one of the others
abbrev RanTo : {sli : ℕ} {P : Type 0} (by : ScriptPromise sli P) → List ℕ → List (Job sli P) → List (Job sli P) → ℕ → Worker sli P → Type 0
RanTo {sli} {P} by releases js ds k a =
    (v : Worker sli P) × (r : Vec Entry Global) × (slice_get (map (λ d. d.worker) ds) k ≡ Some v) × (slice_get (map (λ d. d.entries) ds) k ≡ Some r)
    × JobRan by releases a (script_of (scripts_in js) k) (names_made_by ds k) r v

job_ran : {sli : ℕ} {P : Type 0} (by : ScriptPromise sli P) (releases : List ℕ) (js : List (Job sli P)) (ds : List (Job sli P)) → AllDone (IsDone by) js ds → All (IsPrepared by releases) js → (k : ℕ) (j : Job sli P) → slice_get js k ≡ Some j
    → RanTo by releases js ds k j.worker
job_ran {sli} {P} by releases js ds done all k j e =
    let r = done_at (IsDone by) js ds done k j e in
    let d = r.0 in
    let is = r.2 in
    let p = subst (IsPrepared by releases) (get_or_from_slice_get js k j j e) (all k j (slice_get_within js k j e)) in
    let script = script_at js k j e in
    let len = ap length script in
    let l = j.script.ok in
    let room = p.room in
    let same = is.room in (
      d.worker,
      d.entries,
      map_at (λ (x : Job sli P). x.worker) ds k d r.1,
      map_at (λ (x : Job sli P). x.entries) ds k d r.1,
      record { limits = j.limits; left = is.left; limits_are = p.limits; run = rw (script, made_at ds k d r.1) is.ran; room = omega arith },
    )

done_ran : {sli : ℕ} {P : Type 0} (by : ScriptPromise sli P) (releases : List ℕ) (js : List (Job sli P)) (ds : List (Job sli P)) → AllDone (IsDone by) js ds → All (IsPrepared by releases) js
    → (k : ℕ) (a : Worker sli P) → slice_get (map (λ j. j.worker) js) k ≡ Some a → RanTo by releases js ds k a
done_ran {sli} {P} by releases js ds done all k a e =
    let f = from_map (λ (x : Job sli P). x.worker) js k a e in
    subst (RanTo by releases js ds k) f.2 (job_ran by releases js ds done all k f.0 f.1)

-- ---- all together

pub jobs_gathered : {sli : ℕ} {P : Type 0} (by : ScriptPromise sli P) (releases : List ℕ) (js : List (Job sli P)) (ds : List (Job sli P)) (ws : List (Worker sli P)) (scripts : List (Vec Call Global)) (records : List (Vec Entry Global)) (vs : List (Worker sli P))
    → map (λ j. j.worker) js ≡ ws → map (λ j. j.script) js ≡ scripts → vs ≡ map (λ d. d.worker) ds → records ≡ map (λ d. d.entries) ds
    → ((i : ℕ) → i < 8 → slice_index releases i ≡ releases_of (script_of (map (λ s. s.items) scripts) i)) → All (IsPrepared by releases) js → AllDone (IsDone by) js ds
    → EachJobRan by ws (map (λ s. s.items) scripts) records vs
jobs_gathered {sli} {P} by releases js ds ws scripts records vs a b c d counts all done =
    let n = done_count (IsDone by) js ds done in
    let count : length (map (λ (e : Job sli P). e.worker) ds) ≡ length (map (λ (j : Job sli P). j.worker) js) = length-map ds (λ e. e.worker) ∙ (n ∙ sym (length-map js (λ j. j.worker))) in
    let told : length (map (λ (e : Job sli P). e.entries) ds) ≡ length (map (λ (j : Job sli P). j.worker) js) = length-map ds (λ e. e.entries) ∙ (n ∙ sym (length-map js (λ j. j.worker))) in
    let run : EachJobRan by (map (λ (j : Job sli P). j.worker) js) (scripts_in js) (map (λ (e : Job sli P). e.entries) ds) (map (λ (e : Job sli P). e.worker) ds) = record {
      releases = releases;
      counts = rw b counts;
      made = names_made_by ds;
      worker_count = count;
      record_count = told;
      ran = done_ran by releases js ds done all;
    } in
    rw (sym a, sym b, c, d) run

-- what the record of a worker holds
pub record_at : (records : List (Vec Entry Global)) (k : ℕ) (r : Vec Entry Global) → slice_get records k ≡ Some r → record_of (map (λ r. r.items) records) k ≡ r.items
record_at records k r e = get_or_from_slice_get (map (λ (r : Vec Entry Global). r.items) records) k r.items [] (map_at (λ (r : Vec Entry Global). r.items) records k r e)

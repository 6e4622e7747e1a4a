-- A call is refused as Unmade exactly where its target means no name. A release of a block of another's heap is answered as a post.
use Rattle.tlsf_crew.proofs.Common.{◌≡◌, ◌≢◌, ◌<◌, ℕ, List, Option, Some, None, Result, Ok, Err, length, refl, inl, inr, subst, ◌↔◌, HeapState, Name, Refusal, Take, Reply, Freed, Made, Wrote, Got, Resized, Refused, Unmade, HeapReply, own_named, reply_by, AnswersPost, TookFromOther, allocated, chunk_read, released, resized, written, World, WorldReply, allocating, heap_in, reading_named, releasing, releasing_named, resizing_named, taking, writing_named}
use Rattle.tlsf_crew.proofs.lemmas.model.OneEvent.{posting_by, releasing_by, taking_by}

by_known : {A : Type 0} (given : A → Reply) (r : Result A Refusal) → ((x : A) → given x ≢ Refused Unmade) → reply_by given r ≢ Refused Unmade
by_known given (Ok x) f = f x
by_known given (Err why) f = λ e. cc

release_meant : {sli : ℕ} (w : World sli) (at : ℕ) (name : Name) → (releasing w at name).reply ≢ Refused Unmade
release_meant {sli} w at name =
    let known : WorldReply sli → Type 0 = λ x. x.reply ≢ Refused Unmade in
    releasing_by known w at name (λ own. by_known (λ done. Freed) (released (heap_in w at) name).answer (λ done e. cc)) (λ ne lt. posting_by known w at name (λ full q. cc) (λ room q. cc)) (λ ne ge q. cc)

take_known : {sli : ℕ} (w : World sli) (at from : ℕ) → (taking w at from).reply ≢ Refused Unmade
take_known w at from = taking_by (λ x. x.reply ≢ Refused Unmade) w at from (λ q. cc) (λ q. cc) (λ p rest ne lt e q. cc)

some_named : (name : Name) (reply : Reply) → reply ≢ Refused Unmade → (reply ≡ Refused Unmade) ↔ (Some name ≡ None)
some_named name reply known = ((λ e. absurd (known e)), (λ e. cc))

pub allocate_unmade : {sli : ℕ} (w : World sli) (at len : ℕ) → ((allocating w at len).reply ≡ Refused Unmade) ↔ ⊥
allocate_unmade {sli} w at len = (by_known Made (allocated sli (heap_in w at) len).answer (λ name e. cc), (λ e. absurd e))

pub take_unmade : {sli : ℕ} (w : World sli) (at from : ℕ) → ((taking w at from).reply ≡ Refused Unmade) ↔ ⊥
take_unmade w at from = (take_known w at from, (λ e. absurd e))

pub release_unmade : {sli : ℕ} (w : World sli) (at : ℕ) (o : Option Name) → ((releasing_named w at o).reply ≡ Refused Unmade) ↔ (o ≡ None)
release_unmade w at None = ((λ e. refl), (λ e. refl))
release_unmade w at (Some name) = some_named name (releasing w at name).reply (release_meant w at name)

named_unmade : (h : HeapState) (by : Name → HeapReply) (o : Option Name) → ((name : Name) → (by name).reply ≢ Refused Unmade) → ((own_named h by o).reply ≡ Refused Unmade) ↔ (o ≡ None)
named_unmade h by None f = ((λ e. refl), (λ e. refl))
named_unmade h by (Some name) f = some_named name (by name).reply (f name)

pub write_unmade : {sli : ℕ} (w : World sli) (at from : ℕ) (bytes : List ℕ) (o : Option Name) → ((writing_named w at o from bytes).reply ≡ Refused Unmade) ↔ (o ≡ None)
write_unmade w at from bytes o = named_unmade (heap_in w at) _ o (λ name. by_known (λ done. Wrote (length bytes)) (written (heap_in w at) name from bytes).answer (λ done e. cc))

pub read_unmade : {sli : ℕ} (w : World sli) (at from n : ℕ) (o : Option Name) → ((reading_named w at o from n).reply ≡ Refused Unmade) ↔ (o ≡ None)
read_unmade w at from n o = named_unmade (heap_in w at) _ o (λ name. by_known Got (chunk_read (heap_in w at) name from n) (λ bytes e. cc))

pub resize_unmade : {sli : ℕ} (w : World sli) (at len : ℕ) (o : Option Name) → ((resizing_named w at o len).reply ≡ Refused Unmade) ↔ (o ≡ None)
resize_unmade w at len o = named_unmade (heap_in w at) _ o (λ name. by_known (λ done. Resized) (resized (heap_in w at) name len).answer (λ done e. cc))

-- ---- a release of a block of another's heap

away_answered : {sli : ℕ} (w : World sli) (at : ℕ) (name : Name) → name.heap ≢ at → AnswersPost name (releasing w at name).reply
away_answered {sli} w at name ne =
    let answered : WorldReply sli → Type 0 = λ x. AnswersPost name x.reply in
    releasing_by answered w at name (λ own. absurd (ne own)) (λ _ lt. posting_by answered w at name (λ full. inr (inl refl)) (λ room. inl refl)) (λ _ ge. inr (inr refl))

pub release_answered : {sli : ℕ} (w : World sli) (at : ℕ) (o : Option Name) (name : Name) → o ≡ Some name → name.heap ≢ at → AnswersPost name (releasing_named w at o).reply
release_answered w at o name is ne = rw is (away_answered w at name ne)

-- ---- a take

-- the post that a take gives is of another worker
pub take_from_other : {sli : ℕ} (w : World sli) (at from : ℕ) → TookFromOther (length w.heaps) (record { worker = at; call = Take from; reply = (taking w at from).reply })
take_from_other w at from =
    taking_by (λ x. TookFromOther (length w.heaps) (record { worker = at; call = Take from; reply = x.reply })) w at from (λ f t is took. absurd (cc)) (λ f t is took. absurd (cc))
    (λ p rest ne lt e f t is took. let same : from ≡ f = cc in subst (λ (k : ℕ). (k < length w.heaps) × (k ≢ at)) same (lt, ne))

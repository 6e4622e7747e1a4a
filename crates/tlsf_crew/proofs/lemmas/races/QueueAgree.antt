-- Two records over queues agree: what one worker was answered to have posted is what the other took of it.
use Rattle.tlsf_crew.proofs.Common.{[], ◌++◌, ◌≡◌, ℕ, List, length, drop, sym, ◌∙◌, ap, arith, append_assoc, append-nil, length-append, drop-append_seam, append_cancel_left, nil_from_length, posts_of, Post, IsPrefix, of_append}

-- a list that begins with another and is its beginning is that list
same_prefix : {X : Type 0} (put got rest more : List X) → put ++ rest ≡ got → got ++ more ≡ put → put ≡ got
same_prefix put got rest more a b =
    let n : length rest ≡ 0 = omega (arith, ap length a, ap length b, length-append put rest, length-append got more) in
    sym (append-nil put) ∙ ap (λ l. put ++ l) (sym (nil_from_length rest n)) ∙ a

-- all that worker i had put was taken
pub whole_taken : (i : ℕ) (last left whole : List Post) → whole ≡ posts_of i (last ++ left) → IsPrefix whole (posts_of i last) → whole ≡ posts_of i last
whole_taken i last left whole end all = same_prefix whole (posts_of i last) all.0 (posts_of i left) all.1 (sym (of_append i last left) ∙ sym end)

-- what waits of worker i: what it has put less what was taken of it
waits_is : (i : ℕ) (got waited put : List Post) → put ≡ posts_of i (got ++ waited) → drop (length (posts_of i got)) put ≡ posts_of i waited
waits_is i got waited put e =
    ap (drop (length (posts_of i got))) (e ∙ of_append i got waited) ∙ drop-append_seam (posts_of i got) (posts_of i waited)

-- `got`, `waited`, `put` are those before the threads; `made` was posted and `taken` taken since, of worker i; then all was taken
pub queue_posts_agree : (i : ℕ) (got waited put made taken last left whole : List Post)
    → put ≡ posts_of i (got ++ waited) → whole ≡ put ++ made → posts_of i last ≡ posts_of i got ++ taken → whole ≡ posts_of i (last ++ left) → IsPrefix whole (posts_of i last)
    → drop (length (posts_of i got)) put ++ made ≡ taken
queue_posts_agree i got waited put made taken last left whole start posted took end all =
    let here : whole ≡ posts_of i last = whole_taken i last left whole end all in
    append_cancel_left (posts_of i got) (drop (length (posts_of i got)) put ++ made) taken
    (ap (λ l. posts_of i got ++ (l ++ made)) (waits_is i got waited put start)
    ∙ (sym (append_assoc (posts_of i got) (posts_of i waited) made) ∙ (ap (λ l. l ++ made) (sym (start ∙ of_append i got waited)) ∙ (sym posted ∙ (here ∙ took)))))

-- then nothing waits
pub queue_nothing_waits : (i : ℕ) (last left whole : List Post) → whole ≡ posts_of i (last ++ left) → IsPrefix whole (posts_of i last) → drop (length (posts_of i last)) whole ≡ []
queue_nothing_waits i last left whole end all =
    let here : whole ≡ posts_of i last = whole_taken i last left whole end all in
    ap (drop (length (posts_of i last))) (here ∙ sym (append-nil (posts_of i last))) ∙ drop-append_seam (posts_of i last) []

-- what had waited is the beginning of what was taken, where all was taken that was known then
pub queue_drained_early : (i : ℕ) (got waited put taken : List Post) → put ≡ posts_of i (got ++ waited) → IsPrefix put (posts_of i got ++ taken) → IsPrefix (drop (length (posts_of i got)) put) taken
queue_drained_early i got waited put taken start all =
    let waits = waits_is i got waited put start in
    let e : posts_of i got ++ (posts_of i waited ++ all.0) ≡ posts_of i got ++ taken
    = sym (append_assoc (posts_of i got) (posts_of i waited) all.0) ∙ (ap (λ l. l ++ all.0) (sym (start ∙ of_append i got waited)) ∙ all.1) in
    (all.0, ap (λ l. l ++ all.0) waits ∙ append_cancel_left (posts_of i got) (posts_of i waited ++ all.0) taken e)

-- A list that was taken from its end, one element after another, and stands in another list in the reverse order.
use Rattle.tlsf_crew.proofs.Common.{◌≡◌, List, [], ◌∷◌, ◌++◌, map, reverse, refl, sym, ap, ◌∙◌, append_assoc, map-append, reverse-append}

map_reverse : {X Y : Type 0} (f : Y → X) (js : List Y) → map f (reverse js) ≡ reverse (map f js)
map_reverse f [] = refl
map_reverse f (j ∷ js) =
    ap (map f) (reverse-append (j ∷ []) js) ∙ (map-append f (reverse js) (j ∷ []) ∙ (ap (λ l. l ++ f j ∷ []) (map_reverse f js) ∙ sym (reverse-append (f j ∷ []) (map f js))))

-- one more was taken, and stands after the others
pub popped_more : {X Y : Type 0} (f : Y → X) (xs ys all : List X) (x : X) (js ks : List Y) (j : Y) → ys ≡ xs ++ x ∷ [] → ks ≡ js ++ j ∷ [] → f j ≡ x → ys ++ reverse (map f js) ≡ all → xs ++ reverse (map f ks) ≡ all
popped_more f xs ys all x js ks j popped pushed same old =
    rw (pushed, map-append f js (j ∷ []), reverse-append (map f js) (f j ∷ []), same) (sym (append_assoc xs (x ∷ []) (reverse (map f js))) ∙ (ap (λ l. l ++ reverse (map f js)) (sym popped) ∙ old))

-- all were taken, and the other list was turned round
pub popped_all : {X Y : Type 0} (f : Y → X) (xs all : List X) (js ks : List Y) → xs ≡ [] → ks ≡ reverse js → xs ++ reverse (map f js) ≡ all → map f ks ≡ all
popped_all f xs all js ks none turned old = rw turned (map_reverse f js ∙ (ap (λ l. l ++ reverse (map f js)) (sym none) ∙ old))

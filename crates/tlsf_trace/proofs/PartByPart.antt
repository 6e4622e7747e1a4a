-- Entries in two parts, whose lines are written one part after the other.
use Rattle.tlsf_trace.proofs.Common.{◌≡◌, ℕ, Bool, true, false, cond, List, [], ◌∷◌, ◌++◌, Option, drop, refl, Entry, is_taken, labels_left}

one_more : (xs ys : List Entry) (labels : List (Option ℕ)) (taken : Bool)
    → labels_left (xs ++ ys) labels ≡ labels_left ys (labels_left xs labels) → labels_left (xs ++ ys) (drop 1 labels) ≡ labels_left ys (labels_left xs (drop 1 labels))
    → cond taken (labels_left (xs ++ ys) labels) (labels_left (xs ++ ys) (drop 1 labels)) ≡ labels_left ys (cond taken (labels_left xs labels) (labels_left xs (drop 1 labels)))
one_more xs ys labels true all fewer = all
one_more xs ys labels false all fewer = fewer

-- the second part has the labels that the first leaves
pub labels_left-append : (xs ys : List Entry) (labels : List (Option ℕ)) → labels_left (xs ++ ys) labels ≡ labels_left ys (labels_left xs labels)
labels_left-append [] ys labels = refl
labels_left-append (x ∷ xs) ys labels = one_more xs ys labels (is_taken x.call) (labels_left-append xs ys labels) (labels_left-append xs ys (drop 1 labels))

-- Reply lines of entries, one entry after another.
use Rattle.tlsf_lines.proofs.Common.{[], ◌∷◌, ◌≡◌, ◌+◌, ◌<◌, ◌++◌, ℕ, Bool, true, false, List, Option, None, length, get_or, drop, refl, sym, ap, ◌∙◌, cond, append_assoc, at_drop_more}
use Rattle.tlsf_calls.specs.declared.entry.Entry.{Entry}
use Rattle.tlsf_lines.specs.ReplyLines.{is_taken, labels_left, reply_line, reply_text}

-- the lines of what is left begin with that of a post that a drain took, which has no label and leaves all labels
pub next_taken : (entries : List Entry) (labels : List (Option ℕ)) (i : ℕ) (d : Entry) → i < length entries → is_taken (get_or entries i d).call ≡ true
    → (reply_text (drop i entries) labels ≡ reply_line (get_or entries i d) None ++ reply_text (drop (i + 1) entries) labels)
    × (labels_left (drop i entries) labels ≡ labels_left (drop (i + 1) entries) labels)
next_taken entries labels i d lt taken =
    (at_drop_more (λ es. reply_text es labels) entries i d lt ∙ rw taken refl, at_drop_more (λ es. labels_left es labels) entries i d lt ∙ rw taken refl)

-- or with that of an entry that has the next label, and leaves the others
pub next_called : (entries : List Entry) (labels : List (Option ℕ)) (i : ℕ) (d : Entry) → i < length entries → is_taken (get_or entries i d).call ≡ false
    → (reply_text (drop i entries) labels ≡ reply_line (get_or entries i d) (get_or labels 0 None) ++ reply_text (drop (i + 1) entries) (drop 1 labels))
    × (labels_left (drop i entries) labels ≡ labels_left (drop (i + 1) entries) (drop 1 labels))
next_called entries labels i d lt called =
    (at_drop_more (λ es. reply_text es labels) entries i d lt ∙ rw called refl, at_drop_more (λ es. labels_left es labels) entries i d lt ∙ rw called refl)

-- an entry before those of two parts, and those after it in two parts
one_more : (x : Entry) (xs ys : List Entry) (labels : List (Option ℕ)) (taken : Bool)
    → reply_text (xs ++ ys) labels ≡ reply_text xs labels ++ reply_text ys (labels_left xs labels)
    → reply_text (xs ++ ys) (drop 1 labels) ≡ reply_text xs (drop 1 labels) ++ reply_text ys (labels_left xs (drop 1 labels))
    → cond taken (reply_line x None ++ reply_text (xs ++ ys) labels) (reply_line x (get_or labels 0 None) ++ reply_text (xs ++ ys) (drop 1 labels))
    ≡ cond taken (reply_line x None ++ reply_text xs labels) (reply_line x (get_or labels 0 None) ++ reply_text xs (drop 1 labels))
    ++ reply_text ys (cond taken (labels_left xs labels) (labels_left xs (drop 1 labels)))
one_more x xs ys labels true all fewer = ap (λ (l : List ℕ). reply_line x None ++ l) all ∙ sym (append_assoc (reply_line x None) _ _)
one_more x xs ys labels false all fewer =
    ap (λ (l : List ℕ). reply_line x (get_or labels 0 None) ++ l) fewer ∙ sym (append_assoc (reply_line x (get_or labels 0 None)) _ _)

-- the lines of entries in two parts
pub reply_text-append : (xs ys : List Entry) (labels : List (Option ℕ)) → reply_text (xs ++ ys) labels ≡ reply_text xs labels ++ reply_text ys (labels_left xs labels)
reply_text-append [] ys labels = refl
reply_text-append (x ∷ xs) ys labels = one_more x xs ys labels (is_taken x.call) (reply_text-append xs ys labels) (reply_text-append xs ys (drop 1 labels))

-- The posters' ends that are left once the last was given.
use Rattle.tlsf_c.proofs.Common.{◌≡◌, ◌++◌, ◌∷◌, [], List, map, ap, ◌∙◌, Option, Some, None, IfSome, AnyEnd, QueueEnd}
use Rattle.core.specs.Option.{option_to_list}
use Rattle.std.proofs.Common.{Box, Global}
use Rattle.std.proofs.lemmas.List.{map-append}
use Rattle.std.proofs.lemmas.List.Elements.{All-pop}
use Rattle.tlsf_c.specs.Ends.{HasGiven, IsIdlePoster, left_in_end}

pub popped : (old new : QueueEnd) (r : Option (Box AnyEnd Global)) → old.left.items ≡ new.left.items ++ option_to_list r → IfSome r (λ b. HasGiven old new b.value)
popped old new (Some b) is =
    let last : left_in_end old ≡ left_in_end new ++ b.value ∷ [] =
    ap (λ (l : List (Box AnyEnd Global)). map (λ b. b.value) l) is ∙ map-append (λ (b : Box AnyEnd Global). b.value) new.left.items (b ∷ []) in
    record { last = last; posters = All-pop IsIdlePoster (left_in_end old) (left_in_end new) (Some b.value) last }
popped old new None is = tt

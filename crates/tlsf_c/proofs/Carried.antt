-- A fact of one level is one of the heap whose level is told.
use Rattle.std.proofs.Common.{◌≡◌, sym, subst}

-- what holds of an answer, of what is left and of what was before, holds of those that they are
pub carried : {A S : Type 0} (P : A → S → S → Type 0) (r s : A) (k j h g : S) → r ≡ s → k ≡ j → h ≡ g → P s j h → P r k g
carried {A} {S} P r s k j h g e f same held =
    subst (λ (x : A). P x k g) (sym e) (subst (λ (x : S). P s x g) (sym f) (subst (λ (x : S). P s j x) same held))

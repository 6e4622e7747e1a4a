-- The meaning of an option.
use Rattle.std.proofs.Common.{◌≡◌, Option, Some}

pub some_is : {A : Type 0} (x y : A) → ◌≡◌ {A = Option A} (Some x) (Some y) → x ≡ y
some_is x y e = cc

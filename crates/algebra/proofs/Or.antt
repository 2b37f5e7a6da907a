-- Tests that are joined by `||`, by cases on the first.
use mathlib.Core.Path.{◌≡◌, refl}
use mathlib.Core.Bool.{Bool, true, false, ◌||◌}

-- where the whole fails, both fail
pub or_left : (p q : Bool) → (p || q) ≡ false → p ≡ false
or_left false q e = refl
or_left true q e = e

pub or_right : (p q : Bool) → (p || q) ≡ false → q ≡ false
or_right false q e = e
or_right true q e = cc

-- the answer is that of the first where it holds, and else that of the second
pub or_yes : (p q : Bool) → p ≡ true → p ≡ (p || q)
or_yes true q e = refl
or_yes false q e = cc

pub or_no : (p q : Bool) → p ≡ false → q ≡ (p || q)
or_no true q e = cc
or_no false q e = refl

-- where the second holds, the whole does
pub or_second : (p q : Bool) → q ≡ true → (p || q) ≡ true
or_second true q e = refl
or_second false q e = e

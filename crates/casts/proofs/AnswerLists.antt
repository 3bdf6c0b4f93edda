-- What answers are, and that the cases of an answer tell each other apart. Assumes nothing.
use Prim.Native.Nat.{ℕ}
use mathlib.Core.Path.{◌≡◌}
use mathlib.Core.Bool.{true, false}
use native.Mathlib.Omega.{arith}
use lib.Ieee.{Float, lt, le, is_nan}
use Rattle.vectors.specs.declared.vec3.Vec3.{Vec3}
use Rattle.casts.specs.Answer.{Answer, hit, none, refused}

-- ---- what answers are

abbrev pub AnswersNone : (ℕ → Answer) → ℕ → Type 0
AnswersNone answer j = answer j ≡ none

abbrev pub NotRefused : (ℕ → Answer) → ℕ → Type 0
NotRefused answer j = (number : ℕ) → answer j ≡ refused number → ⊥

-- if an answer is a hit, the distance is such
abbrev pub OfHit : (Float → Type 0) → Answer → Type 0
OfHit P a = (normal : Vec3) (distance : Float) → a ≡ hit normal distance → P distance

abbrev pub HitSuch : (Float → Type 0) → (ℕ → Answer) → ℕ → Type 0
HitSuch P answer j = OfHit P (answer j)

abbrev pub IsNumber : Float → Type 0
IsNumber distance = is_nan distance ≡ false

-- no triangle is hit at a distance that is not a number
abbrev pub HitsAreNumbers : (ℕ → Answer) → Type 0
HitsAreNumbers answer = (j : ℕ) → HitSuch IsNumber answer j

abbrev pub AtLeast : Float → Float → Type 0
AtLeast d distance = le d distance ≡ true

abbrev pub Farther : Float → Float → Type 0
Farther d distance = lt d distance ≡ true

-- ---- the cases of an answer tell each other apart
pub none_not_refused : (a : Answer) (number : ℕ) → a ≡ none → a ≡ refused number → ⊥
none_not_refused a number h k = let z : ◌≡◌ {A = ℕ} 0 1 = cc in omega arith

pub hit_not_refused : (a : Answer) (n : Vec3) (d : Float) (number : ℕ) → a ≡ hit n d → a ≡ refused number → ⊥
hit_not_refused a n d number h k = let z : ◌≡◌ {A = ℕ} 0 1 = cc in omega arith

pub none_not_hit : (a : Answer) (n : Vec3) (d : Float) → a ≡ none → a ≡ hit n d → ⊥
none_not_hit a n d h k = let z : ◌≡◌ {A = ℕ} 0 1 = cc in omega arith

pub same_distance : (a : Answer) (n n' : Vec3) (d d' : Float) → a ≡ hit n d → a ≡ hit n' d' → d ≡ d'
same_distance a n n' d d' h k = cc

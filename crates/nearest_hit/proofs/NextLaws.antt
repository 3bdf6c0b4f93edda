-- One more triangle that misses, or lies no nearer, changes nothing. Assumes nothing.
use Prim.Native.Nat.{ℕ}
use mathlib.Core.Path.{◌≡◌, refl, ap, ◌∙◌}
use mathlib.Core.Bool.{false, true≢false}
use native.Mathlib.Omega.{arith}
use lib.Ieee.{Float, lt}
use Rattle.casts.specs.Answer.{Answer, hit, none, refused}
use Rattle.nearest_hit.specs.Nearest.{Indexed, hit_at, no_hit, stopped, next_of, gives_way}
use Rattle.casts.specs.Reach.{reach_of}
use Rattle.casts.specs.Reach.{At, Miss, Refused}
use Rattle.triangle_cast.proofs.ReachLaws.{missed}

pub next_none : (best : Indexed) (index : ℕ) → best ≡ next_of best index none
unfolding next_of
next_none (hit_at n d i) index = refl
next_none no_hit index = refl
next_none (stopped number) index = refl

pub next_missed : (best : Indexed) (index : ℕ) (x : Answer) → reach_of x ≡ Miss → best ≡ next_of best index x
next_missed best index x h = next_none best index ∙ ap (next_of best index) (missed x h)

-- ---- what an answer reaches tells its case and its distance
pub miss_not_at : (d : Float) → Miss ≡ At d → ⊥
miss_not_at d h = let z : ◌≡◌ {A = ℕ} 0 1 = cc in omega arith

pub refused_not_at : (number : ℕ) (d : Float) → Refused number ≡ At d → ⊥
refused_not_at number d h = let z : ◌≡◌ {A = ℕ} 0 1 = cc in omega arith

pub same_reach : (e d : Float) → At e ≡ At d → e ≡ d
same_reach e d h = cc

pub next_farther : (best : Indexed) (index : ℕ) (x : Answer) (d : Float) → reach_of x ≡ At d → gives_way best d ≡ false → best
    ≡ next_of best
    index x
unfolding next_of gives_way reach_of
next_farther best index none d h f = absurd (miss_not_at d h)
next_farther best index (refused number) d h f = absurd (refused_not_at number d h)
next_farther no_hit index (hit n e) d h f = absurd (true≢false f)
next_farther (stopped number) index (hit n e) d h f = refl
next_farther (hit_at m least i) index (hit n e) d h f = simp (ap (λ (z : Float). lt z least) (same_reach e d h) ∙ f)

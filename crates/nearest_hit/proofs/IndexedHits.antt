-- What holds of the distance of every hit holds of that of the nearest of many. Assumes nothing.
use Prim.Native.Nat.{ℕ}
use mathlib.Core.Path.{◌≡◌, refl, sym, subst}
use mathlib.Core.Bool.{Bool, true, false, cond}
use mathlib.Core.List.{List, [], ◌∷◌}
use lib.Ieee.{Float, lt}
use Rattle.vectors.specs.declared.vec3.Vec3.{Vec3}
use Rattle.casts.specs.Answer.{Answer, hit, none, refused}
use Rattle.nearest_hit.specs.Nearest.{Indexed, hit_at, no_hit, stopped, next_of, fold_from, nearest_of, without_index}
use Rattle.casts.proofs.AnswerLists.{OfHit, HitSuch}
use Rattle.nearest_hit.proofs.IndexedCases.{hit_not_none, hit_not_stopped}
use Rattle.casts.proofs.HitLaws.{of_none, of_refused, of_hit}

abbrev pub OfIndexedHit : (Float → Type 0) → Indexed → Type 0
OfIndexedHit P best = (normal : Vec3) (distance : Float) (index : ℕ) → best ≡ hit_at normal distance index → P distance

module _ (P : Float → Type 0) where
  same_hit_at : (n m : Vec3) (d e : Float) (i j : ℕ) → hit_at n d i ≡ hit_at m e j → d ≡ e
  same_hit_at n m d e i j h = cc

  pub stopped_such : (number : ℕ) → OfIndexedHit P (stopped number)
  stopped_such number n d i h = absurd (hit_not_stopped n d i number (sym h))

  pub cond_such : (test : Bool) (x y : Indexed) → OfIndexedHit P x → OfIndexedHit P y → OfIndexedHit P (cond test x y)
  cond_such true x y p q = p
  cond_such false x y p q = q

  none_such : OfIndexedHit P no_hit
  none_such n d i h = absurd (hit_not_none n d i (sym h))

  hit_such_at : (normal : Vec3) (distance : Float) (index : ℕ) → P distance → OfIndexedHit P (hit_at normal distance index)
  hit_such_at normal distance index p n d i h = subst P (same_hit_at normal n distance d index i h) p

  next_such : (best : Indexed) (index : ℕ) (a : Answer) → OfIndexedHit P best → OfHit P a → OfIndexedHit P (next_of best index a)
  unfolding next_of
  next_such (stopped number) index a p q = stopped_such number
  next_such no_hit index (hit n d) p q = hit_such_at n d index (q n d refl)
  next_such no_hit index none p q = none_such
  next_such no_hit index (refused number) p q = stopped_such number
  next_such (hit_at m e i) index (hit n d) p q = go (lt d e)
    where
      go : (b : Bool) → OfIndexedHit P (cond b (hit_at n d index) (hit_at m e i))
      go true = hit_such_at n d index (q n d refl)
      go false = p
  next_such (hit_at m e i) index none p q = p
  next_such (hit_at m e i) index (refused number) p q = stopped_such number

  fold_such : (answer : ℕ → Answer) (best : Indexed) (l : List ℕ) → OfIndexedHit P best → ((j : ℕ) → HitSuch P answer j) → OfIndexedHit P
      (fold_from answer best l)
  unfolding fold_from
  fold_such answer best [] p q = p
  fold_such answer best (x ∷ xs) p q = fold_such answer (next_of best x (answer x)) xs (next_such best x (answer x) p (q x)) q

  -- what holds of every hit's distance holds of the nearest one's
  pub nearest_such : (answer : ℕ → Answer) (l : List ℕ) → ((j : ℕ) → HitSuch P answer j) → OfIndexedHit P (nearest_of answer l)
  nearest_such answer l q = fold_such answer no_hit l none_such q

  pub without_index_such : (best : Indexed) → OfIndexedHit P best → OfHit P (without_index best)
  unfolding without_index
  without_index_such (hit_at normal distance index) p = of_hit P normal distance (p normal distance index refl)
  without_index_such no_hit p = of_none P
  without_index_such (stopped number) p = of_refused P number

-- On whole millimetres the exported triangle calls answer as the exact crossing says; K4 and K6, four times as large. Assumes nothing.
use mathlib.Core.Path.{◌≡◌, refl, sym, ap, ◌∙◌, subst}
use mathlib.Core.Logic.{◌⊎◌, inl, inr}
use mathlib.Core.List.{List, [], ◌∷◌}
use Prim.Native.Nat.{ℕ, ◌≤◌}
use native.Mathlib.Omega.{arith}
use lib.Dec.{lit≤}
use lib.IntN.{ℤ, pos, negsuc, nat_abs}
use lib.Signed.{lt_z_yes}
use lib.Ieee.{Float, nan, binary64, span, climb, size, odd, units, round, of_int, eq, of_fields, of_bits}
use lib.ListN.{length}
use lib.Seq.{sets, lt-length-sets, get_or-set_same}
use borrow.Author.Tests.{le-leb}
use Rattle.vectors.specs.Numbers.{zeroᶠ}
use Rattle.vectors.specs.declared.vec3.Vec3.{Vec3}
use Rattle.geometry.specs.declared.ray.Ray.{Ray}
use Rattle.casts.specs.Answer.{Answer, hit, none, refused}
use Rattle.triangle_cast.specs.Triangle.{ray_triangle}
use Rattle.tree.specs.Layout.{number_at}
use Rattle.results.specs.Results.{Returned, ray_from, ray_of, corners_of, hit_code, none_code, returned, answered}
use Rattle.whole_numbers.specs.WholeTriangle.{Drawing, Drawn, WholeTriangle, Crossing, Within, sum as far, ExactOnWholeNumbers}
use Rattle.whole_numbers.specs.WholeMesh.{Met, Missed, parallel, outside, behind, beyond}
use Rattle.whole_numbers.specs.Returned.{Says, ReturnedExact, NearCallExact, CallExact}
use Rattle.whole_numbers.proofs.WholeTriangles.{exact_on_whole_numbers}
use Rattle.whole_numbers.proofs.Examples.{k4, k4_whole, k4_met, k6, k6_whole, k6_crossing}

with_room_lem : (a : Answer) (area : List Float) → 4 ≤ length area → answered a area ≡ returned a area
unfolding answered
with_room_lem a area room = simp (le-leb 4 (length area) room)

module _ (r : Ray) (vs : List Vec3) (g : Drawing) (whole_triangle : WholeTriangle r vs g)
    (number : ℕ) (before after : List Float) (room : 4 ≤ length before) (says : Says r vs number before after) where
  exact : ExactOnWholeNumbers r vs g
  exact = exact_on_whole_numbers r vs g whole_triangle

  -- ---- each answer of the cast, as it is told
  is_returned : (a : Answer) → ray_triangle r vs ≡ a → ◌≡◌ {A = Returned} (record { number = number; hit = after }) (returned a before)
  is_returned a e = says ∙ ap (λ (b : Answer). answered b before) e ∙ with_room_lem a before room

  number_of : (a : Answer) → ray_triangle r vs ≡ a → number ≡ (returned a before).number
  number_of a e = ap (λ (x : Returned). x.number) (is_returned a e)

  slice_of : (a : Answer) → ray_triangle r vs ≡ a → after ≡ (returned a before).hit
  slice_of a e = ap (λ (x : Returned). x.hit) (is_returned a e)

  returned_hit : (normal : Vec3) (distance : Float) → ray_triangle r vs ≡ hit normal distance → number ≡ hit_code
  unfolding returned
  returned_hit n d e = number_of (hit n d) e

  told_none : ray_triangle r vs ≡ none → number ≡ none_code
  unfolding returned
  told_none e = number_of none e

  distance_fourth : (normal : Vec3) (distance : Float) → ray_triangle r vs ≡ hit normal distance → number_at after 3 ≡ distance
  unfolding returned
  distance_fourth n d e =
      ap (λ (xs : List Float). number_at xs 3) (slice_of (hit n d) e)
      ∙ get_or-set_same (sets before 0 (n.x ∷ n.y ∷ n.z ∷ [])) 3 d nan (lt-length-sets before 0 (n.x ∷ n.y ∷ n.z ∷ []) room)

  -- ---- the clauses
  answers : (a : Answer) → ray_triangle r vs ≡ a → (number ≡ hit_code) ⊎ (number ≡ none_code)
  answers (hit n d) e = inl (returned_hit n d e)
  answers none e = inr (told_none e)
  answers (refused k) e = absurd (exact.answers k e)

  hits : (D : ℕ) (u v t : ℤ) → Met g D u v t → number ≡ hit_code
  hits D u v t m =
      let w = exact.hits m.apart D u v t m.crossing m.inside m.from_zero m.below_maximum in returned_hit w.0 w.1
      w.2

  misses : Missed g → ray_triangle r vs ≡ none
  misses (parallel h) = exact.parallel h
  misses (outside D u v t c h) = exact.outside D u v t c h
  misses (behind D u v t c h) = exact.behind D u v t c h
  misses (beyond D u v t c h) = exact.beyond D u v t c h

  unchanged : (a : Answer) → ray_triangle r vs ≡ a → number ≡ none_code → after ≡ before
  unfolding returned
  unchanged (hit n d) e h = absurd (omega (arith, returned_hit n d e, h))
  unchanged none e h = slice_of none e
  unchanged (refused k) e h = absurd (exact.answers k e)

  near : (a : Answer) → ray_triangle r vs ≡ a → number ≡ hit_code
      → (D : ℕ) (u v t : ℤ) → Crossing g D u v t → Within (number_at after 3) (nat_abs t) D
  near (hit n d) e h D u v t c = subst (λ (x : Float). Within x (nat_abs t) D) (sym (distance_fourth n d e)) (exact.near n d e D u v t c)
  near none e h D u v t c = absurd (omega (arith, told_none e, h))
  near (refused k) e h D u v t c = absurd (exact.answers k e)

  pub returned_exact : ReturnedExact g number before after
  returned_exact = record {
    answers = answers (ray_triangle r vs) refl;
    hits = hits;
    misses = λ h. told_none (misses h);
    degenerate = λ h. told_none (exact.degenerate h);
    unchanged = unchanged (ray_triangle r vs) refl;
    near = near (ray_triangle r vs) refl;
  }

-- ---- both calls
pub near_call_exact : NearCallExact
near_call_exact ox oy oz dx dy dz maximum least ax ay az bx by bz cx cy cz g number before after whole_triangle room says =
    returned_exact (ray_from ox oy oz dx dy dz maximum least) (corners_of ax ay az bx by bz cx cy cz) g whole_triangle number before after
    room says

pub call_exact : CallExact
call_exact ox oy oz dx dy dz maximum ax ay az bx by bz cx cy cz g number before after whole_triangle room says =
    near_call_exact ox oy oz dx dy dz maximum zeroᶠ ax ay az bx by bz cx cy cz g number before after whole_triangle room says

-- ---- K4, four times as large, by eight numbers: 256, and the fourth number is 16 / 4 within the bound
abbrev whole : ℕ → Float
whole n = of_int binary64 (pos n)

abbrev down : Float
down = of_int binary64 (negsuc 0)

abbrev four : List Float
four = zeroᶠ ∷ zeroᶠ ∷ zeroᶠ ∷ zeroᶠ ∷ []

abbrev corners : List Vec3
corners = corners_of (whole 0) (whole 0) (whole 0) (whole 4) (whole 0) (whole 0) (whole 0) (whole 4) (whole 0)

abbrev k4_returned : Returned
k4_returned = answered (ray_triangle (ray_from (whole 1) (whole 1) (whole 4) (whole 0) (whole 0) down (whole 5) (whole 0)) corners) four

pub k4_exact : ReturnedExact k4 k4_returned.number four k4_returned.hit
k4_exact =
    near_call_exact (whole 1) (whole 1) (whole 4) (whole 0) (whole 0) down (whole 5) (whole 0)
    (whole 0) (whole 0) (whole 0) (whole 4) (whole 0) (whole 0) (whole 0) (whole 4) (whole 0)
    k4 k4_returned.number four k4_returned.hit k4_whole (lit≤ tt) refl

pub k4_says_hit : (k4_returned.number ≡ hit_code) × Within (number_at k4_returned.hit 3) 16 4
k4_says_hit =
    let h = k4_exact.hits 4 (pos 1) (pos 1) (pos 16) k4_met in (h, k4_exact.near h 4 (pos 1) (pos 1) (pos 16) k4_met.crossing)

-- ---- K6, four times as large, by seven numbers: 257, and nothing is written
abbrev k6_ray : Ray
k6_ray = ray_of (whole 3) (whole 2) (whole 4) (whole 0) (whole 0) down (whole 5)

nought : Drawn 0 zeroᶠ (pos 0)
unfolding eq of_int round units odd size climb span of_bits of_fields
nought = record { equal = refl; bound = lit≤ tt }

k6_drawn : WholeTriangle k6_ray corners k6
k6_drawn = record {
  origin = k6_whole.origin;
  direction = k6_whole.direction;
  near = nought;
  maximum = k6_whole.maximum;
  positive = k6_whole.positive;
  first = k6_whole.first;
  second = k6_whole.second;
  third = k6_whole.third;
}

abbrev k6_returned : Returned
k6_returned = answered (ray_triangle k6_ray corners) four

pub k6_exact : ReturnedExact k6 k6_returned.number four k6_returned.hit
k6_exact =
    call_exact (whole 3) (whole 2) (whole 4) (whole 0) (whole 0) down (whole 5)
    (whole 0) (whole 0) (whole 0) (whole 4) (whole 0) (whole 0) (whole 0) (whole 4) (whole 0)
    k6 k6_returned.number four k6_returned.hit k6_drawn (lit≤ tt) refl

pub k6_says_none : (k6_returned.number ≡ none_code) × (k6_returned.hit ≡ four)
k6_says_none =
    let h = k6_exact.misses (outside 4 (pos 3) (pos 2) (pos 16) k6_crossing (far (lt_z_yes tt))) in (h, k6_exact.unchanged h)

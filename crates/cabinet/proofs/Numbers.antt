-- A part's own cast refuses with a number above the tests' and below the limit's, so that 10 is answered exactly where the limit is less
-- than the need. Assumes nothing.
use Prim.Native.Nat.{ℕ}
use mathlib.Core.Path.{◌≡◌, refl}
use mathlib.Core.Bool.{Bool, true, false, ◌&&◌, cond}
use mathlib.Core.List.{List, [], ◌∷◌}
use lib.Dec.{ltb}
use lib.Ieee.{Float, lt, le, is_nan}
use lib.ListN.{length}
use Rattle.std.specs.Prelude.{Option, Some, None}
use Rattle.vectors.specs.Numbers.{◌+ᶠ◌, ◌*ᶠ◌, ◌/ᶠ◌, zeroᶠ, oneᶠ}
use Rattle.vectors.specs.Vector.{finite_vec, sub_of, cross_of, dot_of, checked_dot, try_normalize}
use Rattle.geometry.specs.Box.{valid_box}
use Rattle.geometry.specs.Segment.{segment_end, segment_box}
use Rattle.vectors.specs.declared.vec3.Vec3.{Vec3}
use Rattle.geometry.specs.declared.ray.Ray.{Ray}
use Rattle.casts.specs.Answer.{Answer, hit, none, refused, with_value, with_normal, no_room, no_normal, out_of_bounds, overflow}
use Rattle.casts.specs.Answer.{limit_reached}
use Rattle.casts.specs.Surface.{off_segment, facing}
use Rattle.triangle_cast.specs.Triangle.{flat, triangle_normal, triangle_above, triangle_at, triangle_of}
use Rattle.nearest_hit.specs.Nearest.{Indexed, hit_at, no_hit, stopped, next_of, fold_from}
use Rattle.tree.specs.Layout.{Tree}
use Rattle.tree.specs.Mesh.{Mesh, thirds, corners_inside, corner_at, triangle_answer}
use Rattle.tree_walk.specs.Walk.{Walking, walking, broken, walk_of}
use Rattle.mesh.specs.MeshCast.{over_walk, mesh_cast}
use Rattle.cabinet.specs.declared.part.Part.{Part}
use Rattle.cabinet.specs.Found.{Found, Nothing, Hit, Refused, Progress}
use Rattle.cabinet.specs.Parts.{Areas, mesh_of, tree_of_part}
use Rattle.cabinet.specs.PartCast.{Costed, costing, moved_ray, need_of, own_cast}
use Rattle.cabinet.specs.Cabinet.{is_refused, found_next, after_part, own_part, own_parts}
use Rattle.cabinet.proofs.Limits.{after_refused, after_begun}

abbrev pub of_part : ℕ → Bool
of_part number = ltb no_room number && ltb number limit_reached

-- ---- a triangle's answer
abbrev plain : Answer → Bool
plain (refused number) = of_part number
plain none = true
plain (hit normal distance) = true

either : (b : Bool) (x y : Answer) → plain x ≡ true → plain y ≡ true → plain (cond b x y) ≡ true
either true x y e f = e
either false x y e f = f

value_plain : (c : Option Float) (k : Float → Answer) → ((x : Float) → plain (k x) ≡ true) → plain (with_value c k) ≡ true
value_plain (Some x) k h = h x
value_plain None k h = refl

normal_plain : (c : Option Vec3) (k : Vec3 → Answer) → ((v : Vec3) → plain (k v) ≡ true) → plain (with_normal c no_normal k) ≡ true
normal_plain (Some v) k h = h v
normal_plain None k h = refl

triangle_normal_plain : (r : Ray) (a b : Vec3) (distance : Float) → plain (triangle_normal r a b distance) ≡ true
unfolding triangle_normal
triangle_normal_plain r a b distance = normal_plain (try_normalize (cross_of a b))
    (λ (normal : Vec3). hit (facing normal (dot_of r.direction normal)) distance) (λ v. refl)

above_plain : (r : Ray) (offset a b : Vec3) (inverse u : Float) → plain (triangle_above r offset a b inverse u) ≡ true
unfolding triangle_above
above_plain r offset a b inverse u =
    either (lt (dot_of r.direction (cross_of offset a) *ᶠ inverse) zeroᶠ) none _ refl
    (either (lt oneᶠ (u +ᶠ (dot_of r.direction (cross_of offset a) *ᶠ inverse))) none _ refl
    (either (off_segment r (dot_of b (cross_of offset a) *ᶠ inverse)) none _ refl
    (either (is_nan (dot_of b (cross_of offset a) *ᶠ inverse)) (refused overflow) _ refl
    (triangle_normal_plain r a b (dot_of b (cross_of offset a) *ᶠ inverse)))))

at_plain : (r : Ray) (offset a b p : Vec3) (determinant : Float) → plain (triangle_at r offset a b p determinant) ≡ true
unfolding triangle_at
at_plain r offset a b p determinant =
    either (le zeroᶠ (dot_of offset p *ᶠ (oneᶠ /ᶠ determinant))) _ none
    (either (le (dot_of offset p *ᶠ (oneᶠ /ᶠ determinant)) oneᶠ) _ none (above_plain r offset a b (oneᶠ /ᶠ determinant)
    (dot_of offset p *ᶠ (oneᶠ /ᶠ determinant))) refl) refl

triangle_plain : (r : Ray) (v w u : Vec3) → plain (triangle_of r v w u) ≡ true
unfolding triangle_of
triangle_plain r v w u =
    value_plain (checked_dot (sub_of w v) (cross_of r.direction (sub_of u v))) _
    (λ (d : Float). either (flat d (sub_of w v) (sub_of u v)) none _ refl (at_plain r (sub_of r.origin v) (sub_of w v) (sub_of u v)
    (cross_of r.direction (sub_of u v)) d))

answer_plain : (r : Ray) (vertices : List Float) (triangles : List ℕ) (i : ℕ) → plain (triangle_answer r vertices triangles i) ≡ true
unfolding triangle_answer
answer_plain r vertices triangles i =
    either (corners_inside (thirds (length vertices)) triangles i) _ (refused out_of_bounds)
    (triangle_plain r (corner_at vertices triangles i 0) (corner_at vertices triangles i 1) (corner_at vertices triangles i 2)) refl

-- ---- a mesh's
abbrev plain_mesh : Indexed → Bool
plain_mesh (stopped number) = of_part number
plain_mesh no_hit = true
plain_mesh (hit_at normal distance index) = true

next_plain : (best : Indexed) (i : ℕ) (a : Answer) → plain_mesh best ≡ true → plain a ≡ true → plain_mesh (next_of best i a) ≡ true
unfolding next_of
next_plain (stopped k) i a e f = e
next_plain no_hit i (hit n d) e f = refl
next_plain no_hit i none e f = refl
next_plain no_hit i (refused k) e f = f
next_plain (hit_at n d j) i (hit n' d') e f = go (lt d' d)
  where
    go : (b : Bool) → plain_mesh (cond b (hit_at n' d' i) (hit_at n d j)) ≡ true
    go true = refl
    go false = refl
next_plain (hit_at n d j) i none e f = refl
next_plain (hit_at n d j) i (refused k) e f = f

fold_plain : (answer : ℕ → Answer) → ((i : ℕ) → plain (answer i) ≡ true) → (best : Indexed) (l : List ℕ) → plain_mesh best ≡ true
    → plain_mesh (fold_from answer best l) ≡ true
unfolding fold_from
fold_plain answer h best [] e = e
fold_plain answer h best (i ∷ l) e = fold_plain answer h (next_of best i (answer i)) l (next_plain best i (answer i) e (h i))

walk_plain : (r : Ray) (vertices : List Float) (triangles : List ℕ) (w : Walking) → plain_mesh (over_walk r vertices triangles w) ≡ true
unfolding over_walk
walk_plain r vertices triangles broken = refl
walk_plain r vertices triangles (walking stack l) = fold_plain (triangle_answer r vertices triangles)
    (answer_plain r vertices triangles) no_hit l refl

mesh_plain : (r : Ray) (m : Mesh) (pose : List Float) (t : Tree) → plain_mesh (mesh_cast r m pose t) ≡ true
unfolding mesh_cast
mesh_plain r m pose t = go (finite_vec (segment_end r)) (valid_box (segment_box r))
  where
    go : (b c : Bool)
        → plain_mesh (cond b (cond c (over_walk r pose m.triangles (walk_of t (thirds (length m.triangles)) (segment_box r)))
        (stopped out_of_bounds)) (stopped overflow)) ≡ true
    go true true = walk_plain r pose m.triangles (walk_of t (thirds (length m.triangles)) (segment_box r))
    go true false = refl
    go false c = refl

own_plain : (r : Ray) (origin : Vec3) (m : Mesh) (t : Tree) → plain_mesh (own_cast r origin m t).answer ≡ true
unfolding own_cast
own_plain r origin m t = go (finite_vec (sub_of r.origin origin))
  where
    go : (b : Bool) → plain_mesh (cond b (costing (need_of (moved_ray r origin) m t) (mesh_cast (moved_ray r origin) m m.vertices t))
        (costing 0 (stopped overflow))).answer ≡ true
    go true = mesh_plain (moved_ray r origin) m m.vertices t
    go false = refl

-- ---- the cabinet's
abbrev pub plain_found : Found → Bool
plain_found (Refused number) = of_part number
plain_found Nothing = true
plain_found (Hit part index normal distance) = true

found_plain : (f : Found) (part : ℕ) (a : Indexed) → plain_found f ≡ true → plain_mesh a ≡ true → plain_found (found_next f part a) ≡ true
unfolding found_next
found_plain (Refused k) part a e f = e
found_plain Nothing part (hit_at n d i) e f = refl
found_plain Nothing part no_hit e f = refl
found_plain Nothing part (stopped k) e f = f
found_plain (Hit q j n d) part (hit_at n' d' i) e f = go (lt d' d)
  where
    go : (b : Bool) → plain_found (cond b (Hit part i n' d') (Hit q j n d)) ≡ true
    go true = refl
    go false = refl
found_plain (Hit q j n d) part no_hit e f = refl
found_plain (Hit q j n d) part (stopped k) e f = f

after_plain : (s : Progress) (c : Costed) → plain_found s.found ≡ true → plain_mesh c.answer ≡ true
    → plain_found (after_part s c).found ≡ true
after_plain s c e f = go (is_refused s.found) refl
  where
    go : (b : Bool) → is_refused s.found ≡ b → plain_found (after_part s c).found ≡ true
    go true g = rw (after_refused s c g) e
    go false g = rw (after_begun s c g) (found_plain s.found s.part c.answer e f)

pub parts_plain : (r : Ray) (a : Areas) (s : Progress) (ps : List Part) → plain_found s.found ≡ true
    → plain_found (own_parts r a s ps).found ≡ true
unfolding own_parts own_part
parts_plain r a s [] e = e
parts_plain r a s (p ∷ ps) e =
    let c = own_cast r p.origin (mesh_of a p) (tree_of_part a p) in
    parts_plain r a (after_part s c) ps (after_plain s c e (own_plain r p.origin (mesh_of a p) (tree_of_part a p)))

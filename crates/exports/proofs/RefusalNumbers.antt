-- Every refusal of a definition that a call answers has a number below the codes: the casts at planes, triangles and meshes. Assumes
-- nothing.
use Rattle.std.specs.Prelude.{Option, Some, None}
use Prim.Native.Nat.{ℕ, ◌<◌}
use mathlib.Core.Path.{◌≡◌, refl, ap, subst, ◌∙◌}
use mathlib.Core.Bool.{Bool, true, false, ◌&&◌, cond}
use mathlib.Core.List.{List, [], ◌∷◌}
use borrow.Author.Tests.{ltb-true}
use lib.Dec.{ltb, eqb}
use lib.Ieee.{Float, lt, le}
use lib.ListN.{length}
use Rattle.lists.proofs.JoinedTests.{and_first, and_second}
use Rattle.lists.specs.Refusals.{Test, unless_refused}
use Rattle.arithmetic.specs.Basic.{is_finite, absolute}
use Rattle.vectors.specs.Numbers.{◌-ᶠ◌, ◌/ᶠ◌}
use Rattle.vectors.specs.Vector.{finite_vec, checked_dot}
use Rattle.vectors.specs.declared.vec3.Vec3.{Vec3}
use Rattle.geometry.specs.Box.{corner, valid_box}
use Rattle.geometry.specs.Segment.{ray_admitted, segment_end, segment_box}
use Rattle.geometry.specs.declared.aabb.Aabb.{Aabb}
use Rattle.geometry.specs.declared.ray.Ray.{Ray}
use Rattle.casts.specs.Answer.{Answer, hit, none, refused, with_value}
use Rattle.casts.specs.Answer.{invalid_input, bad_shape, out_of_bounds, overflow}
use Rattle.casts.specs.SegmentBox.{with_segment_box}
use Rattle.casts.specs.Surface.{off_segment}
use Rattle.casts.specs.Plane.{parallel, plane_admitted, plane_at, plane_cast, ray_plane}
use Rattle.casts.specs.declared.plane.Plane.{Plane}
use Rattle.triangle_cast.specs.Triangle.{triangle_cast, ray_triangle}
use Rattle.nearest_hit.specs.Nearest.{Indexed, hit_at, no_hit, stopped, next_of, fold_from}
use Rattle.tree.specs.Layout.{Tree}
use Rattle.tree.specs.Mesh.{Mesh, thirds, lengths_admitted, triangle_answer, candidates}
use Rattle.tree.specs.Mesh.{triangles_fit}
use Rattle.tree_walk.specs.Walk.{Walking, walking, broken, walk_of}
use Rattle.mesh.specs.MeshCast.{over_walk, mesh_cast, mesh_tests, ray_mesh}
use Rattle.mesh_plain.specs.PlainCast.{over_triangles, plain_cast, ray_mesh_plain}
use Rattle.mesh_hits.proofs.RefusalNumbers.{triangle_small, answer_small}
use Rattle.slice_casts.specs.Slices.{ray_in, of_slices}
use Rattle.exports.specs.Codes.{Below}

-- ---- a number that is read off an answer stays below the codes
pub record Small {A : Type 0} (number_of : A → ℕ) (answer : A) : Type 0 where
  pub below : number_of answer < 256

pub is_small : {A : Type 0} {f : A → ℕ} {x : A} → f x < 256 → Small f x
is_small h = record { below = h }

pub leaf : {A : Type 0} (f : A → ℕ) (x : A) → ltb (f x) 256 ≡ true → Small f x
leaf f x h = record { below = ltb-true (f x) 256 h }

-- where a refusal's number is read off it, every refusal that the answer can be is below
pub small_below : {A : Type 0} (f : A → ℕ) (refuse : ℕ → A) → ((n : ℕ) → f (refuse n) ≡ n) → (answer : A) → Small f answer
    → Below refuse answer
small_below f refuse back answer s number e = subst (λ (n : ℕ). n < 256) (ap f e ∙ back number) s.below

-- what a test chooses
pub chosen : {A : Type 0} {f : A → ℕ} {x y : A} (b : Bool) → Small f x → Small f y → Small f (cond b x y)
chosen true p q = p
chosen false p q = q

-- what tests refuse with, and what is asked with a segment's box, as long as all else is small
unfoldable pub small_tests : List Test → Bool
small_tests [] = true
small_tests (t ∷ ts) = ltb t.number 256 && small_tests ts

module _ {A : Type 0} (f : A → ℕ) (refuse : ℕ → A) (such : (k : ℕ) → ltb k 256 ≡ true → Small f (refuse k)) where
  pub tested : (ts : List Test) (x : A) → small_tests ts ≡ true → Small f x → Small f (unless_refused refuse ts x)
  unfolding small_tests
  tested [] x h p = p
  tested (t ∷ ts) x h p =
      chosen t.passes (tested ts x (and_second (ltb t.number 256) (small_tests ts) h) p)
      (such t.number (and_first (ltb t.number 256) (small_tests ts) h))

  pub boxed : (r : Ray) (next : Aabb → A) → ((box : Aabb) → Small f (next box)) → Small f (with_segment_box refuse r next)
  boxed r next p =
      chosen (finite_vec (segment_end r))
      (chosen (valid_box (segment_box r)) (p (segment_box r)) (such out_of_bounds refl)) (such overflow refl)

-- ---- one shape
unfoldable pub answer_number : Answer → ℕ
answer_number (hit n d) = 0
answer_number none = 0
answer_number (refused number) = number

pub refuses : (k : ℕ) → ltb k 256 ≡ true → Small answer_number (refused k)
unfolding answer_number
refuses k h = leaf answer_number (refused k) h

pub misses : Small answer_number none
unfolding answer_number
misses = leaf answer_number none refl

pub hits : (n : Vec3) (d : Float) → Small answer_number (hit n d)
unfolding answer_number
hits n d = leaf answer_number (hit n d) refl

-- by a law that speaks of refusals
by_refusals : (a : Answer) → ((number : ℕ) → a ≡ refused number → number < 256) → Small answer_number a
unfolding answer_number
by_refusals (hit n d) h = hits n d
by_refusals none h = misses
by_refusals (refused k) h = is_small (h k refl)

at_small : (s : Plane) (r : Ray) (x y : Float) → Small answer_number (plane_at s r x y)
unfolding plane_at
at_small s r x y = chosen (is_finite y) (chosen (off_segment r y) misses (hits _ _)) (refuses overflow refl)

pub plane_small : (s : Plane) (r : Ray) → Small answer_number (ray_plane s r)
unfolding ray_plane plane_cast
plane_small s r =
    chosen (ray_admitted r)
    (chosen (plane_admitted s) (cast (checked_dot r.direction s.normal) (checked_dot r.origin s.normal)) (refuses bad_shape refl))
    (refuses invalid_input refl)
  where
    past : (x : Float) (c : Option Float) → Small answer_number
        (with_value c (λ (height : Float). plane_at s r x ((s.distance -ᶠ height) /ᶠ x)))
    past x (Some height) = at_small s r x _
    past x None = refuses overflow refl

    cast : (c e : Option Float) → Small answer_number (with_value c (λ (x : Float). cond (le (absolute x) parallel) none
        (with_value e (λ (height : Float). plane_at s r x ((s.distance -ᶠ height) /ᶠ x)))))
    cast (Some x) e = chosen (le (absolute x) parallel) misses (past x e)
    cast None e = refuses overflow refl

pub corners_small : (r : Ray) (vs : List Vec3) → Small answer_number (triangle_cast r vs)
corners_small r vs = by_refusals _ (triangle_small r (corner vs 0) (corner vs 1) (corner vs 2)).below

pub ray_triangle_small : (r : Ray) (vs : List Vec3) → Small answer_number (ray_triangle r vs)
unfolding ray_triangle
ray_triangle_small r vs = chosen (ray_admitted r) (corners_small r vs) (refuses invalid_input refl)

pub slices_small : (stated : ℕ) (ray shape : List Float) (answer : Answer) → Small answer_number answer
    → Small answer_number (of_slices stated ray shape answer)
unfolding of_slices
slices_small stated ray shape answer p =
    chosen (eqb (length ray) 8 && ray_admitted (ray_in ray)) (chosen (eqb (length shape) stated) p (refuses bad_shape refl))
    (refuses invalid_input refl)

-- ---- many triangles
unfoldable pub indexed_number : Indexed → ℕ
indexed_number (hit_at n d i) = 0
indexed_number no_hit = 0
indexed_number (stopped number) = number

pub stops : (k : ℕ) → ltb k 256 ≡ true → Small indexed_number (stopped k)
unfolding indexed_number
stops k h = leaf indexed_number (stopped k) h

pub next_small : (best : Indexed) (i : ℕ) (a : Answer) → Small indexed_number best → Small answer_number a
    → Small indexed_number (next_of best i a)
unfolding next_of indexed_number answer_number
next_small (stopped k) i a p q = p
next_small no_hit i (hit n d) p q = leaf indexed_number (hit_at n d i) refl
next_small no_hit i none p q = p
next_small no_hit i (refused k) p q = record { below = q.below }
next_small (hit_at n d j) i (hit n' d') p q = chosen (lt d' d) (leaf indexed_number (hit_at n' d' i) refl) p
next_small (hit_at n d j) i none p q = p
next_small (hit_at n d j) i (refused k) p q = record { below = q.below }

module _ (answer : ℕ → Answer) (each : (i : ℕ) → Small answer_number (answer i)) where
  fold_small : (l : List ℕ) (best : Indexed) → Small indexed_number best → Small indexed_number (fold_from answer best l)
  unfolding fold_from
  fold_small [] best p = p
  fold_small (i ∷ l) best p = fold_small l (next_of best i (answer i)) (next_small best i (answer i) p (each i))

  pub nearest_small : (l : List ℕ) → Small indexed_number (fold_from answer no_hit l)
  unfolding indexed_number
  nearest_small l = fold_small l no_hit (leaf indexed_number no_hit refl)

-- each triangle of a mesh
each_small : (r : Ray) (pose : List Float) (triangles : List ℕ) (i : ℕ) → Small answer_number (triangle_answer r pose triangles i)
each_small r pose triangles i = by_refusals _ (answer_small r pose triangles i).below

pub over_walk_small : (r : Ray) (pose : List Float) (triangles : List ℕ) (w : Walking) → Small indexed_number (over_walk r pose triangles w)
unfolding over_walk
over_walk_small r pose triangles (walking s l) = nearest_small _ (each_small r pose triangles) l
over_walk_small r pose triangles broken = stops out_of_bounds refl

pub mesh_small : (r : Ray) (m : Mesh) (pose : List Float) (t : Tree) (list stack : ℕ)
    → Small indexed_number (ray_mesh r m pose t list stack)
unfolding ray_mesh mesh_cast small_tests
mesh_small r m pose t list stack =
    tested indexed_number stopped stops (mesh_tests r m pose t list stack) _ refl
    (boxed indexed_number stopped stops r
    (λ (box : Aabb). over_walk r pose m.triangles (walk_of t (thirds (length m.triangles)) box))
    (λ box. over_walk_small r pose m.triangles (walk_of t (thirds (length m.triangles)) box)))

over_triangles_small : (r : Ray) (m : Mesh) (box : Aabb) → Small indexed_number (over_triangles r box m)
unfolding over_triangles
over_triangles_small r m box =
    chosen (triangles_fit m) (nearest_small _ (each_small r m.vertices m.triangles) (candidates m box)) (stops out_of_bounds refl)

pub plain_small : (r : Ray) (m : Mesh) → Small indexed_number (ray_mesh_plain r m)
unfolding ray_mesh_plain plain_cast
plain_small r m =
    chosen (ray_admitted r) (chosen (lengths_admitted (length m.vertices) (length m.triangles))
    (boxed indexed_number stopped stops r (λ (box : Aabb). over_triangles r box m) (over_triangles_small r m))
    (stops bad_shape refl)) (stops invalid_input refl)

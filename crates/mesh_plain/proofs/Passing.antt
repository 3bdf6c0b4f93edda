-- The passes over the triangles: what is left of them gives the whole, and the first without a valid box decides. Assumes nothing.
use Prim.Native.Nat.{ℕ, zero, suc, ◌+◌, ◌-◌, ◌<◌, ◌≤◌}
use mathlib.Core.Path.{◌≡◌, refl, sym, ap, ◌∙◌}
use mathlib.Core.Bool.{Bool, true, false, ◌&&◌, cond, false≢true}
use mathlib.Core.List.{List, ◌∷◌}
use native.Mathlib.Omega.{arith}
use lib.Dec.{ltb}
use lib.ListN.{length}
use borrow.Author.Tests.{ltb-true, ltb-false}
use Rattle.lists.proofs.EveryLaws.{range_next, range_done}
use Rattle.geometry.specs.Box.{corners_box, touches, valid_box}
use Rattle.vectors.specs.declared.vec3.Vec3.{Vec3}
use Rattle.geometry.specs.declared.aabb.Aabb.{Aabb}
use Rattle.geometry.specs.declared.ray.Ray.{Ray}
use Rattle.casts.specs.Answer.{Answer, out_of_bounds}
use Rattle.triangle_cast.specs.Triangle.{triangle_cast}
use Rattle.nearest_hit.specs.Nearest.{Indexed, no_hit, stopped, next_of, fold_from, nearest_of}
use Rattle.nearest_hit.specs.Deferred.{faced_indexed}
use Rattle.lists.specs.Lists.{range, keep, every}
use Rattle.tree.specs.Mesh.{Mesh, thirds, corners_inside, corners_of, triangle_box, triangle_answer, candidates}
use Rattle.lists.proofs.JoinedTests.{and_first, and_second}
use Rattle.tree.proofs.Corners.{corners_box_lem, corners_answer}
use Rattle.mesh_plain.specs.Boxes.{BoxesHold}
use Rattle.mesh_plain.specs.PlainCast.{triangle_fits, triangles_fit, over_triangles}

-- ---- each has a valid box
module _ (m : Mesh) where
  abbrev count : ℕ
  count = thirds (length m.triangles)

  -- the indices from one on
  abbrev from : ℕ → List ℕ
  from i = range i (count - i)

  pub record Fitting (i : ℕ) : Type 0 where
    pub within : i ≤ count
    pub fits : every (triangle_fits m) (from i) ≡ triangles_fit m

  pub fitting_begins : Fitting 0
  unfolding triangles_fit
  fitting_begins =
      let all : count - 0 ≡ count = omega arith in
      record { within = omega arith; fits = rw all refl }

  module _ (i : ℕ) (p : Fitting i) where
    module _ (h : i < count) where
      -- the test of the first that is left, and of those behind it
      fits_first : (triangle_fits m i && every (triangle_fits m) (from (i + 1))) ≡ triangles_fit m
      unfolding every
      fits_first = sym (ap (every (triangle_fits m)) (range_next i count h)) ∙ p.fits

      pub fitting_goes : triangle_fits m i ≡ true → Fitting (i + 1)
      fitting_goes fit = record {
        within = omega arith;
        fits = sym (ap (λ (b : Bool). b && every (triangle_fits m) (from (i + 1))) fit) ∙ fits_first;
      }

      pub fitting_fails : triangle_fits m i ≡ false → false ≡ triangles_fit m
      fitting_fails unfit = sym (ap (λ (b : Bool). b && every (triangle_fits m) (from (i + 1))) unfit) ∙ fits_first

    pub fitting_ends : count ≤ i → true ≡ triangles_fit m
    unfolding every
    fitting_ends h = sym (ap (every (triangle_fits m)) (range_done i count h)) ∙ p.fits

-- ---- what the pass has found
module _ (r : Ray) (box : Aabb) (m : Mesh) where
  abbrev answer : ℕ → Answer
  answer = triangle_answer r m.vertices m.triangles

  abbrev near : ℕ → Bool
  near i = touches (triangle_box m.vertices m.triangles i) box

  -- those near among the rest, on top of what was found so far, which has the cross in place of the normal
  pub record Passing (best : Indexed) (i : ℕ) : Type 0 where
    pub fitting : Fitting m i
    pub gives : fold_from answer (faced_indexed r best) (keep near (from m i)) ≡ nearest_of answer (candidates m box)

  pub passing_begins : Passing no_hit 0
  unfolding candidates
  passing_begins =
      let all : count m - 0 ≡ count m = omega arith in
      record { fitting = fitting_begins m; gives = rw all refl }

  module _ (best : Indexed) (i : ℕ) (p : Passing best i) where
    module _ (h : i < count m) where
      gives_first : fold_from answer (faced_indexed r best) (cond (near i) (i ∷ keep near (from m (i + 1))) (keep near (from m (i + 1))))
          ≡ nearest_of answer (candidates m box)
      unfolding keep
      gives_first = sym (ap (λ (l : List ℕ). fold_from answer (faced_indexed r best) (keep near l)) (range_next i (count m) h)) ∙ p.gives

      -- one that is near
      pub passing_near : triangle_fits m i ≡ true → near i ≡ true → (next : Indexed)
          → faced_indexed r next ≡ next_of (faced_indexed r best) i (answer i)
          → Passing next (i + 1)
      unfolding fold_from
      passing_near fit touching next e = record {
        fitting = fitting_goes m i p.fitting h fit;
        gives =
            ap (λ (s : Indexed). fold_from answer s (keep near (from m (i + 1)))) e
            ∙ sym
            (ap (λ (b : Bool).
            fold_from answer (faced_indexed r best) (cond b (i ∷ keep near (from m (i + 1))) (keep near (from m (i + 1)))))
            touching)
            ∙ gives_first;
      }

      -- one that is not
      pub passing_far : triangle_fits m i ≡ true → near i ≡ false → Passing best (i + 1)
      passing_far fit apart = record {
        fitting = fitting_goes m i p.fitting h fit;
        gives =
            sym
            (ap (λ (b : Bool).
            fold_from answer (faced_indexed r best) (cond b (i ∷ keep near (from m (i + 1))) (keep near (from m (i + 1)))))
            apart)
            ∙ gives_first;
      }

      -- one that has no valid box is 5
      pub passing_unfit : triangle_fits m i ≡ false → stopped out_of_bounds ≡ over_triangles r box m
      unfolding over_triangles
      passing_unfit unfit = let none = fitting_fails m i p.fitting h unfit in simp (sym none)

    pub passing_ends : count m ≤ i → (found : Indexed) → found ≡ faced_indexed r best → found ≡ over_triangles r box m
    unfolding over_triangles keep fold_from
    passing_ends h found e =
        let all = fitting_ends m i p.fitting h in
        let last : faced_indexed r best ≡ nearest_of answer (candidates m box) =
        sym (ap (λ (l : List ℕ). fold_from answer (faced_indexed r best) (keep near l)) (range_done i (count m) h)) ∙ p.gives in
        e ∙ last ∙ simp (sym all)

pub unfit_over : (r : Ray) (box : Aabb) (m : Mesh) → triangles_fit m ≡ false → stopped out_of_bounds ≡ over_triangles r box m
unfolding over_triangles
unfit_over r box m h = simp h

-- ---- whether one triangle has a valid box, by the code's two tests
module _ (m : Mesh) (i : ℕ) where
  abbrev own_box : Aabb
  own_box = triangle_box m.vertices m.triangles i

  abbrev inside_all : Bool
  inside_all = corners_inside (thirds (length m.vertices)) m.triangles i

  pub index_unfit : inside_all ≡ false → triangle_fits m i ≡ false
  unfolding triangle_fits
  index_unfit h = ap (λ (b : Bool). b && valid_box own_box) h

  pub box_tells : inside_all ≡ true → (b : Bool) → valid_box own_box ≡ b → triangle_fits m i ≡ b
  unfolding triangle_fits
  box_tells inside b h = ap (λ (d : Bool). d && valid_box own_box) inside ∙ h

  fits_valid : (a b : Bool) → (a && b) ≡ true → a ≡ true → b ≡ true
  fits_valid true b h e = h
  fits_valid false b h e = absurd (false≢true e)

  pub valid_of_fit : triangle_fits m i ≡ true → inside_all ≡ true → valid_box own_box ≡ true
  unfolding triangle_fits
  valid_of_fit fit inside = fits_valid inside_all (valid_box own_box) fit inside

  -- the code's corners are the triangle's
  module _ (inside : inside_all ≡ true) (corners : List Vec3) (e : corners ≡ corners_of m.vertices m.triangles i) where
    pub corners_cast : (r : Ray) (box : Aabb) → triangle_cast r corners ≡ answer r box m i
    corners_cast r box = ap (triangle_cast r) e ∙ corners_answer r m.vertices m.triangles i inside

  pub corners_near : (r : Ray) (box : Aabb) → touches (corners_box (corners_of m.vertices m.triangles i)) box ≡ near r box m i
  corners_near r box = ap (λ (b : Aabb). touches b box) (corners_box_lem m.vertices m.triangles i)

-- where every triangle has a valid box, those whose indices are below the vertex count have one
every_at : (p : ℕ → Bool) (start size i : ℕ) → every p (range start size) ≡ true → start ≤ i → i < start + size → p i ≡ true
unfolding every range
every_at p start zero i a h k = absurd (omega (arith, h, k))
every_at p start (suc size) i a h k =
    go (ltb start i) (ltb-true start i) (ltb-false start i)
    (λ (l : suc start ≤ i). every_at p (suc start) size i (and_second (p start) (every p (range (suc start) size)) a) l (omega (arith, k)))
  where
    go : (b : Bool) → (b ≡ true → start < i) → (b ≡ false → i ≤ start) → (suc start ≤ i → p i ≡ true) → p i ≡ true
    go true f g later = let l = f refl in later (omega (arith, l))
    go false f g later =
        let l = g refl in
        let same : start ≡ i = omega (arith, l, h) in
        sym (ap p same) ∙ and_first (p start) (every p (range (suc start) size)) a

pub all_hold : (m : Mesh) → triangles_fit m ≡ true → BoxesHold m
unfolding triangles_fit
all_hold m a = record {
  each = λ i below inside. valid_of_fit m i (every_at (triangle_fits m) 0 (count m) i a (omega arith) (omega (arith, below))) inside;
}

-- One part of a pass: each of the code's answers is the definition's. Assumes nothing.
use Prim.Native.Nat.{ℕ, ◌+◌, ◌-◌, ◌*◌, ◌%◌, ◌≤◌, ◌<◌}
use mathlib.Core.Path.{◌≡◌, refl, sym, ap, ◌∙◌}
use mathlib.Core.Bool.{Bool, true, false, ◌&&◌, true≢false}
use native.Mathlib.Omega.{arith}
use borrow.Author.Tests.{leb-true, leb-false, le-leb, lt-leb}
use lib.Dec.{leb, eqb}
use lib.ListN.{length}
use Rattle.vectors.specs.declared.vec3.Vec3.{Vec3}
use Rattle.casts.specs.Answer.{bad_shape, no_room}
use Rattle.tree.specs.Layout.{Tree}
use Rattle.tree.specs.Mesh.{Mesh, thirds, lengths_admitted}
use Rattle.lists.proofs.JoinedTests.{and_first, and_second}
use Rattle.tree_query.specs.Query.{walk_fits}
use Rattle.cabinet.specs.declared.part.Part.{Part}
use Rattle.cabinet.specs.declared.part.CastCost.{CastCost}
use Rattle.cabinet.specs.Found.{Progress, State}
use Rattle.cabinet.specs.Parts.{Areas, mesh_of, tree_of_part, stays_in, ranges_inside}
use Rattle.cabinet.specs.PartCast.{Costed, cast_moved}
use Rattle.cabinet.specs.Cabinet.{is_refused, after_part}
use Rattle.cabinet.specs.Steps.{says_cost, keeping, refuse_with, is_over, is_idle, own_step, step_part}
use Rattle.cabinet.proofs.PartLimits.{moved_spent}

-- ---- ranges
pub stays_out : (start long more : ℕ) → more < start → false ≡ leb (start + long) more
stays_out start long more h = sym (lt-leb (start + long) more (omega arith))

pub stays_by_rest : (start long more : ℕ) → start ≤ more → leb long (more - start) ≡ leb (start + long) more
stays_by_rest start long more h = go (leb long (more - start)) (leb-true long (more - start)) (leb-false long (more - start))
  where
    go : (b : Bool) → (b ≡ true → long ≤ more - start) → (b ≡ false → more - start < long) → b ≡ leb (start + long) more
    go true f g = let k = f refl in sym (le-leb (start + long) more (omega arith))
    go false f g = let k = g refl in sym (lt-leb (start + long) more (omega arith))

-- what a part whose ranges stay inside says of each
pub record Inside (p : Part) (a b c d e f : ℕ) : Type 0 where
  pub vertices : p.vertices.start + p.vertices.length ≤ a
  pub triangles : p.triangles.start + p.triangles.length ≤ b
  pub node_boxes : p.node_boxes.start + p.node_boxes.length ≤ c
  pub triangle_boxes : p.triangle_boxes.start + p.triangle_boxes.length ≤ d
  pub node_words : p.node_words.start + p.node_words.length ≤ e
  pub order : p.order.start + p.order.length ≤ f

pub inside_is : (p : Part) (a b c d e f : ℕ) → ranges_inside p a b c d e f ≡ true → Inside p a b c d e f
unfolding ranges_inside
inside_is p a b c d e f h =
    let h1 = and_second (stays_in p.vertices a) _ h in
    let h2 = and_second (stays_in p.triangles b) _ h1 in
    let h3 = and_second (stays_in p.node_boxes c) _ h2 in
    let h4 = and_second (stays_in p.triangle_boxes d) _ h3 in
    record {
      vertices = leb-true _ _ (and_first (stays_in p.vertices a) _ h);
      triangles = leb-true _ _ (and_first (stays_in p.triangles b) _ h1);
      node_boxes = leb-true _ _ (and_first (stays_in p.node_boxes c) _ h2);
      triangle_boxes = leb-true _ _ (and_first (stays_in p.triangle_boxes d) _ h3);
      node_words = leb-true _ _ (and_first (stays_in p.node_words e) _ h4);
      order = leb-true _ _ (and_second (stays_in p.node_words e) (stays_in p.order f) h4);
    }

-- ---- what admitted lengths say of the counts
module _ (vertices triangles nodes : ℕ) (h : (lengths_admitted vertices triangles && leb nodes (2 * thirds triangles)) ≡ true) where
  pub triangles_few : thirds triangles ≤ 65536
  unfolding lengths_admitted
  triangles_few =
      let a : lengths_admitted vertices triangles ≡ true = and_first (lengths_admitted vertices triangles)
      (leb nodes (2 * thirds triangles)) h in
      let b = and_second (leb vertices 196608) (eqb (triangles % 3) 0 && leb triangles 196608)
      (and_second (eqb (vertices % 3) 0) (leb vertices 196608 && (eqb (triangles % 3) 0 && leb triangles 196608)) a) in
      let k : triangles ≤ 196608 = leb-true triangles 196608 (and_second (eqb (triangles % 3) 0) (leb triangles 196608) b) in
      omega arith

  pub nodes_few : leb nodes (2 * thirds triangles) ≡ true
  nodes_few = and_second (lengths_admitted vertices triangles) (leb nodes (2 * thirds triangles)) h

-- ---- the step over a part's own areas
module _ (origin : Vec3) (m : Mesh) (t : Tree) (list stack : ℕ) (s : State) where
  abbrev admitted : Bool
  admitted = lengths_admitted (length m.vertices) (length m.triangles) && leb t.node_count (2 * thirds (length m.triangles))

  pub step_bad : admitted ≡ false → (x : State) → x ≡ refuse_with bad_shape s → x ≡ own_step origin m t list stack s
  unfolding own_step
  step_bad h x e = e ∙ simp h

  module _ (a : admitted ≡ true) where
    pub step_short : walk_fits (thirds (length m.triangles)) t list stack ≡ false → (x : State) → x ≡ refuse_with no_room s
        → x ≡ own_step origin m t list stack s
    unfolding own_step
    step_short h x e = e ∙ simp (a, h)

    module _ (f : walk_fits (thirds (length m.triangles)) t list stack ≡ true) where
      pub step_looks : s.casting ≡ false → s ≡ own_step origin m t list stack s
      unfolding own_step
      step_looks h = simp (a, f, h)

      pub step_casts : s.casting ≡ true → (after : Progress) → (left : ℕ) → left ≡ s.limit - s.at.spent → (c : CastCost)
          → says_cost c ≡ cast_moved left s.ray origin m t
          → after ≡ after_part s.at (says_cost c) → keeping s after ≡ own_step origin m t list stack s
      unfolding own_step
      step_casts h after left l c e g =
          let casts : keeping s (after_part s.at (cast_moved (s.limit - s.at.spent) s.ray origin m t)) ≡ own_step origin m t list
          stack s = simp (a, f, h) in
          ap (keeping s) (g ∙ ap (after_part s.at) (e ∙ ap (λ (k : ℕ). cast_moved k s.ray origin m t) l)) ∙ casts

-- no more is spent than the limit
pub spent_fits : (s : State) (origin : Vec3) (m : Mesh) (t : Tree) (left bound : ℕ) → left ≡ s.limit - s.at.spent → (c : CastCost)
    → says_cost c ≡ cast_moved left s.ray origin m t
    → s.at.spent < bound → s.limit < bound → s.at.spent + c.spent < bound
spent_fits s origin m t left bound l c e h k = omega (arith, ap (λ (x : Costed). x.spent) e, moved_spent left s.ray origin m t)

-- ---- one part of a pass
module _ (a : Areas) (list stack : ℕ) (s : State) (p : Part) where
  abbrev inside : Bool
  inside = ranges_inside p (length a.vertices) (length a.triangles) (length a.node_boxes) (length a.triangle_boxes)
      (length a.node_words) (length a.order)

  pub part_over : is_over s ≡ true → s ≡ step_part a list stack s p
  unfolding step_part
  part_over h = simp h

  module _ (o : is_over s ≡ false) where
    pub part_leaves : inside ≡ false → (x : State) → x ≡ refuse_with bad_shape s → x ≡ step_part a list stack s p
    unfolding step_part
    part_leaves h x e = e ∙ simp (o, h)

    pub part_steps : inside ≡ true → (x : State) → x ≡ own_step p.origin (mesh_of a p) (tree_of_part a p) list stack s
        → x ≡ step_part a list stack s p
    unfolding step_part
    part_steps h x e = e ∙ simp (o, h)

-- ---- a pass that casts at no part
-- where it is not over, it looks only
pub idle_looks : (s : State) → is_idle s ≡ true → is_over s ≡ false → s.casting ≡ false
unfolding is_idle is_over
idle_looks s idle goes = go s.casting refl
  where
    go : (b : Bool) → s.casting ≡ b → s.casting ≡ false
    go false e = e
    go true e =
        let refuses : is_refused s.at.found ≡ true = sym (simp e) ∙ idle in
        let refuses-not : is_refused s.at.found ≡ false = sym (simp e) ∙ goes in
        absurd (true≢false (sym refuses ∙ refuses-not))

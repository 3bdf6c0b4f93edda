-- The least depth at which the segment meets the triangles of a list. Assumes nothing.
use Prim.Native.Nat.{ℕ, ◌*◌, ◌≤◌, ◌<◌}
use mathlib.Core.Path.{◌≡◌, refl, subst}
use mathlib.Core.Logic.{◌⊎◌, inl, inr}
use mathlib.Core.Bool.{Bool, true, false}
use mathlib.Core.List.Memᴰ
use mathlib.Core.List.{List, [], ◌∷◌, Memᴰ}
use native.Mathlib.Omega.{arith}
use lib.Dec.{leb}
use borrow.Author.Tests.{leb-true, leb-false}
use lib.IntN.{pos}
use lib.Ieee.{Float}
use lib.Ieee.Positive.{through}
use Rattle.lists.proofs.Members.{Each, each_cons, each_rest}
use Rattle.geometry.specs.Segment.{ray_admitted}
use Rattle.geometry.specs.declared.ray.Ray.{Ray}
use Rattle.casts.specs.Answer.{Answer, hit, none, refused}
use Rattle.casts.proofs.AnswerLists.{NotRefused}
use Rattle.tree.specs.Mesh.{Mesh, triangle_count}
use Rattle.exact_triangle.specs.Grid.{grid_admitted, grid_line}
use Rattle.mesh_exact.specs.GridCast.{exact_answer}
use Rattle.mesh_exact.specs.Certain.{Met}
use Rattle.mesh_exact.proofs.OneTriangle.{WideDepth, none_unmet, hit_deep}

module _ (r : Ray) (m : Mesh) (admitted : ray_admitted r ≡ true) (ranged : grid_admitted r ≡ true) where
  abbrev answers : ℕ → Answer
  answers = exact_answer r m.vertices m.triangles

  -- ---- of a list of triangles: none of them is met, or one has the least depth of all of their points
  pub record Least (xs : List ℕ) : Type 0 where
    pub index : ℕ
    pub D : ℕ
    pub n : ℕ
    pub met : Met (grid_line r) m index D (pos n)
    pub least : (j D' n' : ℕ) → Memᴰ j xs → Met (grid_line r) m j D' (pos n') → n * D' ≤ n' * D

  abbrev pub Unmet : ℕ → Type 0
  Unmet j = (D n : ℕ) → Met (grid_line r) m j D (pos n) → ⊥

  least_deep : (x : ℕ) (xs : List ℕ) (d : Float) → WideDepth (grid_line r) m x d → Each Unmet xs ⊎ Least xs → Least (x ∷ xs)
  least_deep x xs d p (inl free) = record {
    index = x;
    D = p.D;
    n = p.n;
    met = p.met;
    least = λ j D' n' k q. elim (Memᴰ.cases_cons k) [
      | inl e ↦ p.least D' n' (subst (λ (z : ℕ). Met (grid_line r) m z D' (pos n')) e q)
      | inr k ↦ absurd (free j k D' n' q)
    ];
  }
  least_deep x xs d p (inr b) = go (leb (p.n * b.D) (b.n * p.D)) refl
    where
      go : (c : Bool) → leb (p.n * b.D) (b.n * p.D) ≡ c → Least (x ∷ xs)
      go true e = record {
        index = x;
        D = p.D;
        n = p.n;
        met = p.met;
        least = λ j D' n' k q. elim (Memᴰ.cases_cons k) [
          | inl e' ↦ p.least D' n' (subst (λ (z : ℕ). Met (grid_line r) m z D' (pos n')) e' q)
          | inr k ↦
              through p.n b.n n' p.D b.D D' b.met.point.positive (leb-true (p.n * b.D) (b.n * p.D) e)
              (b.least j D' n' k q)
        ];
      }
      go false e = record {
        index = b.index;
        D = b.D;
        n = b.n;
        met = b.met;
        least = λ j D' n' k q. elim (Memᴰ.cases_cons k) [
          | inl e' ↦
              let f = leb-false (p.n * b.D) (b.n * p.D) e in
              through b.n p.n n' b.D p.D D' p.met.point.positive (omega (arith, f))
              (p.least D' n' (subst (λ (z : ℕ). Met (grid_line r) m z D' (pos n')) e' q))
          | inr k ↦ b.least j D' n' k q
        ];
      }

  least_none : (x : ℕ) (xs : List ℕ) → Unmet x → Each Unmet xs ⊎ Least xs → Each Unmet (x ∷ xs) ⊎ Least (x ∷ xs)
  least_none x xs u (inl free) =
      inl (each_cons Unmet x xs (λ j e D n q. u D n (subst (λ (z : ℕ). Met (grid_line r) m z D (pos n)) e q)) free)
  least_none x xs u (inr b) = inr record {
    index = b.index;
    D = b.D;
    n = b.n;
    met = b.met;
    least = λ j D' n' k q. elim (Memᴰ.cases_cons k) [
      | inl e ↦ absurd (u D' n' (subst (λ (z : ℕ). Met (grid_line r) m z D' (pos n')) e q))
      | inr k ↦ b.least j D' n' k q
    ];
  }

  pub least_of : (xs : List ℕ) → Each (NotRefused answers) xs → Each (λ (j : ℕ). j < triangle_count m) xs → Each Unmet xs ⊎ Least xs
  least_of [] fine below = inl (λ (j : ℕ) (k : Memᴰ j []). absurd (Memᴰ.not-nil k))
  least_of (x ∷ xs) fine below =
      go (least_of xs (each_rest (NotRefused answers) x xs fine) (each_rest (λ (j : ℕ). j < triangle_count m) x xs below)) (answers x) refl
    where
      go : Each Unmet xs ⊎ Least xs → (a : Answer) → answers x ≡ a → Each Unmet (x ∷ xs) ⊎ Least (x ∷ xs)
      go rest (hit n d) e = inr (least_deep x xs d (hit_deep r m admitted ranged x (below x (Memᴰ.head refl)) n d e) rest)
      go rest none e = least_none x xs (λ D n q. none_unmet r m admitted ranged x e D (pos n) q) rest
      go rest (refused k) e = absurd (fine x (Memᴰ.head refl) k e)

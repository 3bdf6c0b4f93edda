-- What is read at each ray's places of a call with many rays keeps what the single call promises. Assumes nothing.
use Prim.Native.Nat.{ℕ, ◌<◌}
use mathlib.Core.Path.{◌≡◌, refl}
use mathlib.Core.Bool.{true}
use mathlib.Core.List.{List, [], ◌∷◌}
use lib.Ieee.{Float}
use Rattle.tree.specs.Layout.{Tree, word_at}
use Rattle.tree.specs.Mesh.{Mesh}
use Rattle.many_casts.specs.Many.{ray_at, ray_count, hit_of, read_at, Places, mesh_answer, exact_answer, EachAsSingle}
use Rattle.results.specs.Results.{results_fit}
use Rattle.exports.specs.ManyRays.{MeshAnswered, ExactAnswered}
use Rattle.exports.proofs.MeshReturned.{mesh_returned}
use Rattle.exports.proofs.Reading.{with_demand}
use Rattle.exports.proofs.ExactCalls.{tree_returned_lem, with_agreement}

-- a ray's own places are long enough
places_fit_lem : (a b c d : Float) (k : ℕ) → results_fit (a ∷ b ∷ c ∷ d ∷ []) (k ∷ []) ≡ true
unfolding results_fit
places_fit_lem a b c d k = refl

module _ (rays : List Float) (m : Mesh) (pose : List Float) (t : Tree) (p after : Places) where
  abbrev hit : ℕ → List Float
  hit i = hit_of p.hits i

  abbrev index : ℕ → List ℕ
  index i = word_at p.indices i ∷ []

  pub mesh_each : (list stack : ℕ) → EachAsSingle (mesh_answer m pose t list stack) rays p after → (i : ℕ) → i < ray_count rays
      → MeshAnswered m pose t list stack (ray_at rays i) (hit i) (index i) (read_at after i)
  mesh_each list stack single i h =
      let returned = mesh_returned (hit i) (index i) (ray_at rays i) m pose t list stack (read_at after i) _ (places_fit_lem _ _ _ _ _) refl
      (single.each i h) in
      let both = with_demand (hit i) (index i) (ray_at rays i) m pose t list stack (read_at after i) Unit returned tt in
      (both.0, both.1.1)

  pub exact_each : (stack : ℕ) → EachAsSingle (exact_answer m pose t stack) rays p after → (i : ℕ) → i < ray_count rays
      → ExactAnswered m pose t stack (ray_at rays i) (hit i) (index i) (read_at after i)
  exact_each stack single i h =
      let returned = tree_returned_lem (hit i) (index i) (ray_at rays i) m pose t stack (read_at after i) _ (places_fit_lem _ _ _ _ _) refl
      (single.each i h) in
      let both = with_agreement (hit i) (index i) (ray_at rays i) m pose t stack (read_at after i) Unit returned tt in
      (both.0, both.1.1)

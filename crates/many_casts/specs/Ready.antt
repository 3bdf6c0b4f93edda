-- Inner contracts only: what a call with many rays has tested before it casts them. Definitions only. Assumes nothing.
use Rattle.std.specs.Prelude.{◌*◌, ◌≡◌, Bool, true, ◌&&◌, List, leb, Float, length}
use Rattle.tree.specs.Layout.{Tree}
use Rattle.tree.specs.Mesh.{Mesh, thirds, lengths_admitted}

-- `room` is whether the tree's areas and the work areas are long enough
pub record Ready (m : Mesh) (pose : List Float) (t : Tree) (room : Bool) : Type 0 where
  pub shaped : (lengths_admitted (length m.vertices) (length m.triangles)
      && (lengths_admitted (length pose) (length m.triangles) && leb t.node_count (2 * thirds (length m.triangles)))) ≡ true
  pub lent : room ≡ true
  pub posed : length pose ≡ length m.vertices

-- The number that a drill's call answers, and what its index slice holds afterwards. Definitions only. Assumes nothing.
use Rattle.std.specs.Prelude.{ℕ, List, [], ◌∷◌}
use Rattle.std.proofs.lemmas.List.Edits.{sets}
use Rattle.mesh_drill.specs.MeshDrill.{DrillAnswer, Clear, Touches, Stopped}
use Rattle.results.specs.Results.{hit_code, none_code}

-- the number, and the slice of the triangle's index
pub record ReturnedDrill : Type 0 where
  pub number : ℕ
  pub index : List ℕ

-- the index is written where a triangle is touched
unfoldable pub returned_drill : DrillAnswer → List ℕ → ReturnedDrill
returned_drill Clear place = record { number = none_code; index = place }
returned_drill (Touches i) place = record { number = hit_code; index = sets place 0 (i ∷ []) }
returned_drill (Stopped number) place = record { number = number; index = place }

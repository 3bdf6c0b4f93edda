-- `mesh_hits::sorted::arrange` meets its contract. Assumes nothing.
use Rattle.std.proofs.Common.{refl}
use Rattle.mesh_hits.proofs.Arranging.{gathered_ready, arranged_refusal, arranged_found}
use Rattle.mesh_hits.proofs.sorted.arrange.Goals as goal

-- none refuses
pub returns-in-Ok : goal.returns-in-Ok
returns-in-Ok c =
    λ answer n l indices₀ numbers₀ g.
    arranged_found answer n l _ indices₀ numbers₀ _ _ _ _ g _ c.in-Ok.ensures _ refl _ _ _
    (c.fit.ensures answer n (gathered_ready answer n l _ indices₀ numbers₀ _ _ _ _ g))

-- a triangle refuses
pub returns-in-Err : goal.returns-in-Err
returns-in-Err c =
    λ answer n l indices₀ numbers₀ g.
    arranged_refusal answer n l _ indices₀ numbers₀ _ _ _ _ g _ c.in-Err.ensures _ refl _ _ _ c.refuse.ensures

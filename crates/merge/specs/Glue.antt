-- The answers of two boards as one. Definitions only. Assumes nothing.
use Rattle.std.specs.Prelude.{ℕ, ◌+◌, cond}
use Rattle.std.specs.Float.Ieee.{lt}
use Rattle.nearest_hit.specs.Nearest.{Indexed, hit_at, no_hit, stopped}

-- "the lesser distance of the two casts, the first board on ties; if either refuses, the first board's refusal goes ahead";
-- the second board's triangles stand n further on
unfoldable pub glue : ℕ → Indexed → Indexed → Indexed
glue n (stopped number) second = stopped number
glue n no_hit (stopped number) = stopped number
glue n no_hit no_hit = no_hit
glue n no_hit (hit_at normal distance index) = hit_at normal distance (index + n)
glue n (hit_at v d i) (stopped number) = stopped number
glue n (hit_at v d i) no_hit = hit_at v d i
glue n (hit_at v d i) (hit_at normal distance index) = cond (lt distance d) (hit_at normal distance (index + n)) (hit_at v d i)

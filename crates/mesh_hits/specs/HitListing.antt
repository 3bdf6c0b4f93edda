-- The listing of the hits among a list of triangles. Definitions only. Assumes nothing.
use Rattle.std.specs.Prelude.{ℕ, ◌*◌, cond, List, ◌++◌, leb, length, drop}
use Rattle.casts.specs.Answer.{Answer, no_room}
use Rattle.nearest_hit.specs.Nearest.{Indexed, hit_at, no_hit, stopped, nearest_of}
use Rattle.tree_query.specs.Query.{count}
use Rattle.mesh_hits.specs.HitArea.{HitArea, Outcome, places_in, hits_of, in_order, numbers_of, refused_at}

-- "index, distance and normal of every hit .. and their count; places beyond the hits are unchanged"
unfoldable pub written : (ℕ → Answer) → HitArea → List ℕ → Outcome
written answer area hits = record {
  answer = count (length hits);
  area = record {
    indices = hits ++ drop (length hits) area.indices;
    numbers = numbers_of answer hits ++ drop (4 * length hits) area.numbers;
  };
}

-- "3 exactly when there are more hits than places"
unfoldable pub fitted : (ℕ → Answer) → HitArea → List ℕ → Outcome
fitted answer area hits =
    cond (leb (length hits) (places_in area))
    (written answer area hits)
    (refused_at no_room area)

-- "A triangle's refusal is the listing's, lowest index first": as the mesh cast's fold over the ascending list;
-- the late 3 is "found after triangle refusals"
unfoldable pub after_refusals : Indexed → HitArea → Outcome → Outcome
after_refusals (stopped number) area rest = refused_at number area
after_refusals no_hit area rest = rest
after_refusals (hit_at normal distance index) area rest = rest

unfoldable pub listing_of : (ℕ → Answer) → HitArea → List ℕ → Outcome
listing_of answer area list =
    after_refusals (nearest_of answer list) area (fitted answer area (in_order answer (hits_of answer list)))

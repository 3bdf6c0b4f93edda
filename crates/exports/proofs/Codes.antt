-- No refusal that a call answers can be taken for a code. Assumes nothing.
use Prim.Native.Nat.{ℕ}
use mathlib.Core.Path.{refl}
use Rattle.casts.specs.Answer.{refused}
use Rattle.conversion.specs.Convert as Conversion
use Rattle.nearest_hit.specs.Nearest.{stopped}
use Rattle.height_ranges.specs.Answer as Clearance
use Rattle.tree_build.specs.Build as Build
use Rattle.tree_query.specs.Query as Query
use Rattle.tree_check.specs.Verdict as Verdict
use Rattle.merge.specs.Merge as Merge
use Rattle.mesh_hits.proofs.RefusalNumbers.{refusals_small}
use Rattle.mesh_drill.specs.MeshDrill.{Stopped}
use Rattle.cabinet.specs.Cabinet as Cabinet
use Rattle.slice_casts.specs.Slices.{plane_of_slices, triangle_of_slices}
use Rattle.exports.specs.Codes.{RefusalsBelowCodes}
use Rattle.exports.proofs.RefusalNumbers.{is_small, small_below, answer_number, plane_small, ray_triangle_small, slices_small}
use Rattle.exports.proofs.RefusalNumbers.{indexed_number, mesh_small, plain_small}
use Rattle.exports.proofs.ExactNumbers.{exact_plain_small, exact_tree_small}
use Rattle.exports.proofs.ListingNumbers.{exact_all_small}
use Rattle.exports.proofs.ManyNumbers.{many_small}
use Rattle.exports.proofs.DrillNumbers.{refusal_number, drill_plain_small, drill_small, drill_many_small}
use Rattle.exports.proofs.GridNumbers.{height_field_small, clearance_number, ranges_small, level_set_small}
use Rattle.exports.proofs.TreeNumbers.{build_number, build_small, query_number, query_small, check_number, check_small}
use Rattle.exports.proofs.TreeNumbers.{merge_number, merge_small, converted_number, converted_small, cabinet_number, cabinet_small}

pub refusals_below_codes : RefusalsBelowCodes
unfolding answer_number indexed_number build_number query_number check_number merge_number clearance_number converted_number cabinet_number
    refusal_number plane_of_slices triangle_of_slices
refusals_below_codes = record {
  plane = λ s r. small_below answer_number refused (λ n. refl) _ (plane_small s r);
  plane_slices = λ ray shape. small_below answer_number refused (λ n. refl) _ (slices_small 4 ray shape _ (plane_small _ _));
  triangle = λ r vs. small_below answer_number refused (λ n. refl) _ (ray_triangle_small r vs);
  triangle_slices = λ ray shape. small_below answer_number refused (λ n. refl) _ (slices_small 9 ray shape _ (ray_triangle_small _ _));
  height_field = λ r f heights. small_below answer_number refused (λ n. refl) _ (height_field_small r f heights);
  ranges = λ r f lows highs. small_below clearance_number Clearance.refused (λ n. refl) _ (ranges_small r f lows highs);
  level_set = λ r g values. small_below answer_number refused (λ n. refl) _ (level_set_small r g values);
  mesh = λ r m pose t list stack. small_below indexed_number stopped (λ n. refl) _ (mesh_small r m pose t list stack);
  plain = λ r m. small_below indexed_number stopped (λ n. refl) _ (plain_small r m);
  exact = λ r m pose t stack. small_below indexed_number stopped (λ n. refl) _ (exact_tree_small r m pose t stack);
  exact_plain = λ r m. small_below indexed_number stopped (λ n. refl) _ (exact_plain_small r m);
  many = many_small;
  drill = λ r radius m t list stack. small_below refusal_number Stopped (λ n. refl) _ (drill_small r radius m t list stack);
  drill_plain = λ r radius m. small_below refusal_number Stopped (λ n. refl) _ (drill_plain_small r radius m);
  drill_many = drill_many_small;
  build = λ m a work. small_below build_number Build.refused (λ n. refl) _ (is_small (build_small m a work).below);
  query = λ box n t list stack. small_below query_number Query.refused (λ n. refl) _ (is_small (query_small box n t list stack).below);
  check = λ m t marks. small_below check_number Verdict.refused (λ n. refl) _ (check_small m t marks);
  merge = λ a b old marks. small_below merge_number Merge.refused (λ n. refl) _ (is_small (merge_small a b old marks).below);
  listing = refusals_small;
  exact_listing = λ r m pose t list stack area.
      small_below query_number Query.refused (λ n. refl) _ (is_small (exact_all_small r m pose t list stack area).below);
  cabinet = λ r a list stack limit parts.
      small_below cabinet_number Cabinet.refused (λ n. refl) _ (cabinet_small r a list stack limit parts);
  cabinet_after = λ r a list stack limit parts spent.
      small_below cabinet_number (λ (n : ℕ). Cabinet.refused_after n spent) (λ n. refl) _ (cabinet_small r a list stack limit parts);
  conversion = λ p q bytes area.
      small_below converted_number Conversion.refused (λ n. refl) _ (is_small (converted_small p q bytes area).below);
}

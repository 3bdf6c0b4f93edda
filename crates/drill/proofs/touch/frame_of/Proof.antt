-- `drill::touch::frame_of` meets its contract. Assumes nothing.
use Rattle.drill.specs.Code.{vector_of, from_axis_of, level_of}
use Rattle.drill.specs.Decision.{level}
use Rattle.drill.specs.Drill.{dot, square}
use Rattle.wide_integers.proofs.Reading.{plain, widen}
use lib.Dec.{lit≤}
use mathlib.Core.Path.{◌≡◌, ap, ◌∙◌}
use borrow.Author.Rules.{rules}
use Rattle.drill.proofs.touch.frame_of.Statement.{statement}
use Rattle.drill.proofs.touch.frame_of.Tie as tie

abbrev begun : tie.After-level-g → tie.Start
begun k = search

known : (k : tie.After-level-g) → let v = (begun k).args in
    vector_of k.level-g.result ≡ level_of (from_axis_of v.a) (from_axis_of v.b) (from_axis_of v.c)
known k =
    let s = begun k in
    let v = s.args in
    let p = plain (widen s.requires.0.height (lit≤ tt)) in
    let q = plain (widen s.requires.1.0.height (lit≤ tt)) in
    let r = plain (widen s.requires.1.1.height (lit≤ tt)) in
    k.level-g.ensures.0 ∙ (λ i. level (p i) (q i) (r i) v.a.at v.b.at v.c.at)

returns : tie.Need-returns
returns c =
    let (k, q, t) : tie.After-level-g × tie.After-square-whole × tie.After-steps_along-steps = search in
    let s = begun k in
    let v = s.args in
    let e = known k in
    record {
      whole = q.square-whole.ensures ∙ ap square e;
      steps =
          record {
            is =
                t.steps_along-steps.ensures.is
                ∙ (λ i. record { x = dot v.a.at (e i); y = dot v.b.at (e i); z = dot v.c.at (e i) });
            sized = t.steps_along-steps.ensures.sized;
          };
    }

pub frame_of_spec : {M : Type 1} → statement M
frame_of_spec =
    tie.close
    (tie.spec
    (λ c κs. search rules)  -- level-g-requires
    (λ c κs. search rules)  -- square-whole-requires
    (λ c κs. search rules)  -- steps_along-steps-requires
    returns)

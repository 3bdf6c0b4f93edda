-- The refusals of the call with many drills in their order, and what holds past them. Assumes nothing.
use Prim.Native.Nat.{ℕ, ◌%◌, ◌<◌}
use native.Mathlib.Omega.{arith}
use mathlib.Core.Path.{◌≡◌, sym, ap, ◌∙◌, subst}
use mathlib.Core.Bool.{Bool, true, false}
use mathlib.Core.List.{List}
use lib.Ieee.{Float}
use lib.ListN.{length}
use borrow.Author.Tests.{eq-eqb, ne_eqb}
use Rattle.lists.specs.Refusals.{all_pass}
use Rattle.lists.proofs.JoinedTests.{and_both}
use Rattle.lists.proofs.RefusalLaws.{tests_passed}
use Rattle.geometry.specs.declared.ray.Ray.{Ray}
use Rattle.casts.specs.Answer.{bad_shape, no_room}
use Rattle.tree.specs.Layout.{Tree}
use Rattle.tree.specs.Mesh.{Mesh}
use Rattle.mesh.specs.MeshCast.{shape_admitted}
use Rattle.mesh_drill.specs.MeshDrill.{DrillAnswer}
use Rattle.results.specs.Results.{done_code}
use Rattle.many_drills.specs.Many.{drill_count, Places, places_fit, answers_of}
use Rattle.many_drills.specs.Many.{many_tests, ReturnedMany, returned_many, many_returned, EachAsSingle}
use Rattle.many_drills.proofs.Answers.{each_as_single}

module _ (answer : Ray → Float → DrillAnswer) (drills : List Float) (m : Mesh) (t : Tree) (room : Bool) (p : Places)
    (Unchanged : Type 0) where
  -- what the call promises
  abbrev pub Promises : ReturnedMany → Type 0
  Promises returned =
      (returned ≡ many_returned answer drills m t room p)
      × ((all_pass (many_tests drills m t room p) ≡ false → Unchanged)
      × (returned.number ≡ done_code → EachAsSingle answer drills p returned.after))

  -- a refusal writes nothing and is no 'done'
  refuses : Unchanged → (number : ℕ) → number < 256 → returned_many number p ≡ many_returned answer drills m t room p
      → Promises (returned_many number p)
  refuses same number few e = (e, (λ _. same, λ done. absurd (omega (arith, few, done))))

  module _ (same : Unchanged) where
    pub many_odd : (length drills % 9 ≡ 0 → ⊥) → Promises (returned_many bad_shape p)
    unfolding many_returned
    many_odd h = refuses same bad_shape (omega arith) (simp (ne_eqb (length drills % 9) 0 h))

    pub many_bad : length drills % 9 ≡ 0 → shape_admitted m m.vertices t ≡ false → Promises (returned_many bad_shape p)
    unfolding many_returned
    many_bad h s = refuses same bad_shape (omega arith) (simp (eq-eqb (length drills % 9) 0 h, s))

    pub many_short : length drills % 9 ≡ 0 → shape_admitted m m.vertices t ≡ true → room ≡ false → Promises (returned_many no_room p)
    unfolding many_returned
    many_short h s r = refuses same no_room (omega arith) (simp (eq-eqb (length drills % 9) 0 h, s, r))

    pub many_narrow : length drills % 9 ≡ 0 → shape_admitted m m.vertices t ≡ true → room ≡ true
        → places_fit (drill_count drills) p ≡ false → Promises (returned_many no_room p)
    unfolding many_returned
    many_narrow h s r f = refuses same no_room (omega arith) (simp (eq-eqb (length drills % 9) 0 h, s, r, f))

  -- past them all
  pub many_done : length drills % 9 ≡ 0 → shape_admitted m m.vertices t ≡ true → room ≡ true
      → places_fit (drill_count drills) p ≡ true → (p' : Places) → p' ≡ answers_of answer drills (drill_count drills) p
      → Promises (returned_many done_code p')
  unfolding many_returned
  many_done h s r f p' a = (
    ap (returned_many done_code) a ∙ simp (eq-eqb (length drills % 9) 0 h, s, r, f),
    (
      λ failed. absurd (tests_passed (many_tests drills m t room p) (
        and_both _ _ (eq-eqb (length drills % 9) 0 h) s,
        and_both _ _ r f,
      ) failed),
      λ _. subst (λ (q : Places). EachAsSingle answer drills p q) (sym a) (each_as_single answer drills p f),
    ),
  )

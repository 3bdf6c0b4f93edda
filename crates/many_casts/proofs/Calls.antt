-- The refusals of a call with many rays in their order, and what holds past them. Assumes nothing.
use Prim.Native.Nat.{ℕ, ◌%◌, ◌<◌}
use native.Mathlib.Omega.{arith}
use mathlib.Core.Path.{◌≡◌, sym, ap, ◌∙◌, subst}
use mathlib.Core.Bool.{Bool, true, false}
use mathlib.Core.List.{List}
use lib.Ieee.{Float}
use lib.ListN.{length}
use borrow.Author.Tests.{eq-eqb, ne_eqb}
use Rattle.lists.specs.Refusals.{all_pass}
use Rattle.lists.proofs.JoinedTests.{and_both}
use Rattle.lists.proofs.RefusalLaws.{tests_passed}
use Rattle.geometry.specs.declared.ray.Ray.{Ray}
use Rattle.casts.specs.Answer.{bad_shape, no_room, wrong_pose}
use Rattle.nearest_hit.specs.Nearest.{Indexed}
use Rattle.tree.specs.Layout.{Tree}
use Rattle.tree.specs.Mesh.{Mesh}
use Rattle.mesh.specs.MeshCast.{shape_admitted}
use Rattle.results.specs.Results.{done_code}
use Rattle.many_casts.specs.Many.{ray_count, Places, places_fit, answers_of}
use Rattle.many_casts.specs.Many.{many_tests, ReturnedMany, returned_many, many_returned, EachAsSingle}
use Rattle.many_casts.proofs.Answers.{each_as_single}

module _ (answer : Ray → Indexed) (rays : List Float) (m : Mesh) (pose : List Float) (t : Tree) (room : Bool) (p : Places)
    (Unchanged : Type 0) where
  -- what either call promises
  abbrev pub Promises : ReturnedMany → Type 0
  Promises returned =
      (returned ≡ many_returned answer rays m pose t room p)
      × ((all_pass (many_tests rays m pose t room p) ≡ false → Unchanged)
      × (returned.number ≡ done_code → EachAsSingle answer rays p returned.after))

  -- a refusal writes nothing and is no 'done'
  refuses : Unchanged → (number : ℕ) → number < 256 → returned_many number p ≡ many_returned answer rays m pose t room p
      → Promises (returned_many number p)
  refuses same number few e = (e, (λ _. same, λ done. absurd (omega (arith, few, done))))

  module _ (same : Unchanged) where
    pub many_odd : (length rays % 8 ≡ 0 → ⊥) → Promises (returned_many bad_shape p)
    unfolding many_returned
    many_odd h = refuses same bad_shape (omega arith) (simp (ne_eqb (length rays % 8) 0 h))

    pub many_bad : length rays % 8 ≡ 0 → shape_admitted m pose t ≡ false → Promises (returned_many bad_shape p)
    unfolding many_returned
    many_bad h s = refuses same bad_shape (omega arith) (simp (eq-eqb (length rays % 8) 0 h, s))

    pub many_short : length rays % 8 ≡ 0 → shape_admitted m pose t ≡ true → room ≡ false → Promises (returned_many no_room p)
    unfolding many_returned
    many_short h s r = refuses same no_room (omega arith) (simp (eq-eqb (length rays % 8) 0 h, s, r))

    pub many_narrow : length rays % 8 ≡ 0 → shape_admitted m pose t ≡ true → room ≡ true → places_fit (ray_count rays) p ≡ false → Promises
        (returned_many no_room p)
    unfolding many_returned
    many_narrow h s r f = refuses same no_room (omega arith) (simp (eq-eqb (length rays % 8) 0 h, s, r, f))

    pub many_posed : length rays % 8 ≡ 0 → shape_admitted m pose t ≡ true → room ≡ true → places_fit (ray_count rays) p ≡ true
        → (length pose ≡ length m.vertices → ⊥) → Promises (returned_many wrong_pose p)
    unfolding many_returned
    many_posed h s r f e =
        refuses same wrong_pose (omega arith)
        (simp (eq-eqb (length rays % 8) 0 h, s, r, f, ne_eqb (length pose) (length m.vertices) e))

  -- past them all
  pub many_done : length rays % 8 ≡ 0 → shape_admitted m pose t ≡ true → room ≡ true → places_fit (ray_count rays) p ≡ true
      → length pose ≡ length m.vertices → (p' : Places) → p' ≡ answers_of answer rays (ray_count rays) p → Promises
      (returned_many done_code p')
  unfolding many_returned
  many_done h s r f e p' a = (
    ap (returned_many done_code) a
        ∙ simp (eq-eqb (length rays % 8) 0 h, s, r, f, eq-eqb (length pose) (length m.vertices) e),
    (
      λ failed. absurd (tests_passed (many_tests rays m pose t room p) (
        and_both _ _ (eq-eqb (length rays % 8) 0 h) s,
        (and_both _ _ r f, eq-eqb (length pose) (length m.vertices) e),
      ) failed),
      λ _. subst (λ (q : Places). EachAsSingle answer rays p q) (sym a) (each_as_single answer rays p f),
    ),
  )

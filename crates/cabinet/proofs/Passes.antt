-- Two passes of the step over all parts are the cast at the cabinet. Assumes nothing.
use Prim.Native.Nat.{ℕ, ◌+◌, ◌*◌, ◌-◌, ◌≤◌}
use mathlib.Core.Path.{◌≡◌, refl, sym, ap, ◌∙◌}
use mathlib.Core.Bool.{Bool, true, false, ◌&&◌, cond, true≢false}
use mathlib.Core.List.{List, [], ◌∷◌}
use native.Mathlib.Omega.{arith}
use lib.Dec.{leb}
use lib.Ieee.{Float}
use lib.ListN.{length, drop, length-drop}
use lib.Seq.{length-take-le}
use Rattle.geometry.specs.Segment.{ray_admitted}
use Rattle.geometry.specs.declared.ray.Ray.{Ray}
use Rattle.casts.specs.Answer.{invalid_input, bad_shape, no_room}
use Rattle.tree.specs.Mesh.{thirds, lengths_admitted}
use Rattle.lists.proofs.JoinedTests.{and_first, and_second}
use Rattle.tree_query.specs.Query.{tree_fits, walk_fits}
use Rattle.mesh.specs.MeshCast.{shape_admitted, room_for}
use Rattle.cabinet.specs.declared.part.Span.{Span}
use Rattle.cabinet.specs.declared.part.Part.{Part}
use Rattle.cabinet.specs.Found.{Found, Nothing, Hit, Refused, Progress, State, Look}
use Rattle.cabinet.specs.Parts.{Areas, floats_at, words_at, mesh_of, tree_of_part, ranges_inside, shape_fits, room_fits}
use Rattle.cabinet.specs.PartCast.{cast_moved}
use Rattle.cabinet.specs.Cabinet.{Answer, refused, answer_with, answer_of, is_refused, beginning, cast_part, cast_parts, all_parts}
use Rattle.cabinet.specs.Cabinet.{cast_cabinet}
use Rattle.cabinet.specs.Cabinet.{with_results, tests_pass}
use Rattle.cabinet.specs.Looks.{lower_number, lowered, look_shape, look_room, look_part, look_parts, number_of, found_by, look_from}
use Rattle.cabinet.specs.Looks.{second_pass}
use Rattle.cabinet.specs.Steps.{is_over, is_idle, own_step, step_part, step_parts, looking, begun, casting_from, between, passes}
use Rattle.cabinet.specs.Steps.{last_answer}
use Rattle.cabinet.proofs.PartSteps.{Inside, inside_is}
use Rattle.cabinet.proofs.Limits.{after_refused}
use Rattle.cabinet.proofs.Alone.{all_first, all_rest}
use Rattle.cabinet.proofs.LastAnswer.{last_of_casts}

-- a range inside an area is as long as it says
floats_long : (s : Span) (area : List Float) → s.start + s.length ≤ length area → length (floats_at s area) ≡ s.length
floats_long s area h = length-take-le s.length (drop s.start area) (omega (arith, length-drop s.start area, h))

words_long : (s : Span) (area : List ℕ) → s.start + s.length ≤ length area → length (words_at s area) ≡ s.length
words_long s area h = length-take-le s.length (drop s.start area) (omega (arith, length-drop s.start area, h))

-- a length tested twice
twice : (l n : Bool) → (l && (l && n)) ≡ (l && n)
twice true n = refl
twice false n = refl

module _ (a : Areas) (list stack : ℕ) where
  abbrev inside : Part → Bool
  inside p = ranges_inside p (length a.vertices) (length a.triangles) (length a.node_boxes) (length a.triangle_boxes)
      (length a.node_words) (length a.order)

  abbrev admitted : Part → Bool
  admitted p =
      lengths_admitted (length (mesh_of a p).vertices) (length (mesh_of a p).triangles) && leb p.nodes
      (2 * thirds (length (mesh_of a p).triangles))

  shape_is : (p : Part) → shape_fits a p ≡ (inside p && admitted p)
  unfolding shape_fits shape_admitted
  shape_is p =
      ap (λ (b : Bool). inside p && b)
      (twice (lengths_admitted (length (mesh_of a p).vertices) (length (mesh_of a p).triangles))
      (leb p.nodes (2 * thirds (length (mesh_of a p).triangles))))

  room_is : (p : Part) → room_fits a list stack p ≡ walk_fits (thirds (length (mesh_of a p).triangles)) (tree_of_part a p) list stack
  unfolding room_fits room_for walk_fits
  room_is p = refl

  -- ---- a part is looked at by lengths alone
  abbrev look_at : ℕ → Look
  look_at k = record {
    vertices = length a.vertices;
    triangles = length a.triangles;
    node_boxes = length a.node_boxes;
    triangle_boxes = length a.triangle_boxes;
    node_words = length a.node_words;
    order = length a.order;
    list = list;
    stack = stack;
    number = k;
  }

  part_inside : (p : Part) → inside p ≡ true → Inside p (length a.vertices) (length a.triangles) (length a.node_boxes)
      (length a.triangle_boxes) (length a.node_words) (length a.order)
  part_inside p = inside_is p (length a.vertices) (length a.triangles) (length a.node_boxes) (length a.triangle_boxes)
      (length a.node_words) (length a.order)

  look_shape_lem : (k : ℕ) (p : Part) → look_shape (look_at k) p ≡ shape_fits a p
  unfolding look_shape
  look_shape_lem k p = go (inside p) refl ∙ sym (shape_is p)
    where
      go : (x : Bool) → inside p ≡ x → (inside p && (lengths_admitted p.vertices.length p.triangles.length && leb p.nodes
          (2 * thirds p.triangles.length))) ≡ (inside p && admitted p)
      go false e = simp e
      go true e =
          let i = part_inside p e in
          rw (floats_long p.vertices a.vertices i.vertices, words_long p.triangles a.triangles i.triangles) refl

  look_room_lem : (k : ℕ) (p : Part) → shape_fits a p ≡ true → look_room (look_at k) p ≡ room_fits a list stack p
  unfolding look_room walk_fits tree_fits
  look_room_lem k p h =
      let i = part_inside p (and_first (inside p) (admitted p) (sym (shape_is p) ∙ h)) in
      rw (
        words_long p.triangles a.triangles i.triangles,
        floats_long p.node_boxes a.node_boxes i.node_boxes,
        floats_long p.triangle_boxes a.triangle_boxes i.triangle_boxes,
        words_long p.node_words a.node_words i.node_words,
        words_long p.order a.order i.order,
      )
      refl
      ∙ sym (room_is p)

  module _ (r : Ray) (limit : ℕ) where
    -- ---- the first pass
    abbrev looks_at : ℕ → Part → ℕ
    looks_at k p = cond (shape_fits a p) (cond (room_fits a list stack p) k (lower_number no_room k)) (lower_number bad_shape k)

    look_step : (k : ℕ) (p : Part) → look_part (look_at k) p ≡ look_at (looks_at k p)
    unfolding look_part lowered
    look_step k p = go (shape_fits a p) refl (room_fits a list stack p) refl
      where
        go : (x : Bool) → shape_fits a p ≡ x → (y : Bool) → room_fits a list stack p ≡ y
            → cond (look_shape (look_at k) p) (cond (look_room (look_at k) p) (look_at k) (look_at (lower_number no_room k)))
            (look_at (lower_number bad_shape k)) ≡ look_at (looks_at k p)
        go false e y f = simp (look_shape_lem k p, e)
        go true e true f = simp (look_shape_lem k p, look_room_lem k p e, e, f)
        go true e false f = simp (look_shape_lem k p, look_room_lem k p e, e, f)

    unfoldable looks_all : ℕ → List Part → ℕ
    looks_all k [] = k
    looks_all k (p ∷ ps) = looks_all (looks_at k p) ps

    look_steps : (k : ℕ) (ps : List Part) → look_parts (look_at k) ps ≡ look_at (looks_all k ps)
    unfolding look_parts looks_all
    look_steps k [] = refl
    look_steps k (p ∷ ps) = ap (λ (s : Look). look_parts s ps) (look_step k p) ∙ look_steps (looks_at k p) ps

    -- 1 stays, 2 stays, 3 gives way to a later 2
    both : (x y : Bool) (k : ℕ) → cond x (cond y k k) k ≡ k
    both true true k = refl
    both true false k = refl
    both false y k = refl

    invalid_stays : (ps : List Part) → looks_all invalid_input ps ≡ invalid_input
    unfolding looks_all lower_number
    invalid_stays [] = refl
    invalid_stays (p ∷ ps) = ap (λ (k : ℕ). looks_all k ps) (both (shape_fits a p) (room_fits a list stack p) invalid_input)
        ∙ invalid_stays ps

    bad_stays : (ps : List Part) → looks_all bad_shape ps ≡ bad_shape
    unfolding looks_all lower_number
    bad_stays [] = refl
    bad_stays (p ∷ ps) = ap (λ (k : ℕ). looks_all k ps) (both (shape_fits a p) (room_fits a list stack p) bad_shape) ∙
        bad_stays ps

    short_gives : (ps : List Part) → looks_all no_room ps ≡ cond (all_parts (shape_fits a) ps) no_room bad_shape
    unfolding looks_all lower_number all_parts
    short_gives [] = refl
    short_gives (p ∷ ps) = go (shape_fits a p) refl (room_fits a list stack p) refl (short_gives ps)
      where
        go : (x : Bool) → shape_fits a p ≡ x → (y : Bool) → room_fits a list stack p ≡ y
            → looks_all no_room ps ≡ cond (all_parts (shape_fits a) ps) no_room bad_shape
            → looks_all (looks_at no_room p) ps ≡ cond (cond (shape_fits a p) (all_parts (shape_fits a) ps) false) no_room
            bad_shape
        go false e y g ih = simp e (bad_stays ps)
        go true e true g ih = simp (e, g) ih
        go true e false g ih = simp (e, g) ih

    looked_through : (ps : List Part) → looks_all 0 ps ≡ cond (all_parts (shape_fits a) ps)
        (cond (all_parts (room_fits a list stack) ps) 0 no_room) bad_shape
    unfolding looks_all lower_number all_parts
    looked_through [] = refl
    looked_through (p ∷ ps) = go (shape_fits a p) refl (room_fits a list stack p) refl (looked_through ps)
      where
        go : (x : Bool) → shape_fits a p ≡ x → (y : Bool) → room_fits a list stack p ≡ y
            → looks_all 0 ps ≡ cond (all_parts (shape_fits a) ps) (cond (all_parts (room_fits a list stack) ps) 0
            no_room) bad_shape
            → looks_all (looks_at 0 p) ps
            ≡ cond (cond (shape_fits a p) (all_parts (shape_fits a) ps) false)
            (cond (cond (room_fits a list stack p) (all_parts (room_fits a list stack) ps) false) 0 no_room)
            bad_shape
        go false e y g ih = simp e (bad_stays ps)
        go true e true g ih = simp (e, g) ih
        go true e false g ih = simp (e, g) (short_gives ps)

    -- ---- the second pass
    abbrev casting : Progress → State
    casting s = record { ray = r; limit = limit; casting = true; at = s }

    cast_over : (s : Progress) (p : Part) → is_refused s.found ≡ true
        → step_part a list stack (casting s) p ≡ casting (cast_part r a limit s p)
    unfolding step_part is_over cast_part
    cast_over s p e =
        simp e (ap casting (sym (after_refused s (cast_moved (limit - s.spent) r p.origin (mesh_of a p) (tree_of_part a p)) e)))

    cast_goes : (s : Progress) (p : Part) → is_refused s.found ≡ false → inside p ≡ true → admitted p ≡ true
        → walk_fits (thirds (length (mesh_of a p).triangles)) (tree_of_part a p) list stack ≡ true
        → step_part a list stack (casting s) p ≡ casting (cast_part r a limit s p)
    unfolding step_part is_over cast_part own_step
    cast_goes s p e i d w = simp (e, i, d, w)

    cast_step : (s : Progress) (p : Part) → shape_fits a p ≡ true → room_fits a list stack p ≡ true
        → step_part a list stack (casting s) p ≡ casting (cast_part r a limit s p)
    cast_step s p f g = go (is_refused s.found) refl
      where
        fits : (inside p && admitted p) ≡ true
        fits = sym (shape_is p) ∙ f

        go : (b : Bool) → is_refused s.found ≡ b → step_part a list stack (casting s) p ≡ casting (cast_part r a limit s p)
        go true e = cast_over s p e
        go false e = cast_goes s p e (and_first (inside p) (admitted p) fits) (and_second (inside p) (admitted p) fits)
            (sym (room_is p) ∙ g)

    cast_steps : (s : Progress) (ps : List Part) → all_parts (shape_fits a) ps ≡ true → all_parts (room_fits a list stack) ps ≡ true
        → step_parts a list stack (casting s) ps ≡ casting (cast_parts r a limit s ps)
    unfolding step_parts cast_parts
    cast_steps s [] f g = refl
    cast_steps s (p ∷ ps) f g =
        ap (λ (x : State). step_parts a list stack x ps) (cast_step s p (all_first (shape_fits a) p ps f)
        (all_first (room_fits a list stack) p ps g))
        ∙ cast_steps (cast_part r a limit s p) ps (all_rest (shape_fits a) p ps f) (all_rest (room_fits a list stack) p ps g)

    -- after a refusal of the first pass the second does nothing
    over_stays : (s : State) (ps : List Part) → is_over s ≡ true → step_parts a list stack s ps ≡ s
    unfolding step_parts step_part
    over_stays s [] e = refl
    over_stays s (p ∷ ps) e = simp e (over_stays s ps e)

    refused_stays : (number : ℕ) (ps : List Part)
        → step_parts a list stack (casting_from (looking r limit (Refused number))) ps ≡ casting_from (looking r limit (Refused number))
    unfolding is_over
    refused_stays number ps = over_stays (casting_from (looking r limit (Refused number))) ps refl

    module _ (fits : Bool) (parts : List Part) where
      abbrev shapes : Bool
      shapes = all_parts (shape_fits a) parts

      abbrev rooms : Bool
      rooms = all_parts (room_fits a list stack) parts

      -- ---- what the first pass finds: 1, then 2 of any part, then 3 of any part and of the result slices
      abbrev first_found : Bool → Bool → Bool → Bool → Found
      first_found admits shaped fitting roomy = cond admits (cond shaped (cond (fitting && roomy) Nothing (Refused no_room))
          (Refused bad_shape)) (Refused invalid_input)

      abbrev casting_with : ℕ → State
      casting_with k = casting_from (looking r limit (found_by k))

      look_passes : (f : Found) → second_pass (looking r limit f) (look_parts (look_at (number_of f)) parts) ≡ casting_with
          (looks_all (number_of f) parts)
      unfolding second_pass
      look_passes f = ap (λ (s : Look). casting_with s.number) (look_steps (number_of f) parts)

      short_found : (x w : Bool) → found_by (cond x no_room bad_shape) ≡ first_found true x false w
      unfolding found_by
      short_found true w = refl
      short_found false w = refl

      none_found : (x w : Bool) → found_by (cond x (cond w 0 no_room) bad_shape) ≡ first_found true x true w
      unfolding found_by
      none_found true true = refl
      none_found true false = refl
      none_found false w = refl

      first_found_lem : (x : Bool) → ray_admitted r ≡ x → (y : Bool) → fits ≡ y
          → between a list stack (begun r limit fits) parts ≡ casting_from (looking r limit (first_found x shapes y rooms))
      unfolding between begun look_from found_by
      first_found_lem false e y f = simp e (look_passes (Refused invalid_input) ∙ ap casting_with (invalid_stays parts))
      first_found_lem true e false f = simp (e, f) (look_passes (Refused no_room) ∙ ap casting_with (short_gives parts)
          ∙ ap (λ (g : Found). casting_from (looking r limit g)) (short_found shapes rooms))
      first_found_lem true e true f = simp (e, f) (look_passes Nothing ∙ ap casting_with (looked_through parts)
          ∙ ap (λ (g : Found). casting_from (looking r limit g)) (none_found shapes rooms))

      -- where a test fails, the second pass casts at no part
      pub tests_keep : tests_pass r a list stack fits parts ≡ false → is_idle
          (between a list stack (begun r limit fits) parts) ≡ true
      unfolding tests_pass is_idle
      tests_keep h = ap is_idle (first_found_lem (ray_admitted r) refl fits refl) ∙ go (ray_admitted r)
          shapes fits rooms h
        where
          go : (x y z w : Bool) → (x && (y && (z && w))) ≡ false → is_refused (first_found x y z w) ≡ true
          go false y z w h = refl
          go true false z w h = refl
          go true true false w h = refl
          go true true true false h = refl
          go true true true true h = absurd (true≢false h)

      -- ---- both passes: the last state's answer
      abbrev ends : State → Answer
      ends s = last_answer (step_parts a list stack s parts).at

      refused_answers : (number : ℕ) → ends (casting_from (looking r limit (Refused number))) ≡ refused number
      unfolding last_answer
      refused_answers number = ap (λ (s : State). last_answer s.at) (refused_stays number parts)

      cast_answers : shapes ≡ true → rooms ≡ true → ends (casting_from (looking r limit Nothing)) ≡ answer_of
          (cast_parts r a limit beginning parts)
      cast_answers f g = ap (λ (s : State). last_answer s.at) (cast_steps beginning parts f g) ∙ last_of_casts r a limit parts

      -- an answer of the casts, where the result slices do not fit
      not_fitting : (f : Found) (spent : ℕ) → with_results false (answer_with f spent) ≡ refused no_room
      unfolding with_results
      not_fitting Nothing spent = refl
      not_fitting (Hit part index normal distance) spent = refl
      not_fitting (Refused number) spent = refl

      pub passes_are_cabinet : last_answer (passes a list stack (begun r limit fits) parts).at
          ≡ with_results fits (cast_cabinet r a list stack limit parts)
      unfolding passes cast_cabinet with_results
      passes_are_cabinet =
          ap ends (first_found_lem (ray_admitted r) refl fits refl) ∙ go (ray_admitted r) refl shapes refl fits rooms refl
        where
          after : Progress
          after = cast_parts r a limit beginning parts

          go : (x : Bool) → ray_admitted r ≡ x → (y : Bool) → shapes ≡ y → (z w : Bool) → rooms ≡ w
              → ends (casting_from (looking r limit (first_found x y z w)))
              ≡ with_results z (cond x (cond y (cond w (answer_of after) (refused no_room)) (refused bad_shape)) (refused invalid_input))
          go false e y f true w g = refused_answers invalid_input
          go false e y f false w g = refused_answers invalid_input
          go true e false f true w g = refused_answers bad_shape
          go true e false f false w g = refused_answers bad_shape
          go true e true f true false g = refused_answers no_room
          go true e true f true true g = cast_answers f g
          go true e true f false false g = refused_answers no_room
          go true e true f false true g = refused_answers no_room ∙ sym (not_fitting after.found after.spent)

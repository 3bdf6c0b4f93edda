-- What is read back from the query through a tree that passes the check is complete. Assumes nothing.
use Prim.Native.Nat.{ℕ, ◌*◌, ◌≤◌}
use mathlib.Core.Path.{◌≡◌, refl, sym, ap, ◌∙◌}
use mathlib.Core.Bool.{Bool, true, false, ◌&&◌, cond}
use mathlib.Core.List.{List, ◌++◌}
use native.Mathlib.Omega.{arith}
use borrow.Author.Tests.{leb-true, le-leb}
use lib.Dec.{leb}
use lib.ListN.{length, take, drop}
use lib.Seq.{take_at, get_or-set_same}
use Rattle.geometry.specs.Box.{valid_box}
use Rattle.geometry.specs.declared.aabb.Aabb.{Aabb}
use Rattle.casts.specs.Answer.{invalid_input, bad_shape, no_room}
use Rattle.tree.specs.Layout.{Tree, word_at}
use Rattle.tree.specs.Mesh.{Mesh, triangle_count, candidates}
use Rattle.tree_query.specs.Query.{Queried, count, refused, counts_admitted, walk_fits, after_walk, query_of}
use Rattle.tree_check.proofs.Answers.{yes_passes}
use Rattle.tree_check.proofs.Passes.{few_triangles}
use Rattle.mesh.specs.Demand3.{PassesCheck}
use Rattle.mesh.proofs.WalkLists.{walk_lists_candidates}
use Rattle.mesh_plain.proofs.Agreement.{yes_lengths, few_nodes}
use Rattle.results.specs.Results.{QueryReturned, with_room, done_code, returned_found, query_returned}
use Rattle.exports.specs.Reading.{QueryRead}
use Rattle.exports.proofs.Kept.{room_there}

module _ (box : Aabb) (m : Mesh) (t : Tree) (area : List ℕ) (stack : ℕ) (place : List ℕ) (p : PassesCheck m t) where
  abbrev n : ℕ
  n = triangle_count m

  abbrev touching : List ℕ
  touching = candidates m box

  -- ---- the definition's answer
  few : counts_admitted n t.node_count ≡ true
  unfolding counts_admitted
  few =
      let lengths = yes_lengths m t p.marks p.says_yes in
      simp (
        le-leb n 65536 (few_triangles (length m.vertices) (length m.triangles) lengths),
        le-leb t.node_count (2 * n) (few_nodes m t (yes_passes m t p.marks p.says_yes)),
      )

  queried : valid_box box ≡ true → walk_fits n t (length area) stack ≡ true
      → query_of box n t area stack ≡ record { answer = count (length touching); list = touching ++ drop (length touching) area }
  unfolding query_of after_walk
  queried valid fits = simp (valid, few, fits, walk_lists_candidates m t box (yes_passes m t p.marks p.says_yes))

  -- ---- 'done' comes past every test alone
  abbrev listed : Queried → QueryReturned
  listed q = record { returned = returned_found q.answer place; list = q.list }

  abbrev unreturned : QueryReturned
  unreturned = record { returned = record { number = no_room; count = place }; list = area }

  abbrev unlisted : ℕ → Queried
  unlisted number = record { answer = refused number; list = area }

  record Passed (b₁ b₃ there : Bool) : Type 0 where
    valid : b₁ ≡ true
    fits : b₃ ≡ true
    placed : there ≡ true

  done_passed : (b₁ b₂ b₃ there : Bool) (rest : Queried)
      → (with_room (b₁ && b₂) there (listed (cond b₁ (cond b₂ (cond b₃ rest (unlisted no_room)) (unlisted bad_shape))
      (unlisted invalid_input)))
      unreturned).returned.number ≡ done_code
      → Passed b₁ b₃ there
  unfolding returned_found
  done_passed true true true true rest h = record { valid = refl; fits = refl; placed = refl }
  done_passed true true b₃ false rest h = absurd (omega (arith, h))
  done_passed true true false true rest h = absurd (omega (arith, h))
  done_passed true false b₃ there rest h = absurd (omega (arith, h))
  done_passed false b₂ b₃ there rest h = absurd (omega (arith, h))

  -- ---- what is read back
  module _ (returned : QueryReturned) (is : returned ≡ query_returned box n t area stack place) where
    told : valid_box box ≡ true → walk_fits n t (length area) stack ≡ true → 1 ≤ length place
        → returned ≡ listed (record { answer = count (length touching); list = touching ++ drop (length touching) area })
    unfolding query_returned
    told valid fits there =
        is ∙ room_there (valid_box box && counts_admitted n t.node_count) (leb 1 (length place)) _ _ (le-leb 1 (length place) there)
        ∙ ap listed (queried valid fits)

    passed : returned.returned.number ≡ done_code
        → Passed (valid_box box) (walk_fits n t (length area) stack) (leb 1 (length place))
    unfolding query_returned query_of
    passed h =
        done_passed (valid_box box) (counts_admitted n t.node_count) (walk_fits n t (length area) stack) (leb 1 (length place)) _
        (sym (ap (λ (q : QueryReturned). q.returned.number) is) ∙ h)

    found_is : 1 ≤ length place
        → word_at (listed (record { answer = count (length touching); list = touching ++ drop (length touching) area })).returned.count 0
        ≡ length touching
    unfolding returned_found
    found_is there = get_or-set_same place 0 (length touching) 0 there

    counts : returned.returned.number ≡ done_code → word_at returned.returned.count 0 ≡ length touching
    counts h =
        let q = passed h in
        let there = leb-true 1 (length place) q.placed in
        ap (λ (z : QueryReturned). word_at z.returned.count 0) (told q.valid q.fits there) ∙ found_is there

    pub query_read : QueryRead box m t (length area) stack place returned
    query_read = record {
      lists = λ h.
          let q = passed h in
          ap (λ (k : ℕ). take k returned.list) (counts h)
          ∙ ap (λ (z : QueryReturned). take (length touching) z.list) (told q.valid q.fits (leb-true 1 (length place) q.placed))
          ∙ take_at touching (drop (length touching) area) (length touching) refl;
      counts = counts;
      done = λ valid fits there.
          unfold returned_found in ap (λ (z : QueryReturned). z.returned.number) (told valid fits there);
    }

-- the last clause of the call's contract, from the first
pub query_complete : (box : Aabb) (n : ℕ) (t : Tree) (area : List ℕ) (stack : ℕ) (place : List ℕ) (returned : QueryReturned)
    → returned ≡ query_returned box n t area stack place
    → (m : Mesh) → triangle_count m ≡ n → PassesCheck m t → QueryRead box m t (length area) stack place returned
query_complete box n t area stack place returned is m many p =
    query_read box m t area stack place p returned
    (is ∙ ap (λ (k : ℕ). query_returned box k t area stack place) (sym many))

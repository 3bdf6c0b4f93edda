-- The build's and the query's answers where the place of their count is there, and where it is not. Assumes nothing.
use Prim.Native.Nat.{ℕ, ◌≤◌, ◌<◌}
use mathlib.Core.Path.{◌≡◌, sym, subst, ◌∙◌}
use mathlib.Core.Bool.{Bool, true, false, ◌&&◌, cond}
use mathlib.Core.List.{List}
use borrow.Author.Tests.{le-leb, lt-leb}
use lib.Dec.{leb}
use lib.ListN.{length}
use Rattle.geometry.specs.Box.{valid_box}
use Rattle.geometry.specs.declared.aabb.Aabb.{Aabb}
use Rattle.casts.specs.Answer.{invalid_input, bad_shape, no_room}
use Rattle.tree.specs.Layout.{Tree, Areas}
use Rattle.tree.specs.Mesh.{Mesh, lengths_admitted}
use Rattle.tree_build.specs.Build.{Outcome, build_of}
use Rattle.tree_build.specs.Build as Build
use Rattle.tree_query.specs.Query.{Queried, counts_admitted, query_of}
use Rattle.tree_query.specs.Query as Query
use Rattle.results.specs.Results.{Counted, BuildReturned, QueryReturned, with_room}
use Rattle.results.specs.Results.{short_of, returned_nodes, returned_found, build_returned, query_returned}
use Rattle.exports.proofs.Kept.{room_there}

-- ---- the build
module _ (m : Mesh) (before : Areas) (work : ℕ) (place : List ℕ) where
  abbrev admitted : Bool
  admitted = lengths_admitted (length m.vertices) (length m.triangles)

  built : Outcome → BuildReturned
  built o = record { returned = returned_nodes o.answer place; after = o.after }

  short : ℕ → BuildReturned
  short number = record { returned = record { number = number; count = place }; after = before }

  pub build_returned_lem : (answer : Build.Answer) (after : Areas) (returned : Counted) → 1 ≤ length place
      → record { answer = answer; after = after } ≡ build_of m before work → returned ≡ returned_nodes answer place
      → record { returned = returned; after = after } ≡ build_returned m before work place
  unfolding build_returned built short
  build_returned_lem answer after returned there e t =
      let o = build_of m before work in
      subst (λ (o : Outcome). ◌≡◌ {A = BuildReturned} record { returned = returned; after = after } (built o)) e (simp t)
      ∙ sym (room_there admitted (leb 1 (length place)) (built o) (short no_room) (le-leb 1 (length place) there))

  refused_short : (p fits : Bool) (rest : Outcome) (number : ℕ) → fits ≡ false → number ≡ cond p no_room bad_shape
      → short number ≡ with_room p fits (built (cond p rest (record { answer = Build.refused bad_shape; after = before }))) (short no_room)
  unfolding built short returned_nodes
  refused_short true fits rest number f e = simp (f, e)
  refused_short false fits rest number f e = simp e

  pub build_short : (number : ℕ) → length place < 1 → number ≡ cond admitted no_room bad_shape
      → record { returned = record { number = number; count = place }; after = before } ≡ build_returned m before work place
  unfolding build_returned build_of built short
  build_short number there e = refused_short admitted (leb 1 (length place)) _ number (lt-leb 1 (length place) there) e

-- ---- the query
module _ (box : Aabb) (n : ℕ) (t : Tree) (before : List ℕ) (stack : ℕ) (place : List ℕ) where
  abbrev counted : Bool
  counted = counts_admitted n t.node_count

  listed : Queried → QueryReturned
  listed q = record { returned = returned_found q.answer place; list = q.list }

  unreturned : ℕ → QueryReturned
  unreturned number = record { returned = record { number = number; count = place }; list = before }

  pub query_returned_lem : (answer : Query.Listing) (list : List ℕ) (returned : Counted) → 1 ≤ length place
      → record { answer = answer; list = list } ≡ query_of box n t before stack → returned ≡ returned_found answer place
      → record { returned = returned; list = list } ≡ query_returned box n t before stack place
  unfolding query_returned listed unreturned
  query_returned_lem answer list returned there e f =
      let q = query_of box n t before stack in
      subst (λ (q : Queried). ◌≡◌ {A = QueryReturned} record { returned = returned; list = list } (listed q)) e (simp f)
      ∙ sym (room_there (valid_box box && counted) (leb 1 (length place)) (listed q) (unreturned no_room) (le-leb 1 (length place) there))

  unlisted : ℕ → Queried
  unlisted number = record { answer = Query.refused number; list = before }

  unreturned_short : (p q fits : Bool) (rest : Queried) (number : ℕ) → fits ≡ false → number ≡ short_of p q
      → unreturned number ≡ with_room (p && q) fits (listed (cond p (cond q rest (unlisted bad_shape)) (unlisted invalid_input)))
      (unreturned no_room)
  unfolding listed unreturned unlisted returned_found
  unreturned_short true true fits rest number f e = simp (f, e)
  unreturned_short true false fits rest number f e = simp e
  unreturned_short false q fits rest number f e = simp e

  pub query_short : (number : ℕ) → length place < 1 → number ≡ short_of (valid_box box) counted
      → record { returned = record { number = number; count = place }; list = before } ≡ query_returned box n t before stack place
  unfolding query_returned query_of listed unreturned unlisted
  query_short number there e = unreturned_short (valid_box box) counted (leb 1 (length place)) _ number (lt-leb 1 (length place) there) e

-- What the call of the merge tells and writes. Definitions only. Assumes nothing.
use Rattle.std.specs.Prelude.{ℕ, cond, List, [], ◌∷◌, leb, length}
use Rattle.std.proofs.lemmas.List.Edits.{sets}
use Rattle.casts.specs.Answer.{bad_shape, no_room}
use Rattle.merge.specs.Merge.{Answer, nodes, refused, Board, Areas, shapes_admitted, merge_of}
use Rattle.results.specs.Results.{Counted, done_code}

unfoldable pub returned_merged : Answer → List ℕ → Counted
returned_merged (nodes count) place = record { number = done_code; count = sets place 0 (count ∷ []) }
returned_merged (refused number) place = record { number = number; count = place }

-- the number and the node count, and the result areas
pub record MergeReturned : Type 0 where
  pub returned : Counted
  pub after : Areas

-- a refusal's number, and nothing written
abbrev pub merge_refused : ℕ → Areas → List ℕ → MergeReturned
merge_refused number old place = record { returned = record { number = number; count = place }; after = old }

-- "2 before 3", the node count's place too; then the merge; the last two are the length of the mark area and that place
unfoldable pub merge_returned : Board → Board → Areas → ℕ → List ℕ → MergeReturned
merge_returned a b old marks place =
    cond (shapes_admitted a b)
    (cond (leb 1 (length place))
    record { returned = returned_merged (merge_of a b old marks).answer place; after = (merge_of a b old marks).after }
    (merge_refused no_room old place))
    (merge_refused bad_shape old place)

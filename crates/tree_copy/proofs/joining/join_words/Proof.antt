-- `tree_copy::joining::join_words` meets its contract. Assumes nothing.
use mathlib.Core.Path.{ap, ◌∙◌}
use mathlib.Core.List.{List}
use Prim.Native.Nat.{ℕ}
use native.Mathlib.Omega.{arith}
use lib.ListN.{take}
use lib.Seq.{sets, length-take-le}
use Rattle.tree_copy.specs.Moved.{moved_up}
use Rattle.tree_copy.proofs.MovedLists.{length_moved, moved_nowhere}
use Rattle.tree_copy.proofs.JoinLaws.{two_runs}
use borrow.Author.Rules.{rules}
use Rattle.tree_copy.proofs.joining.join_words.Statement.{statement}
use Rattle.tree_copy.proofs.joining.join_words.Tie as tie

copy-words-requires : tie.Need-copy_words-requires
copy-words-requires c κs =
    let (start, at-shared-slice-known) : tie.Start × tie.After-shared_slice_known-1 = search in (
      (omega (arith, start.requires.0), omega (arith, start.requires.0)),
      record { small = λ i b. omega (arith, at-shared-slice-known.shared_slice_known-1.given i) },
    )

returns : tie.Need-returns
returns c =
    let (start, at-copy-words, at-copy-words2) : tie.Start × tie.After-copy_words × tie.After-copy_words-2 = search in
    let a = start.args in
    let p = start.requires in
    let xs = take a.m a.first.now in
    let ys = moved_up a.up (take a.n a.second.now) in
    at-copy-words2.copy_words-2.ensures
    ∙ ap (λ (z : List ℕ). sets z a.m ys)
    (at-copy-words.copy_words.ensures ∙ ap (sets a.area.now 0) (moved_nowhere xs))
    ∙ two_runs a.area.now xs ys a.m (length-take-le a.m a.first.now p.0.0.0)
    (omega (
      arith,
      length-take-le a.m a.first.now p.0.0.0,
      length_moved a.up (take a.n a.second.now),
      length-take-le
          a.n a.second.now p.0.0.1,
      p.0.1,
    ))

pub join_words_spec : {M : Type 1} → statement M
join_words_spec =
    tie.close (tie.spec
    copy-words-requires
    (λ c κs. search rules)  -- copy_words-requires-2
    (search rules)  -- shape_of-area
    returns)

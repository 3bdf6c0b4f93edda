-- `tree_check::words::mark_places`: what is marked, with what is left to mark, is all that is to be marked.
use Rattle.std.proofs.Common.{◌≡◌, ℕ, ◌+◌, ◌<◌, get_or, take}
use lib.Seq.{slice}
use Rattle.lists.specs.Lists.{count}
use Rattle.tree_check.proofs.words.mark_places.Given as goal

abbrev pub invariant-loop-p : goal.invariant-loop-p
invariant-loop-p l = (x : ℕ) → x < l.n → get_or l.marks x 0 + count x (slice l.p l.n l.order) ≡ count x (take l.n l.order)

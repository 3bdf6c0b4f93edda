-- Inner contracts only: what the list holds when the walk under a limit has ended. Definitions only. Assumes nothing.
use Rattle.std.specs.Prelude.{ℕ, List, [], take}
use Rattle.tree_walk.specs.Walk.{walking, broken}
use Rattle.tree_walk.specs.Areas.{Grown}
use Rattle.tree_walk.specs.Looking.{Looked, looked, used_up}
use Rattle.tree_walk.specs.declared.within.Limited.{Limited}
use Rattle.tree_walk.specs.declared.within.Limited.TheVariants.{Count, Broken, UsedUp}

-- the triangles listed stand in the first places of the list's area
abbrev pub looked_by : Limited → List ℕ → Looked
looked_by (Count found spent) area = looked spent (walking [] (take found area))
looked_by (Broken spent) area = looked spent broken
looked_by (UsedUp spent) area = used_up spent

-- they are below n, and the rest is as it was
abbrev pub GrownBy : ℕ → List ℕ → Limited → List ℕ → Type 0
GrownBy n entry (Count found spent) exit = Grown n entry exit 0 found
GrownBy n entry (Broken spent) exit = Unit
GrownBy n entry (UsedUp spent) exit = Unit

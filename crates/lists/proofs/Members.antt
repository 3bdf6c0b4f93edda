-- What every one that stands in a list is; lists that ascend, or do not fall. Assumes nothing.
use Prim.Native.Nat.{ℕ, ◌<◌, ◌≤◌}
use mathlib.Core.Path.{◌≡◌}
use mathlib.Core.Logic.{⊎_elim}
use mathlib.Core.List.Memᴰ
use mathlib.Core.List.{List, [], ◌∷◌, Memᴰ}

-- every one that stands in a list
abbrev pub Each : (ℕ → Type 0) → List ℕ → Type 0
Each P l = (j : ℕ) → Memᴰ j l → P j

-- ascending
abbrev pub Ascending : List ℕ → Type 0
Ascending [] = Unit
Ascending (x ∷ xs) = Each (λ (y : ℕ). x < y) xs × Ascending xs

-- not falling
abbrev pub Rising : List ℕ → Type 0
Rising [] = Unit
Rising (x ∷ xs) = Each (λ (y : ℕ). x ≤ y) xs × Rising xs

pub each_cons : (P : ℕ → Type 0) (x : ℕ) (xs : List ℕ) → ((j : ℕ) → j ≡ x → P j) → Each P xs → Each P (x ∷ xs)
each_cons P x xs p ps j m = ⊎_elim (λ e. p j e) (λ n. ps j n) (Memᴰ.cases_cons m)

pub each_rest : (P : ℕ → Type 0) (x : ℕ) (xs : List ℕ) → Each P (x ∷ xs) → Each P xs
each_rest P x xs h j m = h j (Memᴰ.tail m)

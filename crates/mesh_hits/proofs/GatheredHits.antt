-- The triangles of a list are noted, and those that are hit stored, one after another. Assumes nothing.
use Prim.Native.Nat.{ℕ, ◌+◌, ◌*◌, ◌<◌, ◌≤◌}
use mathlib.Core.Path.{◌≡◌, refl, sym, ap, subst, ◌∙◌}
use mathlib.Core.Bool.{Bool, true, false, cond}
use mathlib.Core.List.{List, [], ◌∷◌}
use native.Mathlib.Omega.{arith}
use native.Mathlib.Numerals.{add-one}
use lib.Ieee.{Float}
use lib.ListN.{length, take}
use lib.Seq.{length-take-le, take-suc}
use Rattle.casts.specs.Answer.{Answer}
use Rattle.casts.specs.Reach.{Reach, reach_of}
use Rattle.nearest_hit.specs.Summary.{Summary, nothing, note_of, summary_from}
use Rattle.lists.specs.Lists.{keep}
use Rattle.tree.specs.Layout.{word_at}
use Rattle.mesh.proofs.Folding.{Folding, folding_begins, folding_goes, folding_ends}
use Rattle.mesh_hits.specs.HitArea.{is_hit}
use Rattle.mesh_hits.specs.Rows.{Stored, StoredNext}
use Rattle.mesh_hits.proofs.Storing.{stored_more}

pub keep_shorter : (p : ℕ → Bool) (l : List ℕ) → length (keep p l) ≤ length l
unfolding keep
keep_shorter p [] = omega arith
keep_shorter p (x ∷ l) = go (p x) (keep_shorter p l)
  where
    go : (b : Bool) → length (keep p l) ≤ length l → length (cond b (x ∷ keep p l) (keep p l)) ≤ length (x ∷ l)
    go true h = omega arith
    go false h = omega arith

module _ (answer : ℕ → Answer) (list : List ℕ) (found places : ℕ) (indices₀ : List ℕ) (numbers₀ : List Float) where
  pub record Gathering (notes : Summary) (hits : ℕ) (indices : List ℕ) (numbers : List Float) (i : ℕ) : Type 0 where
    pub noted : Folding answer list found notes i
    pub long : length indices ≡ length indices₀
    pub numbers_long : length numbers ≡ length numbers₀
    pub few : hits ≤ i
    pub stored : Stored answer (take i list) places indices₀ numbers₀ hits indices numbers

  nothing_stored : Stored answer [] places indices₀ numbers₀ 0 indices₀ numbers₀
  unfolding keep
  nothing_stored = record {
    counts = refl;
    holds = λ few. refl;
    keyed = λ few. record { at = λ (i : ℕ) (h : i < 0). absurd (omega arith) };
    rest = λ few. refl;
  }

  pub gathering_begins : (notes : Summary) → notes ≡ nothing → Gathering notes 0 indices₀ numbers₀ 0
  gathering_begins notes e = record
      { noted = folding_begins answer list found notes e; long = refl; numbers_long = refl; few = omega arith; stored = nothing_stored }

  module _ (inside : found ≤ length list) (room : places ≤ length indices₀) (roomN : 4 * places ≤ length numbers₀) where
    pub gathering_goes : (notes next : Summary) (reach : Reach) (hits hits' : ℕ) (indices indices' : List ℕ)
        (numbers numbers' : List Float) (i : ℕ)
        → Gathering notes hits indices numbers i → i < found → reach ≡ reach_of (answer (word_at list i))
        → next ≡ note_of notes (word_at list i) reach
        → StoredNext (word_at list i) reach hits places indices numbers hits' indices' numbers' → length indices' ≡ length indices
        → length numbers' ≡ length numbers
        → Gathering next hits' indices' numbers' (i + 1)
    gathering_goes notes next reach hits hits' indices indices' numbers numbers' i g h e f s long longN = record {
      noted = folding_goes answer list found inside notes next reach i g.noted h e f;
      long = long ∙ g.long;
      numbers_long = longN ∙ g.numbers_long;
      few = omega (
        arith,
        more.counts,
        keep_shorter (λ (t : ℕ). is_hit (answer t)) (take (i + 1) list),
        length-take-le (i + 1) list
            (omega arith),
      );
      stored = more;
    }
      where
        more : Stored answer (take (i + 1) list) places indices₀ numbers₀ hits' indices' numbers'
        more =
            let k : i < length list = omega arith in
            subst (λ (l : List ℕ). Stored answer l places indices₀ numbers₀ hits' indices' numbers')
            (sym (ap (λ (j : ℕ). take j list) (add-one i) ∙ take-suc list i 0 k))
            (stored_more answer places indices₀ numbers₀ room roomN (take i list) (word_at list i) hits indices numbers g.long
            g.numbers_long g.stored reach e hits' indices' numbers' s)

    pub gathering_ends : (notes : Summary) (hits : ℕ) (indices : List ℕ) (numbers : List Float) (i : ℕ)
        → Gathering notes hits indices numbers i → found ≤ i
        → (notes ≡ summary_from answer nothing (take found list))
        × Stored answer (take found list) places indices₀ numbers₀ hits indices numbers
    gathering_ends notes hits indices numbers i g h =
        let e : i ≡ found = omega (arith, g.noted.within) in (
          folding_ends answer list found inside notes i g.noted h,
          subst
              (λ (j : ℕ). Stored answer (take j list) places indices₀ numbers₀ hits indices numbers) e g.stored,
        )

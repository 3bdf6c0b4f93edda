-- Texts stored one behind another are one text. Assumes nothing.
use Prim.Native.Nat.{ℕ, ◌+◌, ◌-◌, ◌/◌, ◌%◌, ◌≤◌}
use mathlib.Core.Path.{◌≡◌, refl, sym, ◌∙◌}
use mathlib.Core.List.{List, [], ◌∷◌, ◌++◌, append_assoc}
use native.Mathlib.Nat.{add-zero}
use native.Mathlib.Omega.{arith}
use lib.ListN.{length, length-append}
use lib.Seq.{drop-drop, sets-eq, length-sets}
use borrow.Rule.Slice.PartMut.{put_mid}
use Rattle.lists.proofs.Runs.{sets_append}
use Rattle.record_text.specs.Text.{glyph, digits, Put}
use Rattle.record_text.proofs.Places.{digits_next}

-- one text behind another
pub put_then : {area after last : List ℕ} {at next end : ℕ} (xs ys : List ℕ) → Put area at xs after next → Put after next ys last end → Put
    area at (xs ++ ys) last end
put_then {area} {after} {last} {at} {next} {end} xs ys p q = record {
  stored = q.stored ∙ (rw (p.stored, p.behind) (sym (sets_append area at xs ys)));
  behind = q.behind ∙ (rw p.behind (omega (arith, length-append xs ys)));
}

-- the area keeps its length
pub put_keeps : {area after : List ℕ} {at next : ℕ} {text : List ℕ} → Put area at text after next → length after ≡ length area
put_keeps {area} {after} {at} {next} {text} p = rw p.stored (length-sets area at text)

-- a text copied
pub put_copied : (area part text : List ℕ) (at : ℕ) → at + length text ≤ length area → part ≡ text
    → Put area at text (put_mid at (at + length text - at) area part) (at + length text)
put_copied area part text at h e = record {
  stored =
      let many : at + length text - at ≡ length text = omega arith in
      rw (e, many, sets-eq text area at h, drop-drop (length text) at area, append_assoc);
  behind = refl;
}

pub put_empty : (area text : List ℕ) (at : ℕ) → text ≡ [] → Put area at text area at
put_empty area text at e = record {
  stored = rw e;
  behind = rw e (sym (add-zero at));
}

-- one more digit
pub put_digit : {area after last : List ℕ} {at next end : ℕ} (base k n glyph' : ℕ) → (k ≡ 0 → ⊥) → glyph' ≡ glyph (n % base)
    → Put area at (digits base (k - 1) (n / base)) after next → Put after next (glyph' ∷ []) last end → Put area at (digits base k n) last
    end
put_digit base k n glyph' z e p q =
    rw (sym (digits_next base k n z)) (put_then (digits base (k - 1) (n / base)) (glyph (n % base) ∷ []) p (rw e at q))

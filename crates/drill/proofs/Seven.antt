-- Seven tests, one of which passes. Assumes nothing.
use mathlib.Core.Path.{◌≡◌, refl}
use mathlib.Core.Logic.{◌⊎◌, inl, inr}
use mathlib.Core.Bool.{Bool, true, false, ◌||◌}
use Rattle.lists.proofs.JoinedTests.{or_first, or_second}

pub either : (a b : Bool) → (a || b) ≡ true → (a ≡ true) ⊎ (b ≡ true)
either true b h = inl refl
either false b h = inr h

pub data OneOf (t₁ t₂ t₃ t₄ t₅ t₆ t₇ : Bool) : Type 0 where
  first_corner_lem : t₁ ≡ true → OneOf t₁ t₂ t₃ t₄ t₅ t₆ t₇
  second_corner_lem : t₂ ≡ true → OneOf t₁ t₂ t₃ t₄ t₅ t₆ t₇
  third_corner : t₃ ≡ true → OneOf t₁ t₂ t₃ t₄ t₅ t₆ t₇
  first_side : t₄ ≡ true → OneOf t₁ t₂ t₃ t₄ t₅ t₆ t₇
  second_side : t₅ ≡ true → OneOf t₁ t₂ t₃ t₄ t₅ t₆ t₇
  third_side : t₆ ≡ true → OneOf t₁ t₂ t₃ t₄ t₅ t₆ t₇
  in_plane_lem : t₇ ≡ true → OneOf t₁ t₂ t₃ t₄ t₅ t₆ t₇

module _ (t₁ t₂ t₃ t₄ t₅ t₆ t₇ : Bool) where
  abbrev pub seven : Bool
  seven = t₁ || (t₂ || (t₃ || (t₄ || (t₅ || (t₆ || t₇)))))

  pub passes : OneOf t₁ t₂ t₃ t₄ t₅ t₆ t₇ → seven ≡ true
  passes (first_corner_lem h) = or_first t₁ (t₂ || (t₃ || (t₄ || (t₅ || (t₆ || t₇))))) h
  passes (second_corner_lem h) = or_second t₁ (t₂ || (t₃ || (t₄ || (t₅ || (t₆ || t₇))))) (or_first t₂ (t₃ || (t₄ || (t₅ || (t₆ || t₇)))) h)
  passes (third_corner h) =
      or_second t₁ (t₂ || (t₃ || (t₄ || (t₅ || (t₆ || t₇))))) (or_second t₂ (t₃ || (t₄ || (t₅ || (t₆ || t₇))))
      (or_first t₃ (t₄ || (t₅ || (t₆ || t₇))) h))
  passes (first_side h) =
      or_second t₁ (t₂ || (t₃ || (t₄ || (t₅ || (t₆ || t₇))))) (or_second t₂ (t₃ || (t₄ || (t₅ || (t₆ || t₇))))
      (or_second t₃ (t₄ || (t₅ || (t₆ || t₇))) (or_first t₄ (t₅ || (t₆ || t₇)) h)))
  passes (second_side h) =
      or_second t₁ (t₂ || (t₃ || (t₄ || (t₅ || (t₆ || t₇))))) (or_second t₂ (t₃ || (t₄ || (t₅ || (t₆ || t₇))))
      (or_second t₃ (t₄ || (t₅ || (t₆ || t₇))) (or_second t₄ (t₅ || (t₆ || t₇)) (or_first t₅ (t₆ || t₇) h))))
  passes (third_side h) =
      or_second t₁ (t₂ || (t₃ || (t₄ || (t₅ || (t₆ || t₇))))) (or_second t₂ (t₃ || (t₄ || (t₅ || (t₆ || t₇))))
      (or_second t₃ (t₄ || (t₅ || (t₆ || t₇))) (or_second t₄ (t₅ || (t₆ || t₇)) (or_second t₅ (t₆ || t₇) (or_first t₆ (t₇) h)))))
  passes (in_plane_lem h) =
      or_second t₁ (t₂ || (t₃ || (t₄ || (t₅ || (t₆ || t₇))))) (or_second t₂ (t₃ || (t₄ || (t₅ || (t₆ || t₇))))
      (or_second t₃ (t₄ || (t₅ || (t₆ || t₇))) (or_second t₄ (t₅ || (t₆ || t₇)) (or_second t₅ (t₆ || t₇) (or_second t₆ (t₇) (h))))))

  pub passed : seven ≡ true → OneOf t₁ t₂ t₃ t₄ t₅ t₆ t₇
  passed h = elim (either t₁ (t₂ || (t₃ || (t₄ || (t₅ || (t₆ || t₇))))) h) [
    | inl g ↦ first_corner_lem g
    | inr g1 ↦ elim (either t₂ (t₃ || (t₄ || (t₅ || (t₆ || t₇)))) g1) [
      | inl g ↦ second_corner_lem g
      | inr g2 ↦ elim (either t₃ (t₄ || (t₅ || (t₆ || t₇))) g2) [
        | inl g ↦ third_corner g
        | inr g3 ↦ elim (either t₄ (t₅ || (t₆ || t₇)) g3) [
          | inl g ↦ first_side g
          | inr g4 ↦ elim (either t₅ (t₆ || t₇) g4) [
            | inl g ↦ second_side g
            | inr g5 ↦ elim (either t₆ (t₇) g5) [
              | inl g ↦ third_side g
              | inr g6 ↦ in_plane_lem g6
            ]
          ]
        ]
      ]
    ]
  ]

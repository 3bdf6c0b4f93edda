-- The parts of an answer, stored one behind another, are its text. Assumes nothing.
use Prim.Native.Nat.{ℕ}
use mathlib.Core.Path.{◌≡◌, ap, ◌∙◌}
use Rattle.std.specs.Prelude.{Option, Some, None, Result, Ok}
use mathlib.Core.List.{List, [], ◌∷◌, ◌++◌}
use lib.Ieee.{Float}
use Rattle.vectors.specs.declared.vec3.Vec3.{Vec3}
use Rattle.casts.specs.declared.answer.Hit.{Hit}
use Rattle.casts.specs.declared.answer.Refusal.{Refusal}
use Rattle.casts.specs.Answer.{Answer, hit, none, refused, says}
use Rattle.nearest_hit.specs.declared.nearest.IndexedHit.{IndexedHit}
use Rattle.nearest_hit.specs.Nearest.{Indexed, hit_at, no_hit, stopped, says_indexed}
use Rattle.record_text.specs.Text.{decimal, hexadecimal, printed_bits, Put}
use Rattle.record_text.specs.AnswerText.{hit_word, none_word, refused_word, float_text, hit_text, answer_text, indexed_text}
use Rattle.record_text.proofs.Storing.{put_then}

-- the same text under another name
pub put_as : {area after : List ℕ} {at next : ℕ} {text : List ℕ} (other : List ℕ) → text ≡ other → Put area at text after next → Put area at
    other after next
put_as other e p = rw e at p

pub put_space : {area after last : List ℕ} {at next end bits : ℕ} (x : Float) → bits ≡ printed_bits x
    → Put area at (32 ∷ []) after next → Put after next (hexadecimal bits) last end → Put area at (float_text x) last end
unfolding float_text
put_space x e p q = put_then (32 ∷ []) (hexadecimal (printed_bits x)) p (put_as (hexadecimal (printed_bits x)) (ap hexadecimal e) q)

pub put_four : {a b c d e f : List ℕ} {i j k l m n : ℕ} (normal : Vec3) (distance : Float)
    → Put a i hit_word b j → Put b j (float_text normal.x) c k → Put c k (float_text normal.y) d l
    → Put d l (float_text normal.z) e m → Put e m (float_text distance) f n → Put a i (hit_text normal distance) f n
unfolding hit_text
put_four normal distance p q r s t = put_then _ _ (put_then _ _ (put_then _ _ (put_then _ _ p q) r) s) t

-- the answer's cases
pub hit_case : (a : Answer) (normal : Vec3) (distance : Float) → a ≡ hit normal distance → hit_text normal distance ≡ answer_text a
unfolding answer_text
hit_case a normal distance e = rw e

pub none_case : (a : Answer) → a ≡ none → none_word ≡ answer_text a
unfolding answer_text
none_case a e = rw e

pub refused_case : (a : Answer) (number : ℕ) → a ≡ refused number → refused_word ++ decimal number ≡ answer_text a
unfolding answer_text
refused_case a number e = rw e

-- the code's answer's cases
pub hit_said : (cast : Result (Option Hit) Refusal) (found : Option Hit) (h : Hit) → cast ≡ Ok found → found ≡ Some h
    → hit_text h.normal h.distance ≡ answer_text (says cast)
hit_said cast found h e f = hit_case (says cast) h.normal h.distance (ap says (e ∙ ap Ok f))

pub none_said : (cast : Result (Option Hit) Refusal) (found : Option Hit) → cast ≡ Ok found → found ≡ None
    → none_word ≡ answer_text (says cast)
none_said cast found e f = none_case (says cast) (ap says (e ∙ ap Ok f))

-- a mesh's answer's cases
pub indexed_hit : (a : Indexed) (normal : Vec3) (distance : Float) (index : ℕ) → a ≡ hit_at normal distance index
    → (hit_text normal distance ++ (32 ∷ [])) ++ decimal index ≡ indexed_text a
unfolding indexed_text
indexed_hit a normal distance index e = rw e

pub indexed_none : (a : Indexed) → a ≡ no_hit → none_word ≡ indexed_text a
unfolding indexed_text
indexed_none a e = rw e

pub indexed_refused : (a : Indexed) (number : ℕ) → a ≡ stopped number → refused_word ++ decimal number ≡ indexed_text a
unfolding indexed_text
indexed_refused a number e = rw e

-- the code's answer's cases
pub indexed_hit_said : (cast : Result (Option IndexedHit) Refusal) (found : Option IndexedHit) (h : IndexedHit) → cast ≡ Ok found
    → found ≡ Some h
    → (hit_text h.normal h.distance ++ (32 ∷ [])) ++ decimal h.index ≡ indexed_text (says_indexed cast)
indexed_hit_said cast found h e f = indexed_hit (says_indexed cast) h.normal h.distance h.index (ap says_indexed (e ∙ ap Ok f))

pub indexed_none_said : (cast : Result (Option IndexedHit) Refusal) (found : Option IndexedHit) → cast ≡ Ok found → found ≡ None
    → none_word ≡ indexed_text (says_indexed cast)
indexed_none_said cast found e f = indexed_none (says_indexed cast) (ap says_indexed (e ∙ ap Ok f))

-- The ray's floats, then the counts behind them. The ray is as long in the form q by the count of p.
use Rattle.std.proofs.Common.{ℕ, ◌≡◌, ◌*◌, ap, ◌∙◌, drop, arith}
use Rattle.std.proofs.lemmas.List.Edits.{sets}
use Rattle.float_forms.specs.Forms.{size_of, rays_of}
use Rattle.float_forms.specs.Bytes.{numbers_of, numbers_bytes, words_of, words_bytes}
use Rattle.record_bytes.specs.Records.{counts_place}
use Rattle.conversion.proofs.WritingLaws.{two_parts, run_behind}
use Rattle.conversion.proofs.writing.write_ray.Goals as goal

pub put_floats-requires : goal.put_floats-requires
put_floats-requires c =
    let same = ap (λ (n : ℕ). size_of c.args.q * n) c.requires.1.1.1 in
    rw c.ray_count.ensures (omega (arith, c.requires.0.1), (omega (arith, c.requires.1.0, same), c.requires.1.1.0))

pub returns : goal.returns
returns c =
    let a = c.args in
    let l = a.source.now in
    let to = c.numbers_place-to.result in
    let same = ap (λ (n : ℕ). size_of a.q * n) c.requires.1.1.1 in
    let from : c.numbers_place-from.result ≡ counts_place a.p = omega (arith, c.numbers_place-from.ensures.0) in
    two_parts a.out.now c.put_floats.new.out c.put_words.new.out
    (numbers_bytes a.q (numbers_of a.p (rays_of a.p) (drop 6 l)))
    (words_bytes (words_of a.counts (drop (counts_place a.p) l))) 6 to
    (c.put_floats.ensures ∙ ap (λ (i : ℕ). sets a.out.now 6 (numbers_bytes a.q (numbers_of a.p i (drop 6 l)))) c.ray_count.ensures)
    (c.put_words.ensures ∙ ap (λ (i : ℕ). sets c.put_floats.new.out to (words_bytes (words_of a.counts (drop i l)))) from)
    (run_behind a.p a.q (rays_of a.p) 6 to (drop 6 l) (omega (arith, c.numbers_place-to.ensures.0, same)))

-- The floats, then the indices behind them.
use Rattle.std.proofs.Common.{ℕ, ◌+◌, ◌*◌, ap, ◌∙◌, drop, arith}
use Rattle.std.proofs.lemmas.List.Edits.{sets}
use Rattle.float_forms.specs.Forms.{size_of}
use Rattle.float_forms.specs.Bytes.{numbers_of, numbers_bytes, words_of, words_bytes}
use Rattle.conversion.proofs.WritingLaws.{two_parts, run_behind}
use Rattle.conversion.proofs.writing.write_shape.Goals as goal

pub put_floats-requires : goal.put_floats-requires
put_floats-requires c = (omega (arith, c.requires.0.1), (omega (arith, c.requires.1.0), c.requires.1.1))

pub returns : goal.returns
returns c =
    let a = c.args in
    let l = a.source.now in
    let to = a.at + c.run_length-2.result in
    two_parts a.out.now c.put_floats.new.out c.put_words.new.out
    (numbers_bytes a.q (numbers_of a.p a.numbers (drop a.place l)))
    (words_bytes (words_of a.indices (drop (a.place + size_of a.p * a.numbers) l))) a.at to c.put_floats.ensures
    (c.put_words.ensures ∙ ap (λ (n : ℕ). sets c.put_floats.new.out to (words_bytes (words_of a.indices (drop (a.place + n) l))))
    c.run_length.ensures.0)
    (run_behind a.p a.q a.numbers a.at to (drop a.place l) (ap (λ (n : ℕ). a.at + n) c.run_length-2.ensures.0))

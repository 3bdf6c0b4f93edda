-- `record_text::answers::put_float` meets its contract. Assumes nothing.
use Rattle.record_text.proofs.AnswerParts.{put_space}
use Rattle.record_text.proofs.answers.put_float.Goals as goal

pub returns : goal.returns
returns c =
    put_space _ c.printed_bits.ensures
    c.put_byte-next.ensures c.put_hexadecimal.ensures

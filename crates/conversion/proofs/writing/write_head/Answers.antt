-- The length's four bytes, then two more.
use Rattle.float_forms.specs.Forms.{version_of}
use Rattle.record_bytes.specs.Kinds.{byte_of}
use Rattle.conversion.proofs.WritingLaws.{head_written}
use Rattle.conversion.proofs.writing.write_head.Goals as goal

pub returns : goal.returns
returns c =
    rw (c.from.ensures, c.from-2.ensures)
    (head_written c.args.out.now c.put_word.new.out c.args.body (version_of c.args.q) (byte_of c.args.kind) c.put_word.ensures)

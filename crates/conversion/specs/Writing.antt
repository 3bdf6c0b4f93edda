-- A record written in another form than it was read in. Definitions only. Assumes nothing.
use Rattle.std.specs.Prelude.{ℕ, List}
use Rattle.float_forms.specs.declared.forms.Form.{Form}
use Rattle.record_bytes.specs.Records.{said_of, record_bytes}

-- the whole record in the form q
abbrev pub rewritten : Form → Form → List ℕ → List ℕ
rewritten p q bytes = record_bytes q (said_of p bytes)

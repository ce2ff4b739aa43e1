-- The listing of a whole body, and of a capture.
use Rattle.std.specs.Prelude.{ℕ, cond, List, length, None, Ok, Err, Option, Result, nat_le}
use Rattle.std.specs.List.{flat_map}
use Rattle.capture.specs.Captures.{captured}
use Rattle.capture.specs.declared.sections.CaptureRefusal.{CaptureRefusal}
use Rattle.capture.specs.declared.sections.CaptureRefusal.TheVariants as refusal
use Rattle.carrier.specs.declared.endings.Ending.{Ending}
use Rattle.packet.specs.declared.grammar.BodyKind.{BodyKind}
use Rattle.packet.specs.declared.grammar.BodyKind.TheVariants as body
use Rattle.receiver.specs.Steps.{opened}
use Rattle.receiver.specs.Views.{View, view_of}
use Rattle.runs.specs.Answers.{answers_from}
use Rattle.listing.specs.Lines.{line_of, refused_line_of}

-- the lines of the answers to come, by a receiver's view
abbrev pub lines_from : View → List ℕ
lines_from v = flat_map line_of (answers_from v.standing v.coming v.ending)

-- the lines of a body of a kind
abbrev pub lines : BodyKind → Option ℕ → List ℕ → Ending → List ℕ
lines b before bs e = lines_from (view_of (opened b before) bs e)

-- the longest input that is read as a capture
abbrev pub most_input : ℕ
most_input = 65536

abbrev pub capture_lines : Result (List ℕ × Ending) CaptureRefusal → List ℕ
capture_lines (Err r) = refused_line_of r
capture_lines (Ok c) = lines body.Play None c.0 c.1

-- the lines of a captured connection, read as a Play body
abbrev pub listed : List ℕ → List ℕ
listed input = cond (nat_le (length input) most_input) (capture_lines (captured input)) (refused_line_of refusal.CutShort)

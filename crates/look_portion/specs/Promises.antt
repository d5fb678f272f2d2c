-- What is promised of a portion that is made of its scan's answer. Assumes nothing.
use Rattle.std.specs.Prelude.{ℕ, List}
use Rattle.words.specs.Words.{words}
use Rattle.model.specs.declared.Bound.{Bound}
use Rattle.look_output.specs.declared.Scanned.{Scanned}
use Rattle.look_output.specs.Output.{read_entries, room_in}
use Rattle.look_portion.specs.declared.Portion.{Portion}
use Rattle.look_portion.specs.Portion.{next_start, ends_listing}

-- a portion from a start, as it is told where its scan has told this and left these bytes in the output
abbrev pub portion_in : Bound → Scanned → List ℕ → Portion
portion_in start s out =
    record { scanned = s; next = next_start start (read_entries s.written (words out)); ended = ends_listing (room_in out) s.more }

use Rattle.std.proofs.Common.{take}
use Rattle.gettext.specs.Reader.{Collects}
use Rattle.gettext.proofs.parser.sorting.by_key.Given as goal

abbrev pub invariant-loop-row : goal.invariant-loop-row
invariant-loop-row l = Collects l.buffer (take l.row-index l.rows) l.found

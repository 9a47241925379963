-- From nothing on, what a sink takes is what it holds.
use Rattle.std.proofs.Common.{refl}
use Rattle.writeable_sinks.specs.PartsSink.{no_parts}
use Rattle.writeable_sinks.specs.PartsSinkLaws.{TookMarks-text}
use Rattle.writeable_sinks.specs.SpansLaws.{spans_of_taken, holds_taken}
use Rattle.writeable_sinks.proofs.laws.spans_are_those_of_the_marks.Goals as goal

pub returns-clause-text : goal.returns-clause-text
returns-clause-text c = λ marks sink took. TookMarks-text no_parts sink marks took

pub returns-clause-spans : goal.returns-clause-spans
returns-clause-spans c = λ marks sink took. spans_of_taken marks sink took

pub returns-clause-closed : goal.returns-clause-closed
returns-clause-closed c =
    λ marks sink nests took. (holds_taken marks no_parts sink nests refl took).closed

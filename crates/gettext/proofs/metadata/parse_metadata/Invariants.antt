use Rattle.std.proofs.Common.{map}
use Rattle.gettext.proofs.MetadataFields.{IsRead}
use Rattle.gettext.proofs.metadata.parse_metadata.Given as goal

abbrev pub invariant-loop-line : goal.invariant-loop-line
invariant-loop-line l = IsRead (map (λ s. s.now) l.yielded) l.fields

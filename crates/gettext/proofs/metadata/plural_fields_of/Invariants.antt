use Rattle.std.proofs.Common.{map}
use Rattle.gettext.proofs.MetadataFields.{IsFound}
use Rattle.gettext.proofs.metadata.plural_fields_of.Given as goal

abbrev pub invariant-loop-piece : goal.invariant-loop-piece
invariant-loop-piece l = IsFound (map (λ s. s.now) l.yielded) l.count l.expression

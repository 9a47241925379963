-- No bytes are a text without characters.
use Rattle.std.proofs.Common.{ap, arith}
use Rattle.std.proofs.lemmas.Str.{chars-nil, is_utf8-from_IsUtf8, IsUtf8-nil}
use Rattle.writeable_cmp.specs.Sharing.{sharing}
use Rattle.writeable_cmp.proofs.borrow.Sharing.new.Goals as goal

pub invariant_of-result : goal.invariant_of-result
invariant_of-result c = (omega arith, is_utf8-from_IsUtf8 _ IsUtf8-nil)

pub returns : goal.returns
returns c = ap (λ t. sharing t c.args.reference.now) chars-nil

-- A number's text has as many bytes as digits.
use Rattle.std.proofs.Common.{ap, sym, ◌∙◌, arith}
use Rattle.writeable_core.specs.Hint.{exact}
use Rattle.writeable_core.proofs.Digits.{byte_length-decimal}
use Rattle.writeable_core.proofs.impls.numbers.unsigned_hint.Goals as goal

pub returns : goal.returns
returns c = c.exact.ensures
    ∙ ap exact (c.digits.ensures.count ∙ sym (byte_length-decimal c.args.number (omega arith)))

-- No bytes are a text without characters.
use Rattle.std.proofs.Common.{◌≡◌, true, subst, sym}
use Rattle.std.specs.Str.{is_utf8}
use Rattle.std.proofs.lemmas.Str.{is_utf8-from_IsUtf8, IsUtf8-nil}
use Rattle.writeable_core.specs.TextLaws.{chars-none}
use Rattle.writeable_sinks.proofs.fixed_sink.FixedSink.new.Goals as goal

pub invariant_of-result : goal.invariant_of-result
invariant_of-result g c =
    subst (λ bytes. is_utf8 bytes ≡ true) (sym c.new.ensures) (is_utf8-from_IsUtf8 _ IsUtf8-nil)

pub returns : goal.returns
returns g c = cc (chars-none _ c.new.ensures)

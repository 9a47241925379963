use Rattle.std.proofs.Common.{◌≡◌, ◌∙◌, sym, ap, arith, length}
use Rattle.std.proofs.lemmas.Str.{IsUtf8-from_ascii, IsAscii-take, chars-IsAscii}
use Rattle.std.specs.Str.{IsAscii}
use Rattle.tinystr.specs.Text.{unpadded}
use Rattle.tinystr.proofs.Padding.{held-text, take-unpadded, length-unpadded-le}
use Rattle.tinystr.proofs.tiny_str.TinyStr.as_str.Goals as goal

pub from_utf8_unchecked-requires : goal.from_utf8_unchecked-requires
from_utf8_unchecked-requires g c = IsUtf8-from_ascii _ (IsAscii-take _ _ c.self.invariant.ascii)

pub returns-clause-characters : goal.returns-clause-characters
returns-clause-characters g c =
    let front : IsAscii c.from_utf8_unchecked.result.now =
    rw c.from_utf8_unchecked.ensures (IsAscii-take _ _ c.self.invariant.ascii) in
    chars-IsAscii _ front ∙ c.from_utf8_unchecked.ensures
    ∙ take-unpadded _ _ (c.len.ensures.value ∙ ap length (sym c.self.view_is)) ∙ c.self.view_is

pub returns-clause-text : goal.returns-clause-text
returns-clause-text g c =
    let text : c.from_utf8_unchecked.result.now ≡ unpadded c.self.inside.bytes =
    c.from_utf8_unchecked.ensures
    ∙ take-unpadded _ _ (c.len.ensures.value ∙ ap length (sym c.self.view_is)) in record {
      fits = rw text (omega (arith, length-unpadded-le c.self.inside.bytes, c.self.told));
      bytes = rw text (held-text _ _ c.self.invariant);
    }

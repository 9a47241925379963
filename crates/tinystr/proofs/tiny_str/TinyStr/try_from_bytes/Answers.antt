use Rattle.std.proofs.Common.{refl}
use Rattle.tinystr.proofs.Padding.{text_from, filled-from, holds_text, unpadded_is}
use Rattle.tinystr.proofs.tiny_str.TinyStr.try_from_bytes.Goals as goal

pub invariant_of-result : goal.invariant_of-result
invariant_of-result g c =
    holds_text _ _ c.args.bytes.now (filled-from _ _ _ c.copy_from_slice.ensures.after)
    (text_from _ c.if-not-is_ascii.ensures.cases c.if-contains.ensures.cases)

pub returns-clause-ok : goal.returns-clause-ok
returns-clause-ok g c =
    unpadded_is _ _ c.args.bytes.now (filled-from _ _ _ c.copy_from_slice.ensures.after)
    (text_from _ c.if-not-is_ascii.ensures.cases c.if-contains.ensures.cases)

pub returns-clause-variant : goal.returns-clause-variant
returns-clause-variant g c = (
  λ _. record {
    fits = c.if-bytes.false;
    bytes = text_from _ c.if-not-is_ascii.ensures.cases c.if-contains.ensures.cases;
  },
  λ _. refl,
)

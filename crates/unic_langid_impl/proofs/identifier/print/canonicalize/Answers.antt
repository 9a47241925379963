use Rattle.std.proofs.Common.{◌≡◌, ap, ◌∙◌, string_bytes, rules}
use Rattle.std.specs.Str.{chars}
use Rattle.unic_langid_impl.specs.Identifier.{print}
use Rattle.unic_langid_impl.proofs.PrintLemmas.{id-IsIdentifier, print-chars}
use Rattle.unic_langid_impl.proofs.identifier.print.canonicalize.Goals as goal

pub returns-in-Ok-clause-ok : goal.returns-in-Ok-clause-ok
returns-in-Ok-clause-ok c =
    let i = c.in_ok-identifier.identifier in
    let text : string_bytes c.in-Ok.text ≡ print i = search rules in (
      i,
      c.in_ok-identifier.ensures.ok,
      c.from_string.ensures ∙ ap chars text
          ∙ print-chars i (id-IsIdentifier _ i c.in_ok-identifier.ensures.ok),
    )

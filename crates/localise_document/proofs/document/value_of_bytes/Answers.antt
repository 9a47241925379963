-- What is read of a text, and what isn't.
use Rattle.std.proofs.Common.{refl, sym, ap, true≢false, ◌∙◌}
use Rattle.localise_document.specs.Document.{json_of}
use Rattle.localise_document.proofs.Json.{json_of_utf8, json_of_refused}
use Rattle.localise_document.proofs.document.value_of_bytes.Goals as goal

pub returns-in-Ok-clause-ok : goal.returns-in-Ok-clause-ok
returns-in-Ok-clause-ok c =
    ap json_of (sym c.as_slice.ensures.value)
    ∙ json_of_utf8 _ _ c.in-Ok.ensures.ok.0 c.in-Ok.ensures.ok.1

pub returns-clause-err : goal.returns-clause-err
returns-clause-err c = λ _. (
  refl,
  ap json_of (sym c.as_slice.ensures.value) ∙ json_of_refused _ (λ utf8. c.in-Err.ensures.err
      (λ memory. true≢false (sym (c.is_memory.ensures.1 memory) ∙ c.if-is_memory.false)) utf8),
)

use Rattle.std.proofs.Common.{ap, ◌∙◌}
use Rattle.tinystr.specs.Text.{unpadded}
use Rattle.writeable_core.specs.SinkLaws.{on_err}
use Rattle.unic_langid_impl.proofs.RawLemmas.{none-language, other-language}
use Rattle.unic_langid_impl.proofs.subtags.language.Language.from_raw.Goals as goal

pub returns-in_err-language-clause-err : goal.returns-in_err-language-clause-err
returns-in_err-language-clause-err c =
    on_err c.from_residual.result
    (none-language c.args.v c.without_zeros.result.now
    (c.without_zeros.ensures ∙ ap unpadded c.to_le_bytes.ensures)
    c.in_err-language.ensures.value)

pub returns-in_default-clause-err : goal.returns-in_default-clause-err
returns-in_default-clause-err c =
    other-language c.args.v c.without_zeros.result.now
    (c.without_zeros.ensures ∙ ap unpadded c.to_le_bytes.ensures)
    c.in_ok-language.language c.in_ok-language.ensures.value.1
    (λ e. let none = c.in_default.ensures in cc)

pub returns-then-number-v-clause-err : goal.returns-then-number-v-clause-err
returns-then-number-v-clause-err c =
    other-language c.args.v c.without_zeros.result.now
    (c.without_zeros.ensures ∙ ap unpadded c.to_le_bytes.ensures)
    c.in_ok-language.language c.in_ok-language.ensures.value.1
    (λ e. c.if-number-v.true (let same = c.in-Some.ensures in cc))

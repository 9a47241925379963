use Rattle.std.proofs.Common.{◌∙◌, sym}
use Rattle.gettext.proofs.Words.{is_word, is_no_token, is_numeral}
use Rattle.gettext.proofs.plurals.tokens.token_at.Goals as goal

pub returns-then-is_empty-clause-value : goal.returns-then-is_empty-clause-value
returns-then-is_empty-clause-value c =
    c.word_at.ensures.value
    ∙ is_word _ _ c.digits_of-digits.ensures.value (sym c.is_empty.ensures ∙ c.if-is_empty.true)

pub returns-in_err-number_of-clause-value : goal.returns-in_err-number_of-clause-value
returns-in_err-number_of-clause-value c =
    c.from_residual.ensures
    ∙ is_no_token _ _ c.digits_of-digits.ensures.value
    (sym c.is_empty.ensures ∙ c.if-is_empty.false) c.in_err-number_of.ensures

pub returns-clause-value : goal.returns-clause-value
returns-clause-value c =
    is_numeral _ _ c.digits_of-digits.ensures.value _ (sym c.is_empty.ensures ∙ c.if-is_empty.false)
    c.in_ok-number_of.ensures.0 c.in_ok-number_of.ensures.1

use Rattle.gettext.proofs.Words.{digits_front}
use Rattle.gettext.proofs.plurals.tokens.digits_of.Goals as goal

pub returns-clause-digits : goal.returns-clause-digits
returns-clause-digits c = rw c.digits_len.ensures.value (digits_front c.args.text.now)

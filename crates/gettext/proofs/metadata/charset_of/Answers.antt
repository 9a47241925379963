use Rattle.std.proofs.Common.{arith, refl}
use Rattle.gettext.specs.Metadata.{charset_in, charset_word}
use Rattle.gettext.proofs.MetadataWords.{after_word-none, before_word-none, word_parts}
use Rattle.gettext.proofs.metadata.charset_of.Goals as goal

pub returns-in_err-rest : goal.returns-in_err-rest
unfolding charset_in
returns-in_err-rest c =
    rw (c.from_residual.ensures, after_word-none charset_word _ c.in_err-rest.ensures.cases) refl

pub returns-in-Some : goal.returns-in-Some
unfolding charset_in
returns-in-Some c =
    let first = word_parts charset_word _ _ _ (omega arith) c.in_ok-rest.ensures.cases in
    let second = word_parts charset_word _ _ _ (omega arith) c.in-Some.ensures.cases in
    rw (first.0, second.1) refl

pub returns-in-None : goal.returns-in-None
unfolding charset_in
returns-in-None c =
    let first = word_parts charset_word _ _ _ (omega arith) c.in_ok-rest.ensures.cases in
    rw (first.0, before_word-none charset_word _ c.in-None.ensures.cases) refl

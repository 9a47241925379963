use Rattle.std.proofs.Common.{codes, sym}
use Rattle.localise_run.proofs.Words.{is_word, one_word, two_words}
use Rattle.localise_run.proofs.command.Command.of_words.Goals as goal

pub returns-in-len1 : goal.returns-in-len1
returns-in-len1 c =
    one_word c.args.words.now c.word-item.result
    (codes "render") c.in-len1.len_at_least c.in-len1.len_below c.word-item.is
    (is_word _ (codes "render") c.as_str.result.now c.eq.result c.as_str.ensures.value
    c.eq.ensures c.if-eq.true)

pub returns-in-len1-2 : goal.returns-in-len1-2
returns-in-len1-2 c =
    one_word c.args.words.now c.word-item-then-words-lt2.result
    (codes "walk") c.in-len1.len_at_least c.in-len1.len_below c.word-item-then-words-lt2.is
    (is_word _ (codes "walk") c.as_str-then-words-lt2.result.now c.eq-then-words-lt2.result
    c.as_str-then-words-lt2.ensures.value c.eq-then-words-lt2.ensures c.if-eq-2.true)

pub returns-in_ok-number_of-in-len2 : goal.returns-in_ok-number_of-in-len2
returns-in_ok-number_of-in-len2 c = (
  c.as_str-in-len2.result.now,
  c.in_ok-number_of-in-len2.ensures,
  two_words c.args.words.now c.word-item-then-words-lt3.result c.digits-item.result
      (codes "generate") c.as_str-in-len2.result.now
      c.in-len2.len_at_least c.in-len2.len_below c.word-item-then-words-lt3.is c.digits-item.is
      (is_word _ (codes "generate") c.as_str-then-words-lt3.result.now c.eq-then-words-lt3.result
      c.as_str-then-words-lt3.ensures.value c.eq-then-words-lt3.ensures c.if-eq-3.true)
      (sym c.as_str-in-len2.ensures.value),
)

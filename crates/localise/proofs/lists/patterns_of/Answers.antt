use Rattle.std.proofs.lemmas.Result.{err_from_is_err_and}
use Rattle.localise.specs.Lists.{list_texts}
use Rattle.localise.proofs.ListReading.{four_first_of, patterns_read}
use Rattle.localise.proofs.lists.patterns_of.Goals as goal

pub returns-in_err-plain-clause-err : goal.returns-in_err-plain-clause-err
returns-in_err-plain-clause-err c =
    let p = err_from_is_err_and c.from_residual.result c.from_residual.ensures.1 in
    rw (p.1, p.2)
    (four_first_of (list_texts c.args.texts.now) _ _ _ _ _ c.as_str.ensures c.as_str-2.ensures
    c.as_str-3.ensures c.as_str-4.ensures c.in_err-plain.ensures.err)

pub returns-clause-ok : goal.returns-clause-ok
returns-clause-ok c =
    patterns_read (list_texts c.args.texts.now) _ _ _ _ c.in_ok-plain.plain c.in_ok-ended.ended
    c.with_pair.result
    c.as_str.ensures c.as_str-2.ensures c.as_str-3.ensures c.as_str-4.ensures
    c.in_ok-plain.ensures.ok
    c.in_ok-ended.ensures.ok c.in_ok-ended.ensures.faultless c.with_pair.ensures.ok
    c.with_pair.ensures.faultless

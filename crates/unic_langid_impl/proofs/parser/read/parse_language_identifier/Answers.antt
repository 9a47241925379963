use Rattle.unic_langid_impl.proofs.ReadingLemmas.{reads-ok, refuses-err}
use Rattle.unic_langid_impl.proofs.parser.read.parse_language_identifier.Goals as goal

pub returns-clause-ok : goal.returns-clause-ok
returns-clause-ok c =
    reads-ok c.args.t.now c.new.result c.parse_language_identifier_from_iter.new.iter c.new.ensures
    c.parse_language_identifier_from_iter.result c.parse_language_identifier_from_iter.ensures.ok
    c.parse_language_identifier_from_iter.ensures.whole

pub returns-clause-err : goal.returns-clause-err
returns-clause-err c =
    refuses-err c.args.t.now c.new.result
    c.parse_language_identifier_from_iter.new.iter c.new.ensures
    c.parse_language_identifier_from_iter.result c.parse_language_identifier_from_iter.ensures.err

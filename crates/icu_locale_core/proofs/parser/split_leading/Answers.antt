use Rattle.std.proofs.Common.{None, lit<}
use Rattle.std.proofs.lemmas.Str.Pattern.{strip_prefix_char}
use Rattle.icu_locale_core.specs.ReadingLaws.{no_leading, all_behind}
use Rattle.icu_locale_core.proofs.parser.split_leading.Goals as goal

pub returns-in-None-clause-first : goal.returns-in-None-clause-first
returns-in-None-clause-first c =
    no_leading c.args.rest.now
    (strip_prefix_char 45 c.args.rest.now None c.in-None.ensures.cases (lit< tt))

pub returns-in-None-clause-rest : goal.returns-in-None-clause-rest
returns-in-None-clause-rest c =
    all_behind c.args.rest.now
    (strip_prefix_char 45 c.args.rest.now None c.in-None.ensures.cases (lit< tt))

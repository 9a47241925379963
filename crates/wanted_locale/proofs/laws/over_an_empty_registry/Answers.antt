use Rattle.wanted_locale.proofs.PrintedLocale.{PrintedIsWanted-holds}
use Rattle.wanted_locale.proofs.TwoExtlangs.{CanonicalByExtlangs-holds}
use Rattle.wanted_locale.proofs.laws.over_an_empty_registry.Goals as goal

pub returns-clause-printed : goal.returns-clause-printed
returns-clause-printed c = PrintedIsWanted-holds

pub returns-clause-canonical : goal.returns-clause-canonical
returns-clause-canonical c = CanonicalByExtlangs-holds c.texts_and_tags.ensures.again

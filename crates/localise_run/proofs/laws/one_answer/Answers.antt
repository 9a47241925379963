use Rattle.localise_run.proofs.OneAnswer.{says_one}
use Rattle.localise_run.proofs.OneTables.{fallback_one, fault_one, registry_alike, tables_no_fault}
use Rattle.localise_run.proofs.laws.one_answer.Goals as goal

pub returns : goal.returns
returns c command bytes = says_one (record {
  laws = record {
    one_wanted = c.texts_and_locales.ensures.one;
    one_cause = c.texts_and_locales.ensures.one_cause;
    never_both = c.texts_and_locales.ensures.never_both;
    wanted_along = c.wanted_goes_by_answers.ensures.locale;
    cause_along = c.wanted_goes_by_answers.ensures.cause;
    one_outcome = c.walk_has_one_outcome.ensures.one;
    one_end = c.walk_has_one_end.ensures.one;
    never_repeats = c.walk_has_one_end.ensures.never;
  };
  alike = λ d T U h g. record {
    registry = registry_alike c.rows_make_one_registry.ensures.one d T U h g;
    fallbacker = fallback_one c.rows_make_one_fallbacker.ensures.one d T U h g;
  };
  one_table_fault =
      fault_one c.rows_have_one_fault.ensures.one c.rows_have_one_fault.ensures.none
      c.rows_have_one_fault-2.ensures.one;
  tables_no_fault =
      tables_no_fault c.rows_make_one_registry.ensures.sound c.rows_have_one_fault.ensures.none
      c.rows_make_one_fallbacker.ensures.sound c.rows_have_one_fault-2.ensures.none;
  one_meaning = c.bundles_have_one_meaning.ensures.one;
  one_refusal = c.bundles_have_one_meaning.ensures.one_refusal;
  never_both = c.bundles_have_one_meaning.ensures.never_both;
  accepted_along = c.bundles_go_by_answers.ensures.accepted;
  refused_along = c.bundles_go_by_answers.ensures.refused;
}) command bytes

use Rattle.icu_locale_fallback.proofs.RowLaws.{same_tables, sound_rows}
use Rattle.icu_locale_fallback.proofs.laws.rows_make_one_fallbacker.Goals as goal

pub returns-clause-one : goal.returns-clause-one
returns-clause-one c = same_tables

pub returns-clause-sound : goal.returns-clause-sound
returns-clause-sound c = sound_rows

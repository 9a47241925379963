use Rattle.language_tags_registry.proofs.RowLaws.{same_answers, sound_rows}
use Rattle.language_tags_registry.proofs.laws.rows_make_one_registry.Goals as goal

pub returns-clause-one : goal.returns-clause-one
returns-clause-one c = same_answers

pub returns-clause-sound : goal.returns-clause-sound
returns-clause-sound c = sound_rows

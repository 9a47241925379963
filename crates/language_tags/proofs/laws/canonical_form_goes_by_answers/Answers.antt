use Rattle.language_tags.proofs.Answering.{goes_by_answers}
use Rattle.language_tags.proofs.laws.canonical_form_goes_by_answers.Goals as goal

pub returns : goal.returns
returns c = goes_by_answers

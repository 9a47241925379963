-- What a localiser's constructor refuses is the status.
use Rattle.localise_run.proofs.prepare.localiser_of.Goals as goal

pub returns-in-Err-clause-err : goal.returns-in-Err-clause-err
returns-in-Err-clause-err c = record {
  refusal = c.in-Err.error;
  is = c.in-Err.ensures.err;
  status_is = c.of_refusal.ensures;
}

-- What the tag's bytes ask for, the request asks for.
use Rattle.localise_run.proofs.TagBytes.{has_cause, wants}
use Rattle.localise_run.proofs.generate.locale_at.Goals as goal

pub returns-in-Ok-push-clause-ok : goal.returns-in-Ok-push-clause-ok
returns-in-Ok-push-clause-ok c =
    wants c.args.tables.now c.args.request.now c.as_str.result.now c.as_str.utf8 c.as_str.ensures
    c.in-Ok.locale c.in-Ok.ensures.ok

pub returns-in-Err-clause-err : goal.returns-in-Err-clause-err
returns-in-Err-clause-err c =
    has_cause c.args.tables.now c.args.request.now c.as_str.result.now c.as_str.utf8
    c.as_str.ensures c.in-Err.cause c.in-Err.ensures.err

use Rattle.std.proofs.Common.{sym, subst}
use Rattle.localise_run.specs.Tables.{IsTableStatus}
use Rattle.localise_run.proofs.TableStatuses.{fallback_status, registry_status}
use Rattle.localise_run.proofs.prepare.tables_of.Goals as goal

pub returns-in-Err-clause-err : goal.returns-in-Err-clause-err
returns-in-Err-clause-err c = λ d are also.
    subst (IsTableStatus d) (sym c.of_registry.ensures)
    (registry_status d c.args.registry.now are c.in-Err.error c.in-Err.ensures.err)

pub returns-in-Err-try_new-clause-err : goal.returns-in-Err-try_new-clause-err
returns-in-Err-try_new-clause-err c = λ d are also.
    subst (IsTableStatus d) (sym c.of_fallback.ensures)
    (fallback_status d c.args.registry.now are
    (c.rows_make_one_registry.ensures.sound c.args.registry.now c.in-Ok.registry c.in-Ok.ensures.ok)
    c.args.fallback.now also c.in-Err-try_new.error c.in-Err-try_new.ensures.err)

pub returns-in-Ok-try_new-clause-ok : goal.returns-in-Ok-try_new-clause-ok
returns-in-Ok-try_new-clause-ok c = λ d are also.
    record {
      registry_rows = c.args.registry.now;
      registry_lists_are = are;
      registry_is = c.in-Ok.ensures.ok;
      fallback_rows = c.args.fallback.now;
      fallback_lists_are = also;
      fallback_is = c.in-Ok-try_new.ensures.ok;
    }

use Rattle.std.proofs.Common.{◌≢◌, ◌∙◌}
use Rattle.icu_list.specs.ListFault.{list_fault}
use Rattle.icu_list.specs.declared.error.DataError.TheVariants.{NoMemory}
use Rattle.localise.specs.Bundles.{in_root}
use Rattle.localise.specs.Lists.{list_texts}
use Rattle.localise.specs.Read.{meanings_of}
use Rattle.localise.proofs.BundleReading.{fault_some}
use Rattle.localise.proofs.Keeping.{alike, keep-length, mean-length}
use Rattle.localise.proofs.localiser.Localiser.try_new.Goals as goal

pub returns-in-Ok-clause-ok : goal.returns-in-Ok-clause-ok
returns-in-Ok-clause-ok c =
    let are = c.in_ok-bundles.ensures.ok in
    record {
      bundles = are.bundles;
      accepted = record { bundles = are.are; root_patterns = c.in-Ok.ensures.ok };
      alike = alike (meanings_of c.in_ok-bundles.bundles.list.items) are.bundles are.keep;
    }

pub returns-in-Ok-clause-count : goal.returns-in-Ok-clause-count
returns-in-Ok-clause-count c =
    let are = c.in_ok-bundles.ensures.ok in
    keep-length (meanings_of c.in_ok-bundles.bundles.list.items) are.bundles are.keep
    ∙ mean-length c.args.tables.now c.args.bundles.now are.bundles are.are.mean

pub returns-in-Err-clause-err : goal.returns-in-Err-clause-err
returns-in-Err-clause-err c = λ not_memory.
    let are = c.in_ok-bundles.ensures.ok in
    let ne : c.in-Err.error ≢ NoMemory = λ is. not_memory (c.in_root.ensures.memory is) in
    in_root are.are
    (fault_some (list_fault (list_texts c.args.root.now)) c.in-Err.error c.in-Err.ensures.err
    ne) (c.in_root.ensures.own ne)

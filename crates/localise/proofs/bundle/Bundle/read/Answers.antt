use Rattle.gettext.specs.Options.{plain_options}
use Rattle.gettext.specs.Table.{messages_of}
use Rattle.localise.specs.Read.{meaning_of}
use Rattle.localise.proofs.BundleReading.{bundle_read, bytes_of_text, fault_in_catalog}
use Rattle.localise.proofs.BundleReading.{fault_in_list, fault_in_tag}
use Rattle.localise.proofs.bundle.Bundle.read.Goals as goal

pub returns-in-Err-clause-err : goal.returns-in-Err-clause-err
returns-in-Err-clause-err c =
    fault_in_tag c.args.tables.now c.args.number c.args.text.now c.as_str.result.now c.in-Err.cause
    c.in_tag.result
    (bytes_of_text c.as_str.result.now c.args.text.now.tag c.as_str.utf8 c.as_str.ensures)
    c.in-Err.ensures.err c.in_tag.ensures.memory c.in_tag.ensures.own

pub returns-in-Err-parse_bytes-clause-err : goal.returns-in-Err-parse_bytes-clause-err
returns-in-Err-parse_bytes-clause-err c =
    fault_in_catalog c.args.tables.now c.args.number c.args.text.now c.as_str.result.now
    c.as_slice.result.now c.in-Ok.locale
    c.in-Err-parse_bytes.error c.in_catalog.result
    (bytes_of_text c.as_str.result.now c.args.text.now.tag c.as_str.utf8 c.as_str.ensures)
    c.as_slice.ensures
    c.in-Ok.ensures.ok c.in-Err-parse_bytes.ensures.exact c.in_catalog.ensures.memory
    c.in_catalog.ensures.own

pub returns-in-Err-patterns_of-clause-err : goal.returns-in-Err-patterns_of-clause-err
returns-in-Err-patterns_of-clause-err c =
    fault_in_list c.args.tables.now c.args.number c.args.text.now c.as_str.result.now
    c.as_slice.result.now c.in-Ok.locale
    c.in-Err-patterns_of.error c.in_list.result
    (bytes_of_text c.as_str.result.now c.args.text.now.tag c.as_str.utf8 c.as_str.ensures)
    c.as_slice.ensures
    c.in-Ok.ensures.ok c.in-Ok-parse_bytes.ensures.exact c.in-Err-patterns_of.ensures.err
    c.in_list.ensures.memory c.in_list.ensures.own

pub returns-clause-ok : goal.returns-clause-ok
returns-clause-ok c =
    let means = c.in-Ok-parse_bytes.ensures.ok in
    bundle_read c.args.tables.now c.args.text.now c.as_str.result.now c.as_slice.result.now
    (meaning_of
    (record {
      locale = c.in-Ok.locale;
      catalog = c.in-Ok-parse_bytes.catalog;
      patterns = c.in-Ok-patterns_of.patterns;
    }))
    means.0 means.2
    (c.one_meaning.ensures.alike c.as_slice.result.now plain_options means.0
    (messages_of c.in-Ok-parse_bytes.catalog.entries) means.1 means.2)
    (bytes_of_text c.as_str.result.now c.args.text.now.tag c.as_str.utf8 c.as_str.ensures)
    c.as_slice.ensures
    c.in-Ok.ensures.ok means.1 c.in-Ok-patterns_of.ensures.ok

-- A text is found behind a front of the bytes, or the bytes don't begin with both.
use Rattle.std.proofs.Common.{true, false}
use Rattle.writeable_cmp.proofs.Sharing.{found_more, not_found, tested}
use Rattle.writeable_cmp.proofs.borrow.goes_on.Goals as goal

pub returns-clause-found : goal.returns-clause-found
returns-clause-found c = λ found.
    found_more c.args.bytes.now c.args.text.now c.args.count
    (tested c.args.bytes.now c.as_bytes.result.now c.args.text.now c.args.count c.starts_with.result
    true c.starts_with.ensures.value c.as_bytes.ensures.value found)

pub returns-clause-missing : goal.returns-clause-missing
returns-clause-missing c = λ missing.
    not_found c.args.bytes.now c.args.text.now c.args.count c.requires
    (tested c.args.bytes.now c.as_bytes.result.now c.args.text.now c.args.count c.starts_with.result
    false c.starts_with.ensures.value c.as_bytes.ensures.value missing)

use Rattle.std.proofs.Common.{◌∙◌}
use Rattle.wanted_locale.specs.Wanted.{no_identifier}
use Rattle.wanted_locale.proofs.tag.identifier.Goals as goal

pub returns-clause-err : goal.returns-clause-err
returns-clause-err c = λ some.
    let p = c.of_identifier.ensures some in
    no_identifier
    (record {
      canonical = c.in_ok-canonical.canonical;
      has = c.in_ok-canonical.ensures.ok;
      front_is = c.as_bytes.ensures.value ∙ c.without_extensions.ensures.value;
    })
    p.0 c.in-Err.ensures.err p.1

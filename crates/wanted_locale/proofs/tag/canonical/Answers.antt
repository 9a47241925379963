use Rattle.std.proofs.Common.{ap, ◌∙◌}
use Rattle.wanted_locale.specs.Wanted.{no_canon, no_tag}
use Rattle.wanted_locale.specs.declared.error.TagCause.TheVariants.{Canonical}
use Rattle.wanted_locale.proofs.tag.canonical.Goals as goal

pub returns-in-Err-clause-err : goal.returns-in-Err-clause-err
returns-in-Err-clause-err c = λ some.
    let p = c.of_parse.ensures some in
    no_tag p.0 (c.in-Err.ensures.err p.0) p.1

pub returns-clause-err : goal.returns-clause-err
returns-clause-err c = λ some.
    let p = c.of_canonical.ensures some in
    let q = c.in-Err-canonicalize.ensures.err p.0 in
    no_canon (record { tag = c.in-Ok.tag; parsed = c.in-Ok.ensures.ok; canon = q.1 })
    (p.1 ∙ ap Canonical q.0)

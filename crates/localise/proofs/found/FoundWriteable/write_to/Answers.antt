use Rattle.std.proofs.Common.{List, ℕ, ap, ◌∙◌, subst}
use Rattle.std.specs.Prelude.{OnErr, OnOk}
use Rattle.std.specs.Str.{chars}
use Rattle.localise.specs.Given.{text_given}
use Rattle.localise.proofs.GivenText.{text_as_given}
use Rattle.writeable_core.specs.Sink.{TookPrefix}
use Rattle.localise.proofs.found.FoundWriteable.write_to.Goals as goal

pub returns-clause-ok : goal.returns-clause-ok
returns-clause-ok g c =
    let f = c.self.inside in
    subst
    (λ (t : List ℕ). OnOk c.write_to.result
    (g.S.Sink.took c.args.sink.now t c.write_to.new.sink))
    (text_as_given (chars f.words.now)
    (chars f.placeholder.now) c.format.result.patterns.now f.patterns.now
    c.format.result.values.now f.items.now
    (c.format.ensures.patterns ∙ c.from_patterns-formatter.ensures) c.format.ensures.values
    ∙ ap text_given c.self.view_is) c.write_to.ensures.ok

pub returns-clause-err : goal.returns-clause-err
returns-clause-err g c =
    let f = c.self.inside in
    subst
    (λ (t : List ℕ). OnErr c.write_to.result
    (TookPrefix g.S.Sink.took c.args.sink.now t c.write_to.new.sink))
    (text_as_given (chars f.words.now)
    (chars f.placeholder.now) c.format.result.patterns.now f.patterns.now
    c.format.result.values.now f.items.now
    (c.format.ensures.patterns ∙ c.from_patterns-formatter.ensures) c.format.ensures.values
    ∙ ap text_given c.self.view_is) c.write_to.ensures.err

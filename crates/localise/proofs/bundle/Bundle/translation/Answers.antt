use Rattle.std.proofs.Common.{ap, ◌∙◌, Some, None}
use Rattle.std.specs.Str.{chars}
use Rattle.gettext.specs.Table.{messages_of}
use Rattle.localise.specs.Chosen.{numbered}
use Rattle.localise.specs.Read.{meaning_of}
use Rattle.localise.proofs.Asking.{form_asked, itself}
use Rattle.localise.proofs.bundle.Bundle.translation.Goals as goal

pub returns-in_err-form : goal.returns-in_err-form
returns-in_err-form c =
    let m = messages_of c.args.self.now.catalog.entries in
    let found = c.in_err-form.ensures.found m (itself m) in
    c.from_residual.ensures
    ∙ ap (numbered c.args.number (meaning_of c.args.self.now))
    (form_asked m c.context_text-context.result c.as_str-singular.result.now c.args.request.now
    found.0 None found.1 found.2
    c.context_text-context.ensures c.as_str-singular.ensures)

pub returns : goal.returns
returns c =
    let m = messages_of c.args.self.now.catalog.entries in
    let found = c.in_ok-form.ensures.found m (itself m) in
    ap (numbered c.args.number (meaning_of c.args.self.now))
    (form_asked m c.context_text-context.result c.as_str-singular.result.now
    c.args.request.now found.0
    (Some (c.in_ok-form.form.number, chars c.in_ok-form.form.text.now)) found.1 found.2
    c.context_text-context.ensures c.as_str-singular.ensures)

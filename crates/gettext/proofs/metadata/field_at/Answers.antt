use Rattle.std.proofs.Common.{sym, ◌==◌, Some, None}
use Rattle.std.proofs.lemmas.Str.Pattern.{split_once_first}
use Rattle.gettext.proofs.MetadataCuts.{field_of-none, field_of-some}
use Rattle.gettext.proofs.metadata.field_at.Goals as goal

pub returns-in_err-name : goal.returns-in_err-name
returns-in_err-name c =
    rw c.from_residual.ensures
    (sym (field_of-none (λ b. b == c.args.sign)
    _ (split_once_first _ _ None c.in_err-name.ensures.cases c.requires)))

pub returns : goal.returns
returns c =
    let at = split_once_first c.args.sign c.args.text.now
    (Some (c.in_ok-name.name, c.in_ok-name.value)) c.in_ok-name.ensures.cases c.requires in
    sym (field_of-some (λ b. b == c.args.sign) c.args.text.now c.in_ok-name.name.now
    c.in_ok-name.value.now c.trim.result.now c.trim-2.result.now at.0 at.1 at.2 c.trim.ensures.trim
    c.trim-2.ensures.trim)

use Rattle.std.proofs.Common.{Some, ap, ◌∙◌}
use Rattle.std.specs.Option.{option_eq}
use Rattle.unic_langid_impl.specs.Likely.{triple_eq}
use Rattle.unic_langid_impl.proofs.likelysubtags.forms.maximises_to.Goals as goal

pub returns : goal.returns
returns c = c.eq.ensures ∙ ap (λ o. option_eq triple_eq o (Some c.args.form.now)) c.maximize.ensures

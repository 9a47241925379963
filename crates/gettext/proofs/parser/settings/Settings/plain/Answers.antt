use Rattle.std.proofs.Common.{refl}
use Rattle.gettext.proofs.MetadataSettings.{no_metadata}
use Rattle.gettext.proofs.parser.settings.Settings.plain.Goals as goal
use Rattle.gettext.proofs.parser.settings.Settings.plain.Goals.{then-options, else-options}

pub returns : goal.returns
returns c = no_metadata c.args.options _ c.first_encoding.ensures
    (elim c.if-options.branch [
      | then-options w ↦ rw (w.rule-is, w.if-options.true) refl
      | else-options w ↦ rw (w.rule-is, w.if-options.false) refl
    ]) refl

use Rattle.std.proofs.Common.{◌∙◌}
use Rattle.gettext.specs.Table.{messages_of}
use Rattle.gettext.proofs.Lookups.{numbered-stands}
use Rattle.gettext.proofs.catalog.Catalog.form_text.Goals as goal

pub returns : goal.returns
returns g c =
    record {
      text = λ m s. c.form.ensures
          ∙ numbered-stands (messages_of c.args.self.now.entries) m _ c.args.number s;
    }

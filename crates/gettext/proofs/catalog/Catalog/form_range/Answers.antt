use Rattle.gettext.specs.Table.{messages_of}
use Rattle.gettext.proofs.Lookups.{range-stands}
use Rattle.gettext.proofs.catalog.Catalog.form_range.Goals as goal

pub returns : goal.returns
returns g c =
    record {
      range = λ m s.
          range-stands (messages_of c.args.self.now.entries) m c.args.self.now.entries.buffer
          _ c.args.number c.form_range.result s c.form_range.ensures;
    }

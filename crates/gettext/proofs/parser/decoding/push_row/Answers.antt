use Rattle.std.proofs.Common.{refl, ◌∙◌}
use Rattle.gettext.proofs.DecodedRows.{row_pushed}
use Rattle.gettext.proofs.parser.decoding.push_row.Goals as goal

pub returns : goal.returns
returns c =
    row_pushed _ _ _ _ _ _ _ (rw (← c.bytes_of.ensures) c.in_ok-push_decoded.ensures)
    (rw (← c.bytes_of-2.ensures) c.in_ok-push_decoded-2.ensures)
    (c.len-start.ensures ∙ c.args.texts.now.ok.0)
    (c.len-middle.ensures ∙ c.push_decoded.new.texts.ok.0) refl
    (c.len.ensures ∙ c.push_decoded-2.new.texts.ok.0)

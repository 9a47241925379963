use Rattle.std.proofs.Common.{sym, ◌∙◌}
use Rattle.gettext.proofs.Bounds.{within, not_within}
use Rattle.gettext.proofs.catalog.table.Table.form_within.Goals as goal

pub returns-then-is_within : goal.returns-then-is_within
returns-then-is_within c = λ m s. c.form.ensures
    ∙ within c.self.inside.buffer.items c.self.inside.rows.items c.self.inside.rule
    c.self.inside.plurals c.args.self.now m _ c.args.number c.self.view_is c.self.invariant s
    (sym c.is_within.ensures ∙ c.if-is_within.true)

pub returns-else-is_within : goal.returns-else-is_within
returns-else-is_within c = λ m s. not_within c.self.inside.buffer.items c.self.inside.rows.items
    c.self.inside.rule c.self.inside.plurals c.args.self.now m _ c.args.number c.self.view_is
    c.self.invariant s (sym c.is_within.ensures ∙ c.if-is_within.false)

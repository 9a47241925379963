use Rattle.language_tags_registry.proofs.Entries.{fresh_key, updated_values}
use Rattle.language_tags_registry.proofs.table.Table.insert.Goals as goal

pub returns-clause-fresh : goal.returns-clause-fresh
returns-clause-fresh c =
    rw (← c.self.view_is)
    (fresh_key c.self.inside.entries c.insert.new.self c.in_ok-key.key c.args.key.now
    c.in_ok-key.ensures.ok c.in_ok-old.old _
    c.in_ok-old.ensures.old c.is_none.ensures)

pub returns-clause-value : goal.returns-clause-value
returns-clause-value c =
    rw (← c.self.view_is)
    (updated_values c.self.inside.entries c.insert.new.self c.in_ok-key.key c.args.key.now
    c.in_ok-key.ensures.ok
    c.in_ok-value.value c.args.value.now c.in_ok-value.ensures.ok c.in_ok-old.ensures.updates)

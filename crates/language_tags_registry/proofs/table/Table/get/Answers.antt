use Rattle.std.proofs.Common.{sym, ap, ◌∙◌, string_bytes, Some}
use Rattle.std.specs.Option.{option_map}
use Rattle.language_tags_registry.proofs.Entries.{value_of-strings}
use Rattle.language_tags_registry.proofs.table.Table.get.Goals as goal

pub returns-in-Some : goal.returns-in-Some
returns-in-Some c =
    rw (← c.self.view_is)
    (ap Some c.as_str.ensures.value ∙ ap (option_map string_bytes) c.in-Some.ensures.value
    ∙ sym (value_of-strings c.self.inside.entries.entries c.args.key.now))

pub returns-in-None : goal.returns-in-None
returns-in-None c =
    rw (← c.self.view_is)
    (ap (option_map string_bytes) c.in-None.ensures.value
    ∙ sym (value_of-strings c.self.inside.entries.entries c.args.key.now))

use Rattle.std.proofs.Common.{string_bytes, ◌∙◌}
use Rattle.std.specs.Option.{option_copied}
use Rattle.language_tags_grammar.specs.Tag.{extensions_of}
use Rattle.language_tags.proofs.ExtensionLaws.{extensions-text-is, extensions-text-kept}
use Rattle.language_tags.proofs.ExtensionLaws.{tag-extensions}
use Rattle.language_tags.proofs.tag.LanguageTag.extension_subtags.Goals as goal

pub new-requires : goal.new-requires
new-requires c =
    extensions-text-kept (extensions_of c.args.self.now) (option_copied c.extension.result)
    (tag-extensions c.self.inside.ends
    (string_bytes c.self.inside.text) c.args.self.now c.self.invariant c.self.view_is)
    c.extension.ensures.value

pub returns : goal.returns
returns c =
    c.new.ensures
    ∙ extensions-text-is (extensions_of c.args.self.now) (option_copied c.extension.result)
    (tag-extensions c.self.inside.ends
    (string_bytes c.self.inside.text) c.args.self.now c.self.invariant c.self.view_is)
    c.extension.ensures.value

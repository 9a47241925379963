use Rattle.std.proofs.Common.{◌≡◌, Some, ap, sym, ◌∙◌}
use Rattle.language_tags.specs.declared.error.ValidationError.TheVariants.{NoMemory}
use Rattle.language_tags.proofs.ValidLaws.{rules_speak}
use Rattle.language_tags.proofs.tag.LanguageTag.validate.Goals as goal

pub returns-in-Some-clause-memory : goal.returns-in-Some-clause-memory
returns-in-Some-clause-memory c =
    λ e. let same : c.in-Some.fault ≡ NoMemory = cc in
    rules_speak c.args.registry.now c.args.self.now (sym c.in-Some.ensures ∙ ap Some same)

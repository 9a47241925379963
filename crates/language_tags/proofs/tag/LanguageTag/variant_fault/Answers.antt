use Rattle.std.proofs.Common.{ap, ◌∙◌}
use Rattle.std.specs.List.{flat_map}
use Rattle.writeable_core.specs.FirstFailure.{first_failure}
use Rattle.language_tags_grammar.specs.Tag.{print}
use Rattle.language_tags.specs.Valid.{variant_rules}
use Rattle.language_tags.proofs.ValidLaws.{none_breaks, one_breaks, one_keeps}
use Rattle.language_tags.proofs.tag.LanguageTag.variant_fault.Goals as goal

pub loop-variant-init : goal.loop-variant-init
loop-variant-init c =
    ap
    (λ xs. first_failure
    (flat_map (variant_rules c.args.registry.now (print c.args.self.now)) xs))
    (c.into_iter-variant-iterator.ensures.into_iter_gives ∙ c.variant_subtags-variant-items.ensures)

pub returns-in-Some-fault_of_variant : goal.returns-in-Some-fault_of_variant
returns-in-Some-fault_of_variant c =
    one_breaks (variant_rules c.args.registry.now (print c.args.self.now))
    c.loop-variant.variant-iterator c.next.new.self c.in-Some.variant.now
    c.in-Some.ensures.steps
    c.in-Some-fault_of_variant.fault
    (c.in-Some-fault_of_variant.ensures
    ∙ ap (λ t. first_failure (variant_rules c.args.registry.now t c.in-Some.variant.now))
    c.as_str-text.ensures.value)
    ∙ c.loop-variant.invariant

pub loop-variant-preserved : goal.loop-variant-preserved
loop-variant-preserved c =
    one_keeps (variant_rules c.args.registry.now (print c.args.self.now))
    c.loop-variant.variant-iterator c.next.new.self c.in-Some.variant.now
    c.in-Some.ensures.steps
    (c.in_default.ensures
    ∙ ap (λ t. first_failure (variant_rules c.args.registry.now t c.in-Some.variant.now))
    c.as_str-text.ensures.value)
    ∙ c.loop-variant.invariant

pub returns : goal.returns
returns c =
    none_breaks (variant_rules c.args.registry.now (print c.args.self.now))
    c.loop-variant.variant-iterator c.in-None.ensures.steps.0 ∙ c.loop-variant.invariant

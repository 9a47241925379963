use Rattle.std.proofs.Common.{ap, ◌∙◌}
use Rattle.std.specs.List.{flat_map}
use Rattle.writeable_core.specs.FirstFailure.{first_failure}
use Rattle.language_tags_grammar.specs.Tag.{print}
use Rattle.language_tags.specs.Valid.{extlang_rules}
use Rattle.language_tags.proofs.ValidLaws.{none_breaks, one_breaks, one_keeps}
use Rattle.language_tags.proofs.tag.LanguageTag.extlang_fault.Goals as goal

pub loop-extlang-init : goal.loop-extlang-init
loop-extlang-init c =
    ap
    (λ xs. first_failure
    (flat_map (extlang_rules c.args.registry.now (print c.args.self.now)) xs))
    (c.into_iter-extlang-iterator.ensures.into_iter_gives
    ∙ c.extended_language_subtags-extlang-items.ensures)

pub returns-in-Some-fault_of_extlang : goal.returns-in-Some-fault_of_extlang
returns-in-Some-fault_of_extlang c =
    one_breaks (extlang_rules c.args.registry.now (print c.args.self.now))
    c.loop-extlang.extlang-iterator c.next.new.self c.in-Some.extlang.now
    c.in-Some.ensures.steps
    c.in-Some-fault_of_extlang.fault
    (c.in-Some-fault_of_extlang.ensures
    ∙ ap (λ t. first_failure (extlang_rules c.args.registry.now t c.in-Some.extlang.now))
    c.as_str-text.ensures.value)
    ∙ c.loop-extlang.invariant

pub loop-extlang-preserved : goal.loop-extlang-preserved
loop-extlang-preserved c =
    one_keeps (extlang_rules c.args.registry.now (print c.args.self.now))
    c.loop-extlang.extlang-iterator c.next.new.self c.in-Some.extlang.now
    c.in-Some.ensures.steps
    (c.in_default.ensures
    ∙ ap (λ t. first_failure (extlang_rules c.args.registry.now t c.in-Some.extlang.now))
    c.as_str-text.ensures.value)
    ∙ c.loop-extlang.invariant

pub returns : goal.returns
returns c =
    none_breaks (extlang_rules c.args.registry.now (print c.args.self.now))
    c.loop-extlang.extlang-iterator c.in-None.ensures.steps.0 ∙ c.loop-extlang.invariant

use Rattle.std.proofs.Common.{ap, ◌∙◌}
use Rattle.unic_langid_impl.specs.Subtags.{language_text}
use Rattle.unic_langid_impl.proofs.PrintLemmas.{begins, begins-not, goes_on}
use Rattle.unic_langid_impl.proofs.identifier.LanguageIdentifier.eq_str.Goals as goal

pub returns-in_default : goal.returns-in_default
returns-in_default c =
    begins-not c.args.self.now c.args.other.now c.as_bytes-language.result.now
    (c.as_bytes-language.ensures.value ∙ c.as_str.ensures.value
    ∙ ap (λ i. language_text i.language) c.self.view_is)
    (rw c.as_bytes.ensures.value at c.in_default.ensures)

pub loop-subtag-init : goal.loop-subtag-init
loop-subtag-init c =
    begins c.args.self.now c.args.other.now c.as_bytes-language.result.now
    (c.as_bytes-language.ensures.value ∙ c.as_str.ensures.value
    ∙ ap (λ i. language_text i.language) c.self.view_is)
    c.in-Some.rest.now c.of-subtags.result
    (rw c.as_bytes.ensures.value at c.in-Some.ensures) c.of-subtags.ensures

pub loop-subtag-preserved : goal.loop-subtag-preserved
loop-subtag-preserved c =
    goes_on _ c.loop-subtag.rest.now c.in-Some-next.subtag.now c.loop-subtag.subtags
    c.loop-subtag.invariant
    c.next.new.self c.in-Some-behind_subtag.behind.now c.in-Some-next.ensures.first
    c.next.ensures.left
    (rw c.as_bytes-in-Some-next.ensures.value at c.in-Some-behind_subtag.ensures)

use Rattle.std.proofs.Common.{Some, ap, ◌∙◌}
use Rattle.std.proofs.lemmas.Result.{IfOk-weaker}
use Rattle.language_tags_grammar.specs.Tag.{print}
use Rattle.language_tags_registry.specs.Registry.{value_of}
use Rattle.language_tags.specs.Canon.{Stays}
use Rattle.language_tags.proofs.CanonLaws.{goes_on, goes_text}
use Rattle.language_tags.proofs.tag.LanguageTag.grandfathered_form.Goals as goal

pub returns-in-Some : goal.returns-in-Some
returns-in-Some c = record {
  ok =
      IfOk-weaker c.tag_of.result _ _
      (λ tag h. goes_text
      (value_of c.args.registry.now.grandfathereds_preferred (print c.args.self.now))
      c.in-Some.text.now (Stays c.args.self.now) tag
      (c.in-Some.ensures.value
      ∙ ap (value_of c.args.registry.now.grandfathereds_preferred) c.as_str.ensures.value)
      h) c.tag_of.ensures.ok;
  err = c.tag_of.ensures.err;
}

pub returns-in-None : goal.returns-in-None
returns-in-None c = record {
  ok =
      IfOk-weaker c.same.result _ _
      (λ tag h.
      goes_on (value_of c.args.registry.now.grandfathereds_preferred (print c.args.self.now))
      (Stays c.args.self.now) (Some tag)
      (c.in-None.ensures.value
      ∙ ap (value_of c.args.registry.now.grandfathereds_preferred) c.as_str.ensures.value)
      (ap Some h)) c.same.ensures.ok;
  err = c.same.ensures.err;
}

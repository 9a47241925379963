use Rattle.std.proofs.Common.{Some, None, ap, ◌∙◌}
use Rattle.std.proofs.lemmas.Result.{IfOk-weaker, MatchResult-weaker}
use Rattle.language_tags_grammar.specs.Tag.{print}
use Rattle.language_tags_registry.specs.Registry.{value_of}
use Rattle.language_tags.specs.Canon.{Rewrites}
use Rattle.language_tags.proofs.CanonLaws.{goes_on, goes_text}
use Rattle.language_tags.proofs.tag.LanguageTag.other_form.Goals as goal

pub returns-in-Some : goal.returns-in-Some
returns-in-Some c = record {
  ok =
      IfOk-weaker c.tag_of.result _ _
      (λ tag h. goes_text
      (value_of c.args.registry.now.redundants_preferred (print c.args.self.now))
      c.in-Some.text.now (Rewrites c.args.registry.now c.args.self.now) tag
      (c.in-Some.ensures.value
      ∙ ap (value_of c.args.registry.now.redundants_preferred) c.as_str.ensures.value) h)
      c.tag_of.ensures.ok;
  err =
      MatchResult-weaker c.tag_of.result c.tag_of.ensures.err (λ tag h. h)
      (λ fault h other. absurd (other h));
}

pub returns-in-None : goal.returns-in-None
returns-in-None c = record {
  ok =
      IfOk-weaker c.rewritten.result _ _
      (λ tag h. goes_on (value_of c.args.registry.now.redundants_preferred (print c.args.self.now))
      (Rewrites c.args.registry.now c.args.self.now) (Some tag)
      (c.in-None.ensures.value
      ∙ ap (value_of c.args.registry.now.redundants_preferred) c.as_str.ensures.value) h)
      c.rewritten.ensures.ok;
  err = MatchResult-weaker c.rewritten.result c.rewritten.ensures.err (λ tag h. h)
      (λ fault h other. (
        (h other).0,
        goes_on (value_of c.args.registry.now.redundants_preferred (print c.args.self.now))
            (Rewrites c.args.registry.now c.args.self.now) None
            (c.in-None.ensures.value
            ∙ ap (value_of c.args.registry.now.redundants_preferred) c.as_str.ensures.value)
            (h other).1,
      ));
}

-- By whether the tag is for private use, and else by whether its text is grandfathered.
use Rattle.std.proofs.Common.{Some, None, ap, sym, ◌∙◌}
use Rattle.std.specs.Prelude.{codes}
use Rattle.std.proofs.lemmas.Result.{IfOk-weaker, MatchResult-weaker}
use Rattle.language_tags_grammar.specs.Grandfathered.{is_grandfathered}
use Rattle.language_tags.specs.Valid.{begins}
use Rattle.language_tags.proofs.CanonLaws.{canon_grandfathered, canon_other, canon_private}
use Rattle.language_tags.proofs.tag.LanguageTag.canonicalize.Goals as goal

pub returns-then-begins : goal.returns-then-begins
returns-then-begins c = record {
  ok =
      IfOk-weaker c.same.result _ _
      (λ tag h. canon_private c.args.registry.now c.args.self.now (Some tag)
      (ap (λ t. begins t (codes "x-")) (sym c.as_str-text.ensures.value) ∙ sym c.begins.ensures
      ∙ c.if-begins.true) (ap Some h)) c.same.ensures.ok;
  err =
      MatchResult-weaker c.same.result c.same.ensures.err (λ tag h. h)
      (λ fault h other. absurd (other h));
}

pub returns-then-is_grandfathered : goal.returns-then-is_grandfathered
returns-then-is_grandfathered c = record {
  ok = IfOk-weaker c.grandfathered_form.result _ _
      (λ tag h. canon_grandfathered c.args.registry.now c.args.self.now (Some tag)
      (ap (λ t. begins t (codes "x-")) (sym c.as_str-text.ensures.value) ∙ sym c.begins.ensures
      ∙ c.if-begins.false) (ap is_grandfathered (sym c.as_str-text.ensures.value)
      ∙ sym c.is_grandfathered.ensures ∙ c.if-is_grandfathered.true) h)
      c.grandfathered_form.ensures.ok;
  err =
      MatchResult-weaker c.grandfathered_form.result c.grandfathered_form.ensures.err (λ tag h. h)
      (λ fault h other. absurd (other h));
}

pub returns-else-is_grandfathered : goal.returns-else-is_grandfathered
returns-else-is_grandfathered c = record {
  ok = IfOk-weaker c.other_form.result _ _
      (λ tag h. canon_other c.args.registry.now c.args.self.now (Some tag)
      (ap (λ t. begins t (codes "x-")) (sym c.as_str-text.ensures.value) ∙ sym c.begins.ensures
      ∙ c.if-begins.false) (ap is_grandfathered (sym c.as_str-text.ensures.value)
      ∙ sym c.is_grandfathered.ensures ∙ c.if-is_grandfathered.false) h)
      c.other_form.ensures.ok;
  err = MatchResult-weaker c.other_form.result c.other_form.ensures.err (λ tag h. h)
      (λ fault h other. (
        (h other).0,
        canon_other c.args.registry.now c.args.self.now None
            (ap (λ t. begins t (codes "x-")) (sym c.as_str-text.ensures.value)
            ∙ sym c.begins.ensures ∙ c.if-begins.false)
            (ap is_grandfathered (sym c.as_str-text.ensures.value)
            ∙ sym c.is_grandfathered.ensures ∙ c.if-is_grandfathered.false) (h other).1,
      ));
}

use Rattle.std.proofs.Common.{◌≢◌, [], ap, subst, ◌∙◌, rules}
use Rattle.std.specs.Prelude.{IfSome, option_and_then}
use Rattle.std.specs.Option.{option_map}
use Rattle.tinystr.specs.Shapes.{is_region, is_script}
use Rattle.tinystr.specs.Text.{titlecase}
use Rattle.unic_langid_impl.specs.Subtags.{IsLanguage, language_of, lowercase, uppercase}
use Rattle.unic_langid_impl.specs.Taking.{TakesVariants, left_behind, taken}
use Rattle.unic_langid_impl.proofs.ReadingLemmas.{Steps, some_left, steps-misfit, steps-reads}
use Rattle.unic_langid_impl.proofs.ReadingLemmas.{steps-suffix}
use Rattle.unic_langid_impl.proofs.parser.read.parse_language_identifier_from_iter.Goals as goal

pub returns-in-Err-clause-err : goal.returns-in-Err-clause-err
returns-in-Err-clause-err c =
    steps-suffix c.args.iter.now c.in-Err.ensures.err.0 c.read_variants.new.iter
    (c.in-Err.ensures.err.1 ∙ c.read_region-region.ensures.left
    ∙ ap (left_behind is_region uppercase) (c.read_script-script.ensures.left
    ∙ ap (left_behind is_script titlecase) c.next.ensures.left))

pub returns-then-is_some-clause-err : goal.returns-then-is_some-clause-err
returns-then-is_some-clause-err c =
    let past_script = c.read_script-script.ensures.left
    ∙ ap (left_behind is_script titlecase) c.next.ensures.left in
    let past_region = c.read_region-region.ensures.left
    ∙ ap (left_behind is_region uppercase) past_script in
    let steps : Steps c.args.iter.now c.read_variants.new.iter (record {
      language = c.in_ok-language.language;
      script = c.read_script-script.result;
      region = c.read_region-region.result;
      variants = c.ascending-variants.result.items;
    }) = record {
      variants = c.in-Ok.variants.items;
      is_language =
          subst (λ o. IfSome o (λ p. IsLanguage (lowercase p))) c.next.ensures.first
          c.in_ok-language.ensures.value.0;
      language_is = c.in_ok-language.ensures.value.1
          ∙ ap (option_and_then (λ p. language_of (lowercase p))) c.next.ensures.first;
      script_is = c.read_script-script.ensures.script
          ∙ ap (λ l. option_map titlecase (taken is_script titlecase l)) c.next.ensures.left;
      region_is = c.read_region-region.ensures.region
          ∙ ap (λ l. option_map uppercase (taken is_region uppercase l)) past_script;
      variants_are =
          subst (λ l. TakesVariants l c.in-Ok.variants.items c.read_variants.new.iter) past_region
          c.in-Ok.ensures.ok;
      ascending = c.ascending-variants.ensures;
      stop = c.in-Ok.ensures.stop;
    } in
    let some : c.read_variants.new.iter ≢ [] =
    some_left _ c.peek.result c.peek.ensures (search rules) in
    let misfit = steps-misfit _ _ _ steps some in
    (search rules, misfit.language, misfit.none, some, (_, misfit.up_to))

pub returns-clause-ok : goal.returns-clause-ok
returns-clause-ok c =
    let past_script = c.read_script-script.ensures.left
    ∙ ap (left_behind is_script titlecase) c.next.ensures.left in
    let past_region = c.read_region-region.ensures.left
    ∙ ap (left_behind is_region uppercase) past_script in
    rw c.of_ascending.ensures (steps-reads c.args.iter.now c.read_variants.new.iter _ (record {
      variants = c.in-Ok.variants.items;
      is_language =
          subst (λ o. IfSome o (λ p. IsLanguage (lowercase p))) c.next.ensures.first
          c.in_ok-language.ensures.value.0;
      language_is = c.in_ok-language.ensures.value.1
          ∙ ap (option_and_then (λ p. language_of (lowercase p))) c.next.ensures.first;
      script_is = c.read_script-script.ensures.script
          ∙ ap (λ l. option_map titlecase (taken is_script titlecase l)) c.next.ensures.left;
      region_is = c.read_region-region.ensures.region
          ∙ ap (λ l. option_map uppercase (taken is_region uppercase l)) past_script;
      variants_are =
          subst (λ l. TakesVariants l c.in-Ok.variants.items c.read_variants.new.iter) past_region
          c.in-Ok.ensures.ok;
      ascending = c.ascending-variants.ensures;
      stop = c.in-Ok.ensures.stop;
    }))

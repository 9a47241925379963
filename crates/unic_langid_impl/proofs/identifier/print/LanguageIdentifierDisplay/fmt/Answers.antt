use Rattle.std.proofs.Common.{◌∷◌, [], ◌++◌, ap, ◌∙◌, sym, refl}
use Rattle.std.proofs.lemmas.Grind.{put_two}
use Rattle.unic_langid_impl.specs.Printing.{dashed}
use Rattle.unic_langid_impl.specs.Subtags.{language_text}
use Rattle.unic_langid_impl.proofs.PrintLemmas.{print-dashed, written-more}
use Rattle.unic_langid_impl.proofs.identifier.print.LanguageIdentifierDisplay.fmt.Goals as goal

pub loop-subtag-init : goal.loop-subtag-init
loop-subtag-init g c = λ plain. (
  c.as_str.result.now,
  c.in_ok-write_str.ensures.writes plain refl,
  ap (λ l. l ++ dashed c.of-subtags.result)
      (c.as_str.ensures.value ∙ ap (λ i. language_text i.language) c.self.view_is)
      ∙ ap (λ l. language_text c.args.self.now.language ++ dashed l) c.of-subtags.ensures
      ∙ sym (print-dashed c.args.self.now),
)

pub loop-subtag-preserved : goal.loop-subtag-preserved
loop-subtag-preserved g c = λ plain.
    let (written, before, whole) = c.loop-subtag.invariant plain in
    let mark =
    put_two _ _ _ _ _ _ _ before (c.in_ok-write_str-2.ensures.writes before.plain refl) refl in (
      (written ++ 45 ∷ []) ++ c.in-Some.subtag.now,
      put_two _ _ _ _ _ _ _ mark (c.in_ok-write_str-3.ensures.writes mark.plain refl) refl,
      written-more written _ c.in-Some.subtag.now c.loop-subtag.subtags c.next.new.self whole
          c.in-Some.ensures.first
          c.next.ensures.left,
    )

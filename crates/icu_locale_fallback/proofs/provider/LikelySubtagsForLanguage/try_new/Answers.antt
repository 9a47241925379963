use Rattle.std.proofs.lemmas.Result.{err_from_is_err_and}
use Rattle.icu_locale_fallback.specs.Faults.{in_language_region}
use Rattle.icu_locale_fallback.proofs.RowLaws.{sound}
use Rattle.icu_locale_fallback.proofs.provider.LikelySubtagsForLanguage.try_new.Goals as goal

pub returns-in_err-language_region-clause-err : goal.returns-in_err-language_region-clause-err
returns-in_err-language_region-clause-err c =
    let p =
    err_from_is_err_and c.from_residual-in_err-language_region.result
    c.from_residual-in_err-language_region.ensures.1 in
    rw (p.1, p.2)
    (in_language_region (rw c.as_slice.ensures.value at (sound c.in_ok-language.ensures.ok))
    (rw c.as_slice-2.ensures.value at (sound c.in_ok-language_script.ensures.ok))
    (rw c.as_slice-3.ensures.value at c.in_err-language_region.ensures.err))

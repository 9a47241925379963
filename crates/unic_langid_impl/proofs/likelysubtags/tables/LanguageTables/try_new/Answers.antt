use Rattle.std.proofs.lemmas.Result.{err_from_is_err_and}
use Rattle.unic_langid_impl.specs.LikelyFaults.{in_lang_script}
use Rattle.unic_langid_impl.proofs.likelysubtags.tables.LanguageTables.try_new.Goals as goal

pub returns-in_err-lang_script-clause-err : goal.returns-in_err-lang_script-clause-err
returns-in_err-lang_script-clause-err c =
    let p =
    err_from_is_err_and c.from_residual-in_err-lang_script.result
    c.from_residual-in_err-lang_script.ensures.1 in
    rw (p.1, p.2)
    (in_lang_script (rw c.as_slice.ensures.value at c.in_ok-lang_only.ensures.sound)
    (rw c.as_slice-2.ensures.value at c.in_ok-lang_region.ensures.sound)
    (rw c.as_slice-3.ensures.value at c.in_err-lang_script.ensures.err))

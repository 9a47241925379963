use Rattle.std.proofs.Common.{take, length, refl, sym, ap, ◌∙◌, subst, ◌++◌, ◌∷◌, []}
use Rattle.std.proofs.lemmas.List.{take_more}
use Rattle.std.proofs.lemmas.Option.{slice_get_read}
use Rattle.std.proofs.lemmas.Result.{err_from_is_err_and}
use Rattle.localise.specs.Kept.{AreKept}
use Rattle.localise.specs.Read.{meaning_of, meanings_of}
use Rattle.localise.proofs.Keeping.{read-push, fault_of_read, fault_of_locale}
use Rattle.localise.proofs.localiser.read_all.Goals as goal

pub returns-in_err-bundle-clause-err : goal.returns-in_err-bundle-clause-err
returns-in_err-bundle-clause-err c =
    let texts = c.args.texts.now in
    let p = err_from_is_err_and c.from_residual.result c.from_residual.ensures.1 in
    let there =
    slice_get_read texts
    (length texts) c.loop-text.text-index c.text-item.result refl c.loop-text-test.true
    c.text-item.is in
    rw (p.1, p.2)
    (λ ne. fault_of_read c.args.tables.now texts c.loop-text.text-index c.loop-text.read.list.items
    c.len.result _ c.text-item.result there
    c.loop-text-test.true c.loop-text.invariant c.len.ensures (c.in_err-bundle.ensures.err ne))

pub returns-in_err-read-clause-err : goal.returns-in_err-read-clause-err
returns-in_err-read-clause-err c =
    let texts = c.args.texts.now in
    let p =
    err_from_is_err_and c.from_residual-in_err-read.result
    c.from_residual-in_err-read.ensures.1 in
    let there =
    slice_get_read texts
    (length texts) c.loop-text.text-index c.text-item.result refl c.loop-text-test.true
    c.text-item.is in
    rw (p.1, p.2)
    (λ ne. fault_of_locale c.args.tables.now texts c.loop-text.text-index
    c.loop-text.read.list.items (meaning_of c.in_ok-bundle.bundle) _ c.text-item.result there
    c.loop-text-test.true c.loop-text.invariant c.in_ok-bundle.ensures.ok
    (c.in_err-read.ensures.err ne))

pub loop-text-preserved : goal.loop-text-preserved
loop-text-preserved c =
    let T = c.args.tables.now in
    let texts = c.args.texts.now in
    let i = c.loop-text.text-index in
    let more = take_more texts i c.text-item.result c.loop-text-test.true
    ∙ ap (λ x. take i texts ++ x ∷ []) (sym c.text-item.is) in
    let next =
    read-push T (take i texts) (meanings_of c.loop-text.read.list.items) c.text-item.result
    (meaning_of c.in_ok-bundle.bundle)
    c.loop-text.invariant c.in_ok-bundle.ensures.ok c.in_ok-read.ensures.apart in
    subst (λ ts. AreKept T ts (meanings_of c.in_ok-read.read.list.items)) (sym more)
    (subst (AreKept T (take i texts ++ c.text-item.result ∷ [])) (sym c.in_ok-read.ensures.ok) next)

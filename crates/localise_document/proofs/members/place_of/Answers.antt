use Rattle.std.proofs.Common.{length, bytes_eq, sym, ap, ◌∙◌, below_more, ⊎_elim, arith}
use Rattle.std.proofs.lemmas.Bool.{cases_lt}
use Rattle.std.proofs.lemmas.Slice.Eq.{bytes_eq-Decides}
use Rattle.localise_document.proofs.MembersByName.{text_at, none_of}
use Rattle.localise_document.proofs.members.place_of.Goals as goal

pub returns-then-eq-clause-found : goal.returns-then-eq-clause-found
returns-then-eq-clause-found c = (
  c.loop-place-test.true,
  text_at c.args.names.now c.loop-place.place _ c.loop-place-test.true
      ∙ sym ((bytes_eq-Decides c.args.key.now _).0 (sym c.eq.ensures ∙ c.if-eq.true)),
)

pub loop-place-preserved : goal.loop-place-preserved
loop-place-preserved c =
    below_more _ _ c.loop-place.invariant
    (λ _. ap (bytes_eq c.args.key.now)
    (text_at c.args.names.now c.loop-place.place _ c.loop-place-test.true)
    ∙ sym c.eq.ensures ∙ c.if-eq.false)

pub returns-then-eq-2-clause-found : goal.returns-then-eq-2-clause-found
returns-then-eq-2-clause-found c = (
  omega arith,
  text_at c.args.names.now c.loop-earlier.earlier _ (omega arith)
      ∙ sym
      ((bytes_eq-Decides c.args.key.now _).0 (sym c.eq-in-loop-earlier.ensures ∙ c.if-eq-2.true)),
)

pub loop-earlier-preserved : goal.loop-earlier-preserved
loop-earlier-preserved c =
    below_more _ _ c.loop-earlier.invariant
    (ap (bytes_eq c.args.key.now)
    (text_at c.args.names.now c.loop-earlier.earlier _ (omega arith))
    ∙ sym c.eq-in-loop-earlier.ensures ∙ c.if-eq-2.false)

pub returns-clause-missing : goal.returns-clause-missing
returns-clause-missing c =
    none_of c.args.key.now c.args.names.now (length c.args.names.now) (omega arith) (λ k less.
    ⊎_elim (λ below. c.loop-earlier.invariant k (omega arith))
    (λ above. c.loop-place.invariant k (omega arith) above) (cases_lt k c.args.from))

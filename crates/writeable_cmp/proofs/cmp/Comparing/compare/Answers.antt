-- The pieces are cut to one length and compared.
use Rattle.std.proofs.Common.{min, ap, sym, ◌∙◌, length, take, drop, nat_cmp}
use Rattle.std.specs.Cmp.Lexicographic.{slice_cmp}
use Rattle.writeable_cmp.proofs.Comparing.{compared_cut, equal_by_test}
use Rattle.writeable_cmp.proofs.cmp.Comparing.compare.Goals as goal

pub returns-then-ne-2-clause-compared : goal.returns-then-ne-2-clause-compared
returns-then-ne-2-clause-compared c =
    compared_cut _ _ c.args.bytes.now c.min.result
    (ap (λ s. s.order) (sym c.self.view_is)
    ∙ equal_by_test c.self.inside.order (sym c.ne.ensures ∙ c.if-ne.false))
    (c.min.ensures ∙ ap (λ s. min (length c.args.bytes.now) (length s.rest)) c.self.view_is)
    (c.split_at.ensures.back ∙ ap (λ s. drop c.min.result s.rest) c.self.view_is)
    (c.cmp-self-inside.ensures
    ∙ ap (slice_cmp nat_cmp c.args.bytes.now)
    (c.split_at.ensures.front ∙ ap (λ s. take c.min.result s.rest) c.self.view_is))

pub returns-clause-compared : goal.returns-clause-compared
returns-clause-compared c =
    compared_cut _ _ c.args.bytes.now c.min.result
    (ap (λ s. s.order) (sym c.self.view_is)
    ∙ equal_by_test c.self.inside.order (sym c.ne.ensures ∙ c.if-ne.false))
    (c.min.ensures ∙ ap (λ s. min (length c.args.bytes.now) (length s.rest)) c.self.view_is)
    (c.split_at.ensures.back ∙ ap (λ s. drop c.min.result s.rest) c.self.view_is)
    (c.cmp-self-inside.ensures
    ∙ ap (slice_cmp nat_cmp c.args.bytes.now)
    (c.split_at.ensures.front ∙ ap (λ s. take c.min.result s.rest) c.self.view_is))

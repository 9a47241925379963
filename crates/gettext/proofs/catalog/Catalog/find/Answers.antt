use Rattle.std.proofs.Common.{sym, ◌∙◌}
use Rattle.gettext.proofs.Forms.{form-at}
use Rattle.gettext.proofs.catalog.Catalog.find.Goals as goal

pub returns-in_err-number : goal.returns-in_err-number
returns-in_err-number g c =
    record {
      found = λ m s. (
        c.forced_number.result,
        c.forced_number.ensures,
        rw c.from_residual.ensures
            (sym (form-at c.args.self.now.entries m _ c.args.n s _ _ c.in_err-number.ensures)),
      );
    }

pub returns-in_err-text : goal.returns-in_err-text
returns-in_err-text g c =
    record {
      found = λ m s. (
        c.forced_number.result,
        c.forced_number.ensures,
        rw c.from_residual-in_err-text.ensures
            (c.in_err-text.ensures m s
            ∙ sym (form-at c.args.self.now.entries m _ c.args.n s _ _ c.in_ok-number.ensures)),
      );
    }

pub returns : goal.returns
returns g c =
    record {
      found = λ m s. (
        c.forced_number.result,
        c.forced_number.ensures,
        c.in_ok-text.ensures m s
            ∙ sym (form-at c.args.self.now.entries m _ c.args.n s _ _ c.in_ok-number.ensures),
      );
    }

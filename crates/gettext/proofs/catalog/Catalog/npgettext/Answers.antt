use Rattle.gettext.proofs.Forms.{text_found, text_absent}
use Rattle.gettext.proofs.catalog.Catalog.npgettext.Goals as goal

pub returns-in-Some : goal.returns-in-Some
returns-in-Some g c =
    record {
      text = λ m s. let h = c.in-Some.ensures.found m s in
          (h.0, h.1, text_found _ _ _ _ h.2);
    }

pub returns-in-None : goal.returns-in-None
returns-in-None g c =
    record {
      text = λ m s. let h = c.in-None.ensures.found m s in
          (h.0, h.1, rw c.own_words.ensures (text_absent _ _ h.2));
    }

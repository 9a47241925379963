-- What a request asks a catalog for.
use Rattle.std.proofs.Common.{◌≡◌, ℕ, List, Option, None, refl, ap, ◌∙◌}
use Rattle.std.specs.Borrow.{Bor}
use Rattle.std.specs.Option.{option_map}
use Rattle.std.specs.Str.{chars}
use Rattle.gettext.specs.Messages.{Messages, StandsFor, form, key_asked, key_of}
use Rattle.localise_texts.specs.declared.request.Request.{Request}

-- messages stand for themselves
pub itself : (m : Messages) → StandsFor m m
itself m = record { rule = refl; lookups = λ key. refl }

-- the form that is asked for by the texts of a request, no function being forced
pub form_asked : (m : Messages) (context : Option (Bor (List ℕ))) (id : List ℕ) (q : Request)
    (given : Option ℕ) (found : Option (ℕ × List ℕ))
    → given ≡ None → found ≡ form m given (key_asked context id) q.count
    → option_map (λ s. chars s.now) context ≡ q.context → chars id ≡ q.singular
    → found ≡ form m None (key_of q.context q.singular) q.count
form_asked m context id q given found none is asked singular =
    is ∙ ap (λ g. form m g (key_asked context id) q.count) none
    ∙ ap (λ c. form m None (key_of c (chars id)) q.count) asked
    ∙ ap (λ s. form m None (key_of q.context s) q.count) singular

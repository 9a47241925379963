-- What stands for the meaning of a file gives each form as the meaning does.
use Rattle.std.proofs.Common.{◌≡◌, ℕ, List, [], ◌∷◌, Option, Some, None, refl, ap, ◌∙◌, arith}
use Rattle.gettext.specs.declared.encoding.Encoding.{Encoding}
use Rattle.gettext.specs.Optional.{◌>>=◌}
use Rattle.gettext.specs.Options.{Options}
use Rattle.gettext.specs.Messages.{Message, Messages, Rule, StandsFor, number_for, bound}
use Rattle.gettext.specs.Messages.{numbered_within, form}
use Rattle.gettext.specs.Mo.{AreRows, entries, first_encoding}
use Rattle.gettext.specs.Table.{HasOneHeader}
use Rattle.gettext.proofs.Bounds.{one_header-alike, bound-stands}
use Rattle.gettext.proofs.Files.{all_have_ids, one_header}
use Rattle.gettext.proofs.Lookups.{numbered-stands}

-- the rows of a file have one message with an empty id at most
rows_have_one : (b : List ℕ) (first later : Encoding) (ms : List Message)
    → AreRows b first later 0 ms → HasOneHeader ms
rows_have_one b first later [] rows = λ k q m n e f h g. absurd cc
rows_have_one b first later (m ∷ ms) rows =
    one_header m ms (all_have_ids b later 1 ms (omega arith) rows.1)

module _ (b : List ℕ) (o : Options) (c kept : Messages) (h : entries b o c)
    (s : StandsFor kept c) where
  -- what stands for the meaning of a file has its bound
  bound_alike : bound kept ≡ bound c
  bound_alike = bound-stands kept c
      (one_header-alike kept.pairs c.pairs s.lookups
      (rows_have_one b (first_encoding o) h.encoding c.pairs h.rows)) s

  -- and its forms of each number below the bound
  within_alike : (key : List ℕ) (number : ℕ)
      → numbered_within kept key number ≡ numbered_within c key number
  unfolding numbered_within
  within_alike key number = rw (bound_alike, numbered-stands kept c key number s) refl

  -- and its form for each count
  pub form_alike : (given : Option ℕ) (key : List ℕ) (n : ℕ)
      → form kept given key n ≡ form c given key n
  unfolding form
  form_alike given key n = ap (λ (r : Rule). number_for r given n >>= numbered_within kept key)
      s.rule ∙ after (number_for c.rule given n) where
        after : (o : Option ℕ) → (o >>= numbered_within kept key) ≡ (o >>= numbered_within c key)
        after None = refl
        after (Some number) = within_alike key number

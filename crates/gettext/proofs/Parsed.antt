-- What `parse_bytes` and `parse` answer, of the table and of the catalog around it.
use Rattle.std.proofs.Common.{◌≡◌, ℕ, ◌<◌, ◌≤◌, Bool, List, length, Option, Some, None, Ok, Err}
use Rattle.std.proofs.Common.{refl, subst, ◌⊎◌, inl, inr, arith}
use Rattle.std.specs.Prelude.{IfSome}
use Rattle.gettext.specs.declared.error.Error.{Error}
use Rattle.gettext.specs.declared.error.Error.TheVariants.{Io, NoMemory, TooLong}
use Rattle.reading.specs.Reading.{IsReadError, IsReadToEnd}
use Rattle.reading.specs.declared.error.ReadError.{ReadError}
use Rattle.reading.specs.declared.error.ReadError.TheVariants as reading
use Rattle.gettext.specs.Errors.{error_of}
use Rattle.gettext.specs.Options.{Options}
use Rattle.gettext.specs.Messages.{Messages, StandsFor}
use Rattle.gettext.specs.Mo.{IsInUtf8, entries}
use Rattle.gettext.specs.Faults.{mo_fault}
use Rattle.gettext.specs.Checks.{found_fault}
use Rattle.gettext.specs.Parse.{IsReadFault, MeansBytes, ParsesBytes, ParsesSource, most_bytes}
use Rattle.gettext.specs.Parse.{source_fault}
use Rattle.gettext.specs.Table.{Held, messages_of}
use Rattle.gettext.proofs.Faults.{is_mo_fault}
use Rattle.gettext.proofs.Meaning.{meaning, has_meaning, only_memory, fault_found, found_is}
use Rattle.gettext.proofs.Memory.{or_memory}

-- ---- bytes

-- an answer that the reader finds is want of memory, or what is wrong
exactly : {b : List ℕ} {o : Options} (e : Error) → (e ≡ NoMemory) ⊎ (found_fault b o ≡ Some e)
    → (e ≡ NoMemory) ⊎ mo_fault b o (Some e)
exactly {b = b} {o = o} e h = or_memory h (λ g. fault_found b o (Some e) g)

module _ (b : List ℕ) (o : Options) where
  -- the bytes are refused
  pub bytes_refused : (e : Error) → (e ≡ NoMemory) ⊎ (found_fault b o ≡ Some e)
      → ParsesBytes (Err e) b o
  bytes_refused e h = record {
    read = λ c m. only_memory b o c e m h;
    ok = tt;
    err = λ fault f. let some = found_is b o (Some fault) f in or_memory h (λ g. cc);
    exact = exactly e h;
    buffer = tt;
  }

  -- the bytes are read
  pub bytes_read : (t : Held) → found_fault b o ≡ None
      → ((c : Messages) → entries b o c → StandsFor (messages_of t) c)
      → (IsInUtf8 b o → t.buffer ≡ b) → ParsesBytes (Ok t) b o
  bytes_read t none stands plain =
      let m = has_meaning b o none in
      record {
        read = stands;
        ok = (meaning b o, m, stands (meaning b o) m);
        err = λ fault f. let some = found_is b o (Some fault) f in absurd cc;
        exact = fault_found b o None none;
        buffer = plain;
      }

-- ---- sources

-- what holds of every text holds of one that may be there
any : (l : Option (List ℕ)) (P : List ℕ → Type 0) → ((t : List ℕ) → P t) → IfSome l P
any None P all = tt
any (Some t) P all = all t

-- what holds of the bytes that were read holds of those that a source had left, if it tells them
told : (l : Option (List ℕ)) (bytes : List ℕ) → IfSome l (λ t. bytes ≡ t) → (P : List ℕ → Type 0)
    → P bytes → IfSome l P
told None bytes is P p = tt
told (Some t) bytes is P p = subst P is p

-- what holds of texts that are too long holds of one that may be there
too_many : (l : Option (List ℕ)) (P Q : List ℕ → Type 0) → IfSome l P → ((t : List ℕ) → P t → Q t)
    → IfSome l Q
too_many None P Q h f = tt
too_many (Some t) P Q h f = f t h

module _ {S : Type 0} (left : S → Option (List ℕ)) (ended : S → Bool) (faults : S → ℕ)
    (old new : S) (o : Options) where
  -- the source isn't read to its end
  pub source_unread : (r : ReadError)
      → IsReadError most_bytes (faults old) (faults new) (left old) r
      → (r ≡ reading.TooLong → faults new ≡ faults old) → faults old ≤ faults new
      → ParsesSource left ended faults old new (Err (error_of r)) o
  source_unread reading.Fault rose same later = record {
    read = any (left old) _ (λ t c le m. tt);
    ok = tt;
    exact = any (left old) _ (λ t. inl tt);
    buffer = tt;
    io = λ is. rose;
    later = later;
    read_to_end = λ none. absurd none;
    no_fault = λ is. absurd cc;
  }
  source_unread reading.TooLong more same later = record {
    read = too_many (left old) (λ t. most_bytes < length t) _ more
        (λ t m c le e. absurd (omega arith));
    ok = tt;
    exact = too_many (left old) (λ t. most_bytes < length t) _ more (λ t m. inr (inr (m, refl)));
    buffer = tt;
    io = λ is. absurd cc;
    later = later;
    read_to_end = λ none. absurd none;
    no_fault = λ is. same refl;
  }
  source_unread reading.NoMemory memory same later = record {
    read = any (left old) _ (λ t c le m. tt);
    ok = tt;
    exact = any (left old) _ (λ t. inl tt);
    buffer = tt;
    io = λ is. absurd cc;
    later = later;
    read_to_end = λ none. absurd none;
    no_fault = λ is. absurd cc;
  }

  module _ (bytes : List ℕ) (within : length bytes ≤ most_bytes)
      (all : IfSome (left old) (λ t. bytes ≡ t)) (end : IsReadToEnd left ended faults old new) where
    -- what is wrong with the bytes is no fault of the source
    not_io : (e : Error) → (e ≡ NoMemory) ⊎ (found_fault bytes o ≡ Some e) → e ≡ Io → ⊥
    not_io e (inl memory) io = absurd cc
    not_io e (inr fault) io = rw io at (is_mo_fault bytes o e (fault_found bytes o (Some e) fault))

    -- what is wrong with the bytes is so with the source's
    at_fault : (e : Error) → (e ≡ NoMemory) ⊎ mo_fault bytes o (Some e)
        → IsReadFault e ⊎ source_fault bytes o (Some e)
    at_fault e (inl memory) = inl (rw memory tt)
    at_fault e (inr fault) = inr (inl (within, fault))

    -- the bytes are refused
    pub source_refused : (e : Error) → (e ≡ NoMemory) ⊎ (found_fault bytes o ≡ Some e)
        → ParsesSource left ended faults old new (Err e) o
    source_refused e h = record {
      read = told (left old) bytes all
          (λ t. (c : Messages) → length t ≤ most_bytes → entries t o c → IsReadFault e)
          (λ c le m. let memory = only_memory bytes o c e m h in rw memory tt);
      ok = tt;
      exact = told (left old) bytes all (λ t. IsReadFault e ⊎ source_fault t o (Some e))
          (at_fault e (exactly e h));
      buffer = tt;
      io = λ io. absurd (not_io e h io);
      later = omega (arith, end.no_fault);
      read_to_end = λ at. end;
      no_fault = λ is. end.no_fault;
    }

    -- the bytes are read
    pub source_read : (t : Held) → found_fault bytes o ≡ None
        → ((c : Messages) → entries bytes o c → StandsFor (messages_of t) c)
        → (IsInUtf8 bytes o → t.buffer ≡ bytes)
        → ParsesSource left ended faults old new (Ok t) o
    source_read t none stands plain =
        let m = has_meaning bytes o none in
        record {
          read = told (left old) bytes all
              (λ b. (c : Messages) → length b ≤ most_bytes → entries b o c
              → StandsFor (messages_of t) c) (λ c le e. stands c e);
          ok = told (left old) bytes all (λ b. (length b ≤ most_bytes) × MeansBytes b o t)
              (within, (meaning bytes o, m, stands (meaning bytes o) m));
          exact = told (left old) bytes all (λ b. source_fault b o None)
              (inl (within, fault_found bytes o None none));
          buffer = told (left old) bytes all (λ b. IsInUtf8 b o → t.buffer ≡ b) plain;
          io = tt;
          later = omega (arith, end.no_fault);
          read_to_end = λ at. end;
          no_fault = λ is. end.no_fault;
        }

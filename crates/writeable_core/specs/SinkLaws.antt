-- What was taken of texts one after another, and where a refusal comes from.
use Rattle.std.specs.Prelude.{◌≡◌, ℕ, ◌≤◌, List, [], ◌++◌, Bool, Result, Ok, Err, OnErr, Some}
use Rattle.std.proofs.Common.{sym, ap, ◌∙◌, append-nil, append_assoc, arith}
use Rattle.writeable_core.specs.Sink.{TookPrefix, Rose, HasCause}
use Rattle.writeable_core.specs.declared.sink.SinkError.{SinkError}

-- ---- sinks that hold a text, and counts

pub append_nothing : (s : List ℕ) → s ≡ s ++ []
append_nothing s = sym (append-nil s)

pub append_both : (a b c s t : List ℕ) → b ≡ a ++ s → c ≡ b ++ t → c ≡ a ++ (s ++ t)
append_both a b c s t p q = q ∙ ap (λ l. l ++ t) p ∙ append_assoc a s t

pub append_held : (a b t h : List ℕ) → b ≡ a ++ t → Some a ≡ Some h → Some b ≡ Some (h ++ t)
append_held a b t h p q = let same : a ≡ h = cc in ap Some (p ∙ ap (λ l. l ++ t) same)

pub later_both : (a b c : ℕ) → a ≤ b → b ≤ c → a ≤ c
later_both a b c p q = omega arith

-- ---- what was taken of two texts

-- a front of a text is a front of what begins with it
pub front_of_longer : {S A : Type 0} {took : S → List A → S → Type 0} {a b : S} (s t : List A)
    → TookPrefix took a s b → TookPrefix took a (s ++ t) b
front_of_longer s t p = record {
  front = p.front;
  rest = p.rest ++ t;
  parts = sym (append_assoc p.front p.rest t) ∙ ap (λ l. l ++ t) p.parts;
  taken = p.taken;
}

-- a text, and then a front of another
pub front_after : {S A : Type 0} {took : S → List A → S → Type 0} {a b c : S} (s t : List A)
    → ((a b c : S) (s t : List A) → took a s b → took b t c → took a (s ++ t) c)
    → took a s b → TookPrefix took b t c → TookPrefix took a (s ++ t) c
front_after {a} {b} {c} s t both first p = record {
  front = s ++ p.front;
  rest = p.rest;
  parts = append_assoc s p.front p.rest ∙ ap (λ l. s ++ l) p.parts;
  taken = both a b c s p.front first p.taken;
}

-- a text that was taken whole is a front of itself
pub front_whole : {S A : Type 0} {took : S → List A → S → Type 0} {a b : S} (s : List A)
    → took a s b → TookPrefix took a s b
front_whole s p = record { front = s; rest = []; parts = append-nil s; taken = p }

-- a count that rose from a later moment rose from an earlier one
pub rose_earlier : (a b c : ℕ) → a ≤ b → Rose b c → Rose a c
rose_earlier a b c le rose = omega arith

-- a cause that is seen from a later moment is one from an earlier moment
pub cause_earlier : {T : Type 0} {a b c : ℕ} {m n : Bool} (r : Result T SinkError)
    → a ≤ b → n ≡ m → HasCause b c n r → HasCause a c m r
cause_earlier {a} {b} {c} r le same cause = record {
  fault = λ is. rose_earlier a b c le (cause.fault is);
  no_memory = λ is. sym same ∙ cause.no_memory is;
}

-- what always holds holds on an error
pub on_err : {T E P : Type 0} (r : Result T E) → P → OnErr r P
on_err (Ok x) p = tt
on_err (Err e) p = p

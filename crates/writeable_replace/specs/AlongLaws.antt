-- Further along a text that is taken.
use Rattle.std.specs.Prelude.{Err, chars, IsUtf8}
use Rattle.std.proofs.Common.{◌≡◌, ℕ, ◌≤◌, Bool, List, [], ◌∷◌, ◌++◌, take, drop, refl, sym, ap}
use Rattle.std.proofs.Common.{◌∙◌, subst, append-nil, append_assoc}
use Rattle.writeable_core.specs.Sink.{TookPrefix, HasCause}
use Rattle.writeable_core.specs.declared.sink.SinkError.{SinkError}
use Rattle.writeable_replace.specs.Along.{Along}
use Rattle.writeable_replace.specs.Passed.{Passed, Refused}
use Rattle.writeable_replace.specs.Position.{position, IsPosition, IsFree}
use Rattle.writeable_replace.specs.PositionLaws.{cut_chars}
use Rattle.writeable_replace.specs.WentLaws.{passed_nothing, passed_by, passed_both, refused_by}
use Rattle.writeable_replace.specs.WentLaws.{refused_later, refused_longer}

-- at the text's begin
pub along_start :
    {S : Type 0} {took : S → List ℕ → S → Type 0} (needle r text : List ℕ) (matched : ℕ) {a : S}
    → IsUtf8 text → IsPosition needle matched → took a [] a
    → Along took needle r matched a text text matched a
along_start needle r text matched utf8 at nothing = record {
  front = [];
  parts = refl;
  utf8 = utf8;
  is_position = at;
  passed = passed_nothing (chars needle) r at.proper nothing;
}

-- past what passes as it is
pub along_free :
    {S : Type 0} {took : S → List ℕ → S → Type 0} (needle r text rest behind : List ℕ)
    (start m n : ℕ) {a b c : S}
    → ((a b c : S) (s t : List ℕ) → took a s b → took b t c → took a (s ++ t) c)
    → Along took needle r start a text rest m b → IsFree needle m rest n
    → took b (chars (take n rest)) c
    → behind ≡ drop n rest → IsUtf8 behind → Along took needle r start a text behind m c
along_free needle r text rest behind start m n join along free taken is utf8 = record {
  front = along.front ++ chars (take n rest);
  parts = along.parts
      ∙ ap (λ s. along.front ++ s)
      (cut_chars rest n along.utf8 free.boundary
      ∙ ap (λ s. chars (take n rest) ++ chars s) (sym is))
      ∙ sym (append_assoc along.front (chars (take n rest)) (chars behind));
  utf8 = utf8;
  is_position = along.is_position;
  passed = passed_both (chars needle) r along.front (chars (take n rest)) join along.passed
      (passed_by (chars needle) r (chars (take n rest)) (free.came r) taken);
}

pub along_free_refused :
    {S T : Type 0} {took : S → List ℕ → S → Type 0} {faults : S → ℕ} {memory : S → Bool}
    (needle r text rest : List ℕ) (start m n : ℕ) {a b c : S} {e : SinkError}
    → ((a b c : S) (s t : List ℕ) → took a s b → took b t c → took a (s ++ t) c)
    → ((a b : S) (t : List ℕ) → took a t b → faults a ≤ faults b)
    → ((a b : S) (t : List ℕ) → took a t b → memory b ≡ memory a)
    → Along took needle r start a text rest m b → IsFree needle m rest n
    → TookPrefix took b (chars (take n rest)) c
    → HasCause {T = T} (faults b) (faults c) (memory b) (Err e)
    → Refused took faults memory (chars needle) r (position needle start) a (chars text) e c
along_free_refused {took} {faults} {memory} needle r text rest start m n {a} {c} {e} join later same
    along free front cause =
    let x = along.front ++ chars (take n rest) in
    let parts : x ++ chars (drop n rest) ≡ chars text =
    append_assoc along.front (chars (take n rest)) (chars (drop n rest))
    ∙ ap (λ s. along.front ++ s) (sym (cut_chars rest n along.utf8 free.boundary))
    ∙ sym along.parts in
    subst (λ t. Refused took faults memory (chars needle) r (position needle start) a t e c) parts
    (refused_longer (chars needle) r x (chars (drop n rest))
    (refused_later (chars needle) r along.front (chars (take n rest)) join later same along.passed
    (refused_by (chars needle) r (chars (take n rest)) (free.came r) front cause)))

-- past a character
pub along_char :
    {S : Type 0} {took : S → List ℕ → S → Type 0} (needle r text rest behind : List ℕ)
    (start m n c : ℕ) {a b d : S}
    → ((a b c : S) (s t : List ℕ) → took a s b → took b t c → took a (s ++ t) c)
    → Along took needle r start a text rest m b → chars rest ≡ c ∷ chars behind → IsUtf8 behind
    → IsPosition needle n
    → Passed took (chars needle) r (position needle m) b (c ∷ []) (position needle n) d
    → Along took needle r start a text behind n d
along_char needle r text rest behind start m n c join along is utf8 at passed = record {
  front = along.front ++ c ∷ [];
  parts = along.parts ∙ ap (λ s. along.front ++ s) is
      ∙ sym (append_assoc along.front (c ∷ []) (chars behind));
  utf8 = utf8;
  is_position = at;
  passed = passed_both (chars needle) r along.front (c ∷ []) join along.passed passed;
}

pub along_char_refused :
    {S : Type 0} {took : S → List ℕ → S → Type 0} {faults : S → ℕ} {memory : S → Bool}
    (needle r text rest behind : List ℕ) (start m c : ℕ) {a b d : S} {e : SinkError}
    → ((a b c : S) (s t : List ℕ) → took a s b → took b t c → took a (s ++ t) c)
    → ((a b : S) (t : List ℕ) → took a t b → faults a ≤ faults b)
    → ((a b : S) (t : List ℕ) → took a t b → memory b ≡ memory a)
    → Along took needle r start a text rest m b → chars rest ≡ c ∷ chars behind
    → Refused took faults memory (chars needle) r (position needle m) b (c ∷ []) e d
    → Refused took faults memory (chars needle) r (position needle start) a (chars text) e d
along_char_refused {took} {faults} {memory} needle r text rest behind start m c {a} {d} {e} join
    later same along is refused =
    let x = along.front ++ c ∷ [] in
    let parts : x ++ chars behind ≡ chars text =
    append_assoc along.front (c ∷ []) (chars behind) ∙ ap (λ s. along.front ++ s) (sym is)
    ∙ sym along.parts in
    subst (λ t. Refused took faults memory (chars needle) r (position needle start) a t e d) parts
    (refused_longer (chars needle) r x (chars behind)
    (refused_later (chars needle) r along.front (c ∷ []) join later same along.passed refused))

-- at the text's end
pub along_end :
    {S : Type 0} {took : S → List ℕ → S → Type 0} (needle r text rest : List ℕ)
    (start m : ℕ) {a b : S}
    → Along took needle r start a text rest m b → chars rest ≡ []
    → Passed took (chars needle) r (position needle start) a (chars text) (position needle m) b
along_end {took} needle r text rest start m {a} {b} along none =
    subst (λ t. Passed took (chars needle) r (position needle start) a t (position needle m) b)
    (sym (along.parts ∙ ap (λ s. along.front ++ s) none ∙ append-nil along.front)) along.passed

-- What is read is a part, and no longer one begins the text.
use Rattle.std.proofs.Common.{◌≡◌, ℕ, zero, suc, ◌-◌, ◌*◌, ◌≤◌, Bool, true, false, List, [], ◌∷◌}
use Rattle.std.proofs.Common.{◌++◌, length, take, drop, Option, Some, None, Result, Ok, Err, refl}
use Rattle.std.proofs.Common.{sym, ap, subst, ◌∙◌, arith, append_assoc, append-nil, length-append}
use Rattle.std.specs.Option.{option_map}
use Rattle.std.specs.Prelude.{nat_le, if◌then◌else◌}
use Rattle.std.proofs.lemmas.Bool.{leb-true}
use Rattle.std.proofs.lemmas.List.{take-append-drop, length-drop}
use Rattle.std.proofs.Math.Seq.{take-append_seam}
use Rattle.lazy_dfa.specs.Expression.{CharacterSet, only, digit, any, set_of, Expression, Nothing}
use Rattle.lazy_dfa.specs.Expression.{OneOf, End, Sequence, Choice, Star, Plus, Optional}
use Rattle.lazy_dfa.specs.Syntax.{is_punctuation, is_literal, is_plain, ClassCharacter, plain}
use Rattle.lazy_dfa.specs.Syntax.{punct, Item, single, range, Items, last, item, Kind, Alt, Seq}
use Rattle.lazy_dfa.specs.Syntax.{Rep, Atom, IsPart, one, choice, nothing, sequence, once, star}
use Rattle.lazy_dfa.specs.Syntax.{plus, optional, end, group, dot, class, others, escaped, literal}
use Rattle.lazy_dfa.specs.Syntax.{alt, IsNoAlt, LongestAlt}
use Rattle.lazy_dfa.specs.Syntax as syntax
use Rattle.lazy_dfa.specs.Parsing.{behind, punctuation_at, plain_at, class_character_at}
use Rattle.lazy_dfa.specs.Parsing.{class_character_by, Ranged, range_to, range_from, range_at}
use Rattle.lazy_dfa.specs.Parsing.{digits_at, item_by, item_at, Classed, with_item, items_by}
use Rattle.lazy_dfa.specs.Parsing.{items_from, items_at, Found, found, Reader, escaped_by}
use Rattle.lazy_dfa.specs.Parsing.{literal_at, single_by, single_at, class_of, class_by, closed_by}
use Rattle.lazy_dfa.specs.Parsing.{group_of, atom_by, atom_at, suffixed_by, suffixed, repeated}
use Rattle.lazy_dfa.specs.Parsing.{rep_by, rep_at, joined, seq_by, alt_from, alt_by, Alternatives}
use Rattle.lazy_dfa.specs.Parsing.{Parts, parse, needed, Reads}
use Rattle.lazy_dfa.proofs.Repeating.{behind_is, behind_shorter}
use Rattle.lazy_dfa.proofs.Grammar.{NoSuffix, rep_leads, atom_leads, rep_of_atom, rep_some, exact}
use Rattle.lazy_dfa.proofs.Grammar.{at_end, stops_bar}

-- ---- what is read is a part

-- the text begins with a part, and this is behind it
abbrev pub Begins : Kind → List ℕ → Expression → List ℕ → Type 0
Begins kind t e u = (x : List ℕ) × (t ≡ x ++ u) × IsPart kind x e

-- what a test lets pass
cut_is : {X : Type 0} (b : Bool) (x y : X) → (if b then Some x else None) ≡ Some y → (b ≡ true)
    × (x ≡ y)
cut_is true x y h = (refl, cc)
cut_is false x y h = absurd cc

-- equal pairs, part by part
first_of : {A B : Type 0} (a c : A) (b d : B) → ◌≡◌ {A = A × B} (a, b) (c, d) → (a ≡ c) × (b ≡ d)
first_of {A} {B} a c b d e = (ap (λ (x : A × B). x.0) e, ap (λ (x : A × B). x.1) e)

-- equal answers, inside
some_is : {X : Type 0} (x y : X) → Some x ≡ Some y → x ≡ y
some_is x y e = cc

-- what is read as a character of a class is one
character_sound : (t : List ℕ) (c : ℕ) (u : List ℕ) → class_character_at t ≡ Some (c, u)
    → (x : List ℕ) × (t ≡ x ++ u) × ClassCharacter x c
character_sound t c u h = by (behind 92 t) refl h where
  of_plain : (t : List ℕ) → plain_at t ≡ Some (c, u) → (x : List ℕ) × (t ≡ x ++ u)
      × ClassCharacter x c
  of_plain [] h = absurd cc
  of_plain (d ∷ t) h =
      let cut = cut_is (is_plain d) (d, t) (c, u) h in
      let same = first_of d c t u cut.1 in
      (c ∷ [], let a = same.0 in let b = same.1 in cc, plain (ap is_plain (sym same.0) ∙ cut.0))

  of_punct : (v : List ℕ) → t ≡ 92 ∷ v → punctuation_at v ≡ Some (c, u) → (x : List ℕ)
      × (t ≡ x ++ u) × ClassCharacter x c
  of_punct [] e h = absurd cc
  of_punct (d ∷ v) e h =
      let cut = cut_is (is_punctuation d) (d, v) (c, u) h in
      let same = first_of d c v u cut.1 in (
        92 ∷ c ∷ [],
        let a = same.0 in let b = same.1 in cc,
        punct (ap is_punctuation (sym same.0) ∙ cut.0),
      )

  by : (o : Option (List ℕ)) → behind 92 t ≡ o → class_character_by t o ≡ Some (c, u) → (x : List ℕ)
      × (t ≡ x ++ u) × ClassCharacter x c
  by None e h = of_plain t h
  by (Some v) e h = of_punct v (behind_is 92 t v (sym e)) h

-- what is read as an item is one
item_sound : (t : List ℕ) (r : ℕ × ℕ) (u : List ℕ) → item_at t ≡ Some (r, u) → (x : List ℕ)
    × (t ≡ x ++ u) × Item x r
item_sound t r u h = by (behind 92 t) refl h where
  ends : (a : ℕ) (x v w : List ℕ) → t ≡ x ++ v → ClassCharacter x a → v ≡ 45 ∷ w
      → (o : Option (ℕ × List ℕ)) → class_character_at w ≡ o → range_to a o ≡ Some (r, u)
      → (x : List ℕ) × (t ≡ x ++ u) × Item x r
  ends a x v w e c dash None f h = absurd cc
  ends a x v w e c dash (Some y) f h =
      let cut = cut_is (nat_le a y.0) ((a, y.0), y.1) (r, u) h in
      let same = first_of (a, y.0) r y.1 u cut.1 in
      let z = character_sound w y.0 y.1 f in
      let all : t ≡ (x ++ 45 ∷ z.0) ++ u =
      e ∙ ap (λ l. x ++ l) dash ∙ ap (λ l. x ++ (45 ∷ l)) (z.1 ∙ ap (λ l. z.0 ++ l) same.1)
      ∙ sym (append_assoc x (45 ∷ z.0) u) in (
        x ++ 45 ∷ z.0,
        all,
        subst (λ (q : ℕ × ℕ). Item (x ++ 45 ∷ z.0) q) same.0
            (range c z.2 (leb-true a y.0 cut.0)),
      )

  from : (y : ℕ × List ℕ) → class_character_at t ≡ Some y → (o : Option (List ℕ))
      → behind 45 y.1 ≡ o → range_from y o ≡ Some (r, u) → (x : List ℕ) × (t ≡ x ++ u) × Item x r
  from y f None g h =
      let z = character_sound t y.0 y.1 f in
      let same = first_of (y.0, y.0) r y.1 u (some_is ((y.0, y.0), y.1) (r, u) h) in
      (z.0, z.1 ∙ ap (λ l. z.0 ++ l) same.1, subst (λ (q : ℕ × ℕ). Item z.0 q) same.0 (single z.2))
  from y f (Some w) g h = let z = character_sound t y.0 y.1 f in
      ends y.0 z.0 y.1 w z.1 z.2 (behind_is 45 y.1 w (sym g)) (class_character_at w) refl h

  by_character : (o : Option (ℕ × List ℕ)) → class_character_at t ≡ o → range_at o ≡ Some (r, u)
      → (x : List ℕ) × (t ≡ x ++ u) × Item x r
  by_character None f h = absurd cc
  by_character (Some y) f h = from y f (behind 45 y.1) refl h

  by_digits : (o : Option (List ℕ)) → ((v : List ℕ) → o ≡ Some v → t ≡ 92 ∷ (100 ∷ v))
      → item_by t o ≡ Some (r, u) → (x : List ℕ) × (t ≡ x ++ u) × Item x r
  by_digits None e h = by_character (class_character_at t) refl h
  by_digits (Some v) e h =
      let same = first_of (48, 57) r v u (some_is ((48, 57), v) (r, u) h) in (
        92 ∷ 100 ∷ [],
        e v refl ∙ ap (λ l. 92 ∷ (100 ∷ l)) same.1,
        subst (λ (q : ℕ × ℕ). Item (92 ∷ 100 ∷ []) q) same.0 syntax.Item.digits,
      )

  by : (o : Option (List ℕ)) → behind 92 t ≡ o → item_by t (digits_at o) ≡ Some (r, u)
      → (x : List ℕ) × (t ≡ x ++ u) × Item x r
  by None e h = by_digits None (λ v f. absurd cc) h
  by (Some w) e h =
      by_digits (behind 100 w) (λ v f. behind_is 92 t w (sym e)
      ∙ ap (λ l. 92 ∷ l) (behind_is 100 w v (sym f))) h

-- what is read as items are some
items_sound : (k : ℕ) (t : List ℕ) (rs : List (ℕ × ℕ)) (u : List ℕ) → items_at k t ≡ Some (rs, u)
    → (x : List ℕ) × (t ≡ x ++ 93 ∷ u) × Items x rs
unfolding items_at
items_sound zero t rs u h = absurd cc
items_sound (suc k) t rs u h = by_item (item_at t) refl (λ v rs u g. items_sound k v rs u g) h where
  more : (x v : List ℕ) (r : ℕ × ℕ) → t ≡ x ++ v → Item x r
      → ((rs : List (ℕ × ℕ)) (u : List ℕ) → items_at k v ≡ Some (rs, u) → (x : List ℕ)
      × (v ≡ x ++ 93 ∷ u) × Items x rs)
      → (o : Option Classed) → items_at k v ≡ o → with_item r o ≡ Some (rs, u) → (x : List ℕ)
      × (t ≡ x ++ 93 ∷ u) × Items x rs
  more x v r e i inner None g h = absurd cc
  more x v r e i inner (Some y) g h =
      let z = inner y.0 y.1 g in
      let same = first_of (r ∷ y.0) rs y.1 u (some_is (r ∷ y.0, y.1) (rs, u) h) in (
        x ++ z.0,
        e ∙ ap (λ l. x ++ l) (z.1 ∙ ap (λ l. z.0 ++ 93 ∷ l) same.1)
            ∙ sym (append_assoc x z.0 (93 ∷ u)),
        subst (λ (q : List (ℕ × ℕ)). Items (x ++ z.0) q) same.0 (item i z.2),
      )

  by_bracket : (x v : List ℕ) (r : ℕ × ℕ) → t ≡ x ++ v → Item x r
      → ((rs : List (ℕ × ℕ)) (u : List ℕ) → items_at k v ≡ Some (rs, u) → (x : List ℕ)
      × (v ≡ x ++ 93 ∷ u) × Items x rs)
      → (o : Option (List ℕ)) → behind 93 v ≡ o → items_by (items_at k v) r o ≡ Some (rs, u)
      → (x : List ℕ) × (t ≡ x ++ 93 ∷ u) × Items x rs
  by_bracket x v r e i inner None g h = more x v r e i inner (items_at k v) refl h
  by_bracket x v r e i inner (Some w) g h =
      let same = first_of (r ∷ []) rs w u (some_is (r ∷ [], w) (rs, u) h) in (
        x,
        e ∙ ap (λ l. x ++ l) (behind_is 93 v w (sym g) ∙ ap (λ l. 93 ∷ l) same.1),
        subst (λ (q : List (ℕ × ℕ)). Items x q) same.0 (last i),
      )

  by_item : (o : Option Ranged) → item_at t ≡ o
      → ((v : List ℕ) (rs : List (ℕ × ℕ)) (u : List ℕ) → items_at k v ≡ Some (rs, u) → (x : List ℕ)
      × (v ≡ x ++ 93 ∷ u) × Items x rs)
      → items_from (items_at k) o ≡ Some (rs, u) → (x : List ℕ) × (t ≡ x ++ 93 ∷ u) × Items x rs
  by_item None g inner h = absurd cc
  by_item (Some y) g inner h =
      let z = item_sound t y.0 y.1 g in
      by_bracket z.0 y.1 y.0 z.1 z.2 (λ rs u. inner y.1 rs u) (behind 93 y.1) refl h

-- what is read as a single character is an atom
single_sound : (t : List ℕ) (set : CharacterSet) (u : List ℕ) → single_at t ≡ Some (set, u)
    → Begins Atom t (OneOf set) u
single_sound t set u h = by (behind 46 t) (behind 92 t) refl refl h where
  atom : (x : List ℕ) (s : CharacterSet) (v : List ℕ) → t ≡ x ++ v → IsPart Atom x (OneOf s)
      → ◌≡◌ {A = CharacterSet × List ℕ} (s, v) (set, u) → Begins Atom t (OneOf set) u
  atom x s v e p same =
      let q = first_of s set v u same in
      (x, e ∙ ap (λ l. x ++ l) q.1, subst (λ (z : CharacterSet). IsPart Atom x (OneOf z)) q.0 p)

  of_literal : (w : List ℕ) → t ≡ w → literal_at w ≡ Some (set, u) → Begins Atom t (OneOf set) u
  of_literal [] e h = absurd cc
  of_literal (c ∷ w) e h = let cut = cut_is (is_literal c) (only c, w) (set, u) h in
      atom (c ∷ []) (only c) w e (literal cut.0) cut.1

  of_punct : (w : List ℕ) → t ≡ 92 ∷ w
      → option_map {T = ℕ × List ℕ} {U = CharacterSet × List ℕ} (λ x. (only x.0, x.1))
      (punctuation_at w) ≡ Some (set, u) → Begins Atom t (OneOf set) u
  of_punct [] e h = absurd cc
  of_punct (c ∷ w) e h = by_test (is_punctuation c) refl h where
    by_test : (b : Bool) → is_punctuation c ≡ b
        → option_map {T = ℕ × List ℕ} {U = CharacterSet × List ℕ} (λ x. (only x.0, x.1))
        (if b then Some (c, w) else None) ≡ Some (set, u) → Begins Atom t (OneOf set) u
    by_test true p h = atom (92 ∷ c ∷ []) (only c) w e (escaped p) (some_is (only c, w) (set, u) h)
    by_test false p h = absurd cc

  of_escape : (w : List ℕ) → t ≡ 92 ∷ w → (o : Option (List ℕ)) → behind 100 w ≡ o
      → escaped_by w o ≡ Some (set, u) → Begins Atom t (OneOf set) u
  of_escape w e None f h = of_punct w e h
  of_escape w e (Some v) f h =
      atom (92 ∷ 100 ∷ []) digit v (e ∙ ap (λ l. 92 ∷ l) (behind_is 100 w v (sym f)))
      syntax.IsPart.digits (some_is (digit, v) (set, u) h)

  by : (o p : Option (List ℕ)) → behind 46 t ≡ o → behind 92 t ≡ p → single_by t o p ≡ Some (set, u)
      → Begins Atom t (OneOf set) u
  by (Some v) p e f h =
      atom (46 ∷ []) any v (behind_is 46 t v (sym e)) dot (some_is (any, v) (set, u) h)
  by None (Some w) e f h = of_escape w (behind_is 92 t w (sym f)) (behind 100 w) refl h
  by None None e f h = of_literal t refl h

-- alternatives or a sequence: a part begins the text, and so much is behind it
abbrev pub IsRun : Kind → List ℕ → Result Found ℕ → Type 0
IsRun kind t (Ok p) = Begins kind t p.tree p.rest
IsRun kind t (Err l) = (e : Expression) × (u : List ℕ) × (length u ≡ l) × Begins kind t e u

-- an atom or a repetition, if there is one; where it breaks off, all of the text is left
abbrev pub IsOne : Kind → List ℕ → Result (Option Found) ℕ → Type 0
IsOne kind t (Ok (Some p)) = Begins kind t p.tree p.rest
IsOne kind t (Ok None) = Unit {0}
IsOne kind t (Err l) = l ≡ length t

module _ (inside : Reader) (sound : (u : List ℕ) → IsRun Alt u (inside u)) (t : List ℕ) where
  group_sound : (u : List ℕ) → t ≡ 40 ∷ u → (r : Result Found ℕ) → IsRun Alt u r
      → IsOne Atom t (group_of (length t) r)
  group_sound u e (Err l) h = refl
  group_sound u e (Ok p) h = by (behind 41 p.rest) refl where
    by : (o : Option (List ℕ)) → behind 41 p.rest ≡ o → IsOne Atom t (closed_by (length t) p.tree o)
    by None f = refl
    by (Some v) f = (
      40 ∷ h.0 ++ 41 ∷ [],
      e
          ∙ ap (λ l. 40 ∷ l) (h.1 ∙ ap (λ l. h.0 ++ l) (behind_is 41 p.rest v (sym f))
          ∙ sym (append_assoc h.0 (41 ∷ []) v)),
      group h.2,
    )

  class_sound : (negated : Bool) (x v : List ℕ) → t ≡ x ++ v
      → ((y : List ℕ) (rs : List (ℕ × ℕ)) → Items y rs
      → IsPart Atom (x ++ (y ++ 93 ∷ [])) (OneOf (set_of negated rs)))
      → (k : ℕ) (o : Option Classed) → items_at k v ≡ o
      → IsOne Atom t (class_of (length t) negated o)
  class_sound negated x v e part k None f = refl
  class_sound negated x v e part k (Some y) f =
      let z = items_sound k v y.0 y.1 f in (
        x ++ (z.0 ++ 93 ∷ []),
        e ∙ ap (λ l. x ++ l) (z.1 ∙ sym (append_assoc z.0 (93 ∷ []) y.1))
            ∙ sym (append_assoc x (z.0 ++ 93 ∷ []) y.1),
        part z.0 y.0 z.2,
      )

  by_sign : (u : List ℕ) → t ≡ 91 ∷ u → (o : Option (List ℕ)) → behind 94 u ≡ o
      → IsOne Atom t (class_by (length t) u o)
  by_sign u e (Some v) f =
      class_sound true (91 ∷ 94 ∷ []) v (e ∙ ap (λ l. 91 ∷ l) (behind_is 94 u v (sym f)))
      (λ y rs i. others i) (length v) (items_at (length v) v) refl
  by_sign u e None f =
      class_sound false (91 ∷ []) u e (λ y rs i. class i) (length u) (items_at (length u) u) refl

  by_single : (o : Option (CharacterSet × List ℕ)) → single_at t ≡ o
      → IsOne Atom t (Ok (option_map (λ x. found (OneOf x.0) x.1) o))
  by_single None f = tt
  by_single (Some x) f = single_sound t x.0 x.1 f

  by_atom : (o p : Option (List ℕ)) → behind 40 t ≡ o → behind 91 t ≡ p
      → IsOne Atom t (atom_by inside t o p)
  by_atom (Some u) p e f = group_sound u (behind_is 40 t u (sym e)) (inside u) (sound u)
  by_atom None (Some u) e f = by_sign u (behind_is 91 t u (sym f)) (behind 94 u) refl
  by_atom None None e f = by_single (single_at t) refl

  atom_sound : IsOne Atom t (atom_at inside t)
  atom_sound = by_atom (behind 40 t) (behind 91 t) refl refl

  suffix_sound : (p : Found) → Begins Atom t p.tree p.rest → IsOne Rep t (Ok (Some (suffixed p)))
  suffix_sound p h =
      by (behind 42 p.rest) (behind 43 p.rest) (behind 63 p.rest) refl refl refl where
        suffix : (c : ℕ) (v : List ℕ) → Some v ≡ behind c p.rest → t ≡ (h.0 ++ c ∷ []) ++ v
        suffix c v e = h.1 ∙ ap (λ l. h.0 ++ l) (behind_is c p.rest v e)
            ∙ sym (append_assoc h.0 (c ∷ []) v)

        by : (a b c : Option (List ℕ)) → behind 42 p.rest ≡ a → behind 43 p.rest ≡ b
            → behind 63 p.rest ≡ c → IsOne Rep t (Ok (Some (suffixed_by p a b c)))
        by (Some v) b c e f g = (h.0 ++ 42 ∷ [], suffix 42 v (sym e), star h.2)
        by None (Some v) c e f g = (h.0 ++ 43 ∷ [], suffix 43 v (sym f), plus h.2)
        by None None (Some v) e f g = (h.0 ++ 63 ∷ [], suffix 63 v (sym g), optional h.2)
        by None None None e f g = (h.0, h.1, once h.2)

  repeated_sound : (r : Result (Option Found) ℕ) → IsOne Atom t r → IsOne Rep t (repeated r)
  repeated_sound (Err l) h = h
  repeated_sound (Ok None) h = tt
  repeated_sound (Ok (Some p)) h = suffix_sound p h

  by_end : (o : Option (List ℕ)) → behind 36 t ≡ o → IsOne Rep t (rep_by inside t o)
  by_end (Some u) e = (36 ∷ [], behind_is 36 t u (sym e), end)
  by_end None e = repeated_sound (atom_at inside t) atom_sound

  rep_sound : IsOne Rep t (rep_at inside t)
  rep_sound = by_end (behind 36 t) refl

-- a repetition before a sequence
seq_joined : (t : List ℕ) (a : Expression) (x u : List ℕ) → t ≡ x ++ u → IsPart Rep x a
    → (r : Result Found ℕ) → IsRun Seq u r → IsRun Seq t (joined Sequence a r)
seq_joined t a x u e p (Ok q) h =
    (x ++ h.0, e ∙ ap (λ l. x ++ l) h.1 ∙ sym (append_assoc x h.0 q.rest), sequence p h.2)
seq_joined t a x u e p (Err l) h =
    let y = h.3 in (
      Sequence a h.0,
      h.1,
      h.2,
      (x ++ y.0, e ∙ ap (λ l. x ++ l) y.1 ∙ sym (append_assoc x y.0 h.1), sequence p y.2),
    )

-- what is read as a sequence is one
seq_sound : (more : Reader) → ((u : List ℕ) → IsRun Seq u (more u))
    → (t : List ℕ) (r : Result (Option Found) ℕ) → IsOne Rep t r → IsRun Seq t (seq_by more t r)
seq_sound more sound t (Err l) h = (Nothing, t, sym h, ([], refl, nothing))
seq_sound more sound t (Ok None) h = ([], refl, nothing)
seq_sound more sound t (Ok (Some p)) h =
    seq_joined t p.tree h.0 p.rest h.1 h.2 (more p.rest) (sound p.rest)

-- a sequence before alternatives
alt_joined : (t : List ℕ) (a : Expression) (x u : List ℕ) → t ≡ x ++ (124 ∷ u) → IsPart Seq x a
    → (r : Result Found ℕ) → IsRun Alt u r → IsRun Alt t (joined Choice a r)
alt_joined t a x u e p (Ok q) h = (
  x ++ 124 ∷ h.0,
  e ∙ ap (λ l. x ++ (124 ∷ l)) h.1 ∙ sym (append_assoc x (124 ∷ h.0) q.rest),
  choice p h.2,
)
alt_joined t a x u e p (Err l) h =
    let y = h.3 in (
      Choice a h.0,
      h.1,
      h.2,
      (
        x ++ 124 ∷ y.0,
        e ∙ ap (λ l. x ++ (124 ∷ l)) y.1 ∙ sym (append_assoc x (124 ∷ y.0) h.1),
        choice p y.2,
      ),
    )

-- what is read as alternatives are some
alt_sound : (more : Reader) → ((u : List ℕ) → IsRun Alt u (more u))
    → (t : List ℕ) (r : Result Found ℕ) → IsRun Seq t r → IsRun Alt t (alt_by more r)
alt_sound more sound t (Err l) h = let y = h.3 in (h.0, h.1, h.2, (y.0, y.1, one y.2))
alt_sound more sound t (Ok p) h = by (behind 124 p.rest) refl where
  by : (o : Option (List ℕ)) → behind 124 p.rest ≡ o → IsRun Alt t (alt_from more p o)
  by None e = (h.0, h.1, one h.2)
  by (Some u) e =
      alt_joined t p.tree h.0 u (h.1 ∙ ap (λ l. h.0 ++ l) (behind_is 124 p.rest u (sym e))) h.2
      (more u) (sound u)

-- what is read as a run is one
pub both_sound : (k : ℕ) → ((t : List ℕ) → IsRun Alt t (parse k Alternatives t))
    × ((t : List ℕ) → IsRun Seq t (parse k Parts t))
unfolding parse
both_sound zero =
    (λ t. (Nothing, t, refl, ([], refl, one nothing)), λ t. (Nothing, t, refl, ([], refl, nothing)))
both_sound (suc k) =
    let inner = both_sound k in (
      λ t. alt_sound (parse k Alternatives) inner.0 t (parse k Parts t) (inner.1 t),
      λ t. seq_sound (parse k Parts) inner.1 t (rep_at (parse k Alternatives) t)
          (rep_sound (parse k Alternatives) inner.0 t),
    )

-- ---- no longer part begins the text

-- how many characters are left
abbrev pub left_of : Result Found ℕ → ℕ
left_of (Ok p) = length p.rest
left_of (Err l) = l

-- no more is left than there was
left_le : (kind : Kind) (t : List ℕ) (r : Result Found ℕ) → IsRun kind t r → left_of r ≤ length t
left_le kind t (Ok p) h = omega (arith, ap length h.1, length-append h.0 p.rest)
left_le kind t (Err l) h = omega (arith, h.2, ap length h.3.1, length-append h.3.0 h.1)

-- no more is left behind a sequence than there was
parts_left : (k : ℕ) (t : List ℕ) → left_of (parse k Parts t) ≤ length t
parts_left k t = left_le Seq t (parse k Parts t) ((both_sound k).1 t)

-- no more is left behind alternatives than there was
alternatives_left : (k : ℕ) (t : List ℕ) → left_of (parse k Alternatives t) ≤ length t
alternatives_left k t = left_le Alt t (parse k Alternatives t) ((both_sound k).0 t)

-- no more is left behind the sign of a repetition
suffixed_left : (p : Found) → length (suffixed p).rest ≤ length p.rest
suffixed_left p = by (behind 42 p.rest) (behind 43 p.rest) (behind 63 p.rest) refl refl refl where
  by : (a b c : Option (List ℕ)) → behind 42 p.rest ≡ a → behind 43 p.rest ≡ b
      → behind 63 p.rest ≡ c → length (suffixed_by p a b c).rest ≤ length p.rest
  by (Some v) b c e f g = let s = behind_shorter 42 p.rest v (sym e) in omega arith
  by None (Some v) c e f g = let s = behind_shorter 43 p.rest v (sym f) in omega arith
  by None None (Some v) e f g = let s = behind_shorter 63 p.rest v (sym g) in omega arith
  by None None None e f g = omega arith

-- a repetition is read, perhaps with a sign behind it
abbrev pub ReadRep : ℕ → List ℕ → List ℕ → Type 0
ReadRep k u t = (p : Found) × (rep_at (parse k Alternatives) u ≡ Ok (Some p))
    × (length p.rest ≤ length t)

-- reading passes a repetition with which the text begins
rep_left : {x : List ℕ} {e : Expression} → IsPart Rep x e → (t : List ℕ) (k : ℕ)
    → 2 * length (x ++ t) ≤ k → ReadRep k (x ++ t) t
rep_left (once {x = x} {e = e} p) t k le = (
  suffixed (found e t),
  rep_of_atom (parse k Alternatives) (x ++ t) (found e t) (atom_leads t p)
      (exact p t k le),
  suffixed_left (found e t),
)
rep_left (star {x = x} {e = e} p) t k le =
    let all : (x ++ 42 ∷ []) ++ t ≡ x ++ (42 ∷ t) = append_assoc x (42 ∷ []) t in (
      found (Star e) t,
      ap (rep_at (parse k Alternatives)) all
          ∙ rep_of_atom (parse k Alternatives) (x ++ (42 ∷ t)) (found e (42 ∷ t))
          (atom_leads (42 ∷ t) p) (exact p (42 ∷ t) k (omega (arith, le, ap length all))),
      omega arith,
    )
rep_left (plus {x = x} {e = e} p) t k le =
    let all : (x ++ 43 ∷ []) ++ t ≡ x ++ (43 ∷ t) = append_assoc x (43 ∷ []) t in (
      found (Plus e) t,
      ap (rep_at (parse k Alternatives)) all
          ∙ rep_of_atom (parse k Alternatives) (x ++ (43 ∷ t)) (found e (43 ∷ t))
          (atom_leads (43 ∷ t) p) (exact p (43 ∷ t) k (omega (arith, le, ap length all))),
      omega arith,
    )
rep_left (optional {x = x} {e = e} p) t k le =
    let all : (x ++ 63 ∷ []) ++ t ≡ x ++ (63 ∷ t) = append_assoc x (63 ∷ []) t in (
      found (Optional e) t,
      ap (rep_at (parse k Alternatives)) all
          ∙ rep_of_atom (parse k Alternatives) (x ++ (63 ∷ t)) (found e (63 ∷ t))
          (atom_leads (63 ∷ t) p) (exact p (63 ∷ t) k (omega (arith, le, ap length all))),
      omega arith,
    )
rep_left end t k le = (found End t, refl, omega arith)

-- as much is left behind two parts as behind the second
left_joined : (f : Expression → Expression → Expression) (a : Expression) (r : Result Found ℕ)
    → left_of (joined f a r) ≡ left_of r
left_joined f a (Ok p) = refl
left_joined f a (Err l) = refl

-- how a sequence is read
parse-parts : (j : ℕ) (t : List ℕ)
    → parse (suc j) Parts t ≡ seq_by (parse j Parts) t (rep_at (parse j Alternatives) t)
unfolding parse
parse-parts j t = refl

-- how alternatives are read
parse-alternatives : (j : ℕ) (t : List ℕ)
    → parse (suc j) Alternatives t ≡ alt_by (parse j Alternatives) (parse j Parts t)
unfolding parse
parse-alternatives j t = refl

module _ (x : List ℕ) (a : Expression) (p : IsPart Rep x a) (u : List ℕ) (j : ℕ) (q : Found)
    (read : rep_at (parse j Alternatives) (x ++ u) ≡ Ok (Some q)) where
  after_rep : left_of (parse (suc j) Parts (x ++ u)) ≡ left_of (parse j Parts q.rest)
  after_rep = ap left_of (parse-parts j (x ++ u) ∙ ap (seq_by (parse j Parts) (x ++ u)) read)
      ∙ left_joined Sequence q.tree (parse j Parts q.rest)

-- reading passes a sequence with which the text begins
seq_left : {x : List ℕ} {e : Expression} → IsPart Seq x e → (t : List ℕ) (k : ℕ)
    → needed Parts (x ++ t) ≤ k → left_of (parse k Parts (x ++ t)) ≤ length t
seq_left nothing t k le = parts_left k t
seq_left (sequence {x = x} {y = y} {a = a} {b = b} p q) t zero le = absurd (omega arith)
seq_left (sequence {x = x} {a = a} p nothing) t (suc j) le =
    let all : (x ++ []) ++ t ≡ x ++ t = append_assoc x [] t in
    let read = rep_left p t j (omega (arith, le, ap length all)) in
    let here = ap (λ u. left_of (parse (suc j) Parts u)) all ∙ after_rep x a p t j read.0 read.1 in
    let rest = parts_left j read.0.rest in
    omega (arith, here, rest, read.2)
seq_left (sequence {x = x} {a = a} p (sequence {x = v} {y = w} {a = c} {b = d} q more)) t (suc j)
    le =
    let all : (x ++ (v ++ w)) ++ t ≡ x ++ ((v ++ w) ++ t) = append_assoc x (v ++ w) t in
    let clean : NoSuffix ((v ++ w) ++ t) = rw (append_assoc v w t) (rep_leads (w ++ t) q).0 in
    let read = exact p ((v ++ w) ++ t) clean j (omega (arith, le, ap length all)) in
    let here = ap (λ u. left_of (parse (suc j) Parts u)) all
    ∙ after_rep x a p ((v ++ w) ++ t) j (found a ((v ++ w) ++ t)) read in
    let rest =
    seq_left (sequence q more) t j
    (omega (arith, le, ap length all, length-append x ((v ++ w) ++ t), rep_some p)) in
    omega (arith, here, rest)

-- alternatives go on behind a sequence
alt_by_left : (j : ℕ) (r : Result Found ℕ) (n : ℕ) → left_of r ≤ n
    → left_of (alt_by (parse j Alternatives) r) ≤ n
alt_by_left j (Err l) n le = le
alt_by_left j (Ok p) n le = by (behind 124 p.rest) refl where
  by : (o : Option (List ℕ)) → behind 124 p.rest ≡ o
      → left_of (alt_from (parse j Alternatives) p o) ≤ n
  by None e = le
  by (Some u) e = let short = behind_shorter 124 p.rest u (sym e) in
      let rest =
      alternatives_left j u in let same = left_joined Choice p.tree (parse j Alternatives u) in
      omega arith

-- reading passes alternatives with which the text begins
alt_left : {x : List ℕ} {e : Expression} → IsPart Alt x e → (t : List ℕ) (k : ℕ)
    → needed Alternatives (x ++ t) ≤ k → left_of (parse k Alternatives (x ++ t)) ≤ length t
alt_left {x} (one p) t zero le = absurd (omega arith)
alt_left (choice p q) t zero le = absurd (omega arith)
alt_left (one {x = x} p) t (suc j) le =
    let inner = seq_left p t j (omega arith) in
    let same = ap left_of (parse-alternatives j (x ++ t)) in
    let outer = alt_by_left j (parse j Parts (x ++ t)) (length t) inner in
    omega (arith, same, outer)
alt_left (choice {x = x} {y = y} {a = a} {b = b} p q) t (suc j) le =
    let all : (x ++ 124 ∷ y) ++ t ≡ x ++ (124 ∷ (y ++ t)) = append_assoc x (124 ∷ y) t in
    let room : needed Parts (x ++ (124 ∷ (y ++ t))) ≤ j = omega (arith, le, ap length all) in
    let read = exact p (124 ∷ (y ++ t)) (stops_bar (y ++ t)) j room in
    let same = ap (λ u. left_of (parse (suc j) Alternatives u)) all
    ∙ ap left_of (parse-alternatives j (x ++ (124 ∷ (y ++ t)))
    ∙ ap (alt_by (parse j Alternatives)) read)
    ∙ left_joined Choice a (parse j Alternatives (y ++ t)) in
    let rest = alt_left q t j (omega (arith, room, length-append x (124 ∷ (y ++ t)))) in
    omega (arith, same, rest)

-- ---- the whole text

-- the front of a text, by what is left
front_is : (t x u : List ℕ) → t ≡ x ++ u → take (length t - length u) t ≡ x
front_is t x u e =
    let n : length t - length u ≡ length x = omega (arith, ap length e, length-append x u) in
    ap (λ m. take m t) n ∙ ap (take (length x)) e ∙ take-append_seam x u

-- what is read of a text, from as much as it needs
abbrev pub IsRead : List ℕ → Result Found ℕ → Type 0
IsRead t r = parse (needed Alternatives t) Alternatives t ≡ r

-- what is read from however much is read from as much as the text needs
pub is_read : (t : List ℕ) (r : Result Found ℕ) → Reads Alternatives t r → IsRead t r
is_read t r reads = reads.parsed (needed Alternatives t) (omega arith)

-- where reading breaks off stands the end of the longest `alt`
pub longest_at : (t : List ℕ) (r : Result Found ℕ) → IsRead t r
    → (u : List ℕ) (e : Expression) → length u ≡ left_of r → Begins Alt t e u
    → LongestAlt t (length t - left_of r)
longest_at t r reads u e size b = record {
  expression = e;
  within = omega arith;
  prefix = subst (λ (x : List ℕ). IsPart Alt x e)
      (sym (ap (λ n. take (length t - n) t) (sym size) ∙ front_is t b.0 u b.1)) b.2;
  longest = λ k le f h.
      let all : take k t ++ drop k t ≡ t = take-append-drop k t in
      let left = alt_left h (drop k t) (needed Alternatives t) (omega (arith, ap length all)) in
      let same = ap (λ v. left_of (parse (needed Alternatives t) Alternatives v)) all
      ∙ ap left_of reads in
      omega (arith, left, same, length-drop k t);
}

-- the longest `alt`, by what is left
pub longest : (t : List ℕ) (r : Result Found ℕ) → IsRead t r
    → LongestAlt t (length t - left_of r)
longest t r reads =
    by r reads (subst (IsRun Alt t) reads
    ((both_sound (needed Alternatives t)).0 t)) where
      by : (r : Result Found ℕ) → IsRead t r → IsRun Alt t r
          → LongestAlt t (length t - left_of r)
      by (Ok p) reads h = longest_at t (Ok p) reads p.rest p.tree refl h
      by (Err l) reads h = longest_at t (Err l) reads h.1 h.0 h.2 h.3

-- what is read to its end is an `alt`
pub is_alt : (t : List ℕ) (e : Expression) → IsRead t (Ok (found e [])) → alt t e
is_alt t e reads =
    let h : Begins Alt t e [] =
    subst (IsRun Alt t) reads
    ((both_sound (needed Alternatives t)).0 t) in
    subst (λ (x : List ℕ). IsPart Alt x e) (sym (h.1 ∙ append-nil h.0)) h.2

-- an `alt` is read to its end
alt_whole : (t : List ℕ) (e : Expression) (r : Result Found ℕ) → IsRead t r → alt t e
    → r ≡ Ok (found e [])
alt_whole t e r reads h =
    let all : t ++ [] ≡ t = append-nil t in
    let read = exact h [] at_end (needed Alternatives t) (omega (arith, ap length all)) in
    sym reads
    ∙ ap (parse (needed Alternatives t) Alternatives) (sym all) ∙ read

-- what breaks off is no `alt`
pub no_alt_err : (t : List ℕ) (l : ℕ) → IsRead t (Err l) → IsNoAlt t
no_alt_err t l reads = λ e h. let same = alt_whole t e (Err l) reads h in absurd cc

-- what isn't read to its end is no `alt`
pub no_alt_rest : (t : List ℕ) (p : Found) → IsRead t (Ok p) → (length p.rest ≡ 0 → ⊥)
    → IsNoAlt t
no_alt_rest t p reads more = λ e h. more (ap left_of (alt_whole t e (Ok p) reads h))

-- no more is left than there was
pub left_within : (t : List ℕ) (r : Result Found ℕ) → IsRead t r → left_of r ≤ length t
left_within t r reads =
    omega (
      arith,
      alternatives_left (needed Alternatives t) t,
      ap left_of reads,
    )

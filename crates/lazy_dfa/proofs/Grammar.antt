-- What is read is the longest `alt` that the text begins with.
use Rattle.std.proofs.Common.{◌≡◌, ℕ, ◌+◌, ◌*◌, ◌≤◌, ◌<◌, Bool, true, false, List, [], ◌∷◌, ◌++◌}
use Rattle.std.proofs.Common.{length, Some, None, Ok, refl, sym, ap, ◌∙◌, arith, append_assoc}
use Rattle.std.proofs.Common.{length-append}
use Rattle.std.specs.Option.{option_map}
use Rattle.std.specs.Prelude.{◌==◌, if◌then◌else◌}
use Rattle.std.proofs.lemmas.Bool.{eqb-true, eq-eqb, false_from_ne_true, true≢false, le-leb}
use Rattle.lazy_dfa.specs.Expression.{CharacterSet, only, Expression, Nothing, OneOf, Sequence}
use Rattle.lazy_dfa.specs.Expression.{Choice}
use Rattle.lazy_dfa.specs.Syntax.{is_punctuation, is_literal, is_plain, ClassCharacter, plain}
use Rattle.lazy_dfa.specs.Syntax.{punct, Item, single, range, digits, Items, last, item, Kind, Alt}
use Rattle.lazy_dfa.specs.Syntax.{Seq, Rep, Atom, IsPart, one, choice, nothing, sequence, once}
use Rattle.lazy_dfa.specs.Syntax.{star, plus, optional, end, group, dot, class, others, escaped}
use Rattle.lazy_dfa.specs.Syntax.{literal, alt, IsNoAlt, LongestAlt}
use Rattle.lazy_dfa.specs.Syntax as syntax
use Rattle.lazy_dfa.specs.Parsing.{behind, punctuation_at, class_character_at, class_character_by}
use Rattle.lazy_dfa.specs.Parsing.{range_to, range_from, range_at, digits_at, item_by, item_at}
use Rattle.lazy_dfa.specs.Parsing.{items_at, Found, found, Reader, escaped_by, single_by, single_at}
use Rattle.lazy_dfa.specs.Parsing.{class_of, class_by, group_of, atom_by, atom_at, suffixed_by}
use Rattle.lazy_dfa.specs.Parsing.{suffixed, repeated, rep_by, rep_at, joined, seq_by, alt_from}
use Rattle.lazy_dfa.specs.Parsing.{alt_by, Alternatives, Parts, parse, needed}
use Rattle.lazy_dfa.proofs.ReadingSteps.{items_last, items_more, alt_parsed, seq_parsed}

-- ---- characters

-- characters that a test tells apart
unlike : (c d : ℕ) (test : ℕ → Bool) → test c ≡ true → test d ≡ false → (c == d) ≡ false
unlike c d test passes fails =
    false_from_ne_true (c == d) (λ e. true≢false (sym passes ∙ ap test (eqb-true c d e) ∙ fails))

-- the text begins with another character
not_behind : (c d : ℕ) (t : List ℕ) → (c == d) ≡ false → behind d (c ∷ t) ≡ None
not_behind c d t e = ap (λ b. if b then Some t else None) e

-- the text begins with the character
is_behind : (d : ℕ) (t : List ℕ) → behind d (d ∷ t) ≡ Some t
is_behind d t = ap (λ b. if b then Some t else None) (eq-eqb d d refl)

-- ---- classes

-- punctuation is read
punctuation_exact : (c : ℕ) (t : List ℕ) → is_punctuation c ≡ true
    → punctuation_at (c ∷ t) ≡ Some (c, t)
punctuation_exact c t e = ap (λ b. if b then Some (c, t) else None) e

-- a character of a class is read
character_exact : {x : List ℕ} {c : ℕ} (t : List ℕ) → ClassCharacter x c
    → class_character_at (x ++ t) ≡ Some (c, t)
character_exact t (plain {c = c} h) =
    ap (class_character_by (c ∷ t)) (not_behind c 92 t (unlike c 92 is_plain h refl))
    ∙ ap (λ b. if b then Some (c, t) else None) h
character_exact t (punct {c = c} h) = punctuation_exact c t h

-- a character of a class is no `\d`
no_digits : {x : List ℕ} {c : ℕ} (t : List ℕ) → ClassCharacter x c
    → digits_at (behind 92 (x ++ t)) ≡ None
no_digits t (plain {c = c} h) = ap digits_at (not_behind c 92 t (unlike c 92 is_plain h refl))
no_digits t (punct {c = c} h) = not_behind c 100 t (unlike c 100 is_punctuation h refl)

-- a character of a class is no dash, no bracket and no `^`
no_sign : {x : List ℕ} {c : ℕ} (d : ℕ) (t : List ℕ) → is_plain d ≡ false → (92 == d) ≡ false
    → ClassCharacter x c → behind d (x ++ t) ≡ None
no_sign d t fails slash (plain {c = c} h) = not_behind c d t (unlike c d is_plain h fails)
no_sign d t fails slash (punct {c = c} h) = not_behind 92 d (c ∷ t) slash

-- an item is read
item_exact : {x : List ℕ} {r : ℕ × ℕ} (t : List ℕ) → behind 45 t ≡ None → Item x r
    → item_at (x ++ t) ≡ Some (r, t)
item_exact t fails (single {x = x} {c = c} h) =
    ap (item_by (x ++ t)) (no_digits t h) ∙ ap range_at (character_exact t h)
    ∙ ap (range_from (c, t)) fails
item_exact t fails (range {x = x} {y = y} {a = a} {b = b} h g le) =
    let all : (x ++ 45 ∷ y) ++ t ≡ x ++ (45 ∷ (y ++ t)) = append_assoc x (45 ∷ y) t in
    ap item_at all ∙ ap (item_by (x ++ (45 ∷ (y ++ t)))) (no_digits (45 ∷ (y ++ t)) h)
    ∙ ap range_at (character_exact (45 ∷ (y ++ t)) h)
    ∙ ap (range_to a) (character_exact t g)
    ∙ ap (λ z. if z then Some ((a, b), t) else None) (le-leb a b le)
item_exact t fails digits = refl

-- an item doesn't begin with a sign
item_sign : {x : List ℕ} {r : ℕ × ℕ} (d : ℕ) (t : List ℕ) → is_plain d ≡ false → (92 == d) ≡ false
    → Item x r → behind d (x ++ t) ≡ None
item_sign d t fails slash (single h) = no_sign d t fails slash h
item_sign d t fails slash (range {x = x} {y = y} h g le) = ap (behind d) (append_assoc x (45 ∷ y) t)
    ∙ no_sign d (45 ∷ (y ++ t)) fails slash h
item_sign d t fails slash digits = not_behind 92 d (100 ∷ t) slash

-- items don't begin with a sign
items_sign : {x : List ℕ} {rs : List (ℕ × ℕ)} (d : ℕ) (t : List ℕ) → is_plain d ≡ false
    → (92 == d) ≡ false → Items x rs → behind d (x ++ t) ≡ None
items_sign d t fails slash (last h) = item_sign d t fails slash h
items_sign d t fails slash (item {x = x} {y = y} h more) =
    ap (behind d) (append_assoc x y t) ∙ item_sign d (y ++ t) fails slash h

-- items are read
items_exact : {x : List ℕ} {rs : List (ℕ × ℕ)} (t : List ℕ) → Items x rs → (k : ℕ)
    → length (x ++ 93 ∷ t) ≤ k → items_at k (x ++ 93 ∷ t) ≡ Some (rs, t)
items_exact t (last {x = x} {r = r} h) k le =
    items_last (x ++ 93 ∷ t) r (93 ∷ t) t (sym (item_exact (93 ∷ t) refl h)) refl k le
items_exact t (item {x = x} {y = y} {r = r} {rs = rs} h more) k le =
    let all : (x ++ y) ++ 93 ∷ t ≡ x ++ (y ++ 93 ∷ t) = append_assoc x y (93 ∷ t) in
    let room : length (x ++ (y ++ 93 ∷ t)) ≤ k = omega (arith, le, ap length all) in
    ap (items_at k) all
    ∙ items_more (x ++ (y ++ 93 ∷ t)) r (y ++ 93 ∷ t) (Some (rs, t))
    (sym (item_exact (y ++ 93 ∷ t) (items_sign 45 (93 ∷ t) refl refl more) h))
    (sym (items_sign 93 (93 ∷ t) refl refl more))
    (λ j room. items_exact t more j room) k room

-- ---- how parts begin

-- the text doesn't begin with `*`, `+` or `?`
pub record NoSuffix (t : List ℕ) : Type 0 where
  pub star : behind 42 t ≡ None
  pub plus : behind 43 t ≡ None
  pub optional : behind 63 t ≡ None

-- it begins with a character that an atom can begin with
pub record Leads (t : List ℕ) : Type 0 where
  pub suffix : NoSuffix t
  pub end : behind 36 t ≡ None
  pub some : 0 < length t

-- a text that begins with no sign of a repetition
leads : (c : ℕ) (t : List ℕ) → (c == 42) ≡ false → (c == 43) ≡ false → (c == 63) ≡ false
    → (c == 36) ≡ false → Leads (c ∷ t)
leads c t a b d e = record {
  suffix = record {
    star = not_behind c 42 t a;
    plus = not_behind c 43 t b;
    optional = not_behind c 63 t d;
  };
  end = not_behind c 36 t e;
  some = omega arith;
}

-- an atom begins with no sign of a repetition
pub atom_leads : {x : List ℕ} {e : Expression} (t : List ℕ) → IsPart Atom x e → Leads (x ++ t)
atom_leads t (group {x = x} h) = leads 40 ((x ++ 41 ∷ []) ++ t) refl refl refl refl
atom_leads t dot = leads 46 t refl refl refl refl
atom_leads t (class {x = x} h) = leads 91 ((x ++ 93 ∷ []) ++ t) refl refl refl refl
atom_leads t (others {x = x} h) = leads 91 (94 ∷ ((x ++ 93 ∷ []) ++ t)) refl refl refl refl
atom_leads t syntax.digits = leads 92 (100 ∷ t) refl refl refl refl
atom_leads t (escaped {c = c} h) = leads 92 (c ∷ t) refl refl refl refl
atom_leads t (literal {c = c} h) =
    leads c t (unlike c 42 is_literal h refl) (unlike c 43 is_literal h refl)
    (unlike c 63 is_literal h refl) (unlike c 36 is_literal h refl)

-- a repetition begins with no sign of one
pub rep_leads : {x : List ℕ} {e : Expression} (t : List ℕ) → IsPart Rep x e → NoSuffix (x ++ t)
    × (0 < length (x ++ t))
rep_leads t (once h) = let l = atom_leads t h in (l.suffix, l.some)
rep_leads t (star {x = x} h) =
    let l = atom_leads (42 ∷ t) h in rw (append_assoc x (42 ∷ []) t) (l.suffix, l.some)
rep_leads t (plus {x = x} h) =
    let l = atom_leads (43 ∷ t) h in rw (append_assoc x (43 ∷ []) t) (l.suffix, l.some)
rep_leads t (optional {x = x} h) =
    let l = atom_leads (63 ∷ t) h in rw (append_assoc x (63 ∷ []) t) (l.suffix, l.some)
rep_leads t end = (record { star = refl; plus = refl; optional = refl }, omega arith)

-- no part begins there
pub record Stops (t : List ℕ) : Type 0 where
  pub suffix : NoSuffix t
  pub none : (inside : Reader) → rep_at inside t ≡ Ok None

-- the end of the text stops a sequence
stops_end : Stops []
stops_end =
    record { suffix = record { star = refl; plus = refl; optional = refl }; none = λ inside. refl }

-- a `)` stops a sequence
stops_close : (t : List ℕ) → Stops (41 ∷ t)
stops_close t =
    record { suffix = record { star = refl; plus = refl; optional = refl }; none = λ inside. refl }

-- a `|` stops a sequence
pub stops_bar : (t : List ℕ) → Stops (124 ∷ t)
stops_bar t =
    record { suffix = record { star = refl; plus = refl; optional = refl }; none = λ inside. refl }

-- what stands behind an alternative of sequences: nothing, or a closing parenthesis
pub data Closed : List ℕ → Type 0 where
  at_end : Closed []
  at_close : {t : List ℕ} → Closed (41 ∷ t)

-- what ends alternatives stops a sequence
closed_stops : (t : List ℕ) → Closed t → Stops t
closed_stops t at_end = stops_end
closed_stops t (at_close {t = u}) = stops_close u

-- what ends alternatives is no `|`
closed_bar : (t : List ℕ) → Closed t → behind 124 t ≡ None
closed_bar t at_end = refl
closed_bar t at_close = refl

-- ---- each part is read as it is

-- what a part is read as, whatever follows
abbrev pub Exact : Kind → List ℕ → Expression → Type 0
Exact Alt x e = (t : List ℕ) → Closed t → (k : ℕ) → needed Alternatives (x ++ t) ≤ k
    → parse k Alternatives (x ++ t) ≡ Ok (found e t)
Exact Seq x e = (t : List ℕ) → Stops t → (k : ℕ) → needed Parts (x ++ t) ≤ k
    → parse k Parts (x ++ t) ≡ Ok (found e t)
Exact Rep x e = (t : List ℕ) → NoSuffix t → (k : ℕ) → 2 * length (x ++ t) ≤ k
    → rep_at (parse k Alternatives) (x ++ t) ≡ Ok (Some (found e t))
Exact Atom x e = (t : List ℕ) (k : ℕ) → 2 * length (x ++ t) ≤ k
    → atom_at (parse k Alternatives) (x ++ t) ≡ Ok (Some (found e t))

-- the longer of two texts, where the front of one isn't empty
longer : (x t : List ℕ) → length (x ++ t) ≡ length x + length t
longer x t = length-append x t

-- a repetition has characters
pub rep_some : {x : List ℕ} {e : Expression} → IsPart Rep x e → 0 < length x
rep_some {x} r = let l = (rep_leads [] r).1 in omega (arith, longer x [], l)

-- no sign of a repetition follows
suffixed_none : (e : Expression) (t : List ℕ) → NoSuffix t → suffixed (found e t) ≡ found e t
suffixed_none e t fails = ap (λ o. suffixed_by (found e t) o (behind 43 t) (behind 63 t)) fails.star
    ∙ ap (λ o. suffixed_by (found e t) None o (behind 63 t)) fails.plus
    ∙ ap (λ o. suffixed_by (found e t) None None o) fails.optional

-- a repetition is its atom, with what follows it
pub rep_of_atom : (inside : Reader) (u : List ℕ) (p : Found) → Leads u
    → atom_at inside u ≡ Ok (Some p) → rep_at inside u ≡ Ok (Some (suffixed p))
rep_of_atom inside u p l h = ap (rep_by inside u) l.end ∙ ap repeated h

-- a single character is an atom
single_atom : (inside : Reader) (t : List ℕ) (x : CharacterSet × List ℕ) → behind 40 t ≡ None
    → behind 91 t ≡ None → single_at t ≡ Some x
    → atom_at inside t ≡ Ok (Some (found (OneOf x.0) x.1))
single_atom inside t x no_group no_class h =
    ap (λ o. atom_by inside t o (behind 91 t)) no_group ∙ ap (atom_by inside t None) no_class
    ∙ ap (λ o. Ok (option_map (λ y. found (OneOf y.0) y.1) o)) h

-- a sequence begins with no sign of a repetition
seq_suffix : {y : List ℕ} {b : Expression} → IsPart Seq y b → (t : List ℕ) → NoSuffix t
    → NoSuffix (y ++ t)
seq_suffix nothing t clean = clean
seq_suffix (sequence {x = u} {y = v} p q) t clean = rw (append_assoc u v t) (rep_leads (v ++ t) p).0

-- each part of the grammar is read as its expression
pub exact : {kind : Kind} {x : List ℕ} {e : Expression} → IsPart kind x e → Exact kind x e
exact (one {x = x} {e = e} p) = λ t closed k le.
    (alt_parsed (x ++ t) (Ok (found e t))
    (λ j room. ap (alt_by (parse j Alternatives)) (exact p t (closed_stops t closed) j room)
    ∙ ap (alt_from (parse j Alternatives) (found e t)) (closed_bar t closed))).parsed k le
exact (choice {x = x} {y = y} {a = a} {b = b} p q) = λ t closed k le.
    let all : (x ++ 124 ∷ y) ++ t ≡ x ++ (124 ∷ (y ++ t)) = append_assoc x (124 ∷ y) t in
    let room : needed Alternatives (x ++ (124 ∷ (y ++ t))) ≤ k = omega (arith, le, ap length all) in
    ap (parse k Alternatives) all
    ∙ (alt_parsed (x ++ (124 ∷ (y ++ t))) (Ok (found (Choice a b) t)) (λ j enough.
    let less : needed Alternatives (y ++ t) ≤ j =
    omega (arith, enough, longer x (124 ∷ (y ++ t))) in
    ap (alt_by (parse j Alternatives)) (exact p (124 ∷ (y ++ t)) (stops_bar (y ++ t)) j enough)
    ∙ ap (joined Choice a) (exact q t closed j less))).parsed k room
exact nothing =
    λ t stops k le. (seq_parsed t (Ok (found Nothing t))
    (λ j room. ap (seq_by (parse j Parts) t) (stops.none (parse j Alternatives)))).parsed k le
exact (sequence {x = x} {y = y} {a = a} {b = b} p q) = λ t stops k le.
    let all : (x ++ y) ++ t ≡ x ++ (y ++ t) = append_assoc x y t in
    let room : needed Parts (x ++ (y ++ t)) ≤ k = omega (arith, le, ap length all) in
    ap (parse k Parts) all
    ∙ (seq_parsed (x ++ (y ++ t)) (Ok (found (Sequence a b) t)) (λ j enough.
    let less : needed Parts (y ++ t) ≤ j = omega (arith, enough, longer x (y ++ t), rep_some p) in
    ap (seq_by (parse j Parts) (x ++ (y ++ t)))
    (exact p (y ++ t) (seq_suffix q t stops.suffix) j enough)
    ∙ ap (joined Sequence a) (exact q t stops j less))).parsed k room
exact (once {x = x} {e = e} p) = λ t fails k le.
    rep_of_atom (parse k Alternatives) (x ++ t) (found e t) (atom_leads t p) (exact p t k le)
    ∙ ap (λ f. Ok (Some f)) (suffixed_none e t fails)
exact (star {x = x} {e = e} p) = λ t fails k le.
    let all : (x ++ 42 ∷ []) ++ t ≡ x ++ (42 ∷ t) = append_assoc x (42 ∷ []) t in
    ap (rep_at (parse k Alternatives)) all
    ∙ rep_of_atom (parse k Alternatives) (x ++ (42 ∷ t)) (found e (42 ∷ t))
    (atom_leads (42 ∷ t) p) (exact p (42 ∷ t) k (omega (arith, le, ap length all)))
exact (plus {x = x} {e = e} p) = λ t fails k le.
    let all : (x ++ 43 ∷ []) ++ t ≡ x ++ (43 ∷ t) = append_assoc x (43 ∷ []) t in
    ap (rep_at (parse k Alternatives)) all
    ∙ rep_of_atom (parse k Alternatives) (x ++ (43 ∷ t)) (found e (43 ∷ t))
    (atom_leads (43 ∷ t) p) (exact p (43 ∷ t) k (omega (arith, le, ap length all)))
exact (optional {x = x} {e = e} p) = λ t fails k le.
    let all : (x ++ 63 ∷ []) ++ t ≡ x ++ (63 ∷ t) = append_assoc x (63 ∷ []) t in
    ap (rep_at (parse k Alternatives)) all
    ∙ rep_of_atom (parse k Alternatives) (x ++ (63 ∷ t)) (found e (63 ∷ t))
    (atom_leads (63 ∷ t) p) (exact p (63 ∷ t) k (omega (arith, le, ap length all)))
exact end = λ t fails k le. refl
exact (group {x = x} {e = e} p) = λ t k le.
    let all : (x ++ 41 ∷ []) ++ t ≡ x ++ (41 ∷ t) = append_assoc x (41 ∷ []) t in
    let room : needed Alternatives (x ++ (41 ∷ t)) ≤ k =
    let l : length (40 ∷ ((x ++ 41 ∷ []) ++ t)) ≡ length (x ++ (41 ∷ t)) + 1 =
    omega (arith, ap length all) in omega arith in
    ap (λ u. group_of (length (40 ∷ u)) (parse k Alternatives u)) all
    ∙ ap (group_of (length (40 ∷ (x ++ (41 ∷ t))))) (exact p (41 ∷ t) at_close k room)
exact dot = λ t k le. refl
exact (class {x = x} {rs = rs} p) = λ t k le.
    let all : (x ++ 93 ∷ []) ++ t ≡ x ++ (93 ∷ t) = append_assoc x (93 ∷ []) t in
    ap (λ u. class_by (length (91 ∷ u)) u (behind 94 u)) all
    ∙ ap (class_by (length (91 ∷ (x ++ (93 ∷ t)))) (x ++ (93 ∷ t)))
    (items_sign 94 (93 ∷ t) refl refl p)
    ∙ ap (class_of (length (91 ∷ (x ++ (93 ∷ t)))) false)
    (items_exact t p (length (x ++ (93 ∷ t))) (omega arith))
exact (others {x = x} {rs = rs} p) = λ t k le.
    let all : (x ++ 93 ∷ []) ++ t ≡ x ++ (93 ∷ t) = append_assoc x (93 ∷ []) t in
    ap (λ u. class_of (length (91 ∷ (94 ∷ u))) true (items_at (length u) u)) all
    ∙ ap (class_of (length (91 ∷ (94 ∷ (x ++ (93 ∷ t))))) true)
    (items_exact t p (length (x ++ (93 ∷ t))) (omega arith))
exact syntax.digits = λ t k le. refl
exact (escaped {c = c} h) = λ t k le.
    ap (λ o. Ok (option_map (λ y. found (OneOf y.0) y.1) o))
    (ap (escaped_by (c ∷ t)) (not_behind c 100 t (unlike c 100 is_punctuation h refl))
    ∙ ap (option_map (λ x. (only x.0, x.1))) (punctuation_exact c t h))
exact (literal {c = c} h) = λ t k le.
    single_atom (parse k Alternatives) (c ∷ t) (only c, t)
    (not_behind c 40 t (unlike c 40 is_literal h refl))
    (not_behind c 91 t (unlike c 91 is_literal h refl))
    (ap (λ o. single_by (c ∷ t) o (behind 92 (c ∷ t)))
    (not_behind c 46 t (unlike c 46 is_literal h refl))
    ∙ ap (single_by (c ∷ t) None) (not_behind c 92 t (unlike c 92 is_literal h refl))
    ∙ ap (λ b. if b then Some (only c, t) else None) h)

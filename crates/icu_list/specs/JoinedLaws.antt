-- Laws of joined lists.
use Rattle.std.specs.Prelude.{if◌then◌else◌}
use Rattle.std.specs.List.{fold}
use Rattle.std.proofs.Common.{◌≡◌, ℕ, ◌+◌, ◌*◌, Bool, true, false, List, [], ◌∷◌, ◌++◌, length}
use Rattle.std.proofs.Common.{Option, Some, None, map, refl, sym, ap, subst, ◌∙◌, arith}
use Rattle.std.proofs.lemmas.List.{length-map}
use Rattle.std.proofs.lemmas.Grind.{common_steps}
use Rattle.writeable_core.specs.declared.length_hint.LengthHint.{LengthHint}
use Rattle.writeable_core.specs.Hint.{byte_length, Hinted, exact, hint_sum, hint_times, hint_either}
use Rattle.writeable_core.specs.Hint.{text_hint}
use Rattle.writeable_core.specs.HintLaws.{Hinted-exact, Hinted-sum, byte_length-append}
use Rattle.writeable_core.specs.Marks.{Mark, plain, characters, Nests, nothing}
use Rattle.writeable_core.specs.MarksLaws.{characters-plain, characters-inside, characters-both}
use Rattle.writeable_core.specs.MarksLaws.{Nests-plain, Nests-append, Nests-inside}
use Rattle.icu_list.specs.Pattern.{Pattern, texts}
use Rattle.icu_list.specs.Patterns.{Closing, Ending, SpecialClosing, SpecialPattern, Pair, Patterns}
use Rattle.icu_list.specs.Patterns.{whole, closing_for, pattern_for, end_for, two_by, two_for}
use Rattle.icu_list.specs.Joined.{last_of, end, rest, nested, as_it_is, joined, element}
use Rattle.icu_list.specs.Joined.{element_name, literal, literal_name, marked_joined}
use Rattle.icu_list.specs.ListHint.{pattern_hint, opening_hint, closing_hint, choice_hint, end_hint}
use Rattle.icu_list.specs.ListHint.{pair_hint, patterns_hint, items_hint, list_hint}
use Rattle.icu_list.specs.Conditions.{applies}

-- ---- the characters of the marked text are the text

-- the characters of a pattern's text
characters_literal : (text : List ℕ) → characters (literal text) ≡ text
characters_literal text = characters-inside literal_name (plain text) ∙ characters-plain text

-- the characters of three marked texts
characters_three : (a : List ℕ) (m k : List Mark) (t u : List ℕ) → characters m ≡ t
    → characters k ≡ u → characters (m ++ (literal a ++ k)) ≡ t ++ (a ++ u)
characters_three a m k t u e f =
    characters-both m (literal a ++ k) e (characters-both (literal a) k (characters_literal a) f)

module _ {X : Type 0} (text : X → List ℕ) (marked : X → List Mark)
    (same : (x : X) → characters (marked x) ≡ text x) where
  -- the characters of an item
  item : (x : X) → characters (element (marked x)) ≡ text x
  item x = characters-inside element_name (marked x) ∙ same x

  -- the characters of the last two items
  end_characters : (p : Closing) (m : List Mark) (t : List ℕ) (x : X) → characters m ≡ t
      → characters (end literal p m (element (marked x))) ≡ end as_it_is p t (text x)
  end_characters p m t x e =
      characters_three p.between m (element (marked x) ++ literal p.suffix) t (text x ++ p.suffix) e
      (characters-both (element (marked x)) (literal p.suffix) (item x)
      (characters_literal p.suffix))

  -- the characters of an item and those behind it
  rest_characters : (between : List ℕ) (p : Closing) (m : List Mark) (t : List ℕ) (xs : List X)
      → characters m ≡ t
      → characters (rest literal between p m (map element (map marked xs)))
      ≡ rest as_it_is between p t (map text xs)
  rest_characters between p m t [] e = e
  rest_characters between p m t (x ∷ []) e = end_characters p m t x e
  rest_characters between p m t (x ∷ y ∷ xs) e =
      characters_three between m
      (rest literal between p (element (marked x))
      (element (marked y) ∷ map element (map marked xs))) t
      (rest as_it_is between p (text x) (text y ∷ map text xs)) e
      (rest_characters between p (element (marked x)) (text x) (y ∷ xs) (item x))

  -- the characters of all items
  nested_characters : (p : Patterns) (last : List ℕ) (xs : List X)
      → characters (nested literal p last (map element (map marked xs)))
      ≡ nested as_it_is p last (map text xs)
  nested_characters p last [] = refl
  nested_characters p last (x ∷ []) = item x
  nested_characters p last (x ∷ y ∷ []) =
      let q : Pattern = two_for p last in
      characters-both (literal q.prefix)
      (element (marked x) ++ (literal q.between ++ (element (marked y) ++ literal q.suffix)))
      (characters_literal q.prefix)
      (characters_three q.between (element (marked x)) (element (marked y) ++ literal q.suffix)
      (text x) (text y ++ q.suffix) (item x)
      (characters-both (element (marked y)) (literal q.suffix) (item y)
      (characters_literal q.suffix)))
  nested_characters p last (x ∷ y ∷ z ∷ xs) =
      let inner : List Mark =
      rest literal p.middle (end_for p last) (element (marked y))
      (element (marked z) ∷ map element (map marked xs)) in
      characters-both (literal p.start.prefix)
      (element (marked x) ++ (literal p.start.between ++ inner))
      (characters_literal p.start.prefix)
      (characters_three p.start.between (element (marked x)) inner (text x)
      (rest as_it_is p.middle (end_for p last) (text y) (text z ∷ map text xs)) (item x)
      (rest_characters p.middle (end_for p last) (element (marked y)) (text y) (z ∷ xs) (item y)))

-- the characters of the marked text are the text
pub joined_characters :
    {X : Type 0} (p : Patterns) (xs : List X) (text : X → List ℕ) (marked : X → List Mark)
    → ((x : X) → characters (marked x) ≡ text x)
    → characters (marked_joined p (map text xs) (map marked xs)) ≡ joined p (map text xs)
joined_characters p xs text marked same =
    nested_characters text marked same p (last_of (map text xs)) xs

-- ---- the marks nest

-- a pattern's text nests
nests_literal : (text : List ℕ) → Nests (literal text)
nests_literal text = Nests-inside literal_name (plain text) (Nests-plain text)

-- three marked texts nest
nests_three : (a : List ℕ) (m k : List Mark) → Nests m → Nests k → Nests (m ++ (literal a ++ k))
nests_three a m k n o =
    Nests-append m (literal a ++ k) n (Nests-append (literal a) k (nests_literal a) o)

module _ {X : Type 0} (marked : X → List Mark) (nests : (x : X) → Nests (marked x)) where
  -- an item nests
  nests_item : (x : X) → Nests (element (marked x))
  nests_item x = Nests-inside element_name (marked x) (nests x)

  -- the last item nests
  nests_last : (s : List ℕ) (x : X) → Nests (element (marked x) ++ literal s)
  nests_last s x = Nests-append (element (marked x)) (literal s) (nests_item x) (nests_literal s)

  -- an item and those behind it nest
  rest_nests : (between : List ℕ) (p : Closing) (m : List Mark) (xs : List X) → Nests m
      → Nests (rest literal between p m (map element (map marked xs)))
  rest_nests between p m [] n = n
  rest_nests between p m (x ∷ []) n =
      nests_three p.between m (element (marked x) ++ literal p.suffix) n (nests_last p.suffix x)
  rest_nests between p m (x ∷ y ∷ xs) n =
      nests_three between m
      (rest literal between p (element (marked x))
      (element (marked y) ∷ map element (map marked xs))) n
      (rest_nests between p (element (marked x)) (y ∷ xs) (nests_item x))

  -- all items nest
  nested_nests : (p : Patterns) (last : List ℕ) (xs : List X)
      → Nests (nested literal p last (map element (map marked xs)))
  nested_nests p last [] = nothing
  nested_nests p last (x ∷ []) = nests_item x
  nested_nests p last (x ∷ y ∷ []) =
      let q : Pattern = two_for p last in
      Nests-append (literal q.prefix)
      (element (marked x) ++ (literal q.between ++ (element (marked y) ++ literal q.suffix)))
      (nests_literal q.prefix)
      (nests_three q.between (element (marked x)) (element (marked y) ++ literal q.suffix)
      (nests_item x) (nests_last q.suffix y))
  nested_nests p last (x ∷ y ∷ z ∷ xs) =
      let inner : List Mark =
      rest literal p.middle (end_for p last) (element (marked y))
      (element (marked z) ∷ map element (map marked xs)) in
      Nests-append (literal p.start.prefix)
      (element (marked x) ++ (literal p.start.between ++ inner)) (nests_literal p.start.prefix)
      (nests_three p.start.between (element (marked x)) inner (nests_item x)
      (rest_nests p.middle (end_for p last) (element (marked y)) (z ∷ xs) (nests_item y)))

-- the marked text nests
pub joined_nests :
    {X : Type 0} (p : Patterns) (xs : List X) (text : X → List ℕ) (marked : X → List Mark)
    → ((x : X) → Nests (marked x))
    → Nests (marked_joined p (map text xs) (map marked xs))
joined_nests p xs text marked nests = nested_nests marked nests p (last_of (map text xs)) xs

-- ---- the text lies in the hint

-- a length some times
Hinted-times : (a : LengthHint) (x n : ℕ) → Hinted a x → Hinted (hint_times a n) (x * n)
Hinted-times a x n p = grind (arith, common_steps)

-- the first of two
Hinted-left : (a b : LengthHint) (x : ℕ) → Hinted a x → Hinted (hint_either a b) x
Hinted-left a b x p = grind (arith, common_steps)

-- the second of two
Hinted-right : (a b : LengthHint) (x : ℕ) → Hinted b x → Hinted (hint_either a b) x
Hinted-right a b x p = grind (arith, common_steps)

-- the pattern that is chosen lies in the hint of both
closing_hinted : (default : Closing) (special : Option SpecialClosing) (last : List ℕ)
    → Hinted (closing_hint default special)
    (byte_length (texts (whole (closing_for default special last))))
closing_hinted default None last = Hinted-exact (byte_length (texts (whole default)))
closing_hinted default (Some s) last = by (applies s.condition last) where
  by : (b : Bool)
      → Hinted (closing_hint default (Some s))
      (byte_length (texts (whole (if b then s.pattern else default))))
  by true = Hinted-right (pattern_hint (whole default)) (pattern_hint (whole s.pattern))
      (byte_length (texts (whole s.pattern))) (Hinted-exact (byte_length (texts (whole s.pattern))))
  by false = Hinted-left (pattern_hint (whole default)) (pattern_hint (whole s.pattern))
      (byte_length (texts (whole default))) (Hinted-exact (byte_length (texts (whole default))))

-- the same of a pair
pattern_hinted : (default : Pattern) (special : Option SpecialPattern) (last : List ℕ)
    → Hinted (choice_hint default special) (byte_length (texts (pattern_for default special last)))
pattern_hinted default None last = Hinted-exact (byte_length (texts default))
pattern_hinted default (Some s) last = by (applies s.condition last) where
  by : (b : Bool)
      → Hinted (choice_hint default (Some s))
      (byte_length (texts (if b then s.pattern else default)))
  by true =
      Hinted-right (pattern_hint default) (pattern_hint s.pattern) (byte_length (texts s.pattern))
      (Hinted-exact (byte_length (texts s.pattern)))
  by false =
      Hinted-left (pattern_hint default) (pattern_hint s.pattern) (byte_length (texts default))
      (Hinted-exact (byte_length (texts default)))

-- the pattern of two items lies in its hint
pair_hinted : (e : Ending) (pair : Option Pair) (last : List ℕ)
    → Hinted (pair_hint e pair)
    (byte_length (texts (two_by (closing_for e.default e.special last) pair last)))
pair_hinted e None last = closing_hinted e.default e.special last
pair_hinted e (Some pair) last = pattern_hinted pair.default pair.special last

-- the bytes of three texts
pub append_three : (a b c : List ℕ)
    → byte_length (a ++ (b ++ c)) ≡ byte_length a + (byte_length b + byte_length c)
append_three a b c =
    byte_length-append a (b ++ c) ∙ ap (λ n. byte_length a + n) (byte_length-append b c)

module _ {X : Type 0} (text : X → List ℕ) (hint : X → LengthHint)
    (hinted : (x : X) → Hinted (hint x) (byte_length (text x))) where
  -- the items' bytes
  abbrev pub total : List X → ℕ
  total [] = 0
  total (x ∷ xs) = byte_length (text x) + total xs

  -- the items lie in their hint
  fold_hinted : (h : LengthHint) (n : ℕ) (xs : List X) → Hinted h n
      → Hinted (fold hint_sum h (map hint xs)) (n + total xs)
  fold_hinted h n [] p = subst (λ (m : ℕ). Hinted h m) (omega arith) p
  fold_hinted h n (x ∷ xs) p =
      subst (λ (m : ℕ). Hinted (fold hint_sum (hint_sum h (hint x)) (map hint xs)) m) (omega arith)
      (fold_hinted (hint_sum h (hint x)) (n + byte_length (text x)) xs
      (Hinted-sum h (hint x) n (byte_length (text x)) p (hinted x)))

  -- the items' part and the patterns' part
  together : (p : Patterns) (xs : List X) (n t : ℕ) → t ≡ total xs + n
      → Hinted (patterns_hint p (length (map hint xs))) n → Hinted (list_hint p (map hint xs)) t
  together p xs n t e h =
      subst (λ (m : ℕ). Hinted (list_hint p (map hint xs)) m) (omega (arith, e))
      (Hinted-sum (items_hint (map hint xs)) (patterns_hint p (length (map hint xs)))
      (0 + total xs) n (fold_hinted (exact 0) 0 xs (Hinted-exact 0)) h)

  -- the bytes of an item and those behind it, up to the last
  pub rest_bytes : (between : List ℕ) (c : Closing) (t : List ℕ) (x : X) (xs : List X)
      → byte_length (rest as_it_is between c t (map text (x ∷ xs))) ≡ byte_length t
      + (total (x ∷ xs) + (byte_length between * length xs + byte_length (texts (whole c))))
  rest_bytes between c t x [] =
      let one = append_three t c.between (text x ++ c.suffix) in
      let two = byte_length-append (text x) c.suffix in
      let three = byte_length-append c.between c.suffix in
      omega arith
  rest_bytes between c t x (y ∷ ys) =
      let one = append_three t between (rest as_it_is between c (text x) (map text (y ∷ ys))) in
      let more = rest_bytes between c (text x) y ys in
      omega arith

  -- all of the text lies in the hint
  nested_hinted : (p : Patterns) (last : List ℕ) (xs : List X)
      → Hinted (list_hint p (map hint xs)) (byte_length (nested as_it_is p last (map text xs)))
  nested_hinted p last [] = together p [] 0 0 (omega arith) (Hinted-exact 0)
  nested_hinted p last (x ∷ []) =
      together p (x ∷ []) 0 (byte_length (text x)) (omega arith) (Hinted-exact 0)
  nested_hinted p last (x ∷ y ∷ []) =
      let q : Pattern = two_for p last in
      let one = append_three q.prefix (text x) (q.between ++ (text y ++ q.suffix)) in
      let two = append_three q.between (text y) q.suffix in
      let three = append_three q.prefix q.between q.suffix in
      together p (x ∷ y ∷ []) (byte_length (texts q))
      (byte_length (nested as_it_is p last (map text (x ∷ y ∷ [])))) (omega arith)
      (pair_hinted p.end p.pair last)
  nested_hinted p last (x ∷ y ∷ z ∷ xs) =
      let c : Closing = end_for p last in
      let inner : List ℕ = rest as_it_is p.middle c (text y) (map text (z ∷ xs)) in
      let one = append_three p.start.prefix (text x) (p.start.between ++ inner) in
      let two = byte_length-append p.start.between inner in
      let three = byte_length-append p.start.prefix p.start.between in
      let more = rest_bytes p.middle c (text y) z xs in
      let same : length (map hint xs) ≡ length xs = length-map xs hint in
      let middles :
      Hinted (hint_times (text_hint p.middle) (length (map hint xs)))
      (byte_length p.middle * length xs) =
      subst
      (λ (n : ℕ). Hinted (hint_times (text_hint p.middle) n) (byte_length p.middle * length xs))
      (sym same)
      (Hinted-times (text_hint p.middle) (byte_length p.middle) (length xs)
      (Hinted-exact (byte_length p.middle))) in
      together p (x ∷ y ∷ z ∷ xs)
      ((byte_length (p.start.prefix ++ p.start.between) + byte_length p.middle * length xs)
      + byte_length (texts (whole c)))
      (byte_length (nested as_it_is p last (map text (x ∷ y ∷ z ∷ xs)))) (omega arith)
      (Hinted-sum
      (hint_sum (opening_hint p.start) (hint_times (text_hint p.middle) (length (map hint xs))))
      (end_hint p.end)
      (byte_length (p.start.prefix ++ p.start.between) + byte_length p.middle * length xs)
      (byte_length (texts (whole c)))
      (Hinted-sum (opening_hint p.start) (hint_times (text_hint p.middle) (length (map hint xs)))
      (byte_length (p.start.prefix ++ p.start.between)) (byte_length p.middle * length xs)
      (Hinted-exact (byte_length (p.start.prefix ++ p.start.between))) middles)
      (closing_hinted p.end.default p.end.special last))

-- the text of a list lies in its hint
pub joined_hinted :
    {X : Type 0} (p : Patterns) (xs : List X) (text : X → List ℕ) (hint : X → LengthHint)
    → ((x : X) → Hinted (hint x) (byte_length (text x)))
    → Hinted (list_hint p (map hint xs)) (byte_length (joined p (map text xs)))
joined_hinted p xs text hint hinted = nested_hinted text hint hinted p (last_of (map text xs)) xs

-- Without specials, the hint of a list of texts is exact.
use Rattle.std.specs.Prelude.{if◌then◌else◌, ◌^◌, ◌-◌, IfSome}
use Rattle.std.specs.List.{fold}
use Rattle.std.proofs.Common.{◌≡◌, ℕ, ◌+◌, ◌*◌, ◌<◌, List, [], ◌∷◌, ◌++◌, length, Option, Some}
use Rattle.std.proofs.Common.{None, map, refl, sym, ap, ◌∙◌, arith}
use Rattle.std.proofs.lemmas.Bool.{le-leb}
use Rattle.std.proofs.lemmas.List.{length-map}
use Rattle.writeable_core.specs.declared.length_hint.LengthHint.{LengthHint}
use Rattle.writeable_core.specs.Hint.{byte_length, exact, saturated, fitting, hint_sum, hint_times}
use Rattle.writeable_core.specs.Hint.{text_hint}
use Rattle.writeable_core.specs.HintLaws.{Hinted-exact, byte_length-append}
use Rattle.icu_list.specs.Pattern.{Pattern, texts}
use Rattle.icu_list.specs.Patterns.{Closing, Ending, SpecialClosing, SpecialPattern, Pair, Patterns}
use Rattle.icu_list.specs.Patterns.{whole, closing_for, pattern_for, end_for, two_by, two_for}
use Rattle.icu_list.specs.Joined.{last_of, rest, nested, as_it_is, joined}
use Rattle.icu_list.specs.JoinedLaws.{append_three, total, rest_bytes}
use Rattle.icu_list.specs.ListHint.{opening_hint, closing_hint, choice_hint, end_hint, pair_hint}
use Rattle.icu_list.specs.ListHint.{patterns_hint, items_hint, list_hint}
use Rattle.icu_list.specs.LawsOfLists.{HasNoSpecial}

-- a number that fits is its own bound
bounds : (n : ℕ) (k : ℕ) (o : Option ℕ) → k ≡ n → o ≡ Some n
    → ◌≡◌ {A = LengthHint} (record { 0 = k; 1 = o }) (exact n)
bounds n k o e f = rw (e, f) refl

-- a number that fits is no greater than the greatest `usize`
fits_below : (n : ℕ) → n < 2 ^ 64 → saturated n ≡ n
fits_below n lt = omega (arith, lt)

-- a number that fits is an upper bound
fits_above : (n : ℕ) → n < 2 ^ 64 → fitting n ≡ Some n
fits_above n lt = ap (λ b. if b then Some n else None) (le-leb n (2 ^ 64 - 1) (omega (arith, lt)))

-- the sum of exact hints is exact where it fits
sum_exact : (a b : LengthHint) (x y : ℕ) → a ≡ exact x → b ≡ exact y → x + y < 2 ^ 64
    → hint_sum a b ≡ exact (x + y)
sum_exact a b x y e f lt =
    ap (λ h. hint_sum h b) e ∙ ap (hint_sum (exact x)) f
    ∙ bounds (x + y) (saturated (x + y)) (fitting (x + y)) (fits_below (x + y) lt)
    (fits_above (x + y) lt)

-- an exact hint some times is exact where it fits
times_exact : (x n : ℕ) → x * n < 2 ^ 64 → hint_times (exact x) n ≡ exact (x * n)
times_exact x n lt =
    bounds (x * n) (saturated (x * n)) (fitting (x * n)) (fits_below (x * n) lt)
    (fits_above (x * n) lt)

-- patterns without special
closing_exact : (default : Closing) (special : Option SpecialClosing) (last : List ℕ)
    → special ≡ None
    → closing_hint default special
    ≡ exact (byte_length (texts (whole (closing_for default special last))))
closing_exact default None last h = refl
closing_exact default (Some s) last h = absurd cc

-- the pattern of a stored pair
choice_exact : (default : Pattern) (special : Option SpecialPattern) (last : List ℕ)
    → special ≡ None
    → choice_hint default special ≡ exact (byte_length (texts (pattern_for default special last)))
choice_exact default None last h = refl
choice_exact default (Some s) last h = absurd cc

-- the pattern of two items
pair_exact : (e : Ending) (pair : Option Pair) (last : List ℕ) → e.special ≡ None
    → IfSome pair (λ p. p.special ≡ None)
    → pair_hint e pair
    ≡ exact (byte_length (texts (two_by (closing_for e.default e.special last) pair last)))
pair_exact e None last h k = closing_exact e.default e.special last h
pair_exact e (Some pair) last h k = choice_exact pair.default pair.special last k

-- the bytes of texts
abbrev sum : List (List ℕ) → ℕ
sum items = total (λ (t : List ℕ). t) text_hint (λ t. Hinted-exact (byte_length t)) items

-- the items' part
fold_exact : (h : LengthHint) (n : ℕ) (xs : List (List ℕ)) → h ≡ exact n → n + sum xs < 2 ^ 64
    → fold hint_sum h (map text_hint xs) ≡ exact (n + sum xs)
fold_exact h n [] e lt = e ∙ ap exact (omega arith)
fold_exact h n (x ∷ xs) e lt =
    fold_exact (hint_sum h (text_hint x)) (n + byte_length x) xs
    (sum_exact h (text_hint x) n (byte_length x) e refl (omega (arith, lt))) (omega (arith, lt))
    ∙ ap exact (omega arith)

-- the items' part and the patterns' part
together_exact : (p : Patterns) (xs : List (List ℕ)) (n t : ℕ) → t ≡ sum xs + n → t < 2 ^ 64
    → patterns_hint p (length (map text_hint xs)) ≡ exact n
    → list_hint p (map text_hint xs) ≡ exact t
together_exact p xs n t e lt h =
    sum_exact (items_hint (map text_hint xs)) (patterns_hint p (length (map text_hint xs)))
    (0 + sum xs) n
    (fold_exact (exact 0) 0 xs refl (omega (arith, e, lt))) h (omega (arith, e, lt))
    ∙ ap exact (omega (arith, e))

-- the same items
map_same : (xs : List (List ℕ)) → map (λ (t : List ℕ). t) xs ≡ xs
map_same [] = refl
map_same (x ∷ xs) = ap (λ ys. x ∷ ys) (map_same xs)

-- the bytes of an item and those behind it
rest_sum : (between : List ℕ) (c : Closing) (t x : List ℕ) (xs : List (List ℕ))
    → byte_length (rest as_it_is between c t (x ∷ xs)) ≡ byte_length t
    + (sum (x ∷ xs) + (byte_length between * length xs + byte_length (texts (whole c))))
rest_sum between c t x xs =
    ap (λ ys. byte_length (rest as_it_is between c t (x ∷ ys))) (sym (map_same xs))
    ∙ rest_bytes (λ (t : List ℕ). t) text_hint (λ t. Hinted-exact (byte_length t)) between c t x xs

-- of any number of items
nested_exact : (p : Patterns) (last : List ℕ) (xs : List (List ℕ)) → HasNoSpecial p
    → byte_length (nested as_it_is p last xs) < 2 ^ 64
    → list_hint p (map text_hint xs) ≡ exact (byte_length (nested as_it_is p last xs))
nested_exact p last [] none lt = together_exact p [] 0 0 (omega arith) (omega arith) refl
nested_exact p last (x ∷ []) none lt =
    together_exact p (x ∷ []) 0 (byte_length x) (omega arith) lt refl
nested_exact p last (x ∷ y ∷ []) none lt =
    let q : Pattern = two_for p last in
    let one = append_three q.prefix x (q.between ++ (y ++ q.suffix)) in
    let two = append_three q.between y q.suffix in
    let three = append_three q.prefix q.between q.suffix in
    together_exact p (x ∷ y ∷ []) (byte_length (texts q))
    (byte_length (nested as_it_is p last (x ∷ y ∷ []))) (omega arith) lt
    (pair_exact p.end p.pair last none.0 none.1)
nested_exact p last (x ∷ y ∷ z ∷ xs) none lt =
    let c : Closing = end_for p last in
    let inner : List ℕ = rest as_it_is p.middle c y (z ∷ xs) in
    let one = append_three p.start.prefix x (p.start.between ++ inner) in
    let two = byte_length-append p.start.between inner in
    let three = byte_length-append p.start.prefix p.start.between in
    let more = rest_sum p.middle c y z xs in
    let before : ℕ = byte_length (p.start.prefix ++ p.start.between) in
    let middles : ℕ = byte_length p.middle * length xs in
    let behind : ℕ = byte_length (texts (whole c)) in
    let all : byte_length (nested as_it_is p last (x ∷ y ∷ z ∷ xs)) ≡ sum (x ∷ y ∷ z ∷ xs)
    + ((before + middles) + behind) = omega arith in
    let size : length (map text_hint xs) ≡ length xs = length-map xs text_hint in
    let between : hint_times (text_hint p.middle) (length (map text_hint xs)) ≡ exact middles =
    ap (hint_times (text_hint p.middle)) size
    ∙ times_exact (byte_length p.middle) (length xs) (omega (arith, all, lt)) in
    together_exact p (x ∷ y ∷ z ∷ xs) ((before + middles) + behind)
    (byte_length (nested as_it_is p last (x ∷ y ∷ z ∷ xs))) all lt
    (sum_exact
    (hint_sum (opening_hint p.start)
    (hint_times (text_hint p.middle) (length (map text_hint xs)))) (end_hint p.end)
    (before + middles) behind
    (sum_exact (opening_hint p.start)
    (hint_times (text_hint p.middle) (length (map text_hint xs))) before middles refl between
    (omega (arith, all, lt)))
    (closing_exact p.end.default p.end.special last none.0) (omega (arith, all, lt)))

-- the law
pub joined_exact : (p : Patterns) (items : List (List ℕ)) → HasNoSpecial p
    → byte_length (joined p items) < 2 ^ 64
    → list_hint p (map text_hint items) ≡ exact (byte_length (joined p items))
joined_exact p items none lt = nested_exact p (last_of items) items none lt

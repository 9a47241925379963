-- Reading the texts of a list: where a fault of some of them is the first of all.
use Rattle.std.proofs.Common.{◌≡◌, ℕ, Bool, true, false, List, [], ◌∷◌, ◌++◌, Option, Some, None}
use Rattle.std.proofs.Common.{refl, sym, ap, ◌∙◌, subst}
use Rattle.std.specs.Prelude.{IfOk, Result, Ok, Err}
use Rattle.localise.specs.Lists.{ArePatterns, EndsWith, PairsWith}
use Rattle.lazy_dfa.specs.ConditionOf.{condition_of}
use Rattle.lazy_dfa.specs.Expression.{Expression}
use Rattle.lazy_dfa.specs.declared.error.ConditionError.{ConditionError}
use Rattle.writeable_core.specs.FirstFailure.{first_failure}
use Rattle.icu_list.specs.ListFault.{ArePatternsOf, IsFault, ListTexts, SpecialTexts}
use Rattle.icu_list.specs.ListFault.{condition_fault, fault, first_fault, list_fault}
use Rattle.icu_list.specs.ListFault.{special_faults, without_specials}
use Rattle.icu_list.specs.Pattern.{Pattern}
use Rattle.icu_list.specs.Patterns.{Patterns}
use Rattle.icu_list.specs.PatternTexts.{IsFaultOf, joiner, joiner_by, joiner_conditions, middle}
use Rattle.icu_list.specs.PatternTexts.{pattern_of, unless}
use Rattle.icu_list.specs.declared.error.DataError.{DataError}
use Rattle.icu_list.specs.declared.error.DataError.TheVariants.{InvalidPattern, CannotStore}
use Rattle.icu_list.specs.declared.error.DataError.TheVariants.{Condition, MissingLocale}
use Rattle.icu_list.specs.declared.error.DataError.TheVariants.{NotJsonForm, NoMemory}

-- an error of one fault is one of another
pub fault_to : (o p : Option DataError) → ((e : DataError) → o ≡ Some e → p ≡ Some e)
    → (e : DataError) → IsFault o e → IsFault p e
fault_to o p f InvalidPattern h = f InvalidPattern h
fault_to o p f CannotStore h = f CannotStore h
fault_to o p f (Condition error) h = f (Condition error) h
fault_to o p f MissingLocale h = f MissingLocale h
fault_to o p f NotJsonForm h = f NotJsonForm h
fault_to o p f NoMemory h = tt

-- the error of a reading is its fault
pub fault_of : {A : Type 0} (r : Result A DataError) (e : DataError) → IsFaultOf r e
    → IsFault (fault r) e
fault_of r InvalidPattern h = ap fault h
fault_of r CannotStore h = ap fault h
fault_of r (Condition error) h = ap fault h
fault_of r MissingLocale h = ap fault h
fault_of r NotJsonForm h = ap fault h
fault_of r NoMemory h = tt

-- the first fault is that of what stands in front
pub first_fault-left : (xs ys : List (Option DataError)) (e : DataError) → first_fault xs ≡ Some e
    → first_fault (xs ++ ys) ≡ Some e
first_fault-left [] ys e h = absurd (cc)
first_fault-left (None ∷ xs) ys e h = first_fault-left xs ys e h
first_fault-left (Some x ∷ xs) ys e h = h

-- or of what stands behind, where there is none in front
pub first_fault-right : (xs ys : List (Option DataError)) → first_fault xs ≡ None
    → first_fault (xs ++ ys) ≡ first_fault ys
first_fault-right [] ys h = refl
first_fault-right (None ∷ xs) ys h = first_fault-right xs ys h
first_fault-right (Some x ∷ xs) ys h = absurd (cc)

-- ---- special patterns

-- a condition and a pattern that are read have no fault
pub special_faultless : (prefix : Bool) (s : SpecialTexts) {x : Expression} {p : Pattern}
    → condition_of s.condition ≡ Ok x
    → joiner prefix true s.pattern ≡ Ok p → first_fault (special_faults prefix (Some s)) ≡ None
special_faultless prefix s condition pattern =
    ap (λ (r : Result Expression ConditionError).
    first_fault (condition_fault r ∷ fault (joiner prefix true s.pattern) ∷ [])) condition
    ∙ ap (λ (r : Result Pattern DataError). first_fault (fault r ∷ [])) pattern

-- the fault of the condition is the first
pub condition_first : (prefix : Bool) (s : SpecialTexts) (e : DataError)
    → IsFault (condition_fault (condition_of s.condition)) e
    → IsFault (first_fault (special_faults prefix (Some s))) e
condition_first prefix s e h =
    fault_to (condition_fault (condition_of s.condition))
    (first_fault (special_faults prefix (Some s)))
    (λ e is.
    ap
    (λ (o : Option DataError). first_fault (o ∷ fault (joiner prefix true s.pattern) ∷ [])) is)
    e h

-- or that of the pattern, where the condition is read
pub pattern_first : (prefix : Bool) (s : SpecialTexts) {x : Expression} (e : DataError)
    → condition_of s.condition ≡ Ok x
    → IsFaultOf (joiner prefix true s.pattern) e
    → IsFault (first_fault (special_faults prefix (Some s))) e
pattern_first prefix s e condition h =
    fault_to (fault (joiner prefix true s.pattern)) (first_fault (special_faults prefix (Some s)))
    (λ e is.
    ap (λ (r : Result Expression ConditionError).
    first_fault (condition_fault r ∷ fault (joiner prefix true s.pattern) ∷ [])) condition
    ∙ ap (λ (o : Option DataError). first_fault (o ∷ [])) is)
    e (fault_of (joiner prefix true s.pattern) e h)

-- what there is unless there is a fault
unless_ok : (x p : Pattern) (o : Option DataError) → unless x o ≡ Ok p → x ≡ p
unless_ok x p None h = cc
unless_ok x p (Some e) h = absurd (cc)

-- a pattern whose prefix isn't allowed has none, by what it is
no_prefix_by : (x p : Pattern) (prefix : List ℕ) → x.prefix ≡ prefix
    → unless x (first_failure (joiner_conditions false true x)) ≡ Ok p → p.prefix ≡ []
no_prefix_by x p [] is h =
    ap (λ (y : Pattern). y.prefix)
    (sym (unless_ok x p (first_failure (joiner_conditions false true x)) h)) ∙ is
no_prefix_by x p (c ∷ cs) is h =
    let refused : unless x (Some InvalidPattern) ≡ Ok p =
    sym
    (ap
    (λ (t : List ℕ).
    unless x (first_failure (joiner_conditions false true (record x { prefix = t }))))
    is) ∙ h in
    absurd (cc)

-- the same of a text
no_prefix_of : (o : Option Pattern) (p : Pattern) → joiner_by false true o ≡ Ok p → p.prefix ≡ []
no_prefix_of None p h = absurd (cc)
no_prefix_of (Some x) p h = no_prefix_by x p x.prefix refl h

-- an end pattern has no prefix
pub no_prefix : (text : List ℕ) (p : Pattern) → joiner false true text ≡ Ok p → p.prefix ≡ []
no_prefix text p h = no_prefix_of (pattern_of text) p h

-- ---- the whole list

-- the faults of the four patterns
abbrev four_faults : ListTexts → List (Option DataError)
four_faults t =
    fault (joiner true false t.start) ∷ fault (middle t.middle) ∷ fault (joiner false true t.end)
    ∷ fault (joiner true true t.pair) ∷ []

-- four texts that are read have no fault
four_faultless : (a : Result Pattern DataError) (b : Result (List ℕ) DataError)
    (c d : Result Pattern DataError) {x : Pattern} {y : List ℕ} {z w : Pattern}
    → a ≡ Ok x → b ≡ Ok y → c ≡ Ok z → d ≡ Ok w
    → first_fault (fault a ∷ fault b ∷ fault c ∷ fault d ∷ []) ≡ None
four_faultless a b c d p q r s =
    ap
    (λ (o : Result Pattern DataError).
    first_fault (fault o ∷ fault b ∷ fault c ∷ fault d ∷ [])) p
    ∙ ap (λ (o : Result (List ℕ) DataError). first_fault (fault o ∷ fault c ∷ fault d ∷ [])) q
    ∙ ap (λ (o : Result Pattern DataError). first_fault (fault o ∷ fault d ∷ [])) r
    ∙ ap (λ (o : Result Pattern DataError). first_fault (fault o ∷ [])) s

-- the four texts of a list are read
read_four : (t : ListTexts) (plain : Patterns) → ArePatternsOf t.start t.middle t.end t.pair plain
    → first_fault (four_faults t) ≡ None
read_four t plain are =
    four_faultless (joiner true false t.start) (middle t.middle) (joiner false true t.end)
    (joiner true true t.pair)
    are.start_is are.middle_is are.end_is are.pair_is

-- a fault of the four is that of the list
pub four_first : (t : ListTexts) (e : DataError)
    → IsFault (list_fault (without_specials t.start t.middle t.end t.pair)) e
    → IsFault (list_fault t) e
four_first t e h =
    fault_to (list_fault (without_specials t.start t.middle t.end t.pair)) (list_fault t)
    (λ e is. first_fault-left (four_faults t)
    (special_faults false t.end_special ++ special_faults true t.pair_special) e is) e h

-- a fault of the special end, where the four are read
pub end_first : (t : ListTexts) (plain : Patterns) (e : DataError)
    → ArePatternsOf t.start t.middle t.end t.pair plain
    → IsFault (first_fault (special_faults false t.end_special)) e → IsFault (list_fault t) e
end_first t plain e four h =
    fault_to (first_fault (special_faults false t.end_special)) (list_fault t)
    (λ e is.
    first_fault-right (four_faults t)
    (special_faults false t.end_special ++ special_faults true t.pair_special)
    (read_four t plain four)
    ∙ first_fault-left (special_faults false t.end_special)
    (special_faults true t.pair_special) e is) e h

-- behind these the fault of the list is that of the special pair
behind_end : (t : ListTexts) (plain : Patterns) → ArePatternsOf t.start t.middle t.end t.pair plain
    → first_fault (special_faults false t.end_special) ≡ None
    → list_fault t ≡ first_fault (special_faults true t.pair_special)
behind_end t plain four end =
    first_fault-right (four_faults t)
    (special_faults false t.end_special ++ special_faults true t.pair_special)
    (read_four t plain four)
    ∙ first_fault-right (special_faults false t.end_special)
    (special_faults true t.pair_special) end

-- a fault of the special pair, where the four and the special end are read
pub pair_first : (t : ListTexts) (plain : Patterns) (e : DataError)
    → ArePatternsOf t.start t.middle t.end t.pair plain
    → first_fault (special_faults false t.end_special) ≡ None
    → IsFault (first_fault (special_faults true t.pair_special)) e → IsFault (list_fault t) e
pair_first t plain e four end h =
    fault_to (first_fault (special_faults true t.pair_special)) (list_fault t)
    (λ e is. behind_end t plain four end ∙ is) e h

-- no fault, where all is read
pub list_faultless : (t : ListTexts) (plain : Patterns)
    → ArePatternsOf t.start t.middle t.end t.pair plain
    → first_fault (special_faults false t.end_special) ≡ None
    → first_fault (special_faults true t.pair_special) ≡ None
    → list_fault t ≡ None
list_faultless t plain four end pair = behind_end t plain four end ∙ pair

-- the same of texts that are those of the list
pub four_first_of : (t : ListTexts) (a b c d : List ℕ) (e : DataError) → a ≡ t.start → b ≡ t.middle
    → c ≡ t.end → d ≡ t.pair
    → IsFault (list_fault (without_specials a b c d)) e → IsFault (list_fault t) e
four_first_of t a b c d e p q r s h =
    four_first t e
    (subst (λ x. IsFault (list_fault (without_specials x t.middle t.end t.pair)) e) p
    (subst (λ x. IsFault (list_fault (without_specials a x t.end t.pair)) e) q
    (subst (λ x. IsFault (list_fault (without_specials a b x t.pair)) e) r
    (subst (λ x. IsFault (list_fault (without_specials a b c x)) e) s h))))

-- patterns of texts that are those of the list
four_of : (t : ListTexts) (a b c d : List ℕ) (plain : Patterns) → a ≡ t.start → b ≡ t.middle
    → c ≡ t.end → d ≡ t.pair
    → ArePatternsOf a b c d plain → ArePatternsOf t.start t.middle t.end t.pair plain
four_of t a b c d plain p q r s h =
    subst (λ x. ArePatternsOf x t.middle t.end t.pair plain) p
    (subst (λ x. ArePatternsOf a x t.end t.pair plain) q
    (subst (λ x. ArePatternsOf a b x t.pair plain) r
    (subst (λ x. ArePatternsOf a b c x plain) s h)))

-- a list is read
pub patterns_read : (t : ListTexts) (a b c d : List ℕ) (plain ended : Patterns)
    (result : Result Patterns DataError)
    → a ≡ t.start → b ≡ t.middle → c ≡ t.end → d ≡ t.pair → ArePatternsOf a b c d plain
    → EndsWith t.end_special plain ended → first_fault (special_faults false t.end_special) ≡ None
    → IfOk result (PairsWith t.pair_special ended)
    → IfOk result (λ _. first_fault (special_faults true t.pair_special) ≡ None)
    → IfOk result (ArePatterns t)
patterns_read t a b c d plain ended (Err e) p q r s four end end_faultless pair pair_faultless = tt
patterns_read t a b c d plain ended (Ok x) p q r s four end end_faultless pair pair_faultless =
    let are = four_of t a b c d plain p q r s four in
    record {
      faultless = list_faultless t plain are end_faultless pair_faultless;
      plain = plain;
      four = are;
      ended = ended;
      end = end;
      pair = pair;
    }

-- What pushes do to a stepper.
use Rattle.std.proofs.Common.{◌≡◌, ◌↔◌, ℕ, suc, ◌+◌, ◌≤◌, ◌<◌, Bool, true, false, List, [], ◌∷◌}
use Rattle.std.proofs.Common.{◌++◌, length, take, drop, get_or, Option, Some, None, Result, Ok, Err}
use Rattle.std.proofs.Common.{◌⊎◌, inl, inr, refl, sym, ap, subst, ◌∙◌, arith, length-append}
use Rattle.std.proofs.Common.{append_assoc, append-nil}
use Rattle.std.specs.Prelude.{MatchBool, MatchResult, ◌&&◌}
use Rattle.lazy_dfa.specs.Expression.{Expression}
use Rattle.lazy_dfa.specs.Meaning.{holds, early, front}
use Rattle.lazy_dfa.specs.Compiled.{atom_reads}
use Rattle.lazy_dfa.specs.Machine.{Machine, IsFor}
use Rattle.lazy_dfa.specs.Sets.{has}
use Rattle.lazy_dfa.specs.Steps.{next_has, IsDecidedAt, HoldsAt, IsStep}
use Rattle.lazy_dfa.specs.Stepping.{Decided, HasRead, Took, NoneDecides, TookShortest, Decides}
use Rattle.lazy_dfa.specs.Progress.{Progress}
use Rattle.lazy_dfa.specs.SteppingLaws.{Took-nothing, Took-both}
use Rattle.lazy_dfa.proofs.Texts.{holds_early, holds_longer}
use Rattle.lazy_dfa.proofs.Advancing.{decided_at, at_decided, holds_there, there_holds}
use Rattle.lazy_dfa.proofs.Advancing.{step_reached, open_longer}

-- ---- tests

-- a test and its fact
test_true : (b : Bool) (P : Type 0) → MatchBool b P (P → ⊥) → (b ≡ true) ↔ P
test_true true P h = (λ e. h, λ p. refl)
test_true false P h = (λ e. absurd cc, λ p. absurd (h p))

-- the test of a decision, of what was read
pub decided_test : (s : Progress) (b : Bool)
    → MatchBool b (IsDecidedAt s.machine s.reached) (IsDecidedAt s.machine s.reached → ⊥)
    → (c : Expression) (u : List ℕ) → IsFor s.machine c → HasRead c u s → (b ≡ true) ↔ Decided c u
decided_test s b test c u f h =
    let t = test_true b (IsDecidedAt s.machine s.reached) test in (
      (λ e. decided_at s.machine c f u h.unsettled s.reached h.reached (t.0 e)),
      (λ d. t.1 (at_decided s.machine c f u h.unsettled s.reached h.reached d)),
    )

-- the test of an answer, of what was read
pub holds_test : (s : Progress) (b : Bool) → (b ≡ true) ↔ HoldsAt s.machine s.reached
    → (c : Expression) (u : List ℕ) → IsFor s.machine c → HasRead c u s → (b ≡ true) ↔ holds c u
holds_test s b test c u f h = (
  (λ e. holds_there s.machine c f u h.unsettled s.reached h.reached (test.0 e)),
  (λ w. test.1 (there_holds s.machine c f u h.unsettled s.reached h.reached w)),
)

-- the answer where it is decided
pub decided_answer : (s : Progress) (b : Bool) → (b ≡ true) ↔ HoldsAt s.machine s.reached
    → (c : Expression) (u : List ℕ) → IsFor s.machine c → HasRead c u s → Decided c u → (b ≡ true)
    ↔ early c u
decided_answer s b test c u f h d =
    let t = holds_test s b test c u f h in
    ((λ e. settled d (t.0 e)), (λ e. t.1 (holds_early c u e))) where
      settled : Decided c u → holds c u → early c u
      settled (inl e) w = e
      settled (inr no_front) w = elim (holds_longer c u [] (rw append-nil w)) [
        | inl e ↦ e
        | inr x ↦ absurd (no_front x)
      ]

-- ---- a refused push

-- a refused push takes nothing
pub refused_took : (s : Progress) (n : ℕ) → s.refusals ≤ n
    → ((c : Expression) (u : List ℕ) → IsFor s.machine c → HasRead c u s → Decided c u)
    → Took s [] (record { machine = s.machine; reached = s.reached; refusals = n })
refused_took s n le decided = record {
  machine = refl;
  read = λ c u f h. rw (append-nil u) (record {
    reached = h.reached;
    unsettled = h.unsettled;
    refused = λ lt. decided c u f h;
  });
  later = le;
}

-- ---- a character

-- nothing that the stepper may have read decides
abbrev pub IsUndecided : Progress → Type 0
IsUndecided s = (c : Expression) (u : List ℕ) → IsFor s.machine c → HasRead c u s → Decided c u → ⊥

-- a character is taken
pub advanced : (s : Progress) (d set : ℕ) → IsUndecided s
    → ((q : ℕ) → has set q ≡
    (next_has s.machine s.reached q && atom_reads s.machine.ranges s.machine.negated q d))
    → Took s (d ∷ []) (record { machine = s.machine; reached = Some set; refusals = s.refusals })
advanced s d set undecided step = record {
  machine = refl;
  read = λ c u f h. record {
    reached = step_reached s.machine c f u s.reached d set h.reached step;
    unsettled = open_longer c u d (λ e. undecided c u f h (inl e));
    refused = λ lt. absurd (undecided c u f h (h.refused lt));
  };
  later = omega arith;
}

-- where it is decided before, the shortest prefix is the empty one
pub none_in_nothing : (c : Expression) (u : List ℕ) (before now : Progress) (piece : List ℕ)
    → Took before [] now → Decided c u → TookShortest c u piece before now
none_in_nothing c u before now piece took d = record {
  prefix = [];
  rest = piece;
  parts = refl;
  taken = took;
  decides = rw (append-nil u) d;
  shortest = λ q r e lt h. let n = ap length e in omega (arith, n, length-append q r);
}

-- the prefixes of one character
one_character : (d : ℕ) (q r : List ℕ) → q ++ r ≡ d ∷ [] → (q ≡ []) ⊎ ((q ≡ d ∷ []) × (r ≡ []))
one_character d [] r e = inl refl
one_character d (x ∷ []) r e = let head : x ≡ d = cc in let tail : r ≡ [] = cc in
    inr (ap (λ y. y ∷ []) head, tail)
one_character d (x ∷ (y ∷ q)) r e =
    let n = ap length e in absurd (omega (arith, n, length-append q r))

-- what a push of a character answers
pub character_decides : {E : Type 0} (c : Expression) (u : List ℕ) (d : ℕ) (before now : Progress)
    (r : Result (Unit {0}) E) → (Decided c u → ⊥) → Took before (d ∷ []) now
    → MatchResult r (λ _. Decided c (u ++ d ∷ []) → ⊥) (λ _. Decided c (u ++ d ∷ []))
    → Decides c u (d ∷ []) before r now
character_decides c u d before now (Ok x) undecided took h =
    λ q r e dec. elim (one_character d q r e) [
      | inl none ↦
          undecided (subst (λ (t : List ℕ). Decided c t) (ap (λ t. u ++ t) none ∙ append-nil u) dec)
      | inr all ↦ h (subst (λ (t : List ℕ). Decided c t) (ap (λ t. u ++ t) all.0) dec)
    ]
character_decides c u d before now (Err x) undecided took h = record {
  prefix = d ∷ [];
  rest = [];
  parts = refl;
  taken = took;
  decides = h;
  shortest = λ q r e lt dec. elim (one_character d q r e) [
    | inl none ↦
        undecided (subst (λ (t : List ℕ). Decided c t) (ap (λ t. u ++ t) none ∙ append-nil u) dec)
    | inr all ↦ omega (arith, lt, ap length all.1)
  ];
}

-- ---- a piece, character by character

-- some characters were taken, and none of them decided
pub record Passed (before : Progress) (text : List ℕ) (now : Progress) : Type 0 where
  pub took : Took before text now
  pub kept : now.refusals ≡ before.refusals
  pub undecided : (c : Expression) (u : List ℕ) → IsFor before.machine c → HasRead c u before
      → NoneDecides c u text
  pub here : IsUndecided now

-- no characters were taken
pub passed_nothing : (s : Progress) → IsUndecided s → Passed s [] s
passed_nothing s undecided = record {
  took = Took-nothing s;
  kept = refl;
  undecided =
      λ c u f h q r e d. undecided c u f h
      (subst (λ (t : List ℕ). Decided c t) (ap (λ t. u ++ t) (nothing q r e) ∙ append-nil u) d);
  here = undecided;
} where
  nothing : (q r : List ℕ) → q ++ r ≡ [] → q ≡ []
  nothing [] r e = refl
  nothing (x ∷ q) r e = absurd cc

-- a prefix of a text with one more character: of the text, or all of it
prefix_cases : (t : List ℕ) (d : ℕ) (q r : List ℕ) → q ++ r ≡ t ++ d ∷ []
    → ((s : List ℕ) × (q ++ s ≡ t)) ⊎ ((q ≡ t ++ d ∷ []) × (r ≡ []))
prefix_cases [] d q r e = elim (one_character d q r e) [
  | inl none ↦ inl ([], ap (λ l. l ++ []) none)
  | inr all ↦ inr all
]
prefix_cases (x ∷ t) d [] r e = inl (x ∷ t, refl)
prefix_cases (x ∷ t) d (y ∷ q) r e =
    let head : y ≡ x = cc in
    let tail : q ++ r ≡ t ++ d ∷ [] = cc in
    elim (prefix_cases t d q r tail) [
      | inl z ↦ inl (z.0, let f = z.1 in cc)
      | inr z ↦ inr (let f = z.0 in cc, z.1)
    ]

module _ (before : Progress) (text : List ℕ) (middle now : Progress) (d : ℕ)
    (p : Passed before text middle) (took : Took middle (d ∷ []) now) where
  pub took_more : Took before (text ++ d ∷ []) now
  took_more = Took-both before middle now text (d ∷ []) p.took took

  module _ (c : Expression) (u : List ℕ) (f : IsFor before.machine c) (h : HasRead c u before) where
    for_middle : IsFor middle.machine c
    for_middle = subst (λ (m : Machine). IsFor m c) (sym p.took.machine) f

    read_middle : HasRead c (u ++ text) middle
    read_middle = p.took.read c u f h

  pub passed_more : IsUndecided now → now.refusals ≡ middle.refusals
      → ((c : Expression) (u : List ℕ) → IsFor middle.machine c → HasRead c u middle
      → Decided c (u ++ d ∷ []) → ⊥) → Passed before (text ++ d ∷ []) now
  passed_more here kept none = record {
    here = here;
    took = took_more;
    kept = kept ∙ p.kept;
    undecided = λ c u f h q r e dec. elim (prefix_cases text d q r e) [
      | inl x ↦ p.undecided c u f h q x.0 x.1 dec
      | inr x ↦
          none c (u ++ text) (for_middle c u f h) (read_middle c u f h)
          (subst (λ (t : List ℕ). Decided c t) (ap (λ t. u ++ t) x.0
          ∙ sym (append_assoc u text (d ∷ []))) dec)
    ];
  }

  -- the character decides: it ends the shortest prefix that does
  pub shortest_more : (piece rest : List ℕ) → (text ++ d ∷ []) ++ rest ≡ piece
      → ((c : Expression) (u : List ℕ) → IsFor middle.machine c → HasRead c u middle
      → Decided c (u ++ d ∷ []))
      → (c : Expression) (u : List ℕ) → IsFor before.machine c → HasRead c u before
      → TookShortest c u piece before now
  shortest_more piece rest parts decides c u f h = record {
    prefix = text ++ d ∷ [];
    rest = rest;
    parts = parts;
    taken = took_more;
    decides =
        subst (λ (t : List ℕ). Decided c t) (append_assoc u text (d ∷ []))
        (decides c (u ++ text) (for_middle c u f h) (read_middle c u f h));
    shortest = λ q r e lt dec. elim (prefix_cases text d q r e) [
      | inl x ↦ p.undecided c u f h q x.0 x.1 dec
      | inr x ↦ omega (arith, lt, ap length x.1)
    ];
  }

-- a list as its front, the element behind it, and the rest
pub at_turn : (all xs : List ℕ) (x : ℕ) → xs ≡ take (length xs) all → length xs < length all
    → x ≡ get_or all (length xs) x → (xs ++ x ∷ []) ++ drop (length xs + 1) all ≡ all
at_turn all [] x front lt here = start all lt here where
  start : (all : List ℕ) → 0 < length all → x ≡ get_or all 0 x → (x ∷ []) ++ drop 1 all ≡ all
  start [] lt here = absurd (omega arith)
  start (y ∷ all) lt here = cc
at_turn [] (y ∷ xs) x front lt here = absurd (omega arith)
at_turn (z ∷ all) (y ∷ xs) x front lt here =
    let head : y ≡ z = cc in
    let tail : xs ≡ take (length xs) all = cc in
    let rest = at_turn all xs x tail (omega arith) here in
    let n : length (y ∷ xs) + 1 ≡ suc (length xs + 1) = omega arith in
    ap (λ k. ((y ∷ xs) ++ x ∷ []) ++ drop k (z ∷ all)) n ∙ ap (λ l. y ∷ l) rest
    ∙ ap (λ w. w ∷ all) head

-- ---- the same of the fields that a stepper is seen by

-- a stepper by its fields
abbrev pub seen : Machine → Option ℕ → ℕ → Progress
seen m r k = record { machine = m; reached = r; refusals = k }

-- the same, of the fields
pub refused_of : (s : Progress) (m : Machine) (r : Option ℕ) (k n : ℕ) → seen m r k ≡ s → k ≤ n
    → ((c : Expression) (u : List ℕ) → IsFor s.machine c → HasRead c u s → Decided c u)
    → Took s [] (seen m r n)
refused_of s m r k n e le d =
    subst (λ (x : Progress). Took x [] (seen m r n)) e
    (refused_took (seen m r k) n le
    (subst (λ (x : Progress). (c : Expression) (u : List ℕ) → IsFor x.machine c → HasRead c u x
    → Decided c u) (sym e) d))

-- the same, of the fields
pub advanced_of : (s : Progress) (m : Machine) (r : Option ℕ) (k d set : ℕ) → seen m r k ≡ s
    → IsUndecided s → ((q : ℕ) → has set q ≡ (next_has m r q && atom_reads m.ranges m.negated q d))
    → Took s (d ∷ []) (seen m (Some set) k)
advanced_of s m r k d set e undecided step =
    subst (λ (x : Progress). Took x (d ∷ []) (seen m (Some set) k)) e
    (advanced (seen m r k) d set (subst IsUndecided (sym e) undecided) step)

-- the same, of what is reached then
pub advanced_to : (s : Progress) (m : Machine) (r : Option ℕ) (k d : ℕ) (now : Option ℕ)
    → seen m r k ≡ s → IsUndecided s → IsStep m r d now → Took s (d ∷ []) (seen m now k)
advanced_to s m r k d None e undecided step = absurd step
advanced_to s m r k d (Some set) e undecided step = advanced_of s m r k d set e undecided step

-- the stepper by its fields is for the same expressions
pub for_seen : (s : Progress) (m : Machine) (r : Option ℕ) (k : ℕ) → seen m r k ≡ s
    → (c : Expression) → IsFor s.machine c → IsFor m c
for_seen s m r k e c f = subst (λ (x : Progress). IsFor x.machine c) (sym e) f

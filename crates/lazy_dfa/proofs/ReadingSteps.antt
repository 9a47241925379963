-- Steps of reading a condition.
use Rattle.std.proofs.Common.{◌≡◌, ℕ, zero, suc, ◌+◌, ◌*◌, ◌^◌, ◌≤◌, ◌<◌, Bool, true, false, List}
use Rattle.std.proofs.Common.{[], ◌∷◌, ◌++◌, length, Option, Some, None, Result, Ok, Err, refl, sym}
use Rattle.std.proofs.Common.{ap, subst, ◌∙◌, arith, append_assoc}
use Rattle.std.specs.Borrow.{Bor}
use Rattle.std.specs.declared.alloc.AllocError.{AllocError}
use Rattle.std.specs.Option.{option_map}
use Rattle.std.specs.Prelude.{nat_le, if◌then◌else◌}
use Rattle.lazy_dfa.specs.declared.automaton.Automaton.{Automaton}
use Rattle.lazy_dfa.specs.declared.part.Part.{Part}
use Rattle.lazy_dfa.specs.declared.parser.Parsed.{Parsed}
use Rattle.lazy_dfa.specs.declared.parser.Stop.{Stop}
use Rattle.lazy_dfa.specs.declared.parser.Stop.TheVariants.{NoMemory, Left}
use Rattle.lazy_dfa.specs.Expression.{CharacterSet, set_of, Expression, Nothing, OneOf, End}
use Rattle.lazy_dfa.specs.Expression.{Sequence, Choice, size}
use Rattle.lazy_dfa.specs.Compiled.{Adds, AddsRanges, Linked, Sums, IsFresh, ranges_of}
use Rattle.lazy_dfa.specs.Building.{ReadsRun, ReadsPart, ReadsOne, ReadsItems, ReadsClass, Repeats}
use Rattle.lazy_dfa.specs.Syntax.{is_punctuation, is_plain, is_literal}
use Rattle.lazy_dfa.specs.Parsing.{behind, punctuation_at, plain_at, class_character_at}
use Rattle.lazy_dfa.specs.Parsing.{class_character_by, range_to, range_from, range_at, digits_at}
use Rattle.lazy_dfa.specs.Parsing.{item_by, item_at, Ranged, Classed, with_item, items_by}
use Rattle.lazy_dfa.specs.Parsing.{items_from, items_at, Found, found, single_at, single_by}
use Rattle.lazy_dfa.specs.Parsing.{escaped_by, literal_at, class_of, class_by, atom_by, atom_at}
use Rattle.lazy_dfa.specs.Parsing.{repeated, rep_by, rep_at, joined, seq_by, alt_from, alt_by}
use Rattle.lazy_dfa.specs.Parsing.{Alternatives, Parts, parse, needed, Reads}
use Rattle.lazy_dfa.proofs.Building.{adds_choice, adds_sequence, adds_none}
use Rattle.lazy_dfa.proofs.Repeating.{behind_shorter}

-- equal answers, inside
some_is : {X : Type 0} (x y : X) → Some x ≡ Some y → x ≡ y
some_is x y e = cc

-- ---- what is read is not empty

-- what a test lets pass is shorter
cut_shorter : (b : Bool) (c : ℕ) (t : List ℕ) (x : ℕ × List ℕ)
    → Some x ≡ (if b then Some (c, t) else None) → length x.1 < length (c ∷ t)
cut_shorter true c t x h =
    let same : x ≡ (c, t) = cc in let e : x.1 ≡ t = ap (λ (y : ℕ × List ℕ). y.1) same in
    omega (arith, ap length e)
cut_shorter false c t x h = absurd cc

-- less is left behind punctuation
punctuation_shorter : (t : List ℕ) (x : ℕ × List ℕ) → Some x ≡ punctuation_at t
    → length x.1 < length t
punctuation_shorter [] x h = absurd cc
punctuation_shorter (c ∷ t) x h = cut_shorter (is_punctuation c) c t x h

-- less is left behind a character
plain_shorter : (t : List ℕ) (x : ℕ × List ℕ) → Some x ≡ plain_at t → length x.1 < length t
plain_shorter [] x h = absurd cc
plain_shorter (c ∷ t) x h = cut_shorter (is_plain c) c t x h

-- less is left behind a character of a class
pub character_shorter : (t : List ℕ) (x : ℕ × List ℕ) → Some x ≡ class_character_at t
    → length x.1 < length t
character_shorter t x h = by (behind 92 t) refl h where
  by : (o : Option (List ℕ)) → behind 92 t ≡ o → Some x ≡ class_character_by t o
      → length x.1 < length t
  by None e h = plain_shorter t x h
  by (Some u) e h = let a = punctuation_shorter u x h in let b = behind_shorter 92 t u (sym e) in
      omega arith

-- a range ends where its last character does
range_to_shorter : (a : ℕ) (o : Option (ℕ × List ℕ)) (x : Ranged) → Some x ≡ range_to a o
    → (y : ℕ × List ℕ) × (o ≡ Some y) × (x.1 ≡ y.1)
range_to_shorter a None x h = absurd cc
range_to_shorter a (Some y) x h = (y, refl, by (nat_le a y.0) h) where
  by : (b : Bool) → Some x ≡ (if b then Some ((a, y.0), y.1) else None) → x.1 ≡ y.1
  by true h = let same : x ≡ ((a, y.0), y.1) = cc in ap (λ (z : Ranged). z.1) same
  by false h = absurd cc

-- less is left behind an item
pub item_shorter : (t : List ℕ) (x : Ranged) → Some x ≡ item_at t → length x.1 < length t
item_shorter t x h = by (behind 92 t) refl h where
  from_by : (y : ℕ × List ℕ) (o : Option (List ℕ)) → behind 45 y.1 ≡ o → length y.1 < length t
      → Some x ≡ range_from y o → length x.1 < length t
  from_by y None e lt h = let same : x ≡ ((y.0, y.0), y.1) = some_is x ((y.0, y.0), y.1) h in
      omega (arith, lt, ap (λ (z : Ranged). length z.1) same)
  from_by y (Some u) e lt h =
      let z = range_to_shorter y.0 (class_character_at u) x h in
      let a = character_shorter u z.0 (sym z.1) in
      let b = behind_shorter 45 y.1 u (sym e) in
      omega (arith, a, b, lt, ap length z.2)

  by_character : (o : Option (ℕ × List ℕ)) → class_character_at t ≡ o → Some x ≡ range_at o
      → length x.1 < length t
  by_character None e h = absurd cc
  by_character (Some y) e h = from_by y (behind 45 y.1) refl (character_shorter t y (sym e)) h

  by_digits : (o : Option (List ℕ)) → ((u : List ℕ) → o ≡ Some u → length u < length t)
      → Some x ≡ item_by t o → length x.1 < length t
  by_digits None lt h = by_character (class_character_at t) refl h
  by_digits (Some u) lt h = let same : x ≡ ((48, 57), u) = some_is x ((48, 57), u) h in
      let less = lt u refl in omega (arith, less, ap (λ (z : Ranged). length z.1) same)

  by : (o : Option (List ℕ)) → behind 92 t ≡ o → Some x ≡ item_by t (digits_at o)
      → length x.1 < length t
  by None e h = by_digits None (λ u e. absurd cc) h
  by (Some v) e h =
      by_digits (behind 100 v) (λ u f. let a = behind_shorter 92 t v (sym e) in
      let b = behind_shorter 100 v u (sym f) in omega arith) h

-- ---- the items of a class

-- no item, no items
pub items_none : (t : List ℕ) → None ≡ item_at t → (k : ℕ) → items_at k t ≡ None
unfolding items_at
items_none t h zero = refl
items_none t h (suc k) = ap (items_from (items_at k)) (sym h)

-- one item alone
pub items_last : (t : List ℕ) (r : ℕ × ℕ) (u v : List ℕ) → Some (r, u) ≡ item_at t
    → Some v ≡ behind 93 u → (k : ℕ) → length t ≤ k → items_at k t ≡ Some (r ∷ [], v)
unfolding items_at
items_last t r u v h e zero le = let lt = item_shorter t (r, u) h in absurd (omega arith)
items_last t r u v h e (suc k) le =
    ap (items_from (items_at k)) (sym h) ∙ ap (items_by (items_at k u) r) (sym e)

-- one item before others
pub items_more : (t : List ℕ) (r : ℕ × ℕ) (u : List ℕ) (o : Option Classed)
    → Some (r, u) ≡ item_at t → None ≡ behind 93 u → ((k : ℕ) → length u ≤ k → items_at k u ≡ o)
    → (k : ℕ) → length t ≤ k → items_at k t ≡ with_item r o
unfolding items_at
items_more t r u o h e more zero le = let lt = item_shorter t (r, u) h in absurd (omega arith)
items_more t r u o h e more (suc k) le =
    let lt = item_shorter t (r, u) h in
    let room : length u ≤ k = omega arith in
    ap (items_from (items_at k)) (sym h) ∙ ap (items_by (items_at k u) r) (sym e)
    ∙ ap (with_item r) (more k room)

-- one range before others
pub ranges_more : (old mid new : Automaton) (r : ℕ × ℕ) (rs : List (ℕ × ℕ))
    → AddsRanges old (2 ^ old.size) (r ∷ []) mid → AddsRanges mid (2 ^ mid.size) rs new
    → AddsRanges old (2 ^ old.size) (r ∷ rs) new
ranges_more old mid new r rs x y = record {
  ranges = y.ranges ∙ ap (λ n. mid.ranges.items ++ ranges_of (2 ^ n) rs) x.sized
      ∙ ap (λ l. l ++ ranges_of (2 ^ old.size) rs) x.ranges
      ∙ append_assoc old.ranges.items (ranges_of (2 ^ old.size) (r ∷ []))
      (ranges_of (2 ^ old.size) rs);
  negated = y.negated ∙ x.negated;
  sized = y.sized ∙ x.sized;
  follow = y.follow ∙ x.follow;
}

-- one item before others, with their ranges
pub items_passed : (t u : List ℕ) (r : ℕ × ℕ) (old mid new : Automaton)
    (result : Result (Option (Bor (List ℕ))) AllocError)
    → Some (r, u) ≡ item_at t → None ≡ behind 93 u → AddsRanges old (2 ^ old.size) (r ∷ []) mid
    → ReadsItems u mid new result → ReadsItems t old new result
items_passed t u r old mid new (Ok (Some rest)) h e x y =
    let lt = item_shorter t (r, u) h in (
      r ∷ y.0,
      items_more t r u (Some (y.0, rest.now)) h e y.1,
      ranges_more old mid new r y.0 x y.2,
      omega (arith, y.3),
    )
items_passed t u r old mid new (Ok None) h e x y = items_more t r u None h e y
items_passed t u r old mid new (Err error) h e x y = tt

-- ---- runs

-- alternatives are read, from however much
pub alt_parsed : (t : List ℕ) (r : Result Found ℕ)
    → ((j : ℕ) → needed Parts t ≤ j → alt_by (parse j Alternatives) (parse j Parts t) ≡ r)
    → Reads Alternatives t r
unfolding parse
alt_parsed t r f = record { parsed = by } where
  by : (k : ℕ) → needed Alternatives t ≤ k → parse k Alternatives t ≡ r
  by zero le = absurd (omega arith)
  by (suc j) le = f j (omega arith)

-- a sequence is read, from however much
pub seq_parsed : (t : List ℕ) (r : Result Found ℕ)
    → ((j : ℕ) → 2 * length t ≤ j → seq_by (parse j Parts) t (rep_at (parse j Alternatives) t) ≡ r)
    → Reads Parts t r
unfolding parse
seq_parsed t r f = record { parsed = by } where
  by : (k : ℕ) → needed Parts t ≤ k → parse k Parts t ≡ r
  by zero le = absurd (omega arith)
  by (suc j) le = f j (omega arith)

-- alternatives fail where their first side does
pub alt_fails : (t : List ℕ) (old new : Automaton) (e : Stop) → ReadsRun Parts t old new (Err e)
    → ReadsRun Alternatives t old new (Err e)
alt_fails t old new NoMemory h = tt
alt_fails t old new (Left l) h =
    alt_parsed t (Err l) (λ j le. ap (alt_by (parse j Alternatives)) (h.parsed j le))

-- one side alone
pub alt_one : (t : List ℕ) (old new : Automaton) (p : Parsed) → None ≡ behind 124 p.rest.now
    → ReadsRun Parts t old new (Ok p) → ReadsRun Alternatives t old new (Ok p)
alt_one t old new p none h = (
  h.0,
  alt_parsed t (Ok (found h.0 p.rest.now))
      (λ j le. ap (alt_by (parse j Alternatives)) (h.1.parsed j le)
      ∙ ap (alt_from (parse j Alternatives) (found h.0 p.rest.now)) (sym none)),
  h.2,
)

module _ (t : List ℕ) (old mid : Automaton) (p : Parsed) (u : List ℕ)
    (some : Some u ≡ behind 124 p.rest.now) (h : ReadsRun Parts t old mid (Ok p)) where
  choice_parsed : (r : Result Found ℕ) → Reads Alternatives u r
      → Reads Alternatives t (joined Choice h.0 r)
  choice_parsed r more = alt_parsed t (joined Choice h.0 r) (λ j le.
      let short = behind_shorter 124 p.rest.now u some in
      let room : needed Alternatives u ≤ j = omega (arith, short, h.2.shorter) in
      ap (alt_by (parse j Alternatives)) (h.1.parsed j le)
      ∙ ap (alt_from (parse j Alternatives) (found h.0 p.rest.now)) (sym some)
      ∙ ap (joined Choice h.0) (more.parsed j room))

  pub choice_fails : (new : Automaton) (e : Stop) → ReadsRun Alternatives u mid new (Err e)
      → ReadsRun Alternatives t old new (Err e)
  choice_fails new NoMemory more = tt
  choice_fails new (Left l) more = choice_parsed (Err l) more

  pub choice_reads : (new : Automaton) (q : Parsed) (part : Part)
      → ReadsRun Alternatives u mid new (Ok q)
      → ((a b : Expression) (n : ℕ) → Sums p.part a n → Sums q.part b (n + size a)
      → Sums part (Choice a b) n)
      → ReadsRun Alternatives t old new (Ok (record { part = part; rest = q.rest }))
  choice_reads new q part more sums =
      let short = behind_shorter 124 p.rest.now u some in (
        Choice h.0 more.0,
        choice_parsed (Ok (found more.0 q.rest.now)) more.1,
        record {
          sums = sums h.0 more.0 old.size h.2.sums
              (subst (λ (n : ℕ). Sums q.part more.0 n) h.2.adds.sized more.2.sums);
          adds = adds_choice old mid new h.0 more.0 h.2.adds more.2.adds;
          shorter = omega (arith, short, h.2.shorter, more.2.shorter);
          room = omega (arith, short, h.2.room, more.2.room);
        },
      )

-- ---- sequences

-- a sequence fails where its first part does
pub seq_fails : (t : List ℕ) (old new : Automaton) (e : Stop) → ReadsOne rep_at t old new (Err e)
    → ReadsRun Parts t old new (Err e)
seq_fails t old new NoMemory h = tt
seq_fails t old new (Left l) h =
    seq_parsed t (Err l) (λ j le. ap (seq_by (parse j Parts) t) (h.parsed j le))

-- a sequence of nothing
pub seq_nothing : (t : List ℕ) (old new : Automaton) (part : Part) (rest : Bor (List ℕ))
    → rest.now ≡ t → IsFresh old → ((n : ℕ) → Sums part Nothing n)
    → ReadsOne rep_at t old new (Ok None)
    → ReadsRun Parts t old new (Ok (record { part = part; rest = rest }))
seq_nothing t old new part rest all fresh sums h = (
  Nothing,
  seq_parsed t (Ok (found Nothing rest.now))
      (λ j le. ap (seq_by (parse j Parts) t) (h.0.parsed j le)
      ∙ ap (λ u. Ok (found Nothing u)) (sym all)),
  record {
    sums = sums old.size;
    adds = subst (λ (a : Automaton). Adds old Nothing a) (sym h.1)
        (adds_none old Nothing refl fresh (λ p q. refl) (λ p c. refl));
    shorter = omega (arith, ap length all);
    room = omega (arith, ap length all, ap (λ (a : Automaton). a.size) h.1);
  },
)

module _ (t : List ℕ) (old mid : Automaton) (p : Parsed)
    (h : ReadsOne rep_at t old mid (Ok (Some p))) where
  sequence_parsed : (r : Result Found ℕ) → Reads Parts p.rest.now r
      → Reads Parts t (joined Sequence h.0 r)
  sequence_parsed r more = seq_parsed t (joined Sequence h.0 r) (λ j le.
      let room : needed Parts p.rest.now ≤ j = omega (arith, h.3) in
      ap (seq_by (parse j Parts) t) (h.1.parsed j le)
      ∙ ap (joined Sequence h.0) (more.parsed j room))

  pub sequence_fails : (new : Automaton) (e : Stop) → ReadsRun Parts p.rest.now mid new (Err e)
      → ReadsRun Parts t old new (Err e)
  sequence_fails new NoMemory more = tt
  sequence_fails new (Left l) more = sequence_parsed (Err l) more

  pub sequence_reads : (before new : Automaton) (q : Parsed) (part : Part)
      → ReadsRun Parts p.rest.now mid before (Ok q) → Linked before p.part.last q.part.first new
      → ((a b : Expression) (n : ℕ) → Sums p.part a n → Sums q.part b (n + size a)
      → Sums part (Sequence a b) n)
      → ReadsRun Parts t old new (Ok (record { part = part; rest = q.rest }))
  sequence_reads before new q part more l sums = (
    Sequence h.0 more.0,
    sequence_parsed (Ok (found more.0 q.rest.now)) more.1,
    record {
      sums = sums h.0 more.0 old.size h.2.sums
          (subst (λ (n : ℕ). Sums q.part more.0 n) h.2.adds.sized more.2.sums);
      adds = adds_sequence old mid before new h.0 more.0 p.part q.part h.2.adds more.2.adds h.2.sums
          more.2.sums l;
      shorter = omega (arith, h.3, more.2.shorter);
      room = omega (arith, h.2.room, more.2.room, l.sized);
    },
  )

-- ---- repetitions

-- a `$`
pub end_reads : (t : List ℕ) (old : Automaton) (part : Part) (rest : Bor (List ℕ))
    → Some rest.now ≡ behind 36 t → IsFresh old → ((n : ℕ) → Sums part End n)
    → ReadsOne rep_at t old old (Ok (Some (record { part = part; rest = rest })))
end_reads t old part rest some fresh sums =
    let short = behind_shorter 36 t rest.now some in (
      End,
      record { parsed = λ k le. ap (rep_by (parse k Alternatives) t) (sym some) },
      record {
        sums = sums old.size;
        adds = adds_none old End refl fresh (λ p q. refl) (λ p c. refl);
        shorter = omega (arith, short);
        room = omega (arith, short);
      },
      omega (arith, short),
    )

-- a repetition fails where its atom does
pub rep_fails : (t : List ℕ) (old new : Automaton) (e : Stop) → None ≡ behind 36 t
    → ReadsOne atom_at t old new (Err e) → ReadsOne rep_at t old new (Err e)
rep_fails t old new NoMemory none h = tt
rep_fails t old new (Left l) none h =
    record {
      parsed = λ k le. ap (rep_by (parse k Alternatives) t) (sym none)
          ∙ ap repeated (h.parsed k le);
    }

-- no atom, no repetition
pub rep_none : (t : List ℕ) (old new : Automaton) → None ≡ behind 36 t
    → ReadsOne atom_at t old new (Ok None) → ReadsOne rep_at t old new (Ok None)
rep_none t old new none h = (
  record {
    parsed = λ k le. ap (rep_by (parse k Alternatives) t) (sym none)
        ∙ ap repeated (h.0.parsed k le);
  },
  h.1,
)

-- an atom with what follows it
pub rep_reads : (t : List ℕ) (old mid new : Automaton) (p q : Parsed) → None ≡ behind 36 t
    → ReadsOne atom_at t old mid (Ok (Some p)) → Repeats mid p new q
    → ReadsOne rep_at t old new (Ok (Some q))
rep_reads t old mid new p q none h repeats =
    let r = repeats h.0 old t h.2 in (
      r.0,
      record {
        parsed = λ k le. ap (rep_by (parse k Alternatives) t) (sym none)
            ∙ ap repeated (h.1.parsed k le) ∙ ap (λ f. Ok (Some f)) r.1;
      },
      r.2,
      omega (arith, r.3, h.3),
    )

-- ---- atoms

-- a single character
pub single_reads : (t : List ℕ) (old mid new : Automaton) (negated : Bool) (r : ℕ × ℕ) (part : Part)
    (rest : Bor (List ℕ))
    → None ≡ behind 40 t → None ≡ behind 91 t
    → Some (set_of negated (r ∷ []), rest.now) ≡ single_at t → IsFresh old
    → AddsRanges old (2 ^ old.size) (r ∷ []) mid
    → ((set : CharacterSet) → Sums part (OneOf set) mid.size)
    → ((before : Automaton) (rs : List (ℕ × ℕ)) → IsFresh before
    → AddsRanges before (2 ^ before.size) rs mid
    → Adds before (OneOf (record { negated = negated; ranges = rs })) new)
    → ReadsOne atom_at t old new (Ok (Some (record { part = part; rest = rest })))
single_reads t old mid new negated r part rest no_group no_class some fresh ranges sums adds =
    let set : CharacterSet = set_of negated (r ∷ []) in
    let added = adds old (r ∷ []) fresh ranges in
    let short = single_shorter t (set, rest.now) some in (
      OneOf set,
      record {
        parsed = λ k le. ap (λ o. atom_by (parse k Alternatives) t o (behind 91 t)) (sym no_group)
            ∙ ap (atom_by (parse k Alternatives) t None) (sym no_class)
            ∙ ap (λ o. Ok (option_map (λ x. found (OneOf x.0) x.1) o)) (sym some);
      },
      record {
        sums = subst (λ (n : ℕ). Sums part (OneOf set) n) ranges.sized (sums set);
        adds = added;
        shorter = omega (arith, short);
        room = omega (arith, short, added.sized);
      },
      short,
    ) where
      cut : (b : Bool) (s : CharacterSet) (c : ℕ) (t : List ℕ) (x : CharacterSet × List ℕ)
          → Some x ≡ (if b then Some (s, t) else None) → length x.1 < length (c ∷ t)
      cut true s c t x h =
          let same : x ≡ (s, t) =
          cc in let e : x.1 ≡ t = ap (λ (y : CharacterSet × List ℕ). y.1) same in
          omega (arith, ap length e)
      cut false s c t x h = absurd cc

      literal_shorter : (t : List ℕ) (x : CharacterSet × List ℕ) → Some x ≡ literal_at t
          → length x.1 < length t
      literal_shorter [] x h = absurd cc
      literal_shorter (c ∷ t) x h = cut (is_literal c) (set_of false ((c, c) ∷ [])) c t x h

      escaped_shorter : (u : List ℕ) (o : Option (List ℕ)) (x : CharacterSet × List ℕ)
          → behind 100 u ≡ o → Some x ≡ escaped_by u o → length x.1 < length u
      escaped_shorter u (Some v) x e h =
          let same : x ≡ (set_of false ((48, 57) ∷ []), v) =
          some_is x (set_of false ((48, 57) ∷ []), v) h in
          let rest : x.1 ≡ v = ap (λ (y : CharacterSet × List ℕ). y.1) same in
          let short = behind_shorter 100 u v (sym e) in omega (arith, ap length rest)
      escaped_shorter u None x e h = by (punctuation_at u) refl h where
        by : (o : Option (ℕ × List ℕ)) → punctuation_at u ≡ o
            → Some x ≡ option_map (λ y. (set_of false ((y.0, y.0) ∷ []), y.1)) o
            → length x.1 < length u
        by None e h = absurd cc
        by (Some y) e h =
            let same : x ≡ (set_of false ((y.0, y.0) ∷ []), y.1) =
            some_is x (set_of false ((y.0, y.0) ∷ []), y.1) h in
            let rest : x.1 ≡ y.1 = ap (λ (z : CharacterSet × List ℕ). z.1) same in
            let short = punctuation_shorter u y (sym e) in omega (arith, ap length rest)

      single_shorter : (t : List ℕ) (x : CharacterSet × List ℕ) → Some x ≡ single_at t
          → length x.1 < length t
      single_shorter t x h = by_dot (behind 46 t) (behind 92 t) refl refl h where
        by_dot : (o p : Option (List ℕ)) → behind 46 t ≡ o → behind 92 t ≡ p
            → Some x ≡ single_by t o p → length x.1 < length t
        by_dot (Some u) p e f h =
            let same : x ≡ (set_of true ((10, 10) ∷ []), u) =
            some_is x (set_of true ((10, 10) ∷ []), u) h in
            let rest : x.1 ≡ u = ap (λ (y : CharacterSet × List ℕ). y.1) same in
            let short = behind_shorter 46 t u (sym e) in omega (arith, ap length rest)
        by_dot None (Some u) e f h = let short = behind_shorter 92 t u (sym f) in
            let less = escaped_shorter u (behind 100 u) x refl h in omega arith
        by_dot None None e f h = literal_shorter t x h

-- the text begins with no atom
pub no_atom : (t : List ℕ) (old : Automaton) → None ≡ behind 40 t → None ≡ behind 91 t
    → None ≡ single_at t → ReadsOne atom_at t old old (Ok None)
no_atom t old no_group no_class none = (
  record {
    parsed = λ k le. ap (λ o. atom_by (parse k Alternatives) t o (behind 91 t)) (sym no_group)
        ∙ ap (atom_by (parse k Alternatives) t None) (sym no_class)
        ∙ ap (λ o. Ok (option_map (λ x. found (OneOf x.0) x.1) o)) (sym none);
  },
  refl,
)

-- a class
pub class_reads : (t u v : List ℕ) (negated : Bool) (old new : Automaton)
    (r : Result (Option Parsed) Stop) → behind 40 t ≡ None → behind 91 t ≡ Some u
    → length v ≤ length u → class_by (length t) u (behind 94 u) ≡ class_of (length t) negated
    (items_at (length v) v)
    → ReadsClass (length t) negated v old new r → ReadsOne atom_at t old new r
class_reads t u v negated old new (Ok (Some p)) no_group opened le same h =
    let short = behind_shorter 91 t u (sym opened) in (
      OneOf (set_of negated h.0),
      record {
        parsed = λ k le. ap (λ o. atom_by (parse k Alternatives) t o (behind 91 t)) no_group
            ∙ ap (atom_by (parse k Alternatives) t None) opened ∙ same
            ∙ ap (class_of (length t) negated) h.1;
      },
      record {
        sums = h.2;
        adds = h.3;
        shorter = omega (arith, short, h.4);
        room = omega (arith, short, h.4, h.3.sized);
      },
      omega (arith, short, h.4),
    )
class_reads t u v negated old new (Ok None) no_group opened le same h = absurd h
class_reads t u v negated old new (Err NoMemory) no_group opened le same h = tt
class_reads t u v negated old new (Err (Left l)) no_group opened le same h =
    subst (λ (n : ℕ). ReadsPart atom_at t (Err n)) (sym h.0)
    record {
      parsed = λ k le. ap (λ o. atom_by (parse k Alternatives) t o (behind 91 t)) no_group
          ∙ ap (atom_by (parse k Alternatives) t None) opened ∙ same
          ∙ ap (class_of (length t) negated) h.1;
    }

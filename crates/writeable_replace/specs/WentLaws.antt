-- Texts that a sink takes one after another, and what it passes on of them.
use Rattle.std.specs.Prelude.{Result, Ok, Err, IsOk, OnOk}
use Rattle.std.proofs.Common.{◌≡◌, ℕ, ◌-◌, ◌≤◌, Bool, false, List, [], ◌++◌, length, take, Option}
use Rattle.std.proofs.Common.{Some, None, refl, sym, ap, ◌∙◌, subst, arith, append_assoc}
use Rattle.writeable_core.specs.Sink.{TookPrefix, HasCause, Rose}
use Rattle.writeable_core.specs.SinkLaws.{front_of_longer, front_after, rose_earlier, cause_earlier}
use Rattle.writeable_core.specs.declared.sink.SinkError.{SinkError}
use Rattle.writeable_core.specs.declared.sink.SinkError.TheVariants.{Fault, NoMemory}
use Rattle.writeable_replace.specs.Replaced.{replaced}
use Rattle.writeable_replace.specs.Passed.{so_far, position_after, passed_on, Passed, Refused, Went}
use Rattle.writeable_replace.specs.Passed.{Came}
use Rattle.writeable_replace.specs.PassedLaws.{both, nothing_came, passed_whole}

-- what follows the text so far
so_far_both : (p : List ℕ) (k : ℕ) (s t : List ℕ) → so_far p k (s ++ t) ≡ so_far p k s ++ t
so_far_both p k s t = sym (append_assoc (take k p) s t)

-- a text's steps, by the sink behind
pub passed_by :
    {S : Type 0} {took : S → List ℕ → S → Type 0} (p r : List ℕ) {k j : ℕ} {a b : S}
    (t : List ℕ) {o : List ℕ}
    → Came p r (so_far p k t) j o → took a o b → Passed took p r k a t j b
passed_by {took} p r {a} {b} t came taken = record {
  position = sym came.position;
  taken = subst (λ o. took a o b) (sym came.text) taken;
}

pub refused_by :
    {S T : Type 0} {took : S → List ℕ → S → Type 0} {faults : S → ℕ} {memory : S → Bool}
    (p r : List ℕ) {k j : ℕ} {a b : S} (t : List ℕ) {o : List ℕ} {e : SinkError}
    → Came p r (so_far p k t) j o → TookPrefix took a o b
    → HasCause {T = T} (faults a) (faults b) (memory a) (Err e)
    → Refused took faults memory p r k a t e b
refused_by {T} {took} p r {a} {b} t came front cause = record {
  front = subst (λ o. TookPrefix took a o b) (sym came.text) front;
  fault = λ is. cause.fault (ap Err is);
  no_memory = λ is. cause.no_memory (ap Err is);
}

-- the sink behind refused in the first part of what is passed on
pub refused_front :
    {S T : Type 0} {took : S → List ℕ → S → Type 0} {faults : S → ℕ} {memory : S → Bool}
    (p r : List ℕ) {k j : ℕ} {a b : S} (t x y : List ℕ) {e : SinkError}
    → Came p r (so_far p k t) j (x ++ y) → TookPrefix took a x b
    → HasCause {T = T} (faults a) (faults b) (memory a) (Err e)
    → Refused took faults memory p r k a t e b
refused_front p r t x y came front cause = refused_by p r t came (front_of_longer x y front) cause

-- or in the second
pub refused_behind :
    {S T : Type 0} {took : S → List ℕ → S → Type 0} {faults : S → ℕ} {memory : S → Bool}
    (p r : List ℕ) {k j : ℕ} {a b c : S} (t x y : List ℕ) {e : SinkError}
    → ((a b c : S) (s t : List ℕ) → took a s b → took b t c → took a (s ++ t) c)
    → ((a b : S) (t : List ℕ) → took a t b → faults a ≤ faults b)
    → ((a b : S) (t : List ℕ) → took a t b → memory b ≡ memory a)
    → Came p r (so_far p k t) j (x ++ y) → took a x b → TookPrefix took b y c
    → HasCause {T = T} (faults b) (faults c) (memory b) (Err e)
    → Refused took faults memory p r k a t e c
refused_behind {faults} p r {a} {b} {c} t x y {e} join later same came first front cause =
    refused_by p r t came (front_after x y join first front)
    (cause_earlier (Err e) (later a b x first) (same a b x first) cause)

pub passed_nothing : {S : Type 0} {took : S → List ℕ → S → Type 0} (p r : List ℕ) {k : ℕ} {a : S}
    → k ≤ length p - 1 → took a [] a → Passed took p r k a [] k a
passed_nothing p r {k} le nothing = passed_by p r [] (nothing_came p r k le) nothing

-- a text was passed on, and then another
pub passed_both :
    {S : Type 0} {took : S → List ℕ → S → Type 0} (p r : List ℕ) {k j l : ℕ} {a b c : S}
    (s t : List ℕ)
    → ((a b c : S) (s t : List ℕ) → took a s b → took b t c → took a (s ++ t) c)
    → Passed took p r k a s j b → Passed took p r j b t l c → Passed took p r k a (s ++ t) l c
passed_both {took} p r {k} {j} {l} {a} {b} {c} s t join first last =
    let all = both p r (so_far p k s) t in
    let from = ap (λ i. so_far p i t) first.position in
    record {
      position = last.position ∙ ap (position_after p) from ∙ sym all.position
          ∙ ap (position_after p) (sym (so_far_both p k s t));
      taken = subst (λ o. took a o c)
          (ap (λ u. passed_on p r (so_far p k s) ++ passed_on p r u) from ∙ sym all.text
          ∙ ap (passed_on p r) (sym (so_far_both p k s t)))
          (join a b c (passed_on p r (so_far p k s))
          (passed_on p r (so_far p j t)) first.taken last.taken);
    }

-- a text was passed on, and within another the sink behind refused
pub refused_later :
    {S : Type 0} {took : S → List ℕ → S → Type 0} {faults : S → ℕ} {memory : S → Bool}
    (p r : List ℕ) {k j : ℕ} {a b c : S} (s t : List ℕ) {e : SinkError}
    → ((a b c : S) (s t : List ℕ) → took a s b → took b t c → took a (s ++ t) c)
    → ((a b : S) (t : List ℕ) → took a t b → faults a ≤ faults b)
    → ((a b : S) (t : List ℕ) → took a t b → memory b ≡ memory a)
    → Passed took p r k a s j b → Refused took faults memory p r j b t e c
    → Refused took faults memory p r k a (s ++ t) e c
refused_later {took} {faults} p r {k} {j} {a} {b} {c} s t join later same first last =
    let all = both p r (so_far p k s) t in
    let from = ap (λ i. so_far p i t) first.position in
    record {
      front = subst (λ o. TookPrefix took a o c)
          (ap (λ u. passed_on p r (so_far p k s) ++ passed_on p r u) from ∙ sym all.text
          ∙ ap (passed_on p r) (sym (so_far_both p k s t)))
          (front_after (passed_on p r (so_far p k s))
          (passed_on p r (so_far p j t)) join first.taken last.front);
      fault =
          λ is. rose_earlier (faults a) (faults b) (faults c)
          (later a b (passed_on p r (so_far p k s)) first.taken) (last.fault is);
      no_memory = λ is. sym (same a b (passed_on p r (so_far p k s)) first.taken)
          ∙ last.no_memory is;
    }

-- the sink behind refused within a text, and then it got nothing of another
pub refused_longer :
    {S : Type 0} {took : S → List ℕ → S → Type 0} {faults : S → ℕ} {memory : S → Bool}
    (p r : List ℕ) {k : ℕ} {a b : S} (s t : List ℕ) {e : SinkError}
    → Refused took faults memory p r k a s e b → Refused took faults memory p r k a (s ++ t) e b
refused_longer {took} p r {k} {a} {b} s t first =
    let all = both p r (so_far p k s) t in
    record {
      front =
          subst (λ o. TookPrefix took a o b)
          (sym all.text ∙ ap (passed_on p r) (sym (so_far_both p k s t)))
          (front_of_longer (passed_on p r (so_far p k s))
          (passed_on p r (so_far p (position_after p (so_far p k s)) t)) first.front);
      fault = first.fault;
      no_memory = first.no_memory;
    }

pub went_nothing :
    {S : Type 0} (took : S → List ℕ → S → Type 0) (faults : S → ℕ) (memory : S → Bool)
    (p r : List ℕ) (k : ℕ) (a : S) (e : Option SinkError)
    → k ≤ length p - 1 → took a [] a → Went took faults memory p r k a [] k a e e
went_nothing took faults memory p r k a None le nothing = passed_nothing p r le nothing
went_nothing took faults memory p r k a (Some e) le nothing = (refl, refl)

pub went_both : {S : Type 0} (took : S → List ℕ → S → Type 0) (faults : S → ℕ) (memory : S → Bool)
    (p r : List ℕ) (k j l : ℕ) (a b c : S) (s t : List ℕ) (e f g : Option SinkError)
    → ((a b c : S) (s t : List ℕ) → took a s b → took b t c → took a (s ++ t) c)
    → ((a b : S) (t : List ℕ) → took a t b → faults a ≤ faults b)
    → ((a b : S) (t : List ℕ) → took a t b → memory b ≡ memory a)
    → Went took faults memory p r k a s j b e f → Went took faults memory p r j b t l c f g
    → Went took faults memory p r k a (s ++ t) l c e g
went_both took faults memory p r k j l a b c s t None None None join later same first last =
    passed_both p r s t join first last
went_both took faults memory p r k j l a b c s t None None (Some g) join later same first last =
    refused_later p r s t join later same first last
went_both took faults memory p r k j l a b c s t None (Some f) None join later same first last =
    absurd (let e = last.0 in cc)
went_both took faults memory p r k j l a b c s t None (Some f) (Some g) join later same first last =
    let same_error : f ≡ g = let e = last.0 in cc in
    subst (λ d. Refused took faults memory p r k a (s ++ t) d c) same_error
    (subst (λ d. Refused took faults memory p r k a (s ++ t) f d) (sym last.1)
    (refused_longer p r s t first))
went_both took faults memory p r k j l a b c s t (Some e) None g join later same first last =
    absurd (let e = first.0 in cc)
went_both took faults memory p r k j l a b c s t (Some e) (Some f) g join later same first last =
    (last.0 ∙ first.0, last.1 ∙ first.1)

-- the same, where needle and replacement stayed
pub went_on : {S : Type 0} (took : S → List ℕ → S → Type 0) (faults : S → ℕ) (memory : S → Bool)
    (p q r u : List ℕ) (k j l : ℕ) (a b c : S) (s t : List ℕ) (e f g : Option SinkError)
    → ((a b c : S) (s t : List ℕ) → took a s b → took b t c → took a (s ++ t) c)
    → ((a b : S) (t : List ℕ) → took a t b → faults a ≤ faults b)
    → ((a b : S) (t : List ℕ) → took a t b → memory b ≡ memory a)
    → q ≡ p → u ≡ r → Went took faults memory p r k a s j b e f
    → Went took faults memory q u j b t l c f g
    → Went took faults memory p r k a (s ++ t) l c e g
went_on took faults memory p q r u k j l a b c s t e f g join later same needle
    replacement first last =
    went_both took faults memory p r k j l a b c s t e f g join later same first
    (subst (λ p. Went took faults memory p r j b t l c f g) needle
    (subst (λ r. Went took faults memory q r j b t l c f g) replacement last))

-- ---- at the end of the text

-- all was passed on, and then what was kept back
pub ended_ok : {S : Type 0} {took : S → List ℕ → S → Type 0} (p r t : List ℕ) {k j : ℕ} {a b c : S}
    → ((a b c : S) (s t : List ℕ) → took a s b → took b t c → took a (s ++ t) c) → k ≡ 0
    → Passed took p r k a t j b → took b (take j p) c → took a (replaced t p r) c
ended_ok {took} p r t {k} {j} {a} {b} {c} join zero passed last =
    let start : so_far p k t ≡ t = ap (λ k. so_far p k t) zero in
    subst (λ o. took a o c)
    (ap (λ i. passed_on p r (so_far p k t) ++ take i p) passed.position
    ∙ passed_whole p r (so_far p k t) ∙ ap (λ s. replaced s p r) start)
    (join a b c (passed_on p r (so_far p k t)) (take j p) passed.taken last)

-- all was passed on, and a front of what was kept back
pub ended_front :
    {S : Type 0} {took : S → List ℕ → S → Type 0} (p r t : List ℕ) {k j : ℕ} {a b c : S}
    → ((a b c : S) (s t : List ℕ) → took a s b → took b t c → took a (s ++ t) c) → k ≡ 0
    → Passed took p r k a t j b → TookPrefix took b (take j p) c
    → TookPrefix took a (replaced t p r) c
ended_front {took} p r t {k} {j} {a} {b} {c} join zero passed last =
    let start : so_far p k t ≡ t = ap (λ k. so_far p k t) zero in
    subst (λ o. TookPrefix took a o c)
    (ap (λ i. passed_on p r (so_far p k t) ++ take i p) passed.position
    ∙ passed_whole p r (so_far p k t) ∙ ap (λ s. replaced s p r) start)
    (front_after (passed_on p r (so_far p k t)) (take j p) join passed.taken last)

-- the sink behind refused before
pub ended_refused :
    {S : Type 0} {took : S → List ℕ → S → Type 0} {faults : S → ℕ} {memory : S → Bool}
    (p r t : List ℕ) {k : ℕ} {a b : S} {e : SinkError}
    → k ≡ 0 → Refused took faults memory p r k a t e b → TookPrefix took a (replaced t p r) b
ended_refused {took} p r t {k} {a} {b} zero refused =
    let start : so_far p k t ≡ t = ap (λ k. so_far p k t) zero in
    subst (λ o. TookPrefix took a o b)
    (passed_whole p r (so_far p k t) ∙ ap (λ s. replaced s p r) start)
    (front_of_longer (passed_on p r (so_far p k t))
    (take (position_after p (so_far p k t)) p) refused.front)

pub refused_cause :
    {S T : Type 0} {took : S → List ℕ → S → Type 0} {faults : S → ℕ} {memory : S → Bool}
    (p r t : List ℕ) {k : ℕ} {a b : S} {e : SinkError}
    → Refused took faults memory p r k a t e b
    → HasCause {T = T} (faults a) (faults b) (memory a) (Err e)
refused_cause p r t refused = record {
  fault = λ is. refused.fault (cc);
  no_memory = λ is. refused.no_memory (cc);
}

-- a sink that counts no fault and takes no memory has no error
pub never_refuses : {T : Type 0} (x : Result T SinkError) → HasCause 0 0 false x → IsOk x
never_refuses (Ok x) cause = refl
never_refuses (Err Fault) cause = absurd (let rose = cause.fault refl in omega arith)
never_refuses (Err NoMemory) cause = absurd (let no = cause.no_memory refl in cc)

-- what an Ok took
pub taken_on_ok : {T P : Type 0} (x : Result T SinkError) → IsOk x → OnOk x P → P
taken_on_ok (Ok x) is p = p
taken_on_ok (Err e) is p = absurd (cc)

-- where the sink takes no memory and its count of faults didn't rise, there is no error
pub ok_without_faults : {T : Type 0} (before now : ℕ) (memory : Bool) (x : Result T SinkError)
    → HasCause before now memory x
    → memory ≡ false → (Rose before now → ⊥) → IsOk x
ok_without_faults before now memory (Ok x) cause none calm = refl
ok_without_faults before now memory (Err Fault) cause none calm = absurd (calm (cause.fault refl))
ok_without_faults before now memory (Err NoMemory) cause none calm =
    absurd (let e = cause.no_memory refl in cc)

-- Which ends lie in enough of the spans.
use Rattle.std.proofs.Common.{◌≡◌, ℕ, zero, suc, ◌≤◌, min, max, true, false, leb, ◌⊎◌, List, [], ◌∷◌, fold, Some, None, Option, sym, refl, ap, ◌∙◌, subst, inl, inr, arith}
use mathlib.Core.List.Memᴰ
use mathlib.Core.List.{Memᴰ}
use Rattle.std.proofs.lemmas.Bool.{cases_lt, cases_Bool, both_ways, and_parts, and_from, leb-true, le-leb, cond-true, cond-false}
use Rattle.clocks.specs.declared.growth.Span.{Span}
use Rattle.clocks.specs.Time.{covers, Holds}
use Rattle.votes.specs.Counts.{count, picked, end_step, low_end, high_end, lowest, highest}
use Rattle.votes.proofs.Steps.{vote, count-cons}

pub holds_covers : (t : ℕ) (s : Span) → Holds s t → covers t s ≡ true
holds_covers t s h = and_from (leb s.low t) (leb t s.high) (le-leb s.low t h.0) (le-leb t s.high h.1)

pub covers_holds : (t : ℕ) (s : Span) → covers t s ≡ true → Holds s t
covers_holds t s e =
    let p = and_parts (leb s.low t) (leb t s.high) e in (leb-true s.low t p.0, leb-true t s.high p.1)

pub vote_in : (t : ℕ) (s : Span) → Holds s t → vote t (Some s) ≡ 1
vote_in t s h = cond-true {A = ℕ} (covers t s) 1 0 (holds_covers t s h)

vote_out : (t : ℕ) (s : Span) → covers t s ≡ false → vote t (Some s) ≡ 0
vote_out t s e = cond-false {A = ℕ} (covers t s) 1 0 e

pub vote_holds : (t : ℕ) (s : Span) → 1 ≤ vote t (Some s) → Holds s t
vote_holds t s h =
    elim (cases_Bool (covers t s)) [ inl e ↦ covers_holds t s e | inr e ↦ absurd (let v = vote_out t s e in omega arith) ]

-- where a time lies, another lies too
pub count_mono : (t u : ℕ) (ss : List (Option Span)) → ((y : Span) → Memᴰ (Some y) ss → Holds y t → Holds y u) → count t ss ≤ count u ss
count_mono t u [] h = omega arith
count_mono t u (None ∷ ss) h = omega (arith, count-cons t None ss, count-cons u None ss, count_mono t u ss (λ y m. h y (Memᴰ.tail m)))
count_mono t u (Some s ∷ ss) h =
    let rest = count_mono t u ss (λ y m. h y (Memᴰ.tail m)) in
    let a = count-cons t (Some s) ss in
    let b = count-cons u (Some s) ss in
    elim (cases_Bool (covers t s)) [
      | inl e ↦ (let v = vote_in t s (covers_holds t s e) in let w = vote_in u s (h s (Memᴰ.head refl) (covers_holds t s e)) in omega arith)
      | inr e ↦ (let v = vote_out t s e in omega arith)
    ]

-- of the spans that a time lies in, one that is first in some order
module _ (t : ℕ) (le : Span → Span → Type 0) (same : (x : Span) → le x x) (trans : (x y z : Span) → le x y → le y z → le x z)
    (total : (x y : Span) → le x y ⊎ le y x) where
  pub record Top (ss : List (Option Span)) : Type 0 where
    pub span : Span
    pub member : Memᴰ (Some span) ss
    pub holds : Holds span t
    pub above : (y : Span) → Memᴰ (Some y) ss → Holds y t → le y span

  passed_by : (s : Option Span) (ss : List (Option Span)) → ((y : Span) → Some y ≡ s → Holds y t → ⊥) → Top ss → Top (s ∷ ss)
  passed_by s ss out top =
      record {
        span = top.span;
        member = Memᴰ.tail top.member;
        holds = top.holds;
        above = λ y m h. elim (Memᴰ.cases_cons m) [ inl e ↦ absurd (out y e h) | inr k ↦ top.above y k h ];
      }

  more : (s : Span) (ss : List (Option Span)) → Holds s t → Top ss → Top (Some s ∷ ss)
  more s ss h top =
      elim (total s top.span) [
        | inl b ↦
            record {
              span = top.span;
              member = Memᴰ.tail top.member;
              holds = top.holds;
              above = λ y m k. elim (Memᴰ.cases_cons m) [ inl e ↦ (let z : y ≡ s = cc in subst (λ x. le x top.span) (sym z) b) | inr n ↦ top.above y n k ];
            }
        | inr b ↦
            record {
              span = s;
              member = Memᴰ.head refl;
              holds = h;
              above = λ y m k. elim (Memᴰ.cases_cons m) [
                | inl e ↦ (let z : y ≡ s = cc in subst (λ x. le x s) (sym z) (same s))
                | inr n ↦ trans y top.span s (top.above y n k) b
              ];
            }
      ]

  only : (s : Span) (ss : List (Option Span)) → Holds s t → count t ss ≡ 0 → ((y : Span) → Memᴰ (Some y) ss → Holds y t → 1 ≤ count t ss) → Top (Some s ∷ ss)
  only s ss h z some =
      record {
        span = s;
        member = Memᴰ.head refl;
        holds = h;
        above = λ y m k. elim (Memᴰ.cases_cons m) [
          | inl e ↦ (let q : y ≡ s = cc in subst (λ x. le x s) (sym q) (same s))
          | inr n ↦ absurd (let p = some y n k in omega arith)
        ];
      }

cases_zero : (n : ℕ) → (n ≡ 0) ⊎ (1 ≤ n)
cases_zero zero = inl refl
cases_zero (suc n) = inr (omega arith)

pub counts_one : (t : ℕ) (ss : List (Option Span)) (y : Span) → Memᴰ (Some y) ss → Holds y t → 1 ≤ count t ss
counts_one t [] y m h = absurd (Memᴰ.not-nil m)
counts_one t (s ∷ ss) y m h =
    elim (Memᴰ.cases_cons m) [
      | inl e ↦ (let v : vote t s ≡ 1 = ap (vote t) (sym e) ∙ vote_in t y h in omega (arith, count-cons t s ss))
      | inr n ↦ omega (arith, count-cons t s ss, counts_one t ss y n h)
    ]

module _ (t : ℕ) (le : Span → Span → Type 0) (same : (x : Span) → le x x) (trans : (x y z : Span) → le x y → le y z → le x z)
    (total : (x y : Span) → le x y ⊎ le y x) where
  pub top : (ss : List (Option Span)) → 1 ≤ count t ss → Top t le same trans total ss
  top [] h = absurd (let z : 1 ≤ 0 = h in omega arith)
  top (None ∷ ss) h =
      passed_by t le same trans total None ss (λ y e k. let z : ◌≡◌ {A = ℕ} 0 1 = cc in omega arith) (top ss (omega (arith, count-cons t None ss)))
  top (Some s ∷ ss) h =
      elim (cases_Bool (covers t s)) [
        | inl e ↦
            elim (cases_zero (count t ss)) [
              | inl z ↦ only t le same trans total s ss (covers_holds t s e) z (counts_one t ss)
              | inr p ↦ more t le same trans total s ss (covers_holds t s e) (top ss p)
            ]
        | inr e ↦
            passed_by t le same trans total (Some s) ss
            (λ y q k. let z : y ≡ s = cc in let b : covers t s ≡ true = subst (λ x. covers t x ≡ true) z (holds_covers t y k) in both_ways (covers t s) e b)
            (top ss (omega (arith, vote_out t s e, count-cons t (Some s) ss)))
      ]

-- a way to pick the better of two ends
pub record Picks (pick : ℕ → ℕ → ℕ) (le : ℕ → ℕ → Type 0) : Type 0 where
  pub same : (a : ℕ) → le a a
  pub trans : (a b c : ℕ) → le a b → le b c → le a c
  pub left : (a b : ℕ) → le (pick a b) a
  pub right : (a b : ℕ) → le (pick a b) b
  pub either : (a b : ℕ) → (pick a b ≡ a) ⊎ (pick a b ≡ b)

-- ends of spans that lie in enough of all the spans
module _ (end : Span → ℕ) (pick : ℕ → ℕ → ℕ) (le : ℕ → ℕ → Type 0) (laws : Picks pick le) (k : ℕ) (all : List (Option Span)) where
  -- what is found is an end of one of the spans, and lies in enough of them
  pub record Found (ss : List (Option Span)) (l : ℕ) : Type 0 where
    pub span : Span
    pub member : Memᴰ (Some span) ss
    pub ends : end span ≡ l
    pub enough : k ≤ count l all

  found_tail : (s : Option Span) (ss : List (Option Span)) (l : ℕ) → Found ss l → Found (s ∷ ss) l
  found_tail s ss l f = record { span = f.span; member = Memᴰ.tail f.member; ends = f.ends; enough = f.enough }

  found_head : (s : Span) (ss : List (Option Span)) → k ≤ count (end s) all → Found (Some s ∷ ss) (end s)
  found_head s ss h = record { span = s; member = Memᴰ.head refl; ends = refl; enough = h }

  -- one span more
  abbrev step : Option ℕ → Option Span → Option ℕ
  step best s = end_step end pick k all best s

  taken_step : (best : Option ℕ) (s : Span) → k ≤ count (end s) all → step best (Some s) ≡ Some (picked pick best (end s))
  taken_step best s h = cond-true (leb k (count (end s) all)) (Some (picked pick best (end s))) best (le-leb k (count (end s) all) h)

  -- what is found over some spans is what was found before them, or an end of one of them
  found_after : (ss : List (Option Span)) (best : Option ℕ) (l : ℕ) → fold step best ss ≡ Some l → (best ≡ Some l) ⊎ Found ss l
  found_after [] best l e = inl e
  found_after (None ∷ ss) best l e = elim (found_after ss best l e) [ inl b ↦ inl b | inr f ↦ inr (found_tail None ss l f) ]
  found_after (Some s ∷ ss) best l e =
      elim (found_after ss (step best (Some s)) l e) [
        | inl b ↦
            elim (cases_Bool (leb k (count (end s) all))) [
              | inl t ↦ picked_from best (let q = cond-true (leb k (count (end s) all)) (Some (picked pick best (end s))) best t in let z : l ≡ picked pick best (end s) = cc in z) (leb-true k (count (end s) all) t)
              | inr t ↦ inl (let q = cond-false (leb k (count (end s) all)) (Some (picked pick best (end s))) best t in sym q ∙ b)
            ]
        | inr f ↦ inr (found_tail (Some s) ss l f)
      ]
    where
      picked_from : (best : Option ℕ) → l ≡ picked pick best (end s) → k ≤ count (end s) all → (best ≡ Some l) ⊎ Found (Some s ∷ ss) l
      picked_from None z h = inr (subst (Found (Some s ∷ ss)) (sym z) (found_head s ss h))
      picked_from (Some b) z h =
          elim (laws.either b (end s)) [
            | inl p ↦ inl (ap Some (sym p ∙ sym z))
            | inr p ↦ inr (subst (Found (Some s ∷ ss)) (sym p ∙ sym z) (found_head s ss h))
          ]

  pub found : (ss : List (Option Span)) (l : ℕ) → fold step None ss ≡ Some l → Found ss l
  found ss l e = elim (found_after ss None l e) [ inl b ↦ absurd (let z : ◌≡◌ {A = ℕ} 0 1 = cc in omega arith) | inr f ↦ f ]

  -- and it is no worse than a given end
  pub record Best (o : Option ℕ) (t : ℕ) : Type 0 where
    pub best : ℕ
    pub is : o ≡ Some best
    pub first : le best t

  -- one span more makes nothing worse
  kept_step : (best : Option ℕ) (s : Option Span) (t : ℕ) → Best best t → Best (step best s) t
  kept_step best None t b = b
  kept_step best (Some s) t b =
      elim (cases_Bool (leb k (count (end s) all))) [
        | inl h ↦
            record {
              best = pick b.best (end s);
              is = cond-true (leb k (count (end s) all)) (Some (picked pick best (end s))) best h ∙ ap (λ o. Some (picked pick o (end s))) b.is;
              first = laws.trans (pick b.best (end s)) b.best t (laws.left b.best (end s)) b.first;
            }
        | inr h ↦ record { best = b.best; is = cond-false (leb k (count (end s) all)) (Some (picked pick best (end s))) best h ∙ b.is; first = b.first }
      ]

  kept : (ss : List (Option Span)) (best : Option ℕ) (t : ℕ) → Best best t → Best (fold step best ss) t
  kept [] best t b = b
  kept (s ∷ ss) best t b = kept ss (step best s) t (kept_step best s t b)

  best_end : (ss : List (Option Span)) (best : Option ℕ) (x : Span) → Memᴰ (Some x) ss → k ≤ count (end x) all → Best (fold step best ss) (end x)
  best_end [] best x m h = absurd (Memᴰ.not-nil m)
  best_end (s ∷ ss) best x m h =
      elim (Memᴰ.cases_cons m) [
        | inl e ↦
            kept ss (step best s) (end x) (record { best = picked pick best (end x); is = ap (step best) (sym e) ∙ taken_step best x h; first = no_worse best (end x) })
        | inr n ↦ best_end ss (step best s) x n h
      ]
    where
      no_worse : (before : Option ℕ) (t : ℕ) → le (picked pick before t) t
      no_worse None t = laws.same t
      no_worse (Some b) t = laws.right b t

  pub best_of : (ss : List (Option Span)) (x : Span) → Memᴰ (Some x) ss → k ≤ count (end x) all → Best (fold step None ss) (end x)
  best_of ss x m h = best_end ss None x m h

min_either : (a b : ℕ) → (min a b ≡ a) ⊎ (min a b ≡ b)
min_either a b = elim (cases_lt a b) [ inl h ↦ inl (omega arith) | inr h ↦ inr (omega arith) ]

max_either : (a b : ℕ) → (max a b ≡ a) ⊎ (max a b ≡ b)
max_either a b = elim (cases_lt a b) [ inl h ↦ inr (omega arith) | inr h ↦ inl (omega arith) ]

abbrev pub down : ℕ → ℕ → Type 0
down a b = a ≤ b

abbrev pub up : ℕ → ℕ → Type 0
up a b = b ≤ a

pub lows : Picks min down
lows = record { same = λ a. omega arith; trans = λ a b c p q. omega arith; left = λ a b. omega arith; right = λ a b. omega arith; either = min_either }

pub highs : Picks max up
highs = record { same = λ a. omega arith; trans = λ a b c p q. omega arith; left = λ a b. omega arith; right = λ a b. omega arith; either = max_either }

-- The two ends. At a time that lies in enough of the spans, the lowest is there and no higher, and the highest no lower.
module _ (k : ℕ) (ss : List (Option Span)) where
  pub low_found : (l : ℕ) → lowest k ss ≡ Some l → Found low_end min down lows k ss ss l
  low_found = found low_end min down lows k ss ss

  pub high_found : (h : ℕ) → highest k ss ≡ Some h → Found high_end max up highs k ss ss h
  high_found = found high_end max up highs k ss ss

  pub low_best : (x : Span) → Memᴰ (Some x) ss → k ≤ count x.low ss → Best low_end min down lows k ss (lowest k ss) x.low
  low_best = best_of low_end min down lows k ss ss

  pub high_best : (x : Span) → Memᴰ (Some x) ss → k ≤ count x.high ss → Best high_end max up highs k ss (highest k ss) x.high
  high_best = best_of high_end max up highs k ss ss

  pub low_at : (t : ℕ) → 1 ≤ k → k ≤ count t ss → (l : ℕ) × (lowest k ss ≡ Some l) × (l ≤ t)
  low_at t one h =
      let x = top t (λ y z. y.low ≤ z.low) (λ y. omega arith) (λ y z w p q. omega arith) (λ y z. low_total y z) ss (omega arith) in
      let c = count_mono t x.span.low ss (λ y m k. let a = x.above y m k in let b = x.holds in (a, omega arith)) in
      let b = low_best x.span x.member (omega arith) in
      (b.best, b.is, (let p = x.holds in let q = b.first in omega arith))
    where
      low_total : (y z : Span) → (y.low ≤ z.low) ⊎ (z.low ≤ y.low)
      low_total y z = elim (cases_lt y.low z.low) [ inl p ↦ inl (omega arith) | inr p ↦ inr p ]

  pub high_at : (t : ℕ) → 1 ≤ k → k ≤ count t ss → (h : ℕ) × (highest k ss ≡ Some h) × (t ≤ h)
  high_at t one h =
      let x = top t (λ y z. z.high ≤ y.high) (λ y. omega arith) (λ y z w p q. omega arith) (λ y z. high_total y z) ss (omega arith) in
      let c = count_mono t x.span.high ss (λ y m k. let a = x.above y m k in let b = x.holds in (omega arith, a)) in
      let b = high_best x.span x.member (omega arith) in
      (b.best, b.is, (let p = x.holds in let q = b.first in omega arith))
    where
      high_total : (y z : Span) → (z.high ≤ y.high) ⊎ (y.high ≤ z.high)
      high_total y z = elim (cases_lt z.high y.high) [ inl p ↦ inl (omega arith) | inr p ↦ inr p ]

-- A clock that counts at a pace within its rate runs within its rate.
use Rattle.std.proofs.Common.{◌≡◌, ℕ, ◌+◌, ◌-◌, ◌*◌, ◌/◌, ◌<◌, ◌≤◌, cond, ltb, List, [], ◌∷◌, ◌++◌, sym, ap, ◌∙◌, subst, inl, inr, add-mul, mul-le-mul_left, zero-add, zero-mul, arith}
use Rattle.std.proofs.lemmas.Bool.{cases_lt, cond-true, cond-false, lt-ltb, le-ltb}
use Rattle.clocks.specs.Time.{million}
use Rattle.clocks.specs.Counting.{Counting, Turn, pass, change, turn, turns, fresh, elapsed, Within, CountingRuns}

-- how many millionths are counted when t of true time has gone by, over a list of turns; behind its end the pace stays
abbrev at : List Turn → Counting → ℕ → ℕ
at [] k t = k.counted + t * k.pace
at (pass by ∷ ts) k t = cond (ltb t by) (k.counted + t * k.pace) (at ts (turn (pass by) k) (t - by))
at (change pace ∷ ts) k t = at ts (turn (change pace) k) t

at_within : (by : ℕ) (ts : List Turn) (k : Counting) (t : ℕ) → t < by → at (pass by ∷ ts) k t ≡ k.counted + t * k.pace
at_within by ts k t h = cond-true (ltb t by) _ _ (lt-ltb t by h)

at_behind : (by : ℕ) (ts : List Turn) (k : Counting) (t : ℕ) → by ≤ t → at (pass by ∷ ts) k t ≡ at ts (turn (pass by) k) (t - by)
at_behind by ts k t h = cond-false (ltb t by) _ _ (le-ltb t by h)

at_zero : (ts : List Turn) (k : Counting) → at ts k 0 ≡ k.counted
at_zero [] k = omega (arith, zero-mul k.pace)
at_zero (pass by ∷ ts) k =
    elim (cases_lt 0 by) [
      | inl h ↦ let e = at_within by ts k 0 h in omega (arith, e, zero-mul k.pace)
      | inr h ↦
          let z : by ≡ 0 = omega arith in
          let e = at_behind by ts k 0 h in
          let f = at_zero ts (turn (pass by) k) in
          let p : by * k.pace ≡ 0 = ap (λ n. n * k.pace) z ∙ zero-mul k.pace in
          let s : at ts (turn (pass by) k) (0 - by) ≡ at ts (turn (pass by) k) 0 = ap (λ n. at ts (turn (pass by) k) n) (let m : 0 - by ≡ 0 = omega arith in m) in
          omega (arith, e, f, p, s)
    ]
at_zero (change pace ∷ ts) k = at_zero ts (turn (change pace) k)

record Grown (rate n from to : ℕ) : Type 0 where
  least : from + n * (million - rate) ≤ to
  most : to ≤ from + n * (million + rate)

-- n more at a pace within the rate
one_pace : (rate n from pace : ℕ) → million - rate ≤ pace → pace ≤ million + rate → Grown rate n from (from + n * pace)
one_pace rate n from pace lo hi =
    record { least = omega (arith, mul-le-mul_left n lo); most = omega (arith, mul-le-mul_left n hi) }

two_paces : (rate a b x y z : ℕ) → Grown rate a x y → Grown rate b y z → Grown rate (a + b) x z
two_paces rate a b x y z p q =
    record {
      least = omega (arith, add-mul a b (million - rate), p.least, q.least);
      most = omega (arith, add-mul a b (million + rate), p.most, q.most);
    }

grows : (rate : ℕ) (ts : List Turn) (k : Counting) → Within rate ts → million - rate ≤ k.pace → k.pace ≤ million + rate → (t n : ℕ) → Grown rate n (at ts k t) (at ts k (t + n))
grows rate [] k w lo hi t n =
    subst (Grown rate n (k.counted + t * k.pace)) (let e = add-mul t n k.pace in omega arith) (one_pace rate n (k.counted + t * k.pace) k.pace lo hi)
grows rate (change pace ∷ ts) k w lo hi t n = grows rate ts (turn (change pace) k) w.2 w.0 w.1 t n
grows rate (pass by ∷ ts) k w lo hi t n =
    let next : Counting = turn (pass by) k in
    elim (cases_lt (t + n) by) [
      | inl h ↦
          let p = at_within by ts k t (omega arith) in
          let q = at_within by ts k (t + n) h in
          let e : k.counted + t * k.pace + n * k.pace ≡ at (pass by ∷ ts) k (t + n) = omega (arith, q, add-mul t n k.pace) in
          subst (λ x. Grown rate n x (at (pass by ∷ ts) k (t + n))) (sym p)
          (subst (Grown rate n (k.counted + t * k.pace)) e (one_pace rate n (k.counted + t * k.pace) k.pace lo hi))
      | inr h ↦
          elim (cases_lt t by) [
            | inl l ↦
                let m : ℕ = t + n - by in
                let p = at_within by ts k t l in
                let q = at_behind by ts k (t + n) h in
                let z = at_zero ts next in
                let first : Grown rate (by - t) (k.counted + t * k.pace) next.counted =
                subst (Grown rate (by - t) (k.counted + t * k.pace))
                (let d : t + (by - t) ≡ by = omega arith in omega (arith, add-mul t (by - t) k.pace, ap (λ x. x * k.pace) d))
                (one_pace rate (by - t) (k.counted + t * k.pace) k.pace lo hi) in
                let second : Grown rate m next.counted (at ts next (t + n - by)) =
                subst (λ x. Grown rate m x (at ts next (t + n - by))) z
                (subst (λ x. Grown rate m (at ts next 0) (at ts next x)) (zero-add m) (grows rate ts next w lo hi 0 m)) in
                let both : Grown rate (by - t + m) (k.counted + t * k.pace) (at ts next (t + n - by)) = two_paces rate (by - t) m _ _ _ first second in
                let d : by - t + m ≡ n = omega arith in
                subst (λ x. Grown rate n x (at (pass by ∷ ts) k (t + n))) (sym p)
                (subst (Grown rate n (k.counted + t * k.pace)) (sym q) (subst (λ x. Grown rate x (k.counted + t * k.pace) (at ts next (t + n - by))) d both))
            | inr l ↦
                let p = at_behind by ts k t l in
                let q = at_behind by ts k (t + n) h in
                let d : t - by + n ≡ t + n - by = omega arith in
                subst (λ x. Grown rate n x (at (pass by ∷ ts) k (t + n))) (sym p)
                (subst (Grown rate n (at ts next (t - by))) (ap (λ x. at ts next x) d ∙ sym q) (grows rate ts next w lo hi (t - by) n))
          ]
    ]

-- what is counted after a first part of the list is what the whole list has at that time
reads : (before after : List Turn) (k : Counting) → at (before ++ after) k (elapsed before) ≡ (turns before k).counted
reads [] after k = at_zero after k
reads (pass by ∷ ts) after k =
    let e = at_behind by (ts ++ after) k (by + elapsed ts) (omega arith) in
    let d : by + elapsed ts - by ≡ elapsed ts = omega arith in
    e ∙ (ap (λ x. at (ts ++ after) (turn (pass by) k) x) d ∙ reads ts after (turn (pass by) k))
reads (change pace ∷ ts) after k = reads ts after (turn (change pace) k)

-- microseconds shown of millionths counted within the rate
shows_slow : (rate n a b : ℕ) → Grown rate n a b → n * (million - rate) ≤ (b / million - a / million + 1) * million
shows_slow rate n a b g = omega (arith, g.least)

shows_fast : (rate n a b : ℕ) → Grown rate n a b → (b / million - a / million) * million ≤ n * (million + rate) + million
shows_fast rate n a b g = omega (arith, g.most)

shows_on : (rate n a b : ℕ) → Grown rate n a b → a / million ≤ b / million
shows_on rate n a b g = omega (arith, g.least)

pub counting_runs_lem : CountingRuns
counting_runs_lem rate ts r w =
    let c : ℕ → ℕ = λ t. at ts fresh t / million in
    let g : (t u : ℕ) → t ≤ u → Grown rate (u - t) (at ts fresh t) (at ts fresh u) =
    λ t u h.
    let d : t + (u - t) ≡ u = omega arith in
    subst (λ x. Grown rate (u - t) (at ts fresh t) (at ts fresh x)) d (grows rate ts fresh w (omega arith) (omega arith) t (u - t)) in (
      c,
      record {
        slow = λ t u s h. shows_slow rate (u - t) _ _ (g t u h);
        fast = λ t u s h. shows_fast rate (u - t) _ _ (g t u h);
        onward = λ t u s h. shows_on rate (u - t) _ _ (g t u h);
      },
      λ before after e. ap (λ x. at x fresh (elapsed before) / million) e ∙ ap (λ x. x / million) (reads before after fresh),
    )

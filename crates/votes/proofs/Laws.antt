-- The promise of a machine's span.
use Rattle.std.proofs.Common.{◌≡◌, ℕ, suc, ◌+◌, ◌-◌, ◌*◌, ◌<◌, ◌≤◌, leb, List, [], ◌∷◌, map, length, Some, None, Ok, Option, sym, refl, ap, ◌∙◌, subst, inl, inr, arith, length-take, MatchOption}
use mathlib.Core.List.{Memᴰ}
use Rattle.std.proofs.lemmas.List.{take-map}
use Rattle.std.proofs.lemmas.Bool.{cases_lt, cond-true, le-leb}
use Rattle.std.specs.Option.{ok_or, option_map}
use Rattle.clocks.specs.declared.growth.Span.{Span}
use Rattle.clocks.specs.Time.{RunsFrom, Holds, highest as highest_time, grown_to}
use Rattle.clocks.proofs.Grows.{growth_holds_lem}
use Rattle.votes.specs.declared.types.Exchange.{Exchange}
use Rattle.votes.specs.declared.types.Refusal.TheVariants.{NoSpan}
use Rattle.votes.specs.Counts.{count, lowest, highest}
use Rattle.votes.specs.Exchanges.{View, grown_answer, grown_exchange, spans_at, between, span_of, span_reply}
use Rattle.votes.specs.Promise.{AllBut, none, good, faulty, Honest, servers_of, Outermost, Trusted, Witness, Lawful, NoVotes, SpanGiven}
use Rattle.votes.proofs.Steps.{vote, vote_short, count-cons}
use Rattle.votes.proofs.Ends.{vote_in, vote_holds, low_found, high_found, low_best, high_best, low_at, high_at}

-- what a span that is given tells of the two ends
record Both (low high : Option ℕ) (s : Span) : Type 0 where
  pub low_is : low ≡ Some s.low
  pub high_is : high ≡ Some s.high

given_both : (low high : Option ℕ) (s : Span) → between low high ≡ Some s → Both low high s
given_both None high s e = absurd (let z : ◌≡◌ {A = ℕ} 0 1 = cc in omega arith)
given_both (Some l) None s e = absurd (let z : ◌≡◌ {A = ℕ} 0 1 = cc in omega arith)
given_both (Some l) (Some h) s e =
    let z : record { low = l; high = h } ≡ s = cc in
    record { low_is = ap (λ (x : Span). Some x.low) z; high_is = ap (λ (x : Span). Some x.high) z }

both_given : (low high : Option ℕ) (l h : ℕ) → low ≡ Some l → high ≡ Some h → between low high ≡ Some (record { low = l; high = h })
both_given low high l h p q = cc

-- of a list of which all but f elements vote for a time, at least all but f do; and where more than f do, one of the good does
module _ {A : Type 0} (P : A → Type 0) (g : A → Option Span) (t : ℕ) (votes : (x : A) → P x → vote t (g x) ≡ 1) where
  enough : (f : ℕ) (xs : List A) → AllBut P f xs → length xs ≤ f + count t (map g xs)
  enough f [] none = omega arith
  enough f (x ∷ xs) (good p rest) = omega (arith, votes x p, enough f xs rest, count-cons t (g x) (map g xs))
  enough (suc f) (x ∷ xs) (faulty rest) = omega (arith, enough f xs rest, count-cons t (g x) (map g xs))

  one_good : (u f : ℕ) (xs : List A) → AllBut P f xs → f < count u (map g xs) → (x : A) × Memᴰ x xs × P x × (1 ≤ vote u (g x))
  one_good u f [] none h = absurd (omega arith)
  one_good u f (x ∷ xs) (good p rest) h =
      elim (cases_lt 0 (vote u (g x))) [
        | inl v ↦ (x, Memᴰ.head refl, p, v)
        | inr v ↦ (let r = one_good u f xs rest (omega (arith, count-cons u (g x) (map g xs))) in (r.0, Memᴰ.tail r.1, r.2, r.3))
      ]
  one_good u (suc f) (x ∷ xs) (faulty rest) h =
      let r = one_good u f xs rest (omega (arith, vote_short u (g x), count-cons u (g x) (map g xs))) in (r.0, Memᴰ.tail r.1, r.2, r.3)

-- a time lies in a span that votes for it
voted : (t : ℕ) (o : Option Span) → 1 ≤ vote t o → (s : Span) × (o ≡ Some s) × Holds s t
voted t None h = absurd (let z : 1 ≤ 0 = h in omega arith)
voted t (Some s) h = (s, refl, vote_holds t s h)

-- the answer of an honest server, grown to now, holds the true time
module _ (rate start time : ℕ) (c : ℕ → ℕ) (small : rate ≤ 1000) (runs : RunsFrom rate start c) (below : time ≤ highest_time) where
  honest_grown : (e : Exchange) (h : Honest c start time e) → Holds (grown_to rate (c h.asked) (c h.answered) (c time) h.answer.span) time
  honest_grown e h =
      growth_holds_lem rate start c small runs h.asked h.held h.answered time h.answer.span h.started h.early h.late h.past below h.holds

  honest_is : (clock : ℕ) → c time ≡ clock → (e : Exchange) (h : Honest c start time e) →
      grown_exchange rate clock e ≡ Some (grown_to rate (c h.asked) (c h.answered) (c time) h.answer.span)
  honest_is clock r e h =
      ap (option_map (grown_answer rate clock)) h.known ∙ (let a = h.asked_reads in let b = h.answered_reads in
      ap (λ n. Some (grown_to rate h.answer.asked h.answer.answered n h.answer.span)) (sym r)
      ∙ (ap (λ n. Some (grown_to rate n h.answer.answered (c time) h.answer.span)) (sym a)
      ∙ ap (λ n. Some (grown_to rate (c h.asked) n (c time) h.answer.span)) (sym b)))

  honest_votes : (clock : ℕ) → c time ≡ clock → (e : Exchange) → Honest c start time e → vote time (grown_exchange rate clock e) ≡ 1
  honest_votes clock r e h =
      ap (vote time) (honest_is clock r e h) ∙ vote_in time (grown_to rate (c h.asked) (c h.answered) (c time) h.answer.span) (honest_grown e h)

module _ (v : View) (clock : ℕ) (small : v.rate ≤ 1000) (minority : 2 * v.faulty < v.servers) (room : v.servers ≤ length v.exchanges) where
  spans_are : spans_at v clock ≡ map (grown_exchange v.rate clock) (servers_of v)
  spans_are = take-map (grown_exchange v.rate clock) v.servers v.exchanges

  servers_many : length (servers_of v) ≡ v.servers
  servers_many = simp length-take (omega arith)

  -- the span that the rule chooses
  chosen : Option Span
  chosen = span_of (v.servers - v.faulty) (spans_at v clock)

  rule_holds : (s : Span) → chosen ≡ Some s → Outermost (v.servers - v.faulty) (spans_at v clock) s
  unfolding chosen
  rule_holds s e =
      let b = given_both (lowest (v.servers - v.faulty) (spans_at v clock)) (highest (v.servers - v.faulty) (spans_at v clock)) s e in
      let l = low_found (v.servers - v.faulty) (spans_at v clock) s.low b.low_is in
      let h = high_found (v.servers - v.faulty) (spans_at v clock) s.high b.high_is in
      record {
        low_end = (l.span, l.member, l.ends);
        low_in = l.enough;
        lowest = λ x m n.
            (let p = low_best (v.servers - v.faulty) (spans_at v clock) x m n in
            let q = p.is in let w = b.low_is in
            let z : p.best ≡ s.low = cc in let f = p.first in omega arith);
        high_end = (h.span, h.member, h.ends);
        high_in = h.enough;
        highest = λ x m n.
            (let p = high_best (v.servers - v.faulty) (spans_at v clock) x m n in
            let q = p.is in let w = b.high_is in
            let z : p.best ≡ s.high = cc in let f = p.first in omega arith);
      }

  -- a time that lies in enough of the spans lies in the span that is chosen
  chosen_at : (t : ℕ) → v.servers - v.faulty ≤ count t (spans_at v clock) → (s : Span) × (chosen ≡ Some s) × Holds s t
  unfolding chosen
  chosen_at t n =
      let l = low_at (v.servers - v.faulty) (spans_at v clock) t (omega arith) n in
      let h = high_at (v.servers - v.faulty) (spans_at v clock) t (omega arith) n in
      (record { low = l.0; high = h.0 }, both_given _ _ l.0 h.0 l.1 h.1, (l.2, h.2))

  chosen_holds : (s : Span) → chosen ≡ Some s → (t : ℕ) → v.servers - v.faulty ≤ count t (spans_at v clock) → Holds s t
  chosen_holds s e t n = let r = chosen_at t n in let q = r.1 in let z : r.0 ≡ s = cc in subst (λ x. Holds x t) z r.2

  module _ (c : ℕ → ℕ) (start time : ℕ) (trust : Trusted v clock c start time) where
    many : v.servers - v.faulty ≤ count time (spans_at v clock)
    many =
        let n = enough (Honest c start time) (grown_exchange v.rate clock) time (honest_votes v.rate start time c small trust.runs trust.below clock trust.reads) v.faulty (servers_of v) trust.servers in
        let e = ap (count time) spans_are in let l = servers_many in omega arith

    -- an honest server whose grown span holds a time that lies in enough of the spans
    witness : (u : ℕ) → v.servers - v.faulty ≤ count u (spans_at v clock) → (w : Witness v clock c start time) × Holds w.span u
    witness u n =
        let e = ap (count u) spans_are in
        let r = one_good (Honest c start time) (grown_exchange v.rate clock) time (honest_votes v.rate start time c small trust.runs trust.below clock trust.reads) u v.faulty (servers_of v) trust.servers (omega arith) in
        let w = voted u (grown_exchange v.rate clock r.0) r.3 in
        (record { server = r.0; member = r.1; honest = r.2; span = w.0; grown = w.1 }, w.2)

  lawful : (s : Span) → span_of (v.servers - v.faulty) (spans_at v clock) ≡ Some s → Lawful v clock s
  unfolding chosen
  lawful s e =
      let o = rule_holds s e in
      record {
        rule = o;
        ordered = (chosen_holds s e s.low o.low_in).1;
        true_time = λ c start time t. chosen_holds s e time (many c start time t);
        above = λ c start time t. (let w = witness c start time t s.low o.low_in in (w.0, w.1.0));
        below = λ c start time t. (let w = witness c start time t s.high o.high_in in (w.0, w.1.1));
      }

  nowhere_at : span_of (v.servers - v.faulty) (spans_at v clock) ≡ None → (t : ℕ) → count t (spans_at v clock) < v.servers - v.faulty
  unfolding chosen
  nowhere_at e t =
      elim (cases_lt (count t (spans_at v clock)) (v.servers - v.faulty)) [
        | inl h ↦ h
        | inr h ↦ (let r = chosen_at t h in let q = r.1 in absurd (let z : ◌≡◌ {A = ℕ} 0 1 = cc in omega arith))
      ]

  no_votes : span_of (v.servers - v.faulty) (spans_at v clock) ≡ None → NoVotes v clock
  no_votes e =
      record {
        nowhere = nowhere_at e;
        too_many = λ c start time t. (let m = many c start time t in let n = nowhere_at e time in omega arith);
      }

  pub chosen_laws : (o : Option Span) → o ≡ span_of (v.servers - v.faulty) (spans_at v clock) → MatchOption o (NoVotes v clock) (λ s. Lawful v clock s)
  chosen_laws None e = no_votes (sym e)
  chosen_laws (Some s) e = lawful s (sym e)

  -- a reading that is not below an earlier one is answered by the span that is chosen
  reply_is : v.latest ≤ clock → span_reply v clock ≡ ok_or (span_of (v.servers - v.faulty) (spans_at v clock)) NoSpan
  reply_is o = cond-true (leb v.latest clock) _ _ (le-leb v.latest clock o)

  given : v.latest ≤ clock → (c : ℕ → ℕ) (start time : ℕ) → Trusted v clock c start time → (s : Span) × (span_reply v clock ≡ Ok s) × Holds s time
  unfolding chosen
  given o c start time t =
      let r = chosen_at time (many c start time t) in (r.0, reply_is o ∙ ap (λ x. ok_or x NoSpan) r.1, r.2)

pub span_given_lem : SpanGiven
span_given_lem v clock small minority room o c start time t = given v clock small minority room o c start time t

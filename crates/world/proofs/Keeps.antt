-- What every action keeps: what machines noted lies in the past, and was shown by their clocks.
use Rattle.std.proofs.Common.{◌≡◌, ℕ, ◌*◌, ◌<◌, ◌≤◌, ◌⊎◌, List, length, get_or, set, Some, sym, ap, ◌∙◌, subst, inl, inr, arith, length-set, get_or-set_other, get_or-set_same}
use lib.Seq.{set_out}
use Rattle.std.proofs.lemmas.Bool.{cases_lt, cases_eq}
use Rattle.votes.specs.declared.types.Ask.{Ask}
use Rattle.clocks.specs.declared.growth.Answer.{Answer}
use Rattle.votes.specs.declared.types.Exchange.{Exchange}
use Rattle.votes.specs.Exchanges.{exchange, blank}
use Rattle.world.specs.declared.machine.Moments.{Moments}
use Rattle.world.specs.declared.machine.Machine.{Machine}
use Rattle.world.specs.Step.{never, moment_of}
use Rattle.world.specs.Promise.{Noted}
use Rattle.world.proofs.Changes.{touched, asked_exchange, asked_moments, answered_exchange, answered_moments, Change, same, asks, answered, looks}

-- the true times of an exchange lie in the past, in their order
pub record Past (t : ℕ) (m : Moments) : Type 0 where
  pub asked : m.asked ≤ t
  pub begun : m.begun ≤ m.answered
  pub answered : m.answered ≤ t

-- a machine's numbers are in range, and what it noted lies in the past
pub record SoundMachine (t : ℕ) (m : Machine) : Type 0 where
  pub looked : m.looked ≤ t
  pub rate : m.votes.rate ≤ 1000
  pub minority : 2 * m.votes.faulty < m.votes.servers
  pub exchanges : m.votes.servers ≤ length m.votes.exchanges
  pub moments : m.votes.servers ≤ length m.moments
  pub past : (i : ℕ) → Past t (moment_of m i)

-- an element of a list, after a set
set_cases : {A : Type 0} (xs : List A) (s : ℕ) (x : A) (i : ℕ) (d : A) → (get_or (set xs s x) i d ≡ x) ⊎ (get_or (set xs s x) i d ≡ get_or xs i d)
set_cases xs s x i d =
    elim (cases_eq i s) [
      | inl e ↦ elim (cases_lt s (length xs)) [
        | inl h ↦ inl (ap (λ n. get_or (set xs s x) n d) e ∙ get_or-set_same xs s x d h)
        | inr h ↦ inr (ap (λ l. get_or l i d) (set_out xs s x h))
      ]
      | inr n ↦ inr (get_or-set_other xs s i x d n)
    ]

-- WHAT LIES IN THE PAST

past_later : (t u : ℕ) (m : Moments) → t ≤ u → Past t m → Past u m
past_later t u m h p =
    let a = p.asked in let b = p.answered in record { asked = omega arith; begun = p.begun; answered = omega arith }

pub sound_later : (t u : ℕ) (m : Machine) → t ≤ u → SoundMachine t m → SoundMachine u m
sound_later t u m h p =
    let l = p.looked in
    record {
      looked = omega arith;
      rate = p.rate;
      minority = p.minority;
      exchanges = p.exchanges;
      moments = p.moments;
      past = λ i. past_later t u (moment_of m i) h (p.past i);
    }

module _ (m : Machine) (time clock : ℕ) (ok : SoundMachine time m) where
  touched_sound : (s : ℕ) (e : Exchange) (k : Moments) → Past time k → SoundMachine time (touched m s e k time clock)
  touched_sound s e k p =
      let es = ok.exchanges in let ms = ok.moments in
      record {
        looked = omega arith;
        rate = ok.rate;
        minority = ok.minority;
        exchanges = simp length-set ok.exchanges;
        moments = simp length-set ok.moments;
        past = λ i. elim (set_cases m.moments s k i never) [ inl q ↦ subst (Past time) (sym q) p | inr q ↦ subst (Past time) (sym q) (ok.past i) ];
      }

  pub change_sound : {n : Machine} → Change m time clock n → SoundMachine time n
  change_sound same = ok
  change_sound (asks s number h) =
      let p = ok.past s in
      touched_sound s (asked_exchange m s number clock) (asked_moments m s time) (record { asked = omega arith; begun = p.begun; answered = p.answered })
  change_sound (answered s a sp h e) =
      let p = ok.past s in
      touched_sound s (answered_exchange a sp clock) (answered_moments m s time) (record { asked = p.asked; begun = p.asked; answered = omega arith })
  change_sound looks =
      record { looked = omega arith; rate = ok.rate; minority = ok.minority; exchanges = ok.exchanges; moments = ok.moments; past = ok.past }

-- WHAT THE CLOCK SHOWED

-- an exchange and its moments agree with a clock
record Agree (c : ℕ → ℕ) (e : Exchange) (k : Moments) : Type 0 where
  asks : (a : Ask) → e.ask ≡ Some a → a.clock ≡ c k.asked
  begun : (a : Answer) → e.known ≡ Some a → a.asked ≡ c k.begun
  answered : (a : Answer) → e.known ≡ Some a → a.answered ≡ c k.answered

agree_at : (c : ℕ → ℕ) (m : Machine) → Noted c m → (i : ℕ) → Agree c (exchange m.votes i) (moment_of m i)
agree_at c m n i = record { asks = n.asks i; begun = n.begun i; answered = n.answered i }

from_agree : (c : ℕ → ℕ) (m : Machine) → m.votes.latest ≤ c m.looked → ((i : ℕ) → Agree c (exchange m.votes i) (moment_of m i)) → Noted c m
from_agree c m l f = record { latest = l; asks = λ i. (f i).asks; begun = λ i. (f i).begun; answered = λ i. (f i).answered }

module _ (c : ℕ → ℕ) (m : Machine) (time clock : ℕ) (ok : SoundMachine time m) (reads : clock ≡ c time) (n : Noted c m) where
  touched_noted : (s : ℕ) (e : Exchange) (k : Moments) → s < m.votes.servers → Agree c e k → Noted c (touched m s e k time clock)
  touched_noted s e k h g =
      from_agree c (touched m s e k time clock) (omega arith)
      (λ i. elim (cases_eq i s) [
        | inl q ↦
            (let p : get_or (set m.votes.exchanges s e) i blank ≡ e =
            ap (λ x. get_or (set m.votes.exchanges s e) x blank) q ∙ get_or-set_same m.votes.exchanges s e blank (let x = ok.exchanges in omega arith) in
            let r : get_or (set m.moments s k) i never ≡ k =
            ap (λ x. get_or (set m.moments s k) x never) q ∙ get_or-set_same m.moments s k never (let x = ok.moments in omega arith) in
            subst (λ x. Agree c x (get_or (set m.moments s k) i never)) (sym p) (subst (Agree c e) (sym r) g))
        | inr q ↦
            (let p = get_or-set_other m.votes.exchanges s i e blank q in
            let r = get_or-set_other m.moments s i k never q in
            subst (λ x. Agree c x (get_or (set m.moments s k) i never)) (sym p) (subst (Agree c (exchange m.votes i)) (sym r) (agree_at c m n i)))
      ])

  pub change_noted : {x : Machine} → Change m time clock x → Noted c x
  change_noted same = n
  change_noted (asks s number h) =
      touched_noted s (asked_exchange m s number clock) (asked_moments m s time) h
      (record { asks = λ a e. (let z : clock ≡ a.clock = cc in cc); begun = n.begun s; answered = n.answered s })
  change_noted (answered s b sp h f) =
      touched_noted s (answered_exchange b sp clock) (answered_moments m s time) h
      (record {
        asks = λ a e. (let q = n.asks s b f in let z : b ≡ a = cc in cc);
        begun = λ a e. (let q = n.asks s b f in let z : b.clock ≡ a.asked = cc in cc);
        answered = λ a e. (let z : clock ≡ a.answered = cc in cc);
      })
  change_noted looks = record { latest = omega arith; asks = n.asks; begun = n.begun; answered = n.answered }

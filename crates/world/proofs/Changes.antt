-- What an input changes in a machine: nothing, one server's exchange, or the last reading alone.
use Rattle.std.proofs.Common.{◌≡◌, ℕ, ◌<◌, Bool, true, false, cond, ◌&&◌, ltb, leb, set, is_ok, Some, None, Ok, Err, Option, Result, sym, refl, arith}
use Rattle.std.proofs.lemmas.Bool.{and_parts, ltb-true}
use Rattle.clocks.specs.declared.growth.Span.{Span}
use Rattle.votes.specs.declared.types.Ask.{Ask}
use Rattle.votes.specs.declared.types.Exchange.{Exchange}
use Rattle.votes.specs.declared.types.Refusal.{Refusal}
use Rattle.votes.specs.declared.types.Refusal.TheVariants as votes
use Rattle.votes.specs.Exchanges.{exchange, noted, fits, next_number, answers, taken, span_reply}
use Rattle.world.specs.declared.actions.Input.{Input}
use Rattle.world.specs.declared.actions.Input.TheVariants as input
use Rattle.world.specs.declared.machine.Moments.{Moments}
use Rattle.world.specs.declared.machine.Machine.{Machine}
use Rattle.world.specs.Step.{moment_of, machine_after}

-- one server's exchange and its moments
abbrev pub touched : Machine → ℕ → Exchange → Moments → (time clock : ℕ) → Machine
touched m s e k time clock = record { votes = noted m.votes s e clock; moments = set m.moments s k; looked = time }

abbrev pub asked_exchange : Machine → ℕ → (number clock : ℕ) → Exchange
asked_exchange m s number clock = record { ask = Some (record { number = number; clock = clock }); known = (exchange m.votes s).known }

abbrev pub asked_moments : Machine → ℕ → ℕ → Moments
asked_moments m s time = record { asked = time; begun = (moment_of m s).begun; answered = (moment_of m s).answered }

abbrev pub answered_exchange : Ask → Span → ℕ → Exchange
answered_exchange a sp clock = record { ask = Some a; known = Some (record { asked = a.clock; answered = clock; span = sp }) }

abbrev pub answered_moments : Machine → ℕ → ℕ → Moments
answered_moments m s time = record { asked = (moment_of m s).asked; begun = (moment_of m s).asked; answered = time }

abbrev pub looked_at : Machine → (time clock : ℕ) → Machine
looked_at m time clock =
    record {
      votes = record { rate = m.votes.rate; servers = m.votes.servers; faulty = m.votes.faulty; first = m.votes.first; latest = clock; exchanges = m.votes.exchanges };
      moments = m.moments;
      looked = time;
    }

pub data Change (m : Machine) (time clock : ℕ) : Machine → Type 0 where
  same : Change m time clock m
  asks : (s number : ℕ) → s < m.votes.servers → Change m time clock (touched m s (asked_exchange m s number clock) (asked_moments m s time) time clock)
  answered : (s : ℕ) (a : Ask) (sp : Span) → s < m.votes.servers → (exchange m.votes s).ask ≡ Some a →
      Change m time clock (touched m s (answered_exchange a sp clock) (answered_moments m s time) time clock)
  looks : Change m time clock (looked_at m time clock)

module _ (m : Machine) (time clock : ℕ) where
  fits_server : (s : ℕ) → fits m.votes s clock ≡ true → s < m.votes.servers
  fits_server s e = ltb-true s m.votes.servers (and_parts (ltb s m.votes.servers) (leb m.votes.latest clock) e).0

  ask_by : (s number : ℕ) (b : Bool) → b ≡ fits m.votes s clock →
      Change m time clock
      (cond (is_ok {T = ℕ} {E = Refusal} (cond b (Ok number) (Err votes.Invalid)))
      (record { votes = cond b (noted m.votes s (asked_exchange m s number clock) clock) m.votes; moments = set m.moments s (asked_moments m s time); looked = time }) m)
  ask_by s number true e = asks s number (fits_server s (sym e))
  ask_by s number false e = same

  answer_by : (s : ℕ) (sp : Span) (b t : Bool) (o : Option Ask) → b ≡ (fits m.votes s clock && leb sp.low sp.high) → o ≡ (exchange m.votes s).ask → (t ≡ true → (a : Ask) × (o ≡ Some a)) →
      Change m time clock
      (cond (is_ok {T = Unit {0}} {E = Refusal} (cond b (cond t (Ok tt) (Err votes.WrongNumber)) (Err votes.Invalid)))
      (record {
        votes = cond (is_ok {T = Unit {0}} {E = Refusal} (cond b (cond t (Ok tt) (Err votes.WrongNumber)) (Err votes.Invalid))) (noted m.votes s (record { ask = o; known = taken o sp clock }) clock) m.votes;
        moments = set m.moments s (answered_moments m s time);
        looked = time;
      }) m)
  answer_by s sp true true None e p f = absurd (let a = f refl in let q = a.1 in let z : ◌≡◌ {A = ℕ} 0 1 = cc in omega arith)
  answer_by s sp true true (Some a) e p f =
      answered s a sp (fits_server s (and_parts (fits m.votes s clock) (leb sp.low sp.high) (sym e)).0) (sym p)
  answer_by s sp true false o e p f = same
  answer_by s sp false t o e p f = same

  answers_some : (number : ℕ) (o : Option Ask) → answers number o ≡ true → (a : Ask) × (o ≡ Some a)
  answers_some number None e = absurd (let z : ◌≡◌ {A = ℕ} 0 1 = cc in omega arith)
  answers_some number (Some a) e = (a, refl)

  span_by : (r : Result Span Refusal) →
      Change m time clock
      (cond (is_ok r)
      (record {
        votes = cond (is_ok r) (record { rate = m.votes.rate; servers = m.votes.servers; faulty = m.votes.faulty; first = m.votes.first; latest = clock; exchanges = m.votes.exchanges }) m.votes;
        moments = m.moments;
        looked = time;
      }) m)
  span_by (Ok s) = looks
  span_by (Err e) = same

  pub changes : (i : Input) → Change m time clock (machine_after m time clock i)
  changes (input.Ask s) = ask_by s (next_number m.votes.first (exchange m.votes s).ask) (fits m.votes s clock) refl
  changes (input.Answer s number sp) =
      answer_by s sp (fits m.votes s clock && leb sp.low sp.high) (answers number (exchange m.votes s).ask) (exchange m.votes s).ask refl refl (answers_some number (exchange m.votes s).ask)
  changes input.Span = span_by (span_reply m.votes clock)
